-- A table of entries as callers see it, and the keys of its entries.
use Rattle.std.specs.Prelude.{Bool, false, ◌≡◌, ◌≢◌, ◌⊎◌, ℕ, ◌+◌, ◌<◌, List, [], map, slice_index, slice_index_or}
use Rattle.std.specs.Borrow.{Bor}
use Rattle.std.specs.Coded.{coded_option}
use base.Stored.{Coded, coded×, coded_ℕ, coded_list, coded_via}
use Rattle.std.specs.declared.option.Option.{Option}
use Rattle.std.specs.declared.option.Option.TheVariants.{None, Some}
use Rattle.seg_core.specs.Segment.{segment_start, segment_end, segment_count, most_segments}
use Rattle.tie_core.specs.Tie.{Tie}
use Rattle.tie_core.specs.Visit.{EntryTie, Content}
use Rattle.cell_core.specs.Block.{BlockView, block_coded, block_len}
use Rattle.cell_core.specs.Mould.{last_seat, mould_of, row_mould}
use Rattle.table_core.specs.Entry.{EntryView, Bond, IsPlainEntry, IsSoft, Mould, bond_coded, bond_of, length_of, tie_of, tie_in, mould_in, plain_mould}

-- a table: the layout of its segments, the name of each entry, the entry whose block is lent, if one is, the entry that
-- `holds_now` last named, if no entry changed since, and what ties each entry
pub record TableView : Type 0 where
  pub layout : ℕ
  pub names : List ℕ
  pub lent : Option ℕ
  pub held : Option ℕ
  pub bonds : List (Option Bond)

-- how that is stored
abbrev pub table_coded : Coded TableView
table_coded =
    coded_via
    (coded× coded_ℕ (coded× (coded_list coded_ℕ)
    (coded× (coded_option coded_ℕ) (coded× (coded_option coded_ℕ) (coded_list bond_coded)))))
    (λ (t : TableView). (t.layout, (t.names, (t.lent, (t.held, t.bonds)))))
    (λ x y e i. record {
      layout = (e i).0;
      names = (e i).1.0;
      lent = (e i).1.1.0;
      held = (e i).1.1.1.0;
      bonds = (e i).1.1.1.1;
    })

-- what ties an entry of the table, if it is tied
abbrev pub entry_bond : TableView → ℕ → Option Bond
entry_bond table k = slice_index_or table.bonds k None

-- the tie of an entry of the table
abbrev pub entry_tie : TableView → ℕ → Option EntryTie
entry_tie table k = tie_in (entry_bond table k)

-- how the cells of the entry's block are tied, by numbers that begin at the first cell's seat
abbrev pub entry_mould : TableView → ℕ → Mould
entry_mould table k = mould_in (entry_bond table k)

-- the key of an entry: the table's layout, the entry's segment, its block, and its name
pub record KeyView : Type 0 where
  pub layout : ℕ
  pub segment : ℕ
  pub block : BlockView
  pub name : ℕ

abbrev pub key_coded : Coded KeyView
key_coded =
    coded_via (coded× coded_ℕ (coded× coded_ℕ (coded× block_coded coded_ℕ)))
    (λ (k : KeyView). (k.layout, (k.segment, (k.block, k.name))))
    (λ x y e i. record { layout = (e i).0; segment = (e i).1.0; block = (e i).1.1.0; name = (e i).1.1.1 })

-- the number of places of a segment
abbrev pub IsLengthOf : ℕ → ℕ → ℕ → Type 0
IsLengthOf f k n = segment_start f k + n ≡ segment_end f k

-- the block has a cell for each place of the segment
abbrev pub IsBlockOf : ℕ → ℕ → BlockView → Type 0
IsBlockOf f k block = IsLengthOf f k (block_len block)

-- the block may be that of a tied entry: it has a cell for each place of the segment, and these are tied as the entry
-- says
pub record IsTiedBlockOf (table : TableView) (k : ℕ) (block : BlockView) : Type 0 where
  pub length : IsBlockOf table.layout k block
  pub mould : mould_of block.cells ≡ entry_mould table k

-- the cells of the block are tied as the entry says, if the entry is tied
abbrev pub FitsTie : TableView → ℕ → BlockView → Type 0
FitsTie table k block = (own : EntryTie) → entry_tie table k ≡ Some own → mould_of block.cells ≡ entry_mould table k

-- the entry has the tie `own`, and the cells of its block have seats with numbers in a row, and the codes of the tie
-- `cells`
pub record IsTiedBy (table : TableView) (k : ℕ) (own : EntryTie) (cells : Tie) : Type 0 where
  pub tie : entry_tie table k ≡ Some own
  pub mould : (n : ℕ) → IsLengthOf table.layout k n → entry_mould table k ≡ row_mould cells n

-- the entry is plain: it is not tied, and neither are the cells of its block
pub record IsPlainAt (table : TableView) (k : ℕ) : Type 0 where
  pub tie : entry_tie table k ≡ None
  pub mould : (n : ℕ) → IsLengthOf table.layout k n → entry_bond table k ≡ Some (None, plain_mould n)

-- what a look at an entry found: nothing, or this block, by the number of its seat
abbrev pub content_in : Option (Bor BlockView) → Content
content_in None = None
content_in (Some block) = Some (last_seat block.now.cells)

-- an exchange that brought a block found nothing, and then the entry's block is that one; or it found the entry's block
abbrev pub HasSet : Option Content → BlockView → BlockView → Type 0
HasSet made brought block =
    ((made ≡ Some None) × (block ≡ brought)) ⊎ (made ≡ Some (Some (last_seat block.cells)))

-- the key is of an entry of the table
pub record IsKeyIn (table : TableView) (key : KeyView) : Type 0 where
  pub layout : key.layout ≡ table.layout
  pub within : key.segment < segment_count table.layout
  pub named : slice_index table.names key.segment ≡ key.name

-- the key is of this entry, and of this block
pub record IsKeyOf (table : TableView) (k : ℕ) (block : BlockView) (key : KeyView) : Type 0 where
  pub inside : IsKeyIn table key
  pub at : key.segment ≡ k
  pub of : key.block ≡ block

-- all entries but this one are those that they were
abbrev pub KeepsOtherEntries : TableView → TableView → ℕ → Type 0
KeepsOtherEntries old new k =
    (j : ℕ) → (j ≡ k → ⊥) → slice_index new.names j ≡ slice_index old.names j

-- all entries but this one are tied as they were
abbrev pub KeepsOtherBonds : TableView → TableView → ℕ → Type 0
KeepsOtherBonds old new k = (j : ℕ) → (j ≡ k → ⊥) → entry_bond new j ≡ entry_bond old j

-- the entry has a fresh name: no older key applies to it
abbrev pub RenewsEntry : TableView → TableView → ℕ → Type 0
RenewsEntry old new k = slice_index new.names k ≢ slice_index old.names k

-- each entry is as long as its segment
abbrev pub AllFit : ℕ → List EntryView → Type 0
AllFit f entries =
    (k : ℕ) (e : EntryView) → k < segment_count f → IsLengthOf f k (length_of (slice_index_or entries k e))

-- no entry is tied
abbrev pub AllPlain : ℕ → List EntryView → Type 0
AllPlain f entries =
    (k : ℕ) (e : EntryView) → k < segment_count f → tie_of (slice_index_or entries k e) ≡ None

-- each entry is plain
abbrev pub AllPlainEntries : ℕ → List EntryView → Type 0
AllPlainEntries f entries =
    (k : ℕ) (e : EntryView) → k < segment_count f → IsPlainEntry (slice_index_or entries k e)

-- each entry that is not tied is plain, or says nothing of the cells of its block
abbrev pub AllSoft : ℕ → List EntryView → Type 0
AllSoft f entries = (k : ℕ) (e : EntryView) → k < segment_count f → IsSoft (slice_index_or entries k e)

-- what ties an entry, and its tie
abbrev pub bond_among : List EntryView → ℕ → Option Bond
bond_among entries k = slice_index_or (map bond_of entries) k None

abbrev pub tie_among : List EntryView → ℕ → Option EntryTie
tie_among entries k = tie_in (bond_among entries k)

-- no entry is tied, if entries of this kind are not; that of a block that is lent says nothing of its cells
pub record AreOfKind (tied : Bool) (f : ℕ) (lent : Option ℕ) (entries : List EntryView) : Type 0 where
  pub plain : tied ≡ false → AllPlain f entries
  pub loose : (k : ℕ) → lent ≡ Some k → bond_among entries k ≡ None
  pub soft : AllSoft f entries

-- the block that is known, if any is
abbrev pub block_or_empty : Option BlockView → BlockView
block_or_empty None = record { cells = [] }
block_or_empty (Some block) = block

-- keys of some entries of a table: the table's layout, the name of each entry, and the block of each entry whose
-- key is there
pub record KeySetView : Type 0 where
  pub layout : ℕ
  pub names : List ℕ
  pub blocks : List (Option BlockView)

-- how that is stored
abbrev pub key_set_coded : Coded KeySetView
key_set_coded =
    coded_via (coded× coded_ℕ (coded× (coded_list coded_ℕ) (coded_list (coded_option block_coded))))
    (λ (k : KeySetView). (k.layout, (k.names, k.blocks)))
    (λ x y e i. record { layout = (e i).0; names = (e i).1.0; blocks = (e i).1.1 })

-- the block of a segment whose key is in the set
abbrev pub block_in : KeySetView → ℕ → Option BlockView
block_in set segment = slice_index_or set.blocks segment None

-- the key of a segment in the set
abbrev pub key_in : KeySetView → ℕ → KeyView
key_in set segment = record {
  layout = set.layout;
  segment = segment;
  block = block_or_empty (block_in set segment);
  name = slice_index set.names segment;
}

-- the set has the keys that it had, and this one
pub record AddsKey (old new : KeySetView) (key : KeyView) : Type 0 where
  pub layout : new.layout ≡ old.layout
  pub names : (segment : ℕ) → segment < most_segments
      → slice_index new.names segment ≡ slice_index old.names segment
  pub has : block_in new key.segment ≡ Some key.block
  pub kept : (segment : ℕ) (block : BlockView) → segment < most_segments → block_in old segment ≡ Some block
      → block_in new segment ≡ Some block
