-- The blocks of entries that are plain: their cells are not tied.
use Rattle.std.proofs.Common.{◌≡◌, ◌⊎◌, Bool, ℕ, zero, suc, ◌<◌, List, [], ◌∷◌, length, map, slice_index_or, get_or, refl, sym, ap, ◌∙◌, subst, arith, inl, inr}
use Rattle.std.specs.Prelude.{Option, None, Some, IfSome}
use Rattle.std.proofs.lemmas.Option.{none-some}
use Rattle.seg_core.specs.Segment.{segment_count}
use Rattle.tie_core.specs.Tie.{Tie}
use Rattle.cell_core.specs.Block.{BlockView, block_len}
use Rattle.cell_core.specs.Mould.{first_seat, mould_of, relative, relatives}
use Rattle.cell_core.specs.Slot.{Names, ArePlain}
use Rattle.table_core.specs.Entry.{EntryView, Bond, IsCast, IsPlainEntry, IsSoft, bond_of, length_of, mould_in, plain_mould, seen_as, tie_in, tie_of}
use Rattle.table_core.specs.Table.{AllFit, AllPlainEntries, AreOfKind, IsLengthOf, IsPlainAt, TableView, bond_among, entry_bond, tie_among}
use Rattle.table_core.proofs.Bonds.{bond_read, fits_loose, plain_soft, plain_there, plain_untied}

relative_none : (k : ℕ) (τ : Option Tie) → relative k τ ≡ None → τ ≡ None
relative_none k None e = refl
relative_none k (Some t) e = absurd (none-some _ (sym e))

-- cells that have the mould of cells that are not tied are not tied
plain_row : (γs : List Names) (k n : ℕ) → relatives k γs ≡ plain_mould n → ArePlain γs
plain_row [] k n is = tt
plain_row (γ ∷ γs) k zero is = absurd (let z = is in cc)
plain_row (γ ∷ γs) k (suc n) is =
    let first : relative k γ.tied ≡ None = (let z = is in cc) in let others : relatives k γs ≡ plain_mould n = (let z = is in cc) in
    (relative_none k γ.tied first, plain_row γs k n others)

block_plain : (x : BlockView) (n : ℕ) → mould_of x.cells ≡ plain_mould n → ArePlain x.cells
block_plain x n is = plain_row x.cells (first_seat x.cells) n is

-- and the other way
row_plain : (γs : List Names) (k : ℕ) → ArePlain γs → relatives k γs ≡ plain_mould (length γs)
row_plain [] k are = refl
row_plain (γ ∷ γs) k are = λ i. relative k (are.0 i) ∷ row_plain γs k are.1 i

pub mould_plain : (x : BlockView) → ArePlain x.cells → mould_of x.cells ≡ plain_mould (block_len x)
mould_plain x are = row_plain x.cells (first_seat x.cells) are

-- a block that fits a plain entry is plain
seen_plain : (β : Option Bond) (x : BlockView) (n l : ℕ) → seen_as block_len (λ (b : BlockView). mould_of b.cells) β x ≡ (l, mould_in β)
    → β ≡ Some (None, plain_mould n) → ArePlain x.cells
seen_plain None x n l cast is = absurd (none-some _ is)
seen_plain (Some u) x n l cast is =
    let seen : mould_of x.cells ≡ u.1 = ap (λ (v : ℕ × List (Option Tie)). v.1) cast in let known : u.1 ≡ plain_mould n = ap mould_in is in
    block_plain x n (seen ∙ known)

-- a plain block of the length fits a plain entry
plain_fits : (β : Option Bond) (x : BlockView) (n : ℕ) → β ≡ Some (None, plain_mould n) → block_len x ≡ n → ArePlain x.cells
    → seen_as block_len (λ (b : BlockView). mould_of b.cells) β x ≡ (n, mould_in β)
plain_fits None x n is long are = absurd (none-some _ is)
plain_fits (Some u) x n is long are =
    let same : mould_of x.cells ≡ u.1 = mould_plain x are ∙ ap plain_mould long ∙ sym (ap mould_in is) in λ i. (long i, same i)

-- it fits each entry that is not tied and is soft
soft_fits : (e : EntryView) (x : BlockView) → (bond_of e ≡ None) ⊎ IsPlainEntry e → block_len x ≡ length_of e → ArePlain x.cells
    → IsCast block_len (λ (b : BlockView). mould_of b.cells) e x
soft_fits e x (inl loose) long are = fits_loose (bond_of e) x (length_of e) loose long
soft_fits e x (inr plain) long are = plain_fits (bond_of e) x (length_of e) plain long are

-- so a new block may be put into an entry of a table that is not tied
pub put_fits : (tied : Bool) (f : ℕ) (lent : Option ℕ) (entries : List EntryView) (k : ℕ) (e : EntryView) (x y : BlockView) → AreOfKind tied f lent entries
    → AllFit f entries → k < segment_count f → k < length entries → e ≡ get_or entries k e → tie_among entries k ≡ None → IsLengthOf f k (block_len x)
    → ArePlain x.cells → y ≡ x → IsCast block_len (λ (b : BlockView). mould_of b.cells) (get_or entries k e) y
put_fits tied f lent entries k e x y are fit less near is none long plain same =
    let none_here : tie_of e ≡ None = plain_there entries k e none near is in
    let here : IsLengthOf f k (length_of e) = subst (λ (u : EntryView). IsLengthOf f k (length_of u)) (sym is) (fit k e less) in
    let as_long : block_len x ≡ length_of e = omega (arith, long, here) in
    let soft : IsSoft e = subst IsSoft (sym is) (are.soft k e less) in
    subst (λ (u : EntryView × BlockView). IsCast block_len (λ (b : BlockView). mould_of b.cells) u.0 u.1) (λ i. (is i, sym same i)) (soft_fits e x (soft none_here) as_long plain)

-- the block that is found in a plain entry of a table
pub found_plain : (f : ℕ) (entries : List EntryView) (k : ℕ) (e : EntryView) (x : BlockView) (table : TableView) → k < length entries → e ≡ get_or entries k e
    → table.bonds ≡ map bond_of entries → IsPlainAt table k → IsLengthOf table.layout k (block_len x)
    → IsCast block_len (λ (b : BlockView). mould_of b.cells) e x → ArePlain x.cells
found_plain f entries k e x table near is bonds plain long cast =
    let there : bond_among entries k ≡ Some (None, plain_mould (block_len x)) =
    subst (λ (bs : List (Option Bond)). slice_index_or bs k None ≡ Some (None, plain_mould (block_len x))) bonds (plain.mould (block_len x) long) in
    seen_plain (bond_of e) x (block_len x) (length_of e) cast (sym (bond_read entries k e near is) ∙ there)

-- the same of a block that was taken out of it, if one was
pub taken_plain : {X : Type 0} (of : X → BlockView) (result : Option X) (f : ℕ) (entries : List EntryView) (k : ℕ) (e : EntryView) (table : TableView)
    → table.layout ≡ f → table.bonds ≡ map bond_of entries → AllFit f entries → k < segment_count f → k < length entries → e ≡ get_or entries k e
    → IfSome result (λ b. block_len (of b) ≡ length_of e) → IfSome result (λ b. IsCast block_len (λ (x : BlockView). mould_of x.cells) e (of b))
    → IsPlainAt table k → IfSome result (λ b. ArePlain (of b).cells)
taken_plain of None f entries k e table same bonds fit less near is long cast plain = tt
taken_plain of (Some b) f entries k e table same bonds fit less near is long cast plain =
    let here : IsLengthOf f k (length_of e) = subst (λ (u : EntryView). IsLengthOf f k (length_of u)) (sym is) (fit k e less) in
    let own : IsLengthOf f k (block_len (of b)) = subst (IsLengthOf f k) (sym long) here in
    found_plain f entries k e (of b) table near is bonds plain (subst (λ (g : ℕ). IsLengthOf g k (block_len (of b))) (sym same) own) cast

-- an entry that is there
entry_there : (entries : List EntryView) (k : ℕ) → k < length entries
    → (e : EntryView) × ((d : EntryView) → get_or entries k d ≡ e) × (bond_among entries k ≡ bond_of e)
entry_there [] k near = absurd (omega (arith, near))
entry_there (x ∷ xs) zero near = (x, (λ d. refl), refl)
entry_there (x ∷ xs) (suc k) near = entry_there xs k (omega (arith, near))

-- what ties a plain entry whose block has this many cells
abbrev plain_bond : ℕ → Option Bond
plain_bond n = Some (None, plain_mould n)

-- an entry that is plain, and as long as its segment, is plain in its table
pub plain_now : (table : TableView) (k : ℕ) (e : EntryView) → entry_bond table k ≡ bond_of e → IsPlainEntry e → IsLengthOf table.layout k (length_of e)
    → IsPlainAt table k
plain_now table k e there plain long = record {
  tie = ap tie_in (there ∙ plain);
  mould = λ n is. let same : length_of e ≡ n = omega (arith, long, is) in there ∙ plain ∙ ap plain_bond same;
}

-- so is each entry of a table whose entries are plain
pub plain_at : (f : ℕ) (entries : List EntryView) (k : ℕ) (table : TableView) → table.layout ≡ f → table.bonds ≡ map bond_of entries → k < length entries
    → AllFit f entries → AllPlainEntries f entries → k < segment_count f → IsPlainAt table k
plain_at f entries k table same bonds near fit plain less =
    let e = (entry_there entries k near).0 in let is = (entry_there entries k near).1 in
    let there : entry_bond table k ≡ bond_of e = ap (λ (bs : List (Option Bond)). slice_index_or bs k None) bonds ∙ (entry_there entries k near).2 in
    let long : IsLengthOf f k (length_of e) = subst (λ (x : EntryView). IsLengthOf f k (length_of x)) (is e) (fit k e less) in
    plain_now table k e there (subst IsPlainEntry (is e) (plain k e less)) (subst (λ (g : ℕ). IsLengthOf g k (length_of e)) (sym same) long)

-- what follows when a plain block is set, and when a plain entry is put in the place of one
pub ruleset setting = (plain_there, found_plain)

pub ruleset renewed_plain = (plain_untied, plain_soft, plain_now)
