-- What ties the entries of a table, and which kind they are of, after one entry was replaced.
use Rattle.std.proofs.Common.{◌≡◌, ◌⊎◌, Bool, true, false, ℕ, zero, suc, ◌<◌, List, [], ◌∷◌, length, map, slice_index_or, slice_set, get_or, refl, sym, ap, ◌∙◌, subst, arith, inl, inr}
use Rattle.std.specs.Prelude.{Option, None, Some}
use Rattle.std.proofs.lemmas.Option.{none-some}
use Rattle.seg_core.specs.Segment.{segment_count}
use Rattle.tie_core.specs.Visit.{EntryTie}
use Rattle.cell_core.specs.Block.{BlockView, block_len}
use Rattle.cell_core.specs.Mould.{mould_of}
use Rattle.table_core.specs.Entry.{EntryView, Bond, IsCast, IsPlainEntry, IsSoft, Mould, bond_of, length_of, mould_at, mould_in, plain_mould, seen_as, tie_of, tie_in}
use Rattle.table_core.specs.Table.{AllFit, AllPlain, AllPlainEntries, AllSoft, AreOfKind, IsLengthOf, bond_among, tie_among}
use Rattle.table_core.proofs.Names.{names_kept, name_there, renamed_there}

-- every other entry is tied as it was
pub bonds_kept : (entries : List EntryView) (k : ℕ) (e : EntryView) (j : ℕ) → (j ≡ k → ⊥)
    → slice_index_or (map bond_of (slice_set entries k e)) j None ≡ slice_index_or (map bond_of entries) j None
bonds_kept [] k e j other = refl
bonds_kept (x ∷ xs) zero e zero other = absurd (other refl)
bonds_kept (x ∷ xs) zero e (suc j) other = refl
bonds_kept (x ∷ xs) (suc k) e zero other = refl
bonds_kept (x ∷ xs) (suc k) e (suc j) other = bonds_kept xs k e j (λ same. other (ap suc same))

-- an entry that was put at a place is tied there as it is
pub bond_there : (entries : List EntryView) (k : ℕ) (e : EntryView) → k < length entries
    → slice_index_or (map bond_of (slice_set entries k e)) k None ≡ bond_of e
bond_there [] k e near = absurd (omega (arith, near))
bond_there (x ∷ xs) zero e near = refl
bond_there (x ∷ xs) (suc k) e near = bond_there xs k e (omega (arith, near))

set_twice : (entries : List EntryView) (k : ℕ) (x e : EntryView) → slice_set (slice_set entries k x) k e ≡ slice_set entries k e
set_twice [] k x e = refl
set_twice (y ∷ ys) zero x e = refl
set_twice (y ∷ ys) (suc k) x e = λ i. y ∷ set_twice ys k x e i

-- the same, if another was put there before
pub bond_replaced : (entries : List EntryView) (k : ℕ) (x e : EntryView) → k < length entries
    → slice_index_or (map bond_of (slice_set (slice_set entries k x) k e)) k None ≡ bond_of e
bond_replaced entries k x e near =
    subst (λ (es : List EntryView). slice_index_or (map bond_of es) k None ≡ bond_of e) (sym (set_twice entries k x e)) (bond_there entries k e near)

-- one that is not tied is not tied there
pub untied_there : (entries : List EntryView) (k : ℕ) (e : EntryView) → k < length entries → tie_of e ≡ None
    → tie_among (slice_set entries k e) k ≡ None
untied_there entries k e near bare = ap tie_in (bond_there entries k e near) ∙ bare

pub untied_replaced : (entries : List EntryView) (k : ℕ) (x e : EntryView) → k < length entries → tie_of e ≡ None
    → tie_among (slice_set (slice_set entries k x) k e) k ≡ None
untied_replaced entries k x e near bare = ap tie_in (bond_replaced entries k x e near) ∙ bare

-- one that is tied has its tie and its mould there
pub tied_replaced : (entries : List EntryView) (k : ℕ) (x e : EntryView) (own : EntryTie) → k < length entries → tie_of e ≡ Some own
    → tie_among (slice_set (slice_set entries k x) k e) k ≡ Some own
tied_replaced entries k x e own near tied = ap tie_in (bond_replaced entries k x e near) ∙ tied

pub mould_replaced : (entries : List EntryView) (k : ℕ) (x e : EntryView) (m : Mould) → k < length entries → mould_at e ≡ m
    → mould_in (slice_index_or (map bond_of (slice_set (slice_set entries k x) k e)) k None) ≡ m
mould_replaced entries k x e m near is = ap mould_in (bond_replaced entries k x e near) ∙ is

-- an entry that is read at a place is tied as the one there
pub bond_read : (entries : List EntryView) (k : ℕ) (e : EntryView) → k < length entries → e ≡ get_or entries k e
    → slice_index_or (map bond_of entries) k None ≡ bond_of e
bond_read [] k e near is = absurd (omega (arith, near))
bond_read (x ∷ xs) zero e near is = ap bond_of (sym is)
bond_read (x ∷ xs) (suc k) e near is = bond_read xs k e (omega (arith, near)) is

-- the entry that is read at a place where one was put is that one
put_there : (entries : List EntryView) (k : ℕ) (x e : EntryView) → k < length entries → e ≡ get_or (slice_set entries k x) k e → e ≡ x
put_there [] k x e near is = absurd (omega (arith, near))
put_there (y ∷ ys) zero x e near is = is
put_there (y ∷ ys) (suc k) x e near is = put_there ys k x e (omega (arith, near)) is

-- so it is the one that was there, if that was put there
pub still_there : (entries : List EntryView) (k : ℕ) (r x e : EntryView) → k < length entries → r ≡ get_or entries k r → x ≡ r
    → e ≡ get_or (slice_set entries k x) k e → e ≡ get_or entries k e
still_there entries k r x e near read same is =
    subst (λ (u : EntryView). u ≡ get_or entries k u) (sym (put_there entries k x e near is ∙ same)) read

plain_read : (entries : List EntryView) (k : ℕ) → ((d : EntryView) → tie_of (get_or entries k d) ≡ None) → tie_among entries k ≡ None
plain_read [] k all = refl
plain_read (x ∷ xs) zero all = all x
plain_read (x ∷ xs) (suc k) all = plain_read xs k all

-- entries of which none is tied have no tie
pub plain_among : (f : ℕ) (entries : List EntryView) (k : ℕ) → AllPlain f entries → k < segment_count f → tie_among entries k ≡ None
plain_among f entries k all less = plain_read entries k (λ d. all k d less)

-- a plain entry has no tie, and is soft
pub plain_untied : (e : EntryView) → IsPlainEntry e → tie_of e ≡ None
plain_untied e plain = ap tie_in plain

pub plain_soft : (e : EntryView) → IsPlainEntry e → IsSoft e
plain_soft e plain none = inr plain

-- an entry that says nothing has no tie, and is soft
pub loose_untied : (e : EntryView) → bond_of e ≡ None → tie_of e ≡ None
loose_untied e loose = ap tie_in loose

pub loose_soft : (e : EntryView) → bond_of e ≡ None → IsSoft e
loose_soft e loose none = inl loose

-- one that got another name is soft still
pub soft_renamed : (e e' : EntryView) → bond_of e' ≡ bond_of e → length_of e' ≡ length_of e → IsSoft e → IsSoft e'
soft_renamed e e' bond long soft none =
    subst (λ (u : ℕ × Option Bond). (u.1 ≡ None) ⊎ (u.1 ≡ Some (None, plain_mould u.0))) (λ i. (sym long i, sym bond i)) (soft (ap tie_in (sym bond) ∙ none))

-- one that is tied is soft
pub tied_soft : (e : EntryView) (own : EntryTie) → tie_of e ≡ Some own → IsSoft e
tied_soft e own tied none = absurd (none-some own (sym none ∙ tied))

-- plain entries are of each kind, if no block is lent
pub plain_kind : (tied : Bool) (f : ℕ) (entries : List EntryView) → AllPlainEntries f entries → AreOfKind tied f None entries
plain_kind tied f entries all = record {
  plain = λ none k d less. plain_untied (slice_index_or entries k d) (all k d less);
  loose = λ k some. absurd (none-some k some);
  soft = λ k d less. plain_soft (slice_index_or entries k d) (all k d less);
}

-- an entry is not tied, if its kind is not
pub plain_table : (f : ℕ) (lent : Option ℕ) (entries : List EntryView) (k : ℕ) → AreOfKind false f lent entries → k < segment_count f
    → tie_among entries k ≡ None
plain_table f lent entries k are less = plain_among f entries k (are.plain refl) less

-- an entry that is read at a place is not tied, if the one there is not
pub plain_there : (entries : List EntryView) (k : ℕ) (e : EntryView) → tie_among entries k ≡ None → k < length entries → e ≡ get_or entries k e
    → tie_of e ≡ None
plain_there entries k e none near is = sym (ap tie_in (bond_read entries k e near is)) ∙ none

-- one entry is replaced by another that is not tied
plain_set : (entries : List EntryView) (k : ℕ) (e : EntryView) (j : ℕ) (d : EntryView) → tie_of (get_or entries j d) ≡ None → tie_of e ≡ None
    → tie_of (get_or (slice_set entries k e) j d) ≡ None
plain_set [] k e j d old plain = old
plain_set (x ∷ xs) zero e zero d old plain = plain
plain_set (x ∷ xs) zero e (suc j) d old plain = old
plain_set (x ∷ xs) (suc k) e zero d old plain = old
plain_set (x ∷ xs) (suc k) e (suc j) d old plain = plain_set xs k e j d old plain

loose_set : (entries : List EntryView) (k : ℕ) (e : EntryView) (j : ℕ) → bond_among entries j ≡ None → bond_of e ≡ None
    → bond_among (slice_set entries k e) j ≡ None
loose_set [] k e j old loose = old
loose_set (x ∷ xs) zero e zero old loose = loose
loose_set (x ∷ xs) zero e (suc j) old loose = old
loose_set (x ∷ xs) (suc k) e zero old loose = old
loose_set (x ∷ xs) (suc k) e (suc j) old loose = loose_set xs k e j old loose

-- what holds of each entry by its place holds after one was replaced, if it holds of the new one
each_set : (P : ℕ → EntryView → Type 0) (entries : List EntryView) (k : ℕ) (e : EntryView) → ((j : ℕ) (d : EntryView) → P j (get_or entries j d)) → P k e
    → (j : ℕ) (d : EntryView) → P j (get_or (slice_set entries k e) j d)
each_set P [] k e all here j d = all j d
each_set P (x ∷ xs) zero e all here zero d = here
each_set P (x ∷ xs) zero e all here (suc j) d = all (suc j) d
each_set P (x ∷ xs) (suc k) e all here zero d = all 0 d
each_set P (x ∷ xs) (suc k) e all here (suc j) d = each_set (λ (i : ℕ) (y : EntryView). P (suc i) y) xs k e (λ i c. all (suc i) c) here j d

-- each entry is soft, if the new one is
soft_set : (f : ℕ) (entries : List EntryView) (k : ℕ) (e : EntryView) → AllSoft f entries → IsSoft e → AllSoft f (slice_set entries k e)
soft_set f entries k e all here j d less =
    each_set (λ (i : ℕ) (y : EntryView). i < segment_count f → IsSoft y) entries k e (λ i c. all i c) (λ within. here) j d less

-- one entry is replaced by another that says nothing
pub kind_set : (tied : Bool) (f : ℕ) (lent : Option ℕ) (entries : List EntryView) (k : ℕ) (e : EntryView) → AreOfKind tied f lent entries
    → bond_of e ≡ None → AreOfKind tied f lent (slice_set entries k e)
kind_set tied f lent entries k e are bare = record {
  plain = λ none j d less. plain_set entries k e j d (are.plain none j d less) (loose_untied e bare);
  loose = λ j some. loose_set entries k e j (are.loose j some) bare;
  soft = soft_set f entries k e are.soft (loose_soft e bare);
}

-- one entry is replaced by another that is not tied, and no block is lent
pub kind_soft_set : (tied : Bool) (f : ℕ) (lent : Option ℕ) (entries : List EntryView) (k : ℕ) (e : EntryView) → AreOfKind tied f lent entries
    → lent ≡ None → tie_of e ≡ None → IsSoft e → AreOfKind tied f lent (slice_set entries k e)
kind_soft_set tied f lent entries k e are back bare soft = record {
  plain = λ none j d less. plain_set entries k e j d (are.plain none j d less) bare;
  loose = λ j some. absurd (none-some j (sym back ∙ some));
  soft = soft_set f entries k e are.soft soft;
}

-- the same, if another was put there before
pub kind_replaced : (tied : Bool) (f : ℕ) (lent : Option ℕ) (entries : List EntryView) (k : ℕ) (x e : EntryView) → AreOfKind tied f lent entries
    → lent ≡ None → tie_of e ≡ None → IsSoft e → AreOfKind tied f lent (slice_set (slice_set entries k x) k e)
kind_replaced tied f lent entries k x e are back bare soft =
    subst (λ (es : List EntryView). AreOfKind tied f lent es) (sym (set_twice entries k x e)) (kind_soft_set tied f lent entries k e are back bare soft)

-- each entry is as long as its segment, if the new one is
pub fit_set : (f : ℕ) (entries : List EntryView) (k : ℕ) (e : EntryView) → AllFit f entries → IsLengthOf f k (length_of e) → AllFit f (slice_set entries k e)
fit_set f entries k e all here j d less =
    each_set (λ (i : ℕ) (y : EntryView). i < segment_count f → IsLengthOf f i (length_of y)) entries k e (λ i c. all i c) (λ within. here) j d less

-- no block is lent any more
pub kind_back : (tied : Bool) (f : ℕ) (lent : Option ℕ) (entries : List EntryView) → AreOfKind tied f lent entries → AreOfKind tied f None entries
kind_back tied f lent entries are = record { plain = are.plain; loose = λ k some. absurd (none-some k some); soft = are.soft }

same_segment : (k j : ℕ) → Some k ≡ Some j → k ≡ j
same_segment k j e = cc

-- the block of an entry that says nothing is lent
pub kind_lent : (tied : Bool) (f : ℕ) (lent : Option ℕ) (entries : List EntryView) (k : ℕ) → AreOfKind tied f lent entries
    → bond_among entries k ≡ None → AreOfKind tied f (Some k) entries
kind_lent tied f lent entries k are none = record {
  plain = are.plain;
  loose = λ j some. subst (λ (i : ℕ). bond_among entries i ≡ None) (same_segment k j some) none;
  soft = are.soft;
}

true_is_not : true ≡ false → ⊥
true_is_not e = cc

-- entries that may be tied are of that kind, if no block is lent, once one of them is replaced by one that is tied
pub tied_kind : (f : ℕ) (lent : Option ℕ) (entries : List EntryView) (k : ℕ) (x e : EntryView) (own : EntryTie) → AreOfKind true f lent entries
    → tie_of e ≡ Some own → AreOfKind true f None (slice_set (slice_set entries k x) k e)
tied_kind f lent entries k x e own are tied = record {
  plain = λ none. absurd (true_is_not none);
  loose = λ j some. absurd (none-some j some);
  soft = subst (λ (es : List EntryView). AllSoft f es) (sym (set_twice entries k x e)) (soft_set f entries k e are.soft (tied_soft e own tied));
}

-- the same of one entry that is replaced once, while no block is lent
pub tied_kind_set : (f : ℕ) (lent : Option ℕ) (entries : List EntryView) (k : ℕ) (e : EntryView) (own : EntryTie) → AreOfKind true f lent entries
    → lent ≡ None → tie_of e ≡ Some own → AreOfKind true f lent (slice_set entries k e)
tied_kind_set f lent entries k e own are back tied = record {
  plain = λ none. absurd (true_is_not none);
  loose = λ j some. absurd (none-some j (sym back ∙ some));
  soft = soft_set f entries k e are.soft (tied_soft e own tied);
}

-- the entry of a block that is lent says nothing
pub loose_lent : (tied : Bool) (f : ℕ) (lent : Option ℕ) (entries : List EntryView) (k : ℕ) → AreOfKind tied f lent entries → lent ≡ Some k
    → bond_among entries k ≡ None
loose_lent tied f lent entries k are some = are.loose k some

loose_read : (tied : Bool) (f : ℕ) (lent : Option ℕ) (entries : List EntryView) (k : ℕ) (e : EntryView) → AreOfKind tied f lent entries
    → lent ≡ Some k → k < length entries → e ≡ get_or entries k e → bond_of e ≡ None
loose_read tied f lent entries k e are some near is = sym (bond_read entries k e near is) ∙ are.loose k some

-- so it is not tied, and a block of its length fits it
pub plain_lent : (tied : Bool) (f : ℕ) (lent : Option ℕ) (entries : List EntryView) (k : ℕ) (e : EntryView) → AreOfKind tied f lent entries
    → lent ≡ Some k → k < length entries → e ≡ get_or entries k e → tie_of e ≡ None
plain_lent tied f lent entries k e are some near is = loose_untied e (loose_read tied f lent entries k e are some near is)

pub fits_loose : (β : Option Bond) (x : BlockView) (n : ℕ) → β ≡ None → block_len x ≡ n
    → seen_as block_len (λ (b : BlockView). mould_of b.cells) β x ≡ (n, mould_in β)
fits_loose None x n loose long = λ i. (long i, [])
fits_loose (Some u) x n loose long = absurd (none-some u (sym loose))

pub cast_lent : (tied : Bool) (f : ℕ) (lent : Option ℕ) (entries : List EntryView) (k : ℕ) (e : EntryView) (x : BlockView) → AreOfKind tied f lent entries
    → lent ≡ Some k → k < length entries → e ≡ get_or entries k e → block_len x ≡ length_of e
    → IsCast block_len (λ (b : BlockView). mould_of b.cells) e x
cast_lent tied f lent entries k e x are some near is long =
    fits_loose (bond_of e) x (length_of e) (loose_read tied f lent entries k e are some near is) long

-- what follows for a table once an entry is replaced, is set to a block, or is tied; and once a block is lent or comes back
pub ruleset attached_placed = (names_kept, name_there, bonds_kept)

pub ruleset replaced = (names_kept, renamed_there, bonds_kept, bond_replaced, untied_replaced, soft_renamed, kind_replaced)

pub ruleset attached = (names_kept, name_there, bonds_kept, bond_there, untied_there, loose_untied, kind_set)

pub ruleset retied = (names_kept, renamed_there, bonds_kept, tied_kind)

pub ruleset lending = (kind_back, kind_lent, loose_lent, plain_lent, cast_lent)
