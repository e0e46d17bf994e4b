-- How the members of a list are moved out of it, last one first.
use Rattle.std.proofs.Common.{◌≡◌, ℕ, zero, suc, ◌+◌, ◌-◌, ◌<◌, ◌≤◌, List, [], ◌∷◌, ◌++◌, length, map, reverse, length-append, append_assoc, Option, Some, None, refl, sym, ap, ◌∙◌, arith}
use Rattle.std.proofs.lemmas.List.{append-nil, map-append, reverse-append}
use Rattle.std.specs.Prelude.{slice_get}
use base.Fml.{Lft}
use Rattle.seg_core.specs.Segment.{segment_start, HasPlace}
use Rattle.seg_core.proofs.Doubling.{one_segment}
use Rattle.cell_core.specs.Slot.{Names}
use Rattle.cell_core.specs.Block.{BlockView, PlacedView, IsMemberAt, IsPlacedIn, KeepsOtherCells, block_len, cell_at}
use Rattle.cell_core.specs.Member.{MemberView, HasNames}
use Rattle.grow_core.specs.Keys.{KeyRow}
use Rattle.grow_core.specs.Token.{place_in}
use Rattle.grow_core.specs.Parts.{AreBrokenIn, AreWhole, values_in}
use Rattle.grow_core.specs.PopSegment.{IsFilled, IsUnbroken, MovesLast, PopsValues}
use Rattle.grow_core.proofs.Places.{kept_at, pushed_there, within_length}
use Rattle.grow_core.proofs.Settled.{append_first}

-- the last one of some members is moved, after those that were moved before it
pub moved_more : {T : Type 0} (old mid new : List (Option T)) (had got : List T) (x : T) → MovesLast old mid had got → mid ≡ new ++ Some x ∷ []
    → MovesLast old new had (got ++ x ∷ [])
moved_more old mid new had got x was one =
    let moved = was.0 in (
      moved ++ x ∷ [],
      ap (λ xs. xs ++ x ∷ []) was.1 ∙ append_assoc had moved (x ∷ []),
      was.2 ∙ ap (λ xs. xs ++ map Some (reverse moved)) one ∙ append_assoc new (Some x ∷ []) (map Some (reverse moved)) ∙ ap (λ xs. new ++ map Some xs) (sym (reverse-append moved (x ∷ []))),
    )

-- one cell more gave up its value
pub popped_more : {T : Type 0} (old now new : BlockView) (n k : ℕ) (old_row row row' : List (MemberView T)) (had got : List T) (m : MemberView T) (x : T)
    → PopsValues old now n old_row row had got k → k < n → row ≡ row' ++ m ∷ [] → m.value ≡ Some x
    → block_len new ≡ block_len now → KeepsOtherCells now new (n - 1 - k) → PopsValues old new n old_row row' had (got ++ x ∷ []) (k + 1)
popped_more old now new n k old_row row row' had got m x was near last is same_len others = record {
  len = same_len ∙ was.len;
  before = λ q low. others q (λ e. omega (arith, low, e)) ∙ was.before q (omega (arith, low));
  after = λ q past. others q (λ e. omega (arith, past, e, near)) ∙ was.after q past;
  popped = m ∷ was.popped;
  all = omega (arith, was.all);
  row = was.row ∙ ap (λ xs. xs ++ was.popped) last ∙ append_assoc row' (m ∷ []) was.popped;
  moved = moved_more (values_in old_row) (values_in row) (values_in row') had got x was.moved
      (ap values_in last ∙ map-append (λ (u : MemberView _). u.value) row' (m ∷ []) ∙ ap (λ v. values_in row' ++ v ∷ []) is);
}

-- members that are broken for an epoch stay so where those at the end are removed
pub broken_first : {T : Type 0} (epoch : Lft) (known more : List (MemberView T)) → AreBrokenIn epoch (known ++ more) → AreBrokenIn epoch known
broken_first epoch [] more all = tt
broken_first epoch (h ∷ known) more all = (all.0, broken_first epoch known more all.1)

-- no member of a part at the beginning is broken
pub unbroken_first : {T : Type 0} (members more : List (Option T)) → IsUnbroken (members ++ more) → IsUnbroken members
unbroken_first [] more all i is = absurd (let z = is in cc)
unbroken_first (h ∷ members) more all zero is = all zero is
unbroken_first (h ∷ members) more all (suc i) is = unbroken_first members more (λ j at. all (suc j) at) i is

-- members that are moved after others are before them in the end
pub moved_rest : {T : Type 0} (all old new : List (Option T)) (had has : List T) → all ≡ old ++ map Some (reverse had) → MovesLast old new had has
    → all ≡ new ++ map Some (reverse has)
moved_rest all old new had has was more =
    let moved = more.0 in
    was ∙ ap (λ xs. xs ++ map Some (reverse had)) more.2 ∙ append_assoc new (map Some (reverse moved)) (map Some (reverse had))
    ∙ ap (λ xs. new ++ xs) (sym (map-append Some (reverse moved) (reverse had)) ∙ ap (map Some) (sym (reverse-append had moved)) ∙ ap (λ xs. map Some (reverse xs)) (sym more.1))

-- nothing was moved yet
pub none_moved : {T : Type 0} (block : BlockView) (n : ℕ) (row : List (MemberView T)) (had : List T) → PopsValues block block n row row had had 0
none_moved block n row had = record {
  len = refl;
  before = λ q low. refl;
  after = λ q past. refl;
  popped = [];
  all = refl;
  row = sym (append-nil row);
  moved = ([], sym (append-nil had), sym (append-nil (values_in row)));
}

-- the row is as long as it was, but for the members that were popped
pub popped_length : {T : Type 0} (old now : BlockView) (n k : ℕ) (old_row row : List (MemberView T)) (had got : List T) → PopsValues old now n old_row row had got k
    → length row + k ≡ length old_row
popped_length old now n k old_row row had got was = ap (λ i. length row + i) (sym was.all) ∙ sym (length-append row was.popped) ∙ ap length (sym was.row)

-- the next member is of the last cell that still has its value
pub member_here : {T : Type 0} (old now : BlockView) (n k len : ℕ) (old_row row : List (MemberView T)) (had got : List T) (m : MemberView T)
    → PopsValues old now n old_row row had got k → k < n → n ≤ len → length old_row ≡ len → slice_get row (len - 1 - k) ≡ Some m
    → ((i : ℕ) (u : MemberView T) → i < n → slice_get old_row (len - n + i) ≡ Some u → IsMemberAt old i u × IsFilled u) → IsMemberAt now (n - 1 - k) m × IsFilled m
member_here old now n k len old_row row had got m was near few all is members =
    let count = popped_length old now n k old_row row had got was in
    let index : len - n + (n - 1 - k) ≡ len - 1 - k = omega (arith, near, few) in
    let there : slice_get old_row (len - n + (n - 1 - k)) ≡ Some m =
    ap (slice_get old_row) index ∙ ap (λ xs. slice_get xs (len - 1 - k)) was.row ∙ append_first row was.popped (len - 1 - k) (omega (arith, near, few, all, count)) ∙ is in
    let both = members (n - 1 - k) m (omega (arith, near)) there in
    (kept_at old now (n - 1 - k) m was.len (was.before (n - 1 - k) (omega (arith, near))) both.0, both.1)

-- the member that is popped is the one that was read before
pub last_is : {T : Type 0} (row row' : List (MemberView T)) (last m : MemberView T) (i : ℕ) → row ≡ row' ++ last ∷ [] → length row' ≡ i → slice_get row i ≡ Some m → last ≡ m
last_is row row' last m i is here there =
    let both : Some last ≡ Some m = sym (pushed_there row' last) ∙ ap (λ xs. slice_get xs (length row')) (sym is) ∙ ap (slice_get row) here ∙ there in
    let same : last ≡ m = (let z = both in cc) in same

filled_name : {T : Type 0} (γ : Names) (v : Option T) (name : ℕ) (epoch : Lft) → HasNames γ v name epoch → (v ≡ None → ⊥) → name ≡ γ.value_name
filled_name γ (Some x) name epoch known some = known
filled_name γ None name epoch known some = absurd (some refl)

-- the token of a member of a cell with a value
pub placed_there : {T : Type 0} (block : BlockView) (offset : ℕ) (m : MemberView T) (placed : PlacedView T) → IsMemberAt block offset m → IsFilled m
    → placed.offset ≡ offset → placed.name ≡ m.name → IsPlacedIn block placed
placed_there block offset m placed is some at name = record {
  within = omega (arith, is.within, at);
  named = name ∙ filled_name (cell_at block offset) m.value m.name m.epoch is.known some ∙ ap (λ (o : ℕ). (cell_at block o).value_name) (sym at);
}

-- members at the end are removed
pub fewer_whole : {T : Type 0} (f : ℕ) (names : List ℕ) (row : KeyRow) (known known' popped : List (MemberView T)) (len len' limit count : ℕ) → AreWhole f names row known len limit count
    → known ≡ known' ++ popped → length known' ≡ len' → len' ≤ len → AreWhole f names row known' len' limit count
fewer_whole {T} f names row known known' popped len len' limit count whole is all less =
    let within = whole.within in let inside = whole.inside in
    record {
      layout = whole.layout;
      limited = whole.limited;
      within = omega (arith, within, less);
      all = all;
      rows = whole.rows;
      few = whole.few;
      inside = omega (arith, inside, less);
      named = whole.named;
      long = whole.long;
      there = whole.there;
      of = λ s o k m low at inner got. whole.of s o k m low at inner
          (ap (λ (xs : List (MemberView T)). slice_get xs (place_in f s o)) is ∙ append_first known' popped (place_in f s o) (within_length known' (place_in f s o) m got) ∙ got);
    }

-- the segment of the last member is the last one, if each has a member
pub last_segment : (f segment count len : ℕ) → HasPlace f segment (len - 1) → 0 < len → len ≤ segment_start f count → ((k : ℕ) → k < count → segment_start f k < len) → segment + 1 ≡ count
last_segment f segment zero len has some inside last = absurd (omega (arith, some, inside))
last_segment f segment (suc j) len has some inside last =
    let low = last j (omega arith) in
    let same = one_segment f segment j (len - 1) has (record { from = omega (arith, low); before = omega (arith, inside, some) }) in omega (arith, same)
