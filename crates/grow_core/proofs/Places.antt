-- The parts of a vector: where a place lies, and what is kept where one cell is written.
use Rattle.std.proofs.Common.{◌≡◌, ◌≢◌, ℕ, zero, suc, ◌+◌, ◌-◌, ◌^◌, ◌<◌, ◌≤◌, List, [], ◌∷◌, ◌++◌, Option, length, length-set, refl, sym, ap, ◌∙◌, subst, ⊎_elim, arith}
use Rattle.std.proofs.lemmas.Bool.{cases_lt}
use Rattle.std.proofs.Math.Arith.{lt_of_le-ne}
use Rattle.std.specs.Prelude.{Some, None, slice_get, slice_set, slice_index, IsSome}
use base.Fml.{Lft}
use lib.Seq.{get_or-set_same, get_or-set_other}
use mathlib.Core.Logic.{dite}
use native.Mathlib.Decide.{ℕ_discrete}
use Rattle.seg_core.specs.Segment.{segment_start, segment_end, segment_count, most_places, HasPlace}
use Rattle.seg_core.proofs.Doubling.{segment_end-le, one_segment, starts_at_power}
use Rattle.cell_core.specs.Fixed.{untied_cell}
use Rattle.cell_core.specs.Block.{BlockView, IsMemberAt, KeepsOtherCells, block_len, cell_at}
use Rattle.cell_core.specs.Member.{MemberView, HasNames}
use Rattle.cell_core.specs.Slot.{Names}
use Rattle.table_core.specs.Table.{TableView, KeyView, IsKeyOf, IsBlockOf}
use Rattle.grow_core.specs.Keys.{KeyRow, IsKeyAt, key_at, mark_of}
use Rattle.grow_core.specs.Token.{place_in}
use Rattle.grow_core.specs.Parts.{AreMembers, AreWhole, AreBrokenIn, IsBrokenIn, values_in}

-- a segment that does not come later begins no later
pub starts_le : (f j k : ℕ) → j ≤ k → segment_start f j ≤ segment_start f k
starts_le f zero k le = omega arith
starts_le f (suc j) zero le = absurd (omega arith)
starts_le f (suc j) (suc k) le = segment_end-le f j k (omega arith)

-- a place below where a segment begins is in one before it
pub segment_below : (f segment place count : ℕ) → HasPlace f segment place → place < segment_start f count → segment < count
segment_below f segment place count has below = ⊎_elim (λ lt. lt) (λ ge. let le = starts_le f count segment ge in let from = has.from in absurd (omega arith)) (cases_lt segment count)

-- the value at a place, of what is known there
pub value_at : {T : Type 0} (known : List (MemberView T)) (i : ℕ) (m : MemberView T) → slice_get known i ≡ Some m → slice_get (values_in known) i ≡ Some m.value
value_at [] i m is = absurd (let z = is in cc)
value_at (h ∷ known) zero m is = let same : h ≡ m = (let z = is in cc) in ap (λ (u : MemberView _). Some u.value) same
value_at (h ∷ known) (suc i) m is = value_at known i m is

-- what is put at the end is there, and all else as it was
pub pushed_there : {X : Type 0} (xs : List X) (x : X) → slice_get (xs ++ x ∷ []) (length xs) ≡ Some x
pushed_there [] x = refl
pushed_there (h ∷ xs) x = pushed_there xs x

pub pushed_elsewhere : {X : Type 0} (xs : List X) (x : X) (i : ℕ) → i ≢ length xs → slice_get (xs ++ x ∷ []) i ≡ slice_get xs i
pushed_elsewhere [] x zero other = absurd (other refl)
pushed_elsewhere [] x (suc i) other = refl
pushed_elsewhere (h ∷ xs) x zero other = refl
pushed_elsewhere (h ∷ xs) x (suc i) other = pushed_elsewhere xs x i (λ same. other (ap suc same))

pub none_past : {X : Type 0} (xs : List X) → slice_get xs (length xs) ≡ None
none_past [] = refl
none_past (h ∷ xs) = none_past xs

-- what is put at a place is there, and all else as it was
pub set_there : {X : Type 0} (xs : List X) (x : X) (i : ℕ) → i < length xs → slice_get (slice_set xs i x) i ≡ Some x
set_there [] x i near = absurd (omega arith)
set_there (h ∷ xs) x zero near = refl
set_there (h ∷ xs) x (suc i) near = set_there xs x i (omega (arith, near))

pub set_elsewhere : {X : Type 0} (xs : List X) (x : X) (i j : ℕ) → j ≢ i → slice_get (slice_set xs i x) j ≡ slice_get xs j
set_elsewhere [] x i j other = refl
set_elsewhere (h ∷ xs) x zero zero other = absurd (other refl)
set_elsewhere (h ∷ xs) x zero (suc j) other = refl
set_elsewhere (h ∷ xs) x (suc i) zero other = refl
set_elsewhere (h ∷ xs) x (suc i) (suc j) other = set_elsewhere xs x i j (λ same. other (ap suc same))

pub values_set : {T : Type 0} (known : List (MemberView T)) (i : ℕ) (m : MemberView T) → values_in (slice_set known i m) ≡ slice_set (values_in known) i m.value
values_set [] i m = refl
values_set (h ∷ known) zero m = refl
values_set (h ∷ known) (suc i) m = ap (λ xs. h.value ∷ xs) (values_set known i m)

-- members that are broken for an epoch stay so when one is added, removed or replaced
pub broken_more : {T : Type 0} (epoch : Lft) (known : List (MemberView T)) (m : MemberView T) → AreBrokenIn epoch known → IsBrokenIn epoch m
    → AreBrokenIn epoch (known ++ m ∷ [])
broken_more epoch [] m all is = (is, tt)
broken_more epoch (h ∷ known) m all is = (all.0, broken_more epoch known m all.1 is)

pub broken_append : {T : Type 0} (epoch : Lft) (known more : List (MemberView T)) → AreBrokenIn epoch known → AreBrokenIn epoch more
    → AreBrokenIn epoch (known ++ more)
broken_append epoch [] more all rest = rest
broken_append epoch (h ∷ known) more all rest = (all.0, broken_append epoch known more all.1 rest)

pub broken_fewer : {T : Type 0} (epoch : Lft) (known : List (MemberView T)) (m : MemberView T) → AreBrokenIn epoch (known ++ m ∷ []) → AreBrokenIn epoch known
broken_fewer epoch [] m all = tt
broken_fewer epoch (h ∷ known) m all = (all.0, broken_fewer epoch known m all.1)

pub broken_set : {T : Type 0} (epoch : Lft) (known : List (MemberView T)) (i : ℕ) (m : MemberView T) → AreBrokenIn epoch known → IsBrokenIn epoch m
    → AreBrokenIn epoch (slice_set known i m)
broken_set epoch [] i m all is = tt
broken_set epoch (h ∷ known) zero m all is = (is, all.1)
broken_set epoch (h ∷ known) (suc i) m all is = (all.0, broken_set epoch known i m all.1 is)

pub broken_at : {T : Type 0} (epoch : Lft) (known : List (MemberView T)) (i : ℕ) (m : MemberView T) → AreBrokenIn epoch known → slice_get known i ≡ Some m
    → IsBrokenIn epoch m
broken_at epoch [] i m all is = absurd (let z = is in cc)
broken_at epoch (h ∷ known) zero m all is = let same : h ≡ m = (let z = is in cc) in subst (IsBrokenIn epoch) same all.0
broken_at epoch (h ∷ known) (suc i) m all is = broken_at epoch known i m all.1 is

-- a place with a member is one of the list
pub within_length : {X : Type 0} (xs : List X) (i : ℕ) (x : X) → slice_get xs i ≡ Some x → i < length xs
within_length [] i x is = absurd (let z = is in cc)
within_length (h ∷ xs) zero x is = omega arith
within_length (h ∷ xs) (suc i) x is = let z = within_length xs i x is in omega (arith, z)

-- what is known of a cell that keeps its names stays known
pub kept_at : {T : Type 0} (old new : BlockView) (offset : ℕ) (m : MemberView T) → block_len new ≡ block_len old → cell_at new offset ≡ cell_at old offset
    → IsMemberAt old offset m → IsMemberAt new offset m
kept_at old new offset m len same was = record {
  within = subst (λ (n : ℕ). offset < n) (sym len) was.within;
  known = subst (λ (c : Names). HasNames c m.value m.name m.epoch) (sym same) was.known;
}

-- what is known of a cell is known of it with another tie, and so is what is known of a cell of a block
pub untied_names : {T : Type 0} (old new : Names) (v : Option T) (name : ℕ) (epoch : Lft) → untied_cell new ≡ untied_cell old → HasNames old v name epoch → HasNames new v name epoch
untied_names old new (Some x) name epoch same known = known ∙ sym (ap (λ (c : Names). c.value_name) same)
untied_names old new None name epoch same known = known ∙ sym (ap (λ (c : Names). c.epoch) same)

pub untied_at : {T : Type 0} (old new : BlockView) (offset : ℕ) (m : MemberView T) → block_len new ≡ block_len old → untied_cell (cell_at new offset) ≡ untied_cell (cell_at old offset)
    → IsMemberAt old offset m → IsMemberAt new offset m
untied_at old new offset m len same was = record {
  within = (let within = was.within in omega (arith, len, within));
  known = untied_names (cell_at old offset) (cell_at new offset) m.value m.name m.epoch same was.known;
}

module _ {T : Type 0} (f : ℕ) (row row' : KeyRow) (known known' : List (MemberView T)) (segment offset n : ℕ) (key key' : KeyView) where
  abbrev place : ℕ
  place = place_in f segment offset

  -- n cells of a segment were written, which has another key: what was known elsewhere stays known
  pub members_changed : AreMembers f row known → segment < 40 → key_at row segment ≡ Some key → key_at row' segment ≡ Some key'
      → ((s : ℕ) → s ≢ segment → key_at row' s ≡ key_at row s)
      → block_len key'.block ≡ block_len key.block
      → ((q : ℕ) → q < offset → untied_cell (cell_at key'.block q) ≡ untied_cell (cell_at key.block q)) → ((q : ℕ) → offset + n ≤ q → untied_cell (cell_at key'.block q) ≡ untied_cell (cell_at key.block q))
      → ((q : ℕ) → q < place → slice_get known' q ≡ slice_get known q) → ((q : ℕ) → place + n ≤ q → slice_get known' q ≡ slice_get known q)
      → ((i : ℕ) (m : MemberView T) → i < n → slice_get known' (place + i) ≡ Some m → IsMemberAt key'.block (offset + i) m)
      → place + n ≤ segment_end f segment → AreMembers f row' known'
  members_changed are small has has' others len cells_before cells_after known_before known_after there within s o k m low at inside is =
      dite (ℕ_discrete s segment)
      (λ same. let same_key : Some key' ≡ Some k = sym has' ∙ ap (key_at row') (sym same) ∙ at in let is_key : key' ≡ k = (let z = same_key in cc) in
      let starts = ap (segment_start f) same in
      let still : slice_get known' (place_in f s o) ≡ slice_get known (place_in f s o) → untied_cell (cell_at key'.block o) ≡ untied_cell (cell_at key.block o) → IsMemberAt k.block o m = (λ known_same cell_same.
      let was : IsMemberAt key.block o m = are segment o key m small has (subst (λ (x : ℕ). place_in f x o < segment_end f x) same inside) (ap (λ (x : ℕ). slice_get known (place_in f x o)) (sym same) ∙ sym known_same ∙ is) in
      subst (λ (u : KeyView). IsMemberAt u.block o m) is_key (untied_at key.block key'.block o m len cell_same was)) in
      ⊎_elim (λ lt. still (known_before (place_in f s o) (omega (arith, lt, starts))) (cells_before o lt))
      (λ ge. ⊎_elim
      (λ lt. let here : offset + (o - offset) ≡ o = omega (arith, ge) in let at_place : place + (o - offset) ≡ place_in f s o = omega (arith, ge, starts) in
      subst (λ (u : KeyView × ℕ). IsMemberAt u.0.block u.1 m) (λ i. (is_key i, here i)) (there (o - offset) m (omega (arith, ge, lt)) (ap (slice_get known') at_place ∙ is)))
      (λ past. still (known_after (place_in f s o) (omega (arith, past, starts))) (cells_after o past))
      (cases_lt o (offset + n)))
      (cases_lt o offset))
      (λ other. let still : slice_get known' (place_in f s o) ≡ slice_get known (place_in f s o) → IsMemberAt k.block o m = (λ known_same. are s o k m low (sym (others s other) ∙ at) inside (sym known_same ∙ is)) in
      ⊎_elim (λ lt. still (known_before (place_in f s o) lt))
      (λ ge. ⊎_elim
      (λ lt. absurd (other (one_segment f s segment (place_in f s o) (record { from = omega arith; before = inside }) (record { from = omega (arith, ge); before = omega (arith, lt, within) }))))
      (λ past. still (known_after (place_in f s o) past))
      (cases_lt (place_in f s o) (place + n)))
      (cases_lt (place_in f s o) place))

-- the key of an entry is the key of that segment
pub key_here : (table : TableView) (segment : ℕ) (block : BlockView) (key : KeyView) → segment < segment_count table.layout → IsKeyOf table segment block key → IsKeyAt (mark_of table) segment key
key_here table segment block key small of = record {
  layout = of.inside.layout;
  at = of.at;
  within = small;
  named = subst (λ (k : ℕ). slice_index table.names k ≡ key.name) of.at of.inside.named;
}

some_is : (key : KeyView) → IsSome (Some key)
some_is key = refl

module _ {T : Type 0} (f : ℕ) (names : List ℕ) (table' : TableView) (row : KeyRow) (known known' : List (MemberView T)) (segment offset n len len' limit count : ℕ) (key key' : KeyView) (block : BlockView) where
  abbrev row' : KeyRow
  row' = slice_set row segment (Some key')

  -- n cells were written, and their block has another key
  pub written_cells : AreWhole f names row known len limit count → table'.layout ≡ f → segment < 40 → segment < segment_count f → place_in f segment offset + n ≤ segment_end f segment
      → key_at row segment ≡ Some key → ((j : ℕ) → j ≢ segment → slice_index table'.names j ≡ slice_index names j) → IsKeyOf table' segment block key'
      → block_len block ≡ block_len key.block
      → ((q : ℕ) → q < offset → untied_cell (cell_at block q) ≡ untied_cell (cell_at key.block q)) → ((q : ℕ) → offset + n ≤ q → untied_cell (cell_at block q) ≡ untied_cell (cell_at key.block q))
      → ((q : ℕ) → q < place_in f segment offset → slice_get known' q ≡ slice_get known q) → ((q : ℕ) → place_in f segment offset + n ≤ q → slice_get known' q ≡ slice_get known q)
      → ((i : ℕ) (m : MemberView T) → i < n → slice_get known' (place_in f segment offset + i) ≡ Some m → IsMemberAt block (offset + i) m)
      → length known' ≡ len' → len' ≤ limit → len' ≤ segment_start f count → AreWhole table'.layout table'.names row' known' len' limit count
  written_cells whole same_layout small few inside has others of same_len cells_before cells_after known_before known_after there all within below =
      let here : key_at row' segment ≡ Some key' = get_or-set_same row segment (Some key') None (omega (arith, small, whole.rows)) in
      let away : (s : ℕ) → s ≢ segment → key_at row' s ≡ key_at row s = (λ s other. get_or-set_other row segment s (Some key') None other) in
      let is_block : block ≡ key'.block = sym of.of in
      let picks : (s : ℕ) (k : KeyView) → key_at row' s ≡ Some k → s ≡ segment → k ≡ key' = (λ s k at same. let e : Some k ≡ Some key' = sym at ∙ ap (key_at row') same ∙ here in let z : k ≡ key' = (let w = e in cc) in z) in
      let is_key : IsKeyAt (f ∷ table'.names) segment key' =
      subst (λ (l : ℕ). IsKeyAt (l ∷ table'.names) segment key') same_layout (key_here table' segment block key' (subst (λ (l : ℕ). segment < segment_count l) (sym same_layout) few) of) in
      subst (λ (l : ℕ). AreWhole l table'.names row' known' len' limit count) (sym same_layout) (record {
        layout = whole.layout;
        limited = whole.limited;
        within = within;
        all = all;
        rows = length-set row segment (Some key') ∙ whole.rows;
        few = whole.few;
        inside = below;
        named = λ s k low at. dite (ℕ_discrete s segment)
            (λ same. subst (λ (u : ℕ × KeyView). IsKeyAt (f ∷ table'.names) u.0 u.1) (λ i. (sym same i, sym (picks s k at same) i)) is_key)
            (λ other. let was = whole.named s k low (sym (away s other) ∙ at) in record { layout = was.layout; at = was.at; within = was.within; named = others s other ∙ was.named });
        long = λ s k low at. dite (ℕ_discrete s segment)
            (λ same. subst (λ (u : ℕ × KeyView). IsBlockOf f u.0 u.1.block) (λ i. (sym same i, sym (picks s k at same) i))
            (subst (λ (n : ℕ). segment_start f segment + n ≡ segment_end f segment) (sym (ap block_len (sym is_block) ∙ same_len)) (whole.long segment key small has)))
            (λ other. whole.long s k low (sym (away s other) ∙ at));
        there = λ s low. dite (ℕ_discrete s segment)
            (λ same. subst IsSome (sym (ap (key_at row') same ∙ here)) (some_is key'))
            (λ other. subst IsSome (sym (away s other)) (whole.there s low));
        of = members_changed f row row' known known' segment offset n key key' whole.of small has here away (ap block_len (sym is_block) ∙ same_len)
            (λ q low. subst (λ (b : BlockView). untied_cell (cell_at b q) ≡ untied_cell (cell_at key.block q)) is_block (cells_before q low))
            (λ q past. subst (λ (b : BlockView). untied_cell (cell_at b q) ≡ untied_cell (cell_at key.block q)) is_block (cells_after q past)) known_before known_after
            (λ i m low is. subst (λ (b : BlockView). IsMemberAt b (offset + i) m) is_block (there i m low is)) inside;
      })

-- one cell was written, and its block has another key
pub written_whole : {T : Type 0} (f : ℕ) (names : List ℕ) (table' : TableView) (row : KeyRow) (known known' : List (MemberView T)) (segment offset len len' limit count : ℕ) (key key' : KeyView) (block : BlockView)
    → AreWhole f names row known len limit count → table'.layout ≡ f → segment < 40 → segment < segment_count f → place_in f segment offset < segment_end f segment
    → key_at row segment ≡ Some key → ((j : ℕ) → j ≢ segment → slice_index table'.names j ≡ slice_index names j) → IsKeyOf table' segment block key'
    → block_len block ≡ block_len key.block → KeepsOtherCells key.block block offset
    → ((q : ℕ) → q ≢ place_in f segment offset → slice_get known' q ≡ slice_get known q)
    → ((m : MemberView T) → slice_get known' (place_in f segment offset) ≡ Some m → IsMemberAt block offset m)
    → length known' ≡ len' → len' ≤ limit → len' ≤ segment_start f count → AreWhole table'.layout table'.names (slice_set row segment (Some key')) known' len' limit count
written_whole f names table' row known known' segment offset len len' limit count key key' block whole same_layout small few inside has others of same_len cells elsewhere there all within below =
    written_cells f names table' row known known' segment offset 1 len len' limit count key key' block whole same_layout small few (omega (arith, inside)) has others of same_len
    (λ q low. ap untied_cell (cells q (λ e. omega (arith, low, e)))) (λ q past. ap untied_cell (cells q (λ e. omega (arith, past, e))))
    (λ q low. elsewhere q (λ e. omega (arith, low, e))) (λ q past. elsewhere q (λ e. omega (arith, past, e)))
    (λ i m low is. let here : offset ≡ offset + i = omega (arith, low) in let at : place_in f segment offset ≡ place_in f segment offset + i = omega (arith, low) in
    subst (λ (o : ℕ). IsMemberAt block o m) here (there m (ap (slice_get known') at ∙ is)))
    all within below

-- a segment after the members was installed
pub grown_whole : {T : Type 0} (f : ℕ) (names : List ℕ) (row : KeyRow) (known : List (MemberView T)) (len limit count : ℕ) (key : KeyView)
    → AreWhole f names row known len limit count → count < segment_count f → IsKeyAt (f ∷ names) count key → IsBlockOf f count key.block
    → AreWhole f names (slice_set row count (Some key)) known len limit (count + 1)
grown_whole f names row known len limit count key whole small is long =
    let row' : KeyRow = slice_set row count (Some key) in
    let here : key_at row' count ≡ Some key = get_or-set_same row count (Some key) None (omega (arith, small, whole.rows, whole.layout.0)) in
    let away : (s : ℕ) → s ≢ count → key_at row' s ≡ key_at row s = (λ s other. get_or-set_other row count s (Some key) None other) in
    let picks : (s : ℕ) (k : KeyView) → key_at row' s ≡ Some k → s ≡ count → k ≡ key = (λ s k at same. let e : Some k ≡ Some key = sym at ∙ ap (key_at row') same ∙ here in let z : k ≡ key = (let w = e in cc) in z) in
    let up = starts_le f count (count + 1) (omega arith) in let inner = whole.inside in
    record {
      layout = whole.layout;
      limited = whole.limited;
      within = whole.within;
      all = whole.all;
      rows = length-set row count (Some key) ∙ whole.rows;
      few = omega (arith, small);
      inside = omega (arith, up, inner);
      named = λ s k low at. dite (ℕ_discrete s count)
          (λ same. subst (λ (u : ℕ × KeyView). IsKeyAt (f ∷ names) u.0 u.1) (λ i. (sym same i, sym (picks s k at same) i)) is)
          (λ other. whole.named s k low (sym (away s other) ∙ at));
      long = λ s k low at. dite (ℕ_discrete s count)
          (λ same. subst (λ (u : ℕ × KeyView). IsBlockOf f u.0 u.1.block) (λ i. (sym same i, sym (picks s k at same) i)) long)
          (λ other. whole.long s k low (sym (away s other) ∙ at));
      there = λ s low. dite (ℕ_discrete s count)
          (λ same. subst IsSome (sym (ap (key_at row') same ∙ here)) (some_is key))
          (λ other. subst IsSome (sym (away s other)) (whole.there s (lt_of_le-ne (omega (arith, low)) other)));
      of = λ s o k m low at inside got. dite (ℕ_discrete s count)
          (λ same. let past = within_length known (place_in f s o) m got in let all = whole.all in let e = ap (segment_start f) same in absurd (omega (arith, past, all, inner, e)))
          (λ other. whole.of s o k m low (sym (away s other) ∙ at) inside got);
    }

-- the last segment was given up, which had no member
pub cut_whole : {T : Type 0} (f : ℕ) (names names' : List ℕ) (row : KeyRow) (known : List (MemberView T)) (len limit count : ℕ)
    → AreWhole f names row known len limit (count + 1) → len ≤ segment_start f count → ((j : ℕ) → (j ≡ count → ⊥) → slice_index names' j ≡ slice_index names j)
    → AreWhole f names' (slice_set row count None) known len limit count
cut_whole f names names' row known len limit count whole low_len others =
    let few = whole.few in
    let row' : KeyRow = slice_set row count None in
    let here : key_at row' count ≡ None = get_or-set_same row count None None (omega (arith, few, whole.rows, whole.layout.0)) in
    let away : (s : ℕ) → s ≢ count → key_at row' s ≡ key_at row s = (λ s other. get_or-set_other row count s None None other) in
    let gone : (s : ℕ) (k : KeyView) → key_at row' s ≡ Some k → s ≡ count → ⊥ = (λ s k at same. let e : None ≡ Some k = sym here ∙ ap (key_at row') (sym same) ∙ at in let z = e in cc) in
    record {
      layout = whole.layout;
      limited = whole.limited;
      within = whole.within;
      all = whole.all;
      rows = length-set row count None ∙ whole.rows;
      few = omega (arith, few);
      inside = low_len;
      named = λ s k low at. let other : s ≢ count = gone s k at in let was = whole.named s k low (sym (away s other) ∙ at) in record { layout = was.layout; at = was.at; within = was.within; named = others s other ∙ was.named };
      long = λ s k low at. whole.long s k low (sym (away s (gone s k at)) ∙ at);
      there = λ s low. let other : s ≢ count = (λ e. omega (arith, e, low)) in subst IsSome (sym (away s other)) (whole.there s (omega (arith, low)));
      of = λ s o k m low at inside got. whole.of s o k m low (sym (away s (gone s k at)) ∙ at) inside got;
    }

-- the entry behind the last segment is not set any more
pub cleared_whole : {T : Type 0} (f : ℕ) (names names' : List ℕ) (row : KeyRow) (known : List (MemberView T)) (len limit count : ℕ)
    → AreWhole f names row known len limit count → count < segment_count f → ((j : ℕ) → (j ≡ count → ⊥) → slice_index names' j ≡ slice_index names j)
    → AreWhole f names' (slice_set row count None) known len limit count
cleared_whole f names names' row known len limit count whole small others =
    let row' : KeyRow = slice_set row count None in
    let here : key_at row' count ≡ None = get_or-set_same row count None None (omega (arith, small, whole.rows, whole.layout.0)) in
    let away : (s : ℕ) → s ≢ count → key_at row' s ≡ key_at row s = (λ s other. get_or-set_other row count s None None other) in
    let gone : (s : ℕ) (k : KeyView) → key_at row' s ≡ Some k → s ≡ count → ⊥ = (λ s k at same. let e : None ≡ Some k = sym here ∙ ap (key_at row') (sym same) ∙ at in let z = e in cc) in
    record {
      layout = whole.layout;
      limited = whole.limited;
      within = whole.within;
      all = whole.all;
      rows = length-set row count None ∙ whole.rows;
      few = whole.few;
      inside = whole.inside;
      named = λ s k low at. let other : s ≢ count = gone s k at in let was = whole.named s k low (sym (away s other) ∙ at) in record { layout = was.layout; at = was.at; within = was.within; named = others s other ∙ was.named };
      long = λ s k low at. whole.long s k low (sym (away s (gone s k at)) ∙ at);
      there = λ s low. let other : s ≢ count = (λ e. omega (arith, e, low)) in subst IsSome (sym (away s other)) (whole.there s low);
      of = λ s o k m low at inside got. whole.of s o k m low (sym (away s (gone s k at)) ∙ at) inside got;
    }

-- after the last segment of a layout there are no places
pub all_places : (f : ℕ) → f ≤ 8 → segment_start f (segment_count f) ≡ most_places
all_places f most =
    starts_at_power f (41 - f) (omega arith) ∙ ap (λ e. 2 ^ e) (let e : 41 - f + f - 1 ≡ 40 = omega arith in e)

-- a segment that begins below 2^40 is one of the layout's
pub few_below : (f s n : ℕ) → f ≤ 8 → n ≤ most_places → segment_start f s < n → s < segment_count f
few_below f s n most small below =
    ⊎_elim (λ lt. lt)
    (λ ge. let le = starts_le f (segment_count f) s ge in let all = all_places f most in absurd (omega (arith, le, all)))
    (cases_lt s (segment_count f))

-- if the last segment has a member, each one before it has
pub none_spare : (f s k len : ℕ) → ((0 < s) × (len ≤ segment_start f (s - 1)) → ⊥) → k < s → segment_start f k < len
none_spare f s k len full below = ⊎_elim (λ lt. lt) (λ ge. absurd (full (omega (arith, below), (let le = starts_le f k (s - 1) (omega (arith, below)) in omega (arith, le, ge))))) (cases_lt (segment_start f k) len)
