-- How a vector is closed segment by segment, and what a token of it says of the list.
use Rattle.std.proofs.Common.{zero, suc, ⊎_elim, ◌≡◌, ◌≢◌, ℕ, ◌+◌, ◌-◌, ◌<◌, ◌≤◌, List, [], ◌∷◌, ◌++◌, length, length-append, length-set, append_assoc, Option, Some, None, refl, sym, ap, ◌∙◌, subst, arith}
use Rattle.std.proofs.lemmas.List.{length-map}
use Rattle.std.proofs.lemmas.Bool.{cases_lt}
use Rattle.std.proofs.Math.Pow.{pow-lt, pow_pos}
use Rattle.std.specs.Prelude.{slice_get, slice_set, slice_index, IsSome, MatchOption, IfSome}
use base.Fml.{Lft}
use lib.Seq.{get_or-set_same, get_or-set_other}
use mathlib.Core.Logic.{dite}
use native.Mathlib.Decide.{ℕ_discrete}
use Rattle.seg_core.specs.Segment.{segment_start, segment_end, segment_count}
use Rattle.seg_core.specs.Laws.{OnePlace}
use Rattle.seg_core.proofs.Doubling.{one_segment}
use Rattle.cell_core.specs.Block.{BlockView, IsMemberAt, KeepsOtherCells, block_len, cell_at}
use Rattle.cell_core.specs.Fixed.{HasValueByStage, stage_in, untied_cell}
use Rattle.cell_core.specs.Slot.{Names}
use Rattle.cell_core.specs.Member.{MemberView, HasNames}
use Rattle.table_core.specs.Table.{KeyView, IsBlockOf}
use Rattle.grow_core.specs.Keys.{KeyRow, IsKeyAt, AreKeys, key_at, mark_of, layout_in, names_in}
use Rattle.grow_core.specs.Token.{PlacedView, place_in}
use Rattle.grow_core.specs.Parts.{AreLong, AreMembers, AreWhole, HasFirstKeys, AreBrokenIn, IsBrokenIn, RestagesCell, member_stage, values_in}
use Rattle.grow_core.specs.Vector.{VectorView, IsPlacedOf, layout_of}
use Rattle.grow_core.specs.Closing.{AreSettled, IsClosing, IsKept, IsKeptOf, KeepsKnown, KeepsValuesBelow}
use Rattle.grow_core.proofs.Places.{untied_at, value_at, pushed_there, pushed_elsewhere, within_length, kept_at, broken_more, broken_append, segment_below}
use Rattle.grow_core.proofs.KeyRows.{none_is_none}

-- the row has the keys of the first n segments and no other: those of the opened list, if that has them
pub record AreFirst (f : ℕ) (names : List ℕ) (opened keys : KeyRow) (n : ℕ) : Type 0 where
  pub rows : length keys ≡ 40
  pub named : AreKeys (f ∷ names) keys
  pub long : AreLong f keys
  pub there : HasFirstKeys keys n
  pub first : (s : ℕ) → s < n → IsSome (key_at opened s) → key_at keys s ≡ key_at opened s
  pub none : (s : ℕ) → s < 40 → n ≤ s → key_at keys s ≡ None

refl_some : (key : KeyView) → IsSome (Some key)
refl_some key = refl

-- the same holds with an added key
pub first_more : (f : ℕ) (names : List ℕ) (opened keys : KeyRow) (n : ℕ) (key : KeyView) → AreFirst f names opened keys n → n < 40 → IsKeyAt (f ∷ names) n key
    → IsBlockOf f n key.block → (IsSome (key_at opened n) → Some key ≡ key_at opened n) → AreFirst f names opened (slice_set keys n (Some key)) (n + 1)
first_more f names opened keys n key are small is long one =
    let row : KeyRow = slice_set keys n (Some key) in
    let here : key_at row n ≡ Some key = get_or-set_same keys n (Some key) None (omega (arith, small, are.rows)) in
    let away : (s : ℕ) → s ≢ n → key_at row s ≡ key_at keys s = (λ s other. get_or-set_other keys n s (Some key) None other) in
    let picks : (s : ℕ) (k : KeyView) → key_at row s ≡ Some k → s ≡ n → k ≡ key = (λ s k at same. let e : Some k ≡ Some key = sym at ∙ ap (key_at row) same ∙ here in let z : k ≡ key = (let w = e in cc) in z) in
    let some_is : IsSome (Some key) = refl_some key in
    record {
      rows = length-set keys n (Some key) ∙ are.rows;
      named = λ s k low at. dite (ℕ_discrete s n)
          (λ same. subst (λ (u : ℕ × KeyView). IsKeyAt (f ∷ names) u.0 u.1) (λ i. (sym same i, sym (picks s k at same) i)) is)
          (λ other. are.named s k low (sym (away s other) ∙ at));
      long = λ s k low at. dite (ℕ_discrete s n)
          (λ same. subst (λ (u : ℕ × KeyView). IsBlockOf f u.0 u.1.block) (λ i. (sym same i, sym (picks s k at same) i)) long)
          (λ other. are.long s k low (sym (away s other) ∙ at));
      there = λ s low. dite (ℕ_discrete s n)
          (λ same. subst IsSome (sym (ap (key_at row) same ∙ here)) some_is)
          (λ other. subst IsSome (sym (away s other)) (are.there s (omega (arith, low, other))));
      first = λ s low has. dite (ℕ_discrete s n)
          (λ same. ap (key_at row) same ∙ here ∙ one (subst (λ (i : ℕ). IsSome (key_at opened i)) same has) ∙ ap (key_at opened) (sym same))
          (λ other. away s other ∙ are.first s (omega (arith, low, other)) has);
      none = λ s low after. away s (λ same. omega (arith, after, same)) ∙ are.none s low (omega (arith, after));
    }

-- what is kept is kept of the vector that the list was closed from
pub kept_of : {T : Type 0} (f : ℕ) (closed : Option (List ℕ)) (mark : List ℕ) (before : KeyRow) (names : List ℕ) (row : KeyRow) (known : List (MemberView T)) (count : ℕ)
    → closed ≡ Some mark → IsKept f closed before names row known count → IsKeptOf f mark before names row known count
kept_of f closed mark before names row known count is kept = subst (λ (c : Option (List ℕ)). IsKept f c before names row known count) is kept

-- the cell of a token at a place that lies there
pub token_cell : {T : Type 0} (f : ℕ) → OnePlace → (segment offset : ℕ) (vector : VectorView T) (placed : PlacedView T) → layout_of vector ≡ f → IsPlacedOf vector placed
    → place_in f segment offset ≡ placed.place → placed.place < segment_end f segment → (placed.key.segment ≡ segment) × (placed.cell.offset ≡ offset)
token_cell f law segment offset vector placed same of here within =
    let long = subst (λ (l : ℕ). IsBlockOf l placed.key.segment placed.key.block) same of.long in let inside = of.cell.within in
    let at = of.place ∙ ap (λ (l : ℕ). place_in l placed.key.segment placed.cell.offset) same in
    law f placed.key.segment segment placed.cell.offset offset (omega (arith, long, inside)) (omega (arith, here, within)) (sym at ∙ sym here)

-- the member at a place of a list
pub member_at : {X : Type 0} (xs : List X) (i : ℕ) → i < length xs → (x : X) × (slice_get xs i ≡ Some x)
member_at [] i near = absurd (omega (arith, near))
member_at (x ∷ xs) zero near = (x, refl)
member_at (x ∷ xs) (suc i) near = member_at xs i (omega (arith, near))

-- past the last member of a list there is none
pub nothing_past : {X : Type 0} (xs : List X) (i : ℕ) → length xs ≤ i → slice_get xs i ≡ None
nothing_past [] i past = refl
nothing_past (x ∷ xs) zero past = absurd (omega (arith, past))
nothing_past (x ∷ xs) (suc i) past = nothing_past xs i (omega (arith, past))

-- the key that a row has for a segment
pub key_there : (key : Option KeyView) → IsSome key → (k : KeyView) × (key ≡ Some k)
key_there None is = absurd (none_is_none {X = KeyView} None (λ i. None) is)
key_there (Some k) is = (k, refl)

-- two lists one behind the other have the members of the first, and then those of the second
pub append_first : {X : Type 0} (xs ys : List X) (i : ℕ) → i < length xs → slice_get (xs ++ ys) i ≡ slice_get xs i
append_first [] ys i near = absurd (omega (arith, near))
append_first (x ∷ xs) ys zero near = refl
append_first (x ∷ xs) ys (suc i) near = append_first xs ys i (omega (arith, near))

pub append_second : {X : Type 0} (xs ys : List X) (i : ℕ) → slice_get (xs ++ ys) (length xs + i) ≡ slice_get ys i
append_second [] ys i = ap (slice_get ys) (let e : 0 + i ≡ i = omega arith in e)
append_second (x ∷ xs) ys i = ap (slice_get (x ∷ xs ++ ys)) (let e : suc (length xs) + i ≡ suc (length xs + i) = omega arith in e) ∙ append_second xs ys i

-- a value that the opened list has at a place is known still, by what was known there
keeps_value : {T : Type 0} (opened : List (MemberView T)) (q : ℕ) (m : MemberView T) (known : Option (MemberView T)) → MatchOption known (length opened ≤ q) (λ k. slice_get opened q ≡ Some k)
    → IfSome known (λ k. KeepsKnown k.value m.value) → (k : MemberView T) → slice_get opened q ≡ Some k → KeepsKnown k.value m.value
keeps_value opened q m None past keeps k at = absurd (let near = within_length opened q k at in omega (arith, near, past))
keeps_value opened q m (Some n) had keeps k at = let both : Some n ≡ Some k = sym had ∙ at in let same : n ≡ k = (let z = both in cc) in subst (λ (u : MemberView _). KeepsKnown u.value m.value) same keeps

module _ {T : Type 0} (old new : BlockView) (offset : ℕ) (opened : List (MemberView T)) (place : ℕ) (row row' : List (MemberView T)) (epoch : Lft) (n : ℕ) (run : AreSettled old new offset opened place row row' epoch n) where
  pub settled_length : length row' ≡ length row + n
  settled_length = ap length run.row ∙ length-append row run.settled ∙ ap (λ (k : ℕ). length row + k) run.all

  pub settled_before : (q : ℕ) → q < length row → slice_get row' q ≡ slice_get row q
  settled_before q low = ap (λ (xs : List (MemberView T)). slice_get xs q) run.row ∙ append_first row run.settled q low

  pub settled_there : (i : ℕ) → slice_get row' (length row + i) ≡ slice_get run.settled i
  settled_there i = ap (λ (xs : List (MemberView T)). slice_get xs (length row + i)) run.row ∙ append_second row run.settled i

  pub settled_broken : AreBrokenIn epoch row → AreBrokenIn epoch row'
  settled_broken all = subst (AreBrokenIn epoch) (sym run.row) (broken_append epoch row run.settled all run.broken)

  last : (m x : MemberView T) (i : ℕ) → i ≡ n → slice_get (run.settled ++ m ∷ []) i ≡ Some x → m ≡ x
  last m x i same got = let both : Some m ≡ Some x = sym (pushed_there run.settled m) ∙ ap (slice_get (run.settled ++ m ∷ [])) (run.all ∙ sym same) ∙ got in let z = both in cc

  earlier : (m x : MemberView T) (i : ℕ) → i ≢ n → slice_get (run.settled ++ m ∷ []) i ≡ Some x → slice_get run.settled i ≡ Some x
  earlier m x i other got = sym (pushed_elsewhere run.settled m i (λ e. other (e ∙ run.all))) ∙ got

  -- the next cell is settled too
  pub settled_more : (newer : BlockView) (known : Option (MemberView T)) (m : MemberView T) (row'' : List (MemberView T)) → row'' ≡ row' ++ m ∷ []
      → MatchOption known (length opened ≤ place + n) (λ k. slice_get opened (place + n) ≡ Some k) → IfSome known (λ k. KeepsKnown k.value m.value)
      → HasValueByStage (cell_at new (offset + n)) m.value → RestagesCell new newer (offset + n) (member_stage (Some m)) → IsMemberAt newer (offset + n) m → m.name ≡ (cell_at new (offset + n)).value_name → IsBrokenIn epoch m → block_len newer ≡ block_len new
      → KeepsOtherCells new newer (offset + n) → AreSettled old newer offset opened place row row'' epoch (n + 1)
  settled_more newer known m row'' pushed had keeps by stages is named broken len others =
      let all : length run.settled ≡ n = run.all in
      record {
        settled = run.settled ++ m ∷ [];
        row = pushed ∙ ap (λ (xs : List (MemberView T)). xs ++ m ∷ []) run.row ∙ append_assoc row run.settled (m ∷ []);
        all = length-append run.settled (m ∷ []) ∙ ap (λ (k : ℕ). k + 1) all;
        len = len ∙ run.len;
        members = λ i x got. dite (ℕ_discrete i n)
            (λ same. subst (λ (u : ℕ × MemberView T). IsMemberAt newer (offset + u.0) u.1) (λ j. (sym same j, last m x i same got j)) is)
            (λ other. kept_at new newer (offset + i) x len (others (offset + i) (λ e. other (omega (arith, e)))) (run.members i x (earlier m x i other got)));
        names = λ i x got. dite (ℕ_discrete i n)
            (λ same. ap (λ (u : MemberView T). u.name) (sym (last m x i same got)) ∙ named ∙ ap (λ c. c.value_name) (run.after (offset + n) (omega arith)) ∙ ap (λ (j : ℕ). (cell_at old (offset + j)).value_name) (sym same))
            (λ other. run.names i x (earlier m x i other got));
        values = λ i k x at got. dite (ℕ_discrete i n)
            (λ same. subst (λ (u : MemberView T). KeepsKnown k.value u.value) (last m x i same got) (keeps_value opened (place + n) m known had keeps k (ap (λ (j : ℕ). slice_get opened (place + j)) (sym same) ∙ at)))
            (λ other. run.values i k x at (earlier m x i other got));
        broken = broken_more epoch run.settled m run.broken broken;
        stages = λ i x got. dite (ℕ_discrete i n)
            (λ same. subst (λ (u : Names × MemberView T). HasValueByStage u.0 u.1.value)
            (λ j. ((run.after (offset + n) (omega arith) ∙ ap (λ (k : ℕ). cell_at old (offset + k)) (sym same)) j, last m x i same got j)) by)
            (λ other. run.stages i x (earlier m x i other got));
        fixed = λ i x got. dite (ℕ_discrete i n)
            (λ same. subst (λ (u : ℕ × MemberView T). RestagesCell old newer (offset + u.0) (member_stage (Some u.1))) (λ j. (sym same j, last m x i same got j))
            (λ s at. stages s (ap stage_in (run.after (offset + n) (omega arith)) ∙ at)))
            (λ other s at. ap stage_in (others (offset + i) (λ e. other (omega (arith, e)))) ∙ run.fixed i x (earlier m x i other got) s at);
        before = λ q low. others q (λ e. omega (arith, e, low)) ∙ run.before q low;
        after = λ q past. others q (λ e. omega (arith, e, past)) ∙ run.after q (omega (arith, past));
      }

module _ {T : Type 0} (f : ℕ) (mark : List ℕ) (before : KeyRow) (names : List ℕ) (row : KeyRow) (known : List (MemberView T)) (count : ℕ) (kept : IsKeptOf f mark before names row known count) where
  -- the name of a member is that of the token of its place
  pub name_of_token : (segment offset : ℕ) (old : KeyView) (vector : VectorView T) (placed : PlacedView T) (m : MemberView T) → segment < 40 → key_at before segment ≡ Some old
      → place_in f segment offset ≡ placed.place → placed.place < segment_end f segment → placed.cell.offset ≡ offset → old.block ≡ placed.key.block → IsPlacedOf vector placed
      → slice_get known placed.place ≡ Some m → m.name ≡ placed.cell.name
  name_of_token segment offset old vector placed m small at here within cell same of is =
      kept.of segment offset old m small at (subst (λ (p : ℕ). p < segment_end f segment) (sym here) within) (ap (slice_get known) here ∙ is)
      ∙ (λ i. (cell_at (same i) (sym cell i)).value_name) ∙ sym of.cell.named

  module _ (segment offset : ℕ) (old key : KeyView) (small : segment < 40) (first : segment < count) (has : key_at before segment ≡ Some old) (has' : key_at row segment ≡ Some key) (here : length known ≡ place_in f segment offset) where
    -- each cell from the next one on is the one that it was, except for its tie
    pub same_cell_still : (i : ℕ) → untied_cell (cell_at key.block (offset + i)) ≡ untied_cell (cell_at old.block (offset + i))
    same_cell_still i = kept.later segment (offset + i) old key small has has' (let e = here in omega (arith, e))

    -- what was known of it is known still
    pub known_there : (opened : List (MemberView T)) (i : ℕ) (m : MemberView T) → AreMembers f before opened → IsBlockOf f segment key.block
        → place_in f segment offset + i < segment_end f segment → slice_get opened (length known + i) ≡ Some m → IsMemberAt key.block (offset + i) m
    known_there opened i m are long inside is =
        let at : length known + i ≡ place_in f segment (offset + i) = (let e = here in omega (arith, e)) in
        let was : IsMemberAt old.block (offset + i) m = are segment (offset + i) old m small has (omega (arith, inside)) (ap (slice_get opened) (sym at) ∙ is) in
        let was_long = kept.long segment old small has in
        untied_at old.block key.block (offset + i) m (omega (arith, long, was_long)) (same_cell_still i) was

    -- the places of the next n cells are members; before these were settled their ties were fixed
    pub kept_settled : (names' : List ℕ) (key' : KeyView) (fixed settled : BlockView) (opened known' : List (MemberView T)) (epoch : Lft) (n : ℕ) → length row ≡ 40
        → place_in f segment offset + n ≤ segment_end f segment → ((j : ℕ) → j ≢ segment → slice_index names' j ≡ slice_index names j)
        → ((q : ℕ) → untied_cell (cell_at fixed q) ≡ untied_cell (cell_at key.block q)) → AreSettled fixed settled offset opened (length known) known known' epoch n
        → key'.block ≡ settled
        → IsKeptOf f mark before names' (slice_set row segment (Some key')) known' count
    kept_settled names' key' fixed settled opened known' epoch n rows inside others fixes run is_block =
        let row' : KeyRow = slice_set row segment (Some key') in
        let is_there : key_at row' segment ≡ Some key' = get_or-set_same row segment (Some key') None (omega (arith, small, rows)) in
        let away : (s : ℕ) → s ≢ segment → key_at row' s ≡ key_at row s = (λ s other. get_or-set_other row segment s (Some key') None other) in
        let more : length known' ≡ length known + n = settled_length fixed settled offset opened (length known) known known' epoch n run in
        record {
          layout = kept.layout;
          named = kept.named;
          long = kept.long;
          there = kept.there;
          of = λ s o k m low at within is. ⊎_elim
              (λ lt. kept.of s o k m low at within (sym (settled_before fixed settled offset opened (length known) known known' epoch n run (place_in f s o) lt) ∙ is))
              (λ ge. let near = within_length known' (place_in f s o) m is in
              let e : place_in f s o ≡ length known + (place_in f s o - length known) = omega (arith, ge) in
              let seg : s ≡ segment = one_segment f s segment (place_in f s o) (record { from = omega arith; before = within }) (record { from = omega (arith, ge, here); before = omega (arith, near, more, here, inside) }) in
              let starts = ap (segment_start f) seg in
              let off : o ≡ offset + (place_in f s o - length known) = omega (arith, e, here, starts) in
              let key_is : Some k ≡ Some old = sym at ∙ ap (key_at before) seg ∙ has in let old_is : k ≡ old = (let z = key_is in cc) in
              let got : slice_get run.settled (place_in f s o - length known) ≡ Some m = sym (settled_there fixed settled offset opened (length known) known known' epoch n run (place_in f s o - length known)) ∙ ap (slice_get known') (sym e) ∙ is in
              run.names (place_in f s o - length known) m got ∙ ap (λ (c : Names). c.value_name) (fixes (offset + (place_in f s o - length known)))
              ∙ ap (λ (c : Names). c.value_name) (same_cell_still (place_in f s o - length known)) ∙ (λ i. (cell_at (sym old_is i).block (sym off i)).value_name))
              (cases_lt (place_in f s o) (length known));
          later = λ s o a b low at at' past. dite (ℕ_discrete s segment)
              (λ same. let new_is : Some b ≡ Some key' = sym at' ∙ ap (key_at row') same ∙ is_there in let b_is : b ≡ key' = (let z = new_is in cc) in
              let old_is : Some a ≡ Some old = sym at ∙ ap (key_at before) same ∙ has in let a_is : a ≡ old = (let z = old_is in cc) in
              let starts = ap (segment_start f) same in
              let far : offset + n ≤ o = omega (arith, starts, past, more, here) in
              ap (λ (u : KeyView). untied_cell (cell_at u.block o)) b_is ∙ ap (λ (u : BlockView). untied_cell (cell_at u o)) is_block ∙ ap untied_cell (run.after o far) ∙ fixes o
              ∙ kept.later segment o old key small has has' (omega (arith, starts, past, more)) ∙ ap (λ (u : KeyView). untied_cell (cell_at u.block o)) (sym a_is))
              (λ other. kept.later s o a b low at (sym (away s other) ∙ at') (omega (arith, past, more)));
          after = λ s low ge. others s (λ same. omega (arith, same, ge, first)) ∙ kept.after s low ge;
        }

some_value : {X : Type 0} (o : Option X) (x : X) → o ≡ Some x → o ≢ None
some_value o x is none = let z = sym none ∙ is in absurd (cc)

-- each value of the opened list that is below the length is a member still, and those of the next n places are
pub values_more : {T : Type 0} (old new : BlockView) (offset : ℕ) (opened known known' : List (MemberView T)) (epoch : Lft) (n : ℕ)
    → AreSettled old new offset opened (length known) known known' epoch n
    → KeepsValuesBelow (length known) (values_in opened) (values_in known) → KeepsValuesBelow (length known + n) (values_in opened) (values_in known')
values_more {T} old new offset opened known known' epoch n run values p x below there =
    let more : length known' ≡ length known + n = settled_length old new offset opened (length known) known known' epoch n run in
    ⊎_elim
    (λ lt. let m = member_at known p lt in let near : p < length known' = omega (arith, lt, more) in
    let was : Some m.0.value ≡ Some (Some x) = sym (value_at known p m.0 m.1) ∙ values p x lt there in
    value_at known' p m.0 (settled_before old new offset opened (length known) known known' epoch n run p lt ∙ m.1) ∙ was)
    (λ ge. let i = p - length known in let at : p ≡ length known + i = omega (arith, ge) in
    let far = within_length (values_in opened) p (Some x) there in let counted = length-map opened (λ (u : MemberView T). u.value) in
    let k = member_at opened p (omega (arith, far, counted)) in let all = run.all in
    let m = member_at run.settled i (omega (arith, all, below, ge)) in
    let had : Some k.0.value ≡ Some (Some x) = sym (value_at opened p k.0 k.1) ∙ there in let is : k.0.value ≡ Some x = (let z = had in cc) in
    value_at known' p m.0 (ap (slice_get known') at ∙ settled_there old new offset opened (length known) known known' epoch n run i ∙ m.1)
    ∙ ap Some (run.values i k.0 m.0 (ap (slice_get opened) (sym at) ∙ k.1) m.1 (some_value k.0.value x is) ∙ is))
    (cases_lt p (length known))

-- what is known of a cell where the opened list has a value is what a token of it says
pub opened_is : {T : Type 0} (block : BlockView) (offset : ℕ) (m : MemberView T) (name : ℕ) (value x : T) → IsMemberAt block offset m → m.value ≡ Some x
    → name ≡ (cell_at block offset).value_name → (m.name ≡ name → m.value ≡ Some value) → value ≡ x
opened_is block offset m name value x known is named agree =
    let same : m.name ≡ (cell_at block offset).value_name = subst (λ v. HasNames (cell_at block offset) v m.name m.epoch) is known.known in
    let both : Some value ≡ Some x = sym (agree (same ∙ sym named)) ∙ is in let z : value ≡ x = (let w = both in cc) in z

module _ {T : Type 0} (f : ℕ) (law : OnePlace) (vector : VectorView T) (placed : PlacedView T) (of : IsPlacedOf vector placed) (closed : Option (List ℕ)) (before : KeyRow) (names : List ℕ) (row : KeyRow) (known : List (MemberView T)) (count : ℕ)
    (is : closed ≡ Some (mark_of vector.segments)) (kept : IsKept f closed before names row known count) (segment offset : ℕ) (old : KeyView) (small : segment < 40) (has : key_at before segment ≡ Some old)
    (here : place_in f segment offset ≡ placed.place) (within : placed.place < segment_end f segment) where
  abbrev the : IsKeptOf f (mark_of vector.segments) before names row known count
  the = kept_of f closed (mark_of vector.segments) before names row known count is kept

  abbrev cell : (placed.key.segment ≡ segment) × (placed.cell.offset ≡ offset)
  cell = token_cell f law segment offset vector placed the.layout of here within

  -- the key of the segment of a token, as it was before, has the name of the token's key
  pub same_name : old.name ≡ placed.key.name
  same_name = sym (the.named segment old small has).named ∙ ap (slice_index vector.segments.names) (sym cell.0) ∙ of.key.named

  -- what is known of the token's place is its value
  pub same_member : (m : MemberView T) → old.block ≡ placed.key.block → slice_get known placed.place ≡ Some m → (m.name ≡ placed.cell.name → m.value ≡ Some placed.cell.value)
      → m.value ≡ Some placed.value
  same_member m same at agree =
      agree (name_of_token f (mark_of vector.segments) before names row known count the segment offset old vector placed m small has here within cell.1 same of at) ∙ ap Some (sym of.value)

pub segment_ends_later : (f k : ℕ) → segment_start f k < segment_end f k
segment_ends_later f zero = pow_pos (0 + f)
segment_ends_later f (suc k) = pow-lt (let e : k + f < suc k + f = omega arith in e)

-- the state in which a vector begins to be closed
pub closing_starts : {T : Type 0} (f : ℕ) (mark names : List ℕ) (opened before again : KeyRow) (row none : List (MemberView T)) (epoch : Lft) (base limit first count size : ℕ)
    → AreWhole f names opened row base limit first → mark ≡ f ∷ names → none ≡ []
    → AreKeys (f ∷ names) before → AreLong f before → HasFirstKeys before count → count ≤ segment_count f
    → ((s : ℕ) → s < count → IsSome (key_at opened s) → key_at before s ≡ key_at opened s) → ((s : ℕ) → s < 40 → count ≤ s → key_at before s ≡ None)
    → ((s : ℕ) → s < 40 → key_at again s ≡ key_at before s) → length again ≡ 40 → size ≤ segment_start f count → base ≤ size → size ≤ limit
    → IsClosing f mark before names again row none epoch 0 limit count size
closing_starts {T} f mark names opened before again row none epoch base limit first count size whole same empty named long there few fits rest twice rows enough later most =
    let gone : (i : ℕ) (m : MemberView T) → slice_get none i ≡ Some m → ⊥ = (λ i m is. let near = within_length none i m is in let no = ap length empty in omega (arith, near, no)) in
    let small = whole.layout.0 in
    record {
      whole = record {
        layout = whole.layout;
        limited = whole.limited;
        within = omega arith;
        all = ap length empty;
        rows = rows;
        few = few;
        inside = omega arith;
        named = λ s k low at. named s k low (sym (twice s low) ∙ at);
        long = λ s k low at. long s k low (sym (twice s low) ∙ at);
        there = λ s low. subst IsSome (sym (twice s (omega (arith, low, few, small)))) (there s low);
        of = λ s o k m low at inside is. absurd (gone (place_in f s o) m is);
      };
      broken = subst (AreBrokenIn epoch) (sym empty) tt;
      kept = record {
        layout = ap layout_in same;
        named = subst (λ (xs : List ℕ). AreKeys xs before) (sym same) named;
        long = long;
        there = there;
        of = λ s o k m low at inside is. absurd (gone (place_in f s o) m is);
        later = λ s o a b low at at' past. let both : Some b ≡ Some a = sym at' ∙ twice s low ∙ at in let one : b ≡ a = (let z = both in cc) in ap (λ (u : KeyView). untied_cell (cell_at u.block o)) one;
        after = λ s low ge. ap (λ (xs : List ℕ). slice_index (names_in xs) s) (sym same);
      };
      first = λ s o k m low at inside is.
          let near = within_length row (place_in f s o) m is in let all = whole.all in let inner = whole.inside in
          let at_first : s < first = segment_below f s (place_in f s o) first (record { from = omega arith; before = inside }) (omega (arith, near, all, inner)) in
          let low' : s < count = ⊎_elim (λ lt. lt) (λ ge. absurd (none_is_none (key_at before s) (rest s low ge) (subst IsSome (sym at) (refl_some k)))) (cases_lt s count) in
          whole.of s o k m low (sym (fits s low' (whole.there s at_first)) ∙ at) inside is;
      inside = subst (λ (n : ℕ). n ≤ size) (sym whole.all) later;
      values = λ p x below is. absurd (omega (arith, below));
      within = omega arith;
      most = most;
      enough = enough;
    }
