-- Cells of an owner's list, which are fixed at the stages of their members.
use Rattle.std.proofs.Common.{◌≡◌, ◌≢◌, ℕ, ◌+◌, ◌<◌, ◌≤◌, suc, List, ◌++◌, length, Option, Some, None, refl, sym, ap, ◌∙◌, subst, arith}
use Rattle.std.specs.Prelude.{is_some, if◌then◌else◌, slice_get, slice_set}
use lib.Seq.{get_or-set_same, get_or-set_other}
use mathlib.Core.Logic.{dite}
use native.Mathlib.Decide.{ℕ_discrete}
use Rattle.seg_core.specs.Segment.{segment_start, segment_end, most_segments}
use Rattle.seg_core.proofs.Doubling.{one_segment}
use Rattle.tie_core.specs.Tie.{Tie, Stage, Idle, Filled, Broken, fixed_at}
use Rattle.cell_core.specs.Block.{BlockView, FixesTie, KeepsOtherCells, block_len, cell_at}
use Rattle.cell_core.specs.Fixed.{HasValueByStage, fixed_in, stage_in}
use Rattle.cell_core.specs.Member.{MemberView}
use Rattle.table_core.specs.Table.{KeyView, IsBlockOf}
use Rattle.grow_core.specs.Keys.{KeyRow, key_at}
use Rattle.grow_core.specs.Token.{place_in}
use Rattle.grow_core.specs.Parts.{AreLong, AreStaged, RestagesCell, member_stage}
use Rattle.grow_core.proofs.Places.{starts_le}
use Rattle.grow_core.proofs.Settled.{append_first, nothing_past}

-- a tie that is fixed at a stage, and then at another
fixed_again : (τ : Option Tie) (s t : Stage) → fixed_in τ ≡ Some t → fixed_in (fixed_at τ s) ≡ Some s
fixed_again None s t at = absurd (let z : None ≡ Some t = at in cc)
fixed_again (Some u) s t at = refl

-- a cell that was fixed at a stage is fixed at another one
pub restaged : (old new : BlockView) (offset : ℕ) (s : Stage) → FixesTie old new offset s → RestagesCell old new offset s
restaged old new offset s fixes t at = ap fixed_in fixes ∙ fixed_again (cell_at old offset).tied s t at

-- the stage of a member, by its value
abbrev by_value : {T : Type 0} → Option T → Stage
by_value v = if is_some v then Filled else Broken

filled_member : {T : Type 0} (m : MemberView T) (x : T) → m.value ≡ Some x → member_stage (Some m) ≡ Filled
filled_member {T} m x is = ap (λ (v : Option T). by_value v) is

broken_member : {T : Type 0} (m : MemberView T) → m.value ≡ None → member_stage (Some m) ≡ Broken
broken_member {T} m is = ap (λ (v : Option T). by_value v) is

-- it is filled, or broken
pub restaged_value : {T : Type 0} (old new : BlockView) (offset : ℕ) (m : MemberView T) (x : T) → FixesTie old new offset Filled → m.value ≡ Some x
    → RestagesCell old new offset (member_stage (Some m))
restaged_value old new offset m x fixes is = subst (RestagesCell old new offset) (sym (filled_member m x is)) (restaged old new offset Filled fixes)

pub restaged_broken : {T : Type 0} (old new : BlockView) (offset : ℕ) (m : MemberView T) → FixesTie old new offset Broken → m.value ≡ None
    → RestagesCell old new offset (member_stage (Some m))
restaged_broken old new offset m fixes is = subst (RestagesCell old new offset) (sym (broken_member m is)) (restaged old new offset Broken fixes)

-- it is settled: a cell with a value stays
some_is_not : {X : Type 0} (x : X) → Some x ≢ None
some_is_not x e = cc

settled_by : {T : Type 0} (old new : BlockView) (offset : ℕ) (v : Option T) → (v ≢ None → new ≡ old) → (v ≡ None → FixesTie old new offset Broken)
    → HasValueByStage (cell_at old offset) v → RestagesCell old new offset (by_value v)
settled_by old new offset None same fixes by = restaged old new offset Broken (fixes refl)
settled_by old new offset (Some x) same fixes by = λ t at.
    ap (λ (b : BlockView). stage_in (cell_at b offset)) (same (some_is_not x)) ∙ (at ∙ ap (λ (s : Stage). Some s) ((by t at).0 (some_is_not x)))

pub restaged_settled : {T : Type 0} (old new : BlockView) (offset : ℕ) (m : MemberView T) → (m.value ≢ None → new ≡ old) → (m.value ≡ None → FixesTie old new offset Broken)
    → HasValueByStage (cell_at old offset) m.value → RestagesCell old new offset (member_stage (Some m))
restaged_settled old new offset m same fixes by = settled_by old new offset m.value same fixes by

-- a cell with a value that is at the stage of a filled cell is so
filled_by : {T : Type 0} (v : Option T) → v ≢ None → by_value v ≡ Filled
filled_by None some = absurd (some refl)
filled_by (Some x) some = refl

pub staged_filled : {T : Type 0} (m : MemberView T) → m.value ≢ None → member_stage (Some m) ≡ Filled
staged_filled m some = filled_by m.value some

-- where no member is, a cell is idle
pub idle_stage : {T : Type 0} (known : List (MemberView T)) (place : ℕ) → length known ≤ place → member_stage (slice_get known place) ≡ Idle
idle_stage {T} known place past = ap (λ (m : Option (MemberView T)). member_stage m) (nothing_past known place past)

-- the place of a cell is one of its segment
within : (f s o : ℕ) (block : BlockView) → IsBlockOf f s block → o < block_len block → place_in f s o < segment_end f s
within f s o block long near = omega (arith, long, near)

-- one cell was written, its block has another key, and the place has another member
pub staged_written : {T : Type 0} (f : ℕ) (row : KeyRow) (known known' : List (MemberView T)) (count segment offset : ℕ) (key key' : KeyView) (block : BlockView)
    → AreStaged f row known count → AreLong f row → count ≤ most_segments → segment < count → segment < length row → offset < block_len key.block → key_at row segment ≡ Some key → key'.block ≡ block
    → block_len block ≡ block_len key.block → KeepsOtherCells key.block block offset
    → stage_in (cell_at block offset) ≡ Some (member_stage (slice_get known' (place_in f segment offset)))
    → ((q : ℕ) → q ≢ place_in f segment offset → slice_get known' q ≡ slice_get known q)
    → AreStaged f (slice_set row segment (Some key')) known' count
staged_written {T} f row known known' count segment offset key key' block are long most first near inner has is_block len others here elsewhere s o k low at inside =
    let row' : KeyRow = slice_set row segment (Some key') in
    let there : key_at row' segment ≡ Some key' = get_or-set_same row segment (Some key') None near in
    let by : ℕ → ℕ → Option (MemberView T) = λ x y. slice_get known' (place_in f x y) in
    dite (ℕ_discrete s segment)
    (λ same.
    let both : Some k ≡ Some key' = sym at ∙ (ap (key_at row') same ∙ there) in let picks : k ≡ key' = (let z = both in cc) in
    let is : k.block ≡ block = ap (λ (u : KeyView). u.block) picks ∙ is_block in
    let less : o < block_len key.block = (let e = ap block_len is in omega (arith, inside, e, len)) in
    let starts = ap (segment_start f) same in
    dite (ℕ_discrete o offset)
    (λ one. ap (λ (b : BlockView). stage_in (cell_at b o)) is ∙ (ap (λ (q : ℕ). stage_in (cell_at block q)) one ∙ (here ∙ ap (λ (m : Option (MemberView T)). Some (member_stage m)) (λ i. by (sym same i) (sym one i)))))
    (λ other. ap (λ (b : BlockView). stage_in (cell_at b o)) is ∙ (ap stage_in (others o other) ∙ (are segment o key first has less
    ∙ ap (λ (m : Option (MemberView T)). Some (member_stage m)) (ap (λ (x : ℕ). slice_get known (place_in f x o)) (sym same) ∙ sym (elsewhere (place_in f s o) (λ e. other (omega (arith, e, starts)))))))))
    (λ other.
    let was : key_at row s ≡ Some k = sym (get_or-set_other row segment s (Some key') None other) ∙ at in
    let away : place_in f s o ≢ place_in f segment offset = (λ e.
    let mine = within f s o k.block (long s k (omega (arith, low, most)) was) inside in
    let its = within f segment offset key.block (long segment key (omega (arith, first, most)) has) inner in
    other (one_segment f s segment (place_in f s o) (record { from = omega arith; before = mine }) (record { from = omega (arith, e); before = omega (arith, e, its) }))) in
    are s o k low was inside ∙ ap (λ (m : Option (MemberView T)). Some (member_stage m)) (sym (elsewhere (place_in f s o) away)))

-- a further segment was laid, which has no member
pub staged_grown : {T : Type 0} (f : ℕ) (row : KeyRow) (known : List (MemberView T)) (count : ℕ) (key : KeyView)
    → AreStaged f row known count → length known ≤ segment_start f count → count < length row → ((o : ℕ) → o < block_len key.block → stage_in (cell_at key.block o) ≡ Some Idle)
    → AreStaged f (slice_set row count (Some key)) known (count + 1)
staged_grown {T} f row known count key are past near idle s o k low at inside =
    let row' : KeyRow = slice_set row count (Some key) in
    let there : key_at row' count ≡ Some key = get_or-set_same row count (Some key) None near in
    dite (ℕ_discrete s count)
    (λ same.
    let both : Some k ≡ Some key = sym at ∙ (ap (key_at row') same ∙ there) in let picks : k ≡ key = (let z = both in cc) in
    let starts = ap (segment_start f) same in
    ap (λ (u : KeyView). stage_in (cell_at u.block o)) picks ∙ (idle o (let e = ap (λ (u : KeyView). block_len u.block) picks in omega (arith, inside, e))
    ∙ ap (λ (t : Stage). Some t) (sym (idle_stage known (place_in f s o) (omega (arith, past, starts))))))
    (λ other. are s o k (omega (arith, low, other)) (sym (get_or-set_other row count s (Some key) None other) ∙ at) inside)

-- the segments from one on were given up, and the members there, which are the last ones
pub staged_fewer : {T : Type 0} (f : ℕ) (row : KeyRow) (known known' popped : List (MemberView T)) (count segment : ℕ)
    → AreStaged f row known count → AreLong f row → count ≤ most_segments → segment ≤ count → known ≡ known' ++ popped → segment_start f segment ≤ length known'
    → AreStaged f (slice_set row segment None) known' segment
staged_fewer {T} f row known known' popped count segment are long most few is past s o k low at inside =
    let was : key_at row s ≡ Some k = sym (get_or-set_other row segment s None None (λ e. omega (arith, e, low))) ∙ at in
    let mine = within f s o k.block (long s k (omega (arith, low, few, most)) was) inside in
    let ends = starts_le f (suc s) segment (omega (arith, low)) in
    are s o k (omega (arith, low, few)) was inside
    ∙ ap (λ (m : Option (MemberView T)). Some (member_stage m)) (ap (λ (xs : List (MemberView T)). slice_get xs (place_in f s o)) is ∙ append_first known' popped (place_in f s o) (omega (arith, mine, ends, past)))

-- the last segments were given up, where no member was
pub staged_less : {T : Type 0} (f : ℕ) (row : KeyRow) (known : List (MemberView T)) (count n : ℕ) → AreStaged f row known count → n ≤ count
    → AreStaged f (slice_set row n None) known n
staged_less f row known count n are few s o k low at inside =
    are s o k (omega (arith, low, few)) (sym (get_or-set_other row n s None None (λ e. omega (arith, e, low))) ∙ at) inside

-- the next segment is closed: each of its cells is at the stage of its member, and the members before it are as they were
pub staged_next : {T : Type 0} (f : ℕ) (row : KeyRow) (known known' : List (MemberView T)) (next : ℕ) (key : KeyView)
    → AreStaged f row known next → AreLong f row → next < most_segments → length row ≡ most_segments
    → ((q : ℕ) → q < segment_start f next → slice_get known' q ≡ slice_get known q)
    → ((o : ℕ) → o < block_len key.block → stage_in (cell_at key.block o) ≡ Some (member_stage (slice_get known' (place_in f next o))))
    → AreStaged f (slice_set row next (Some key)) known' (next + 1)
staged_next {T} f row known known' next key are long most rows before here s o k low at inside =
    let row' : KeyRow = slice_set row next (Some key) in
    let there : key_at row' next ≡ Some key = get_or-set_same row next (Some key) None (omega (arith, most, rows)) in
    dite (ℕ_discrete s next)
    (λ same.
    let both : Some k ≡ Some key = sym at ∙ (ap (key_at row') same ∙ there) in let picks : k ≡ key = (let z = both in cc) in
    ap (λ (u : KeyView). stage_in (cell_at u.block o)) picks ∙ (here o (let e = ap (λ (u : KeyView). block_len u.block) picks in omega (arith, inside, e))
    ∙ ap (λ (x : ℕ). Some (member_stage (slice_get known' (place_in f x o)))) (sym same)))
    (λ other.
    let was : key_at row s ≡ Some k = sym (get_or-set_other row next s (Some key) None other) ∙ at in
    let mine = within f s o k.block (long s k (omega (arith, low, most)) was) inside in
    let ends = starts_le f (suc s) next (omega (arith, low, other)) in
    are s o k (omega (arith, low, other)) was inside ∙ ap (λ (m : Option (MemberView T)). Some (member_stage m)) (sym (before (place_in f s o) (omega (arith, mine, ends)))))
