use Rattle.std.proofs.Common.{◌≡◌, ℕ, List, length, take}
use Rattle.std.specs.List.{FoldsTo}
use Rattle.grow_core.specs.Token.{PlacedView}
use Rattle.grow_core.specs.Grown.{AreTokensOf}
use Rattle.grow_core.specs.Stretch.{IsStretchOf}
use Rattle.grow_core.proofs.vector.Shared.keep_tokens.Given as goal

abbrev pub invariant-loop-i : goal.invariant-loop-i
invariant-loop-i g l =
    ((from : ℕ) → (values : List g.row.T.Denot) → IsStretchOf l.self from values l.stretch
    → (tokens : List (PlacedView g.row.T.Denot)) × AreTokensOf l.self from (take l.i values) tokens × (length tokens ≡ l.i)
    × FoldsTo (λ k token next. goal.K-step g k token tt next) l.fn.keep tokens l.keep)
    × goal.K-IsAlwaysCallable g l.keep
