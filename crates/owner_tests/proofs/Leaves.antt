-- The leaves of a span tile it.
use Rattle.std.proofs.Common.{◌≡◌, ℕ, List, [], ◌∷◌, ◌++◌, subst, sym, refl}
use Rattle.span_core.specs.Span.{Interval, AreLeaves, middle_of, lower_half, upper_half}
use Rattle.span_core.specs.Span.AreLeaves.{itself, halves}

-- each begins where the one before it ends
abbrev pub Tiles : ℕ → ℕ → List Interval → Type 0
Tiles from to [] = from ≡ to
Tiles from to (leaf ∷ leaves) = (leaf.from ≡ from) × Tiles leaf.to to leaves

tiles-append : (from middle to : ℕ) (xs ys : List Interval) → Tiles from middle xs → Tiles middle to ys → Tiles from to (xs ++ ys)
tiles-append from middle to [] ys p q = let M : ℕ → Type 0 = λ n. Tiles n to ys in subst M (sym p) q
tiles-append from middle to (x ∷ xs) ys p q = (p.0, tiles-append x.to middle to xs ys p.1 q)

pub leaves-tile : (span : Interval) (leaves : List Interval) → AreLeaves span leaves → Tiles span.from span.to leaves
leaves-tile s xs (itself span small) = (refl, refl)
leaves-tile s xs (halves span lower upper cut p q) =
    tiles-append span.from (middle_of span) span.to lower upper (leaves-tile (lower_half span) lower p) (leaves-tile (upper_half span) upper q)
