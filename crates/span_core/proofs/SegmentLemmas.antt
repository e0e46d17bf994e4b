-- The next place of a worker is its own.
use Rattle.std.proofs.Common.{◌≡◌, ℕ, ◌+◌, ◌*◌, ◌/◌, ◌%◌, ◌<◌, ◌≤◌, ap, ◌∙◌, arith}
use Rattle.std.proofs.Math.Nat.{add-mod_right}
use mathlib.Core.Logic.{dite}
use native.Mathlib.Decide.{ℕ_discrete}
use Rattle.span_core.specs.Segments.{IsOfWorker, IsNextPlace}

pub next_is_own : (workers worker from past place : ℕ) → 0 < workers → IsOfWorker workers worker from → from < past
    → past ≤ from / 4096 * 4096 + 4096 → IsNextPlace workers past place → IsOfWorker workers worker place
next_is_own workers worker from past place more own after within next =
    dite (ℕ_discrete (past % 4096) 0)
    (λ ends.
    let is = next.1 ends in
    let same : place / 4096 ≡ from / 4096 + workers = omega arith in
    ap (λ q. q % workers) same ∙ (add-mod_right (from / 4096) workers ∙ own))
    (λ inside.
    let is = next.0 inside in
    let same : place / 4096 ≡ from / 4096 = omega arith in
    ap (λ q. q % workers) same ∙ own)
