use Rattle.std.proofs.Common.{ℕ, ◌≡◌, ◌<◌, length, List, Option}
use Rattle.memory_tests.proofs.KeyRows.{HasKey}
use Rattle.memory_tests.proofs.claim.keys.put_keys.Given as goal

-- the entries below b have what both had
pub record Put {K : Type 0} (old other now : List (Option K)) (b : ℕ) : Type 0 where
  pub long : length now ≡ 32
  pub kept : (c : ℕ) → HasKey old c → HasKey now c
  pub put : (c : ℕ) → c < b → HasKey other c → HasKey now c

abbrev pub invariant-loop-b : goal.invariant-loop-b
invariant-loop-b l = Put l.initial.row l.other l.row l.b
