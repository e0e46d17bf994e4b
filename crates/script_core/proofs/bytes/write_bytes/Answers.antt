use Rattle.std.proofs.Common.{◌≡◌, ℕ, ◌+◌, ◌-◌, List, ◌++◌, take, drop, length, arith, ap, sym, ◌∙◌, subst, length-drop}
use Rattle.std.proofs.Math.Seq.{take-add}
use Rattle.std.proofs.lemmas.List.{take_all}
use Rattle.std.proofs.KnownBytes.{Appends-trans}
use Rattle.std.specs.Io.KnownBytes.{Appends}
use Rattle.script_core.proofs.bytes.write_bytes.Goals as goal

-- what was written and then the first of the rest are the first of the bytes
written_more : (at n : ℕ) (bytes : List ℕ)
    → take at bytes ++ take n (take (length bytes - at) (drop at bytes)) ≡ take (at + n) bytes
written_more at n bytes =
    ap (λ rest. take at bytes ++ take n rest) (take_all (length bytes - at) (drop at bytes) (omega (arith, length-drop at bytes))) ∙ sym (take-add at n bytes)

pub loop-at-preserved-in-Ok : goal.loop-at-preserved-in-Ok
loop-at-preserved-in-Ok g c = record {
  taken = subst (Appends _ _) (written_more _ _ _) (Appends-trans _ _ _ _ _ c.loop-at.invariant.taken c.in-Ok.ensures.bytes);
  within = omega (arith, c.in-Ok.ensures.bound);
  patience = c.loop-at.invariant.patience;
}
