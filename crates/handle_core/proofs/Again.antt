-- A push that is tried again, by a hand that has seen more meanwhile.
use Rattle.std.proofs.Common.{◌≡◌, ℕ, ◌+◌, ◌≤◌, List, [], ◌∷◌, ◌++◌, length, refl, sym, ap, ◌∙◌, subst, arith, append_assoc}
use Rattle.std.specs.List.{sum}
use Rattle.std.proofs.lemmas.List.{append-nil}
use Rattle.std.proofs.lemmas.List.Sums.{sum_by-append}
use mathlib.Core.List.{IsPrefix}
use Rattle.claim_core.specs.declared.run.Run.{Run}
use Rattle.claim_core.specs.Word.{WordView}
use Rattle.claim_core.specs.Hand.{HandView, KeepsOwn, AddsRun, IsWholeHand, seen_size, single}
use Rattle.grow_core.specs.declared.errors.GrowError.TheVariants as grow
use Rattle.grow_core.specs.Vector.{VectorView, SeesMore, IsPlacedOf}
use Rattle.grow_core.specs.Growth.{Refuses}
use Rattle.caller_core.specs.Caller.{CallerView, KeepsCaller, Pushes}

-- what is known of a hand that was overtaken: it may have seen more since, but not if it has all shares
pub record IsTrying (old now : HandView) : Type 0 where
  pub more : SeesMore old now
  pub still : IsWholeHand old → now ≡ old

prefix_after : (xs ys zs : List ℕ) → IsPrefix xs ys → IsPrefix ys zs → IsPrefix xs zs
prefix_after xs ys zs p q =
    (p.0 ++ q.0, sym (append_assoc xs p.0 q.0) ∙ (ap (λ w. w ++ q.0) p.1 ∙ q.1))

keeps_after : (a b c : HandView) → KeepsOwn a b → KeepsOwn b c → KeepsOwn a c
keeps_after a b c p q = record { of = q.of ∙ p.of; mine = q.mine ∙ p.mine; shares = q.shares ∙ p.shares }

-- before the first try
pub trying_self : (a : HandView) → IsTrying a a
trying_self a = record {
  more = record { seen = ([], append-nil a.seen); own = record { of = refl; mine = refl; shares = refl } };
  still = λ _. refl;
}

-- after one more
pub trying_more : {T V E : Type 0} (vector : VectorView T) (n : ℕ) (given : V) (a b c : HandView) (size : ℕ) (back : V)
    → IsTrying a b → Refuses {E = E} vector n given b c (grow.Moved size back) → IsTrying a c
trying_more vector n given a b c size back p q = record {
  more = record {
    seen = prefix_after a.seen b.seen c.seen p.more.seen q.left.seen;
    own = keeps_after a b c p.more.own q.left.own;
  };
  still = λ whole. absurd (q.due.others (p.more.own.shares ∙ whole));
}

-- the caller keeps its vector and its shares over several tries
pub keeps_twice : {T : Type 0} (a b c : CallerView T) → KeepsCaller a b → KeepsCaller b c → KeepsCaller a c
keeps_twice a b c p q = record { vector = q.vector ∙ p.vector; shares = q.shares ∙ p.shares }

adds_after : (a b c : HandView) (run : Run) → SeesMore a b → AddsRun b c run → AddsRun a c run
adds_after a b c run p q =
    let same : b.seen ++ q.between ≡ a.seen ++ (p.seen.0 ++ q.between) =
    ap (λ w. w ++ q.between) (sym p.seen.1) ∙ append_assoc a.seen p.seen.0 q.between in record {
      between = p.seen.0 ++ q.between;
      begins = q.begins ∙ (ap (λ w. w.base + sum (b.seen ++ q.between)) p.own.of ∙ ap (λ xs. a.of.base + sum xs) same);
      positive = q.positive;
      within = subst (λ w. run.from + run.n ≤ w.limit) p.own.of q.within;
      seen = q.seen ∙ ap (λ xs. xs ++ run.n ∷ []) same;
      ends = q.ends;
      mine = q.mine ∙ (ap (λ xs. length xs ∷ b.mine) same ∙ ap (λ m. length (a.seen ++ (p.seen.0 ++ q.between)) ∷ m) p.own.mine);
      shares = q.shares ∙ p.own.shares;
      of = q.of ∙ p.own.of;
    }

size_grows : (a b : HandView) → SeesMore a b → seen_size a ≤ seen_size b
size_grows a b p =
    let longer : sum b.seen ≡ sum a.seen + sum p.seen.0 = ap sum (sym p.seen.1) ∙ sum_by-append (λ x. x) a.seen p.seen.0 in
    let base : b.of.base ≡ a.of.base = ap (λ (w : WordView). w.base) p.own.of in
    omega (arith, longer, base)

-- a push that won after several tries is one of the caller as it was before the first
pub pushes_after : {T : Type 0} (value : T) (a b c : CallerView T) (place : ℕ) → KeepsCaller a b → IsTrying a.hand b.hand
    → Pushes value b c place → Pushes value a c place
pushes_after value a b c place kept trying p =
    let below = size_grows a.hand b.hand trying.more in
    record {
      token = p.token;
      last = p.last;
      here = p.here;
      won = record {
        run = adds_after a.hand b.hand c.hand (single p.token.place) trying.more p.won.run;
        owned = p.won.owned;
        not_below = omega (arith, below, p.won.not_below);
        alone = λ whole. p.won.alone (trying.more.own.shares ∙ whole) ∙ ap seen_size (trying.still whole);
        token = subst (λ v. IsPlacedOf v p.token) kept.vector p.won.token;
        value = p.won.value;
      };
    }

-- what a push is proved by that may be tried again
pub ruleset trying = (trying_self, trying_more, keeps_twice, pushes_after)
