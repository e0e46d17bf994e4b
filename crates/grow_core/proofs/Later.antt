-- Facts that a hand learns hold of it as it was before, when it had seen less.
use Rattle.std.proofs.Common.{◌≡◌, ℕ, ◌+◌, ◌<◌, ◌≤◌, List, [], ◌∷◌, ◌++◌, Result, Ok, Err, IfOk, length, refl, sym, ap, ◌∙◌, subst, arith, append_assoc}
use Rattle.std.specs.List.{sum}
use Rattle.std.proofs.lemmas.List.{append-nil}
use Rattle.std.proofs.lemmas.List.Sums.{sum_by-append}
use mathlib.Core.List.{IsPrefix}
use Rattle.claim_core.specs.declared.run.Run.{Run}
use Rattle.claim_core.specs.Word.{WordView}
use Rattle.claim_core.specs.Hand.{HandView, KeepsOwn, AddsRun, OwnsRun, SeesSize, IsWholeHand, seen_size, single}
use Rattle.grow_core.specs.declared.errors.GrowError.{GrowError}
use Rattle.grow_core.specs.declared.errors.GrowError.TheVariants.{NoMemory, Full, Moved, Refused, Taken}
use Rattle.grow_core.specs.Vector.{VectorView, SeesMore}
use Rattle.grow_core.specs.Token.{PlacedView}
use Rattle.grow_core.specs.Grown.{GrownView, IsGrownOf, values_of}
use Rattle.grow_core.specs.Growth.{WonPlace, WonRun, Refuses, IsDue, Leaves, HasRoom, LacksMemory}

-- a hand sees what it sees
pub more_self : (a : HandView) → SeesMore a a
more_self a = record { seen = ([], append-nil a.seen); own = record { of = refl; mine = refl; shares = refl } }

-- what a hand has seen is a size that it sees
pub sees_self : (a : HandView) (size : ℕ) → size ≡ seen_size a → seen_size a ≤ a.of.limit → SeesSize a a size
sees_self a size is within = record { seen = (more_self a).seen; ends = sym is; within = omega arith; own = (more_self a).own }

-- a size that is learned is more that is seen
pub more_of_size : (a b : HandView) (size : ℕ) → SeesSize a b size → SeesMore a b
more_of_size a b size s = record { seen = s.seen; own = s.own }

keeps_after : (a b c : HandView) → KeepsOwn a b → KeepsOwn b c → KeepsOwn a c
keeps_after a b c p q = record { of = q.of ∙ p.of; mine = q.mine ∙ p.mine; shares = q.shares ∙ p.shares }

prefix_after : (xs ys zs : List ℕ) → IsPrefix xs ys → IsPrefix ys zs → IsPrefix xs zs
prefix_after xs ys zs p q = (p.0 ++ q.0, sym (append_assoc xs p.0 q.0) ∙ (ap (λ w. w ++ q.0) p.1 ∙ q.1))

pub more_after : (a b c : HandView) → SeesMore a b → SeesMore b c → SeesMore a c
more_after a b c p q = record { seen = prefix_after a.seen b.seen c.seen p.seen q.seen; own = keeps_after a b c p.own q.own }

pub size_after : (a b c : HandView) (size : ℕ) → SeesMore a b → SeesSize b c size → SeesSize a c size
size_after a b c size p q = record {
  seen = prefix_after a.seen b.seen c.seen p.seen q.seen;
  ends = q.ends;
  within = subst (λ w. size ≤ w.limit) p.own.of q.within;
  own = keeps_after a b c p.own q.own;
}

pub adds_after : (a b c : HandView) (run : Run) → SeesMore a b → AddsRun b c run → AddsRun a c run
adds_after a b c run p q =
    let same : b.seen ++ q.between ≡ a.seen ++ (p.seen.0 ++ q.between) = ap (λ w. w ++ q.between) (sym p.seen.1) ∙ append_assoc a.seen p.seen.0 q.between in record {
      between = p.seen.0 ++ q.between;
      begins = q.begins ∙ (ap (λ w. w.base + sum (b.seen ++ q.between)) p.own.of ∙ ap (λ xs. a.of.base + sum xs) same);
      positive = q.positive;
      within = subst (λ w. run.from + run.n ≤ w.limit) p.own.of q.within;
      seen = q.seen ∙ ap (λ xs. xs ++ run.n ∷ []) same;
      ends = q.ends;
      mine = q.mine ∙ (ap (λ xs. length xs ∷ b.mine) same ∙ ap (λ m. length (a.seen ++ (p.seen.0 ++ q.between)) ∷ m) p.own.mine);
      shares = q.shares ∙ p.own.shares;
      of = q.of ∙ p.own.of;
    }

-- a hand that has seen more has seen no smaller size
pub size_grows : (a b : HandView) → SeesMore a b → seen_size a ≤ seen_size b
size_grows a b p =
    let longer : sum b.seen ≡ sum a.seen + sum p.seen.0 = ap sum (sym p.seen.1) ∙ sum_by-append (λ x. x) a.seen p.seen.0 in
    let base : b.of.base ≡ a.of.base = ap (λ (w : WordView). w.base) p.own.of in
    omega (arith, longer, base)

-- a refusal that is due by what a hand has seen is due by less
due_after : {T V E : Type 0} (vector : VectorView T) (n : ℕ) (a b : HandView) (e : GrowError T V E)
    → SeesMore a b → (IsWholeHand a → seen_size b ≡ seen_size a) → IsDue vector n b e → IsDue vector n a e
due_after vector n a b (NoMemory back) p still due = let below = size_grows a b p in omega (arith, below, due)
due_after vector n a b (Full size back) p still due = due
due_after vector n a b (Moved size back) p still due = let below = size_grows a b p in
    record { further = omega (arith, below, due.further); room = due.room; others = λ whole. due.others (p.own.shares ∙ whole) }
due_after vector n a b (Refused run made cause) p still due = tt
due_after vector n a b (Taken place found) p still due = due

-- what a hand with all shares has seen is all that there is
alone_after : (a b : HandView) → SeesMore a b → (IsWholeHand a → seen_size b ≡ seen_size a) → (place : ℕ)
    → (IsWholeHand b → place ≡ seen_size b) → IsWholeHand a → place ≡ seen_size a
alone_after a b more still place alone whole = alone (more.own.shares ∙ whole) ∙ still whole

-- what a refusal leaves of a hand, it leaves of one that had seen less
pub leaves_after : {T V E : Type 0} (vector : VectorView T) (n : ℕ) (a b c : HandView) (e : GrowError T V E)
    → SeesMore a b → (IsWholeHand a → seen_size b ≡ seen_size a) → Leaves vector n b c e → Leaves vector n a c e
leaves_after vector n a b c (NoMemory back) p still l = record { more = more_after a b c p l.more; room = l.room }
leaves_after vector n a b c (Full size back) p still l = size_after a b c size p l
leaves_after vector n a b c (Moved size back) p still l = size_after a b c size p l
leaves_after vector n a b c (Refused run made cause) p still l = let below = size_grows a b p in record {
  claimed = adds_after a b c run p l.claimed;
  all = l.all;
  not_below = omega (arith, below, l.not_below);
  alone = alone_after a b p still run.from l.alone;
  first = l.first;
  fewer = l.fewer;
  tokens = l.tokens;
}
leaves_after vector n a b c (Taken place found) p still l = l

-- what a refused growth leaves of a hand, it leaves of one that had seen less, if its refusal was due then
pub refuses_after : {T V E : Type 0} (vector : VectorView T) (n : ℕ) (given : V) (a b c : HandView) (e : GrowError T V E)
    → SeesMore a b → (IsWholeHand a → seen_size b ≡ seen_size a) → Refuses vector n given b c e → Refuses vector n given a c e
refuses_after vector n given a b c e more still r = record {
  some_places = r.some_places;
  due = due_after vector n a b e more still r.due;
  left = leaves_after vector n a b c e more still r.left;
  back = r.back;
}

module _ {T : Type 0} (vector : VectorView T) (a b c : HandView) (more : SeesMore a b) (still : IsWholeHand a → seen_size b ≡ seen_size a) where
  -- a push won, and so it did by the hand as it was
  pub won_place_after : (given : T) (placed : PlacedView T) → WonPlace vector given b c placed → WonPlace vector given a c placed
  won_place_after given placed won = let below = size_grows a b more in record {
    run = adds_after a b c (single placed.place) more won.run;
    owned = won.owned;
    not_below = omega (arith, below, won.not_below);
    alone = alone_after a b more still placed.place won.alone;
    token = won.token;
    value = won.value;
  }

  -- the same of all that a push may return
  pub won_places_after : {E : Type 0} (given : T) (result : Result (PlacedView T) E) → IfOk result (WonPlace vector given b c)
      → IfOk result (WonPlace vector given a c)
  won_places_after given (Ok placed) won = won_place_after given placed won
  won_places_after given (Err e) won = tt

  -- so of a growth
  pub won_run_after : (given : List T) (grown : GrownView T) → WonRun vector given b c grown → WonRun vector given a c grown
  won_run_after given grown won = let below = size_grows a b more in record {
    n = won.n;
    run = record {
      claimed = λ some. adds_after a b c grown.run more (won.run.claimed some);
      empty = λ none. size_after a b c grown.run.from more (won.run.empty none);
    };
    owned = won.owned;
    not_below = omega (arith, below, won.not_below);
    alone = alone_after a b more still grown.run.from won.alone;
    tokens = won.tokens;
    values = won.values;
  }

-- a run that was claimed after a look at the size, and then filled, is a growth that won
pub won_run_of : {T : Type 0} (vector : VectorView T) (given : List T) (a b c : HandView) (run : Run) (grown : GrownView T)
    → SeesSize a b run.from → seen_size a ≤ run.from → (IsWholeHand a → run.from ≡ seen_size a)
    → run.n ≡ length given → 0 < run.n → AddsRun b c run → OwnsRun c run
    → grown.run ≡ run → IsGrownOf vector grown → values_of grown ≡ given → WonRun vector given a c grown
won_run_of vector given a b c run grown sees below alone n some adds owned is tokens values =
    let same_n : grown.run.n ≡ run.n = ap (λ (r : Run). r.n) is in
    let same_from : grown.run.from ≡ run.from = ap (λ (r : Run). r.from) is in record {
      n = same_n ∙ n;
      run = record {
        claimed = λ _. subst (λ r. AddsRun a c r) (sym is) (adds_after a b c run (more_of_size a b run.from sees) adds);
        empty = λ none. absurd (omega (arith, same_n, some));
      };
      owned = λ _. subst (λ r. OwnsRun c r) (sym is) owned;
      not_below = omega (arith, same_from, below);
      alone = λ whole. same_from ∙ alone whole;
      tokens = tokens;
      values = values;
    }

-- a hand that has seen the same
prefix_same : (xs ys : List ℕ) → ys ≡ xs → IsPrefix xs ys
prefix_same xs ys same = subst (λ (l : List ℕ). IsPrefix xs l) (sym same) ([], append-nil xs)

pub more_of_same : (a b : HandView) → KeepsOwn a b → b.seen ≡ a.seen → SeesMore a b
more_of_same a b own seen = record { seen = prefix_same a.seen b.seen seen; own = own }

pub size_of_same : (a b : HandView) → KeepsOwn a b → b.seen ≡ a.seen → seen_size b ≡ seen_size a
size_of_same a b own seen = ap (λ (w : WordView). w.base + sum b.seen) own.of ∙ ap (λ (l : List ℕ). a.of.base + sum l) seen

-- a growth that finds no memory leaves a hand that has seen the same
pub refuses_memory : {T V E : Type 0} (vector : VectorView T) (n : ℕ) (given : V) (a b : HandView) → 0 < n → KeepsOwn a b
    → b.seen ≡ a.seen → HasRoom vector n a → Refuses {E = E} vector n given a b (NoMemory given)
refuses_memory vector n given a b some_places own seen room =
    let same = size_of_same a b own seen in
    let still : LacksMemory vector n a b = record { more = more_of_same a b own seen; room = omega (arith, same, room) } in
    record { some_places = some_places; due = room; left = still; back = refl }
