-- The values that a maker has made so far.
use Rattle.std.proofs.Common.{suc, ◌≡◌, ℕ, ◌+◌, ◌<◌, List, [], ◌∷◌, ◌++◌, length, length-append, replicate, Result, Ok, Err, IfOk, refl, sym, ap, ◌∙◌, subst, arith}
use Rattle.std.specs.Prelude.{IfErr}
use Rattle.std.specs.List.{All}
use Rattle.std.proofs.lemmas.List.Elements.{All-push}
use Rattle.std.proofs.lemmas.Fn.{FoldsTo-push, chained_keeps}
use Rattle.claim_core.specs.declared.run.Run.{Run}
use Rattle.claim_core.specs.Hand.{HandView}
use Rattle.grow_core.specs.declared.errors.GrowError.{GrowError}
use Rattle.grow_core.specs.declared.errors.GrowError.TheVariants.{NoMemory, Full, Moved, Refused, Taken}
use Rattle.grow_core.specs.Vector.{VectorView}
use Rattle.grow_core.specs.Grown.{GrownView, IsGrownOf, values_of}
use Rattle.grow_core.specs.Growth.{ClaimsNothing}
use Rattle.grow_core.specs.Making.{Makes, FirstIsForZero, StopsAt, StopsAfter, LeavesMaker, WonMade, WonClones, IsRefusedBy, IsClaimed, StopsIn}
use Rattle.grow_core.proofs.Stopped.{won_of_claimed}
use Rattle.grow_core.proofs.Filling.{all_none}

-- what is said of a refusal may be said in other words
pub refused_by_map : {T V E : Type 0} (P Q : List T → E → Type 0) (e : GrowError T V E)
    → ((values : List T) (cause : E) → P values cause → Q values cause) → IsRefusedBy P e → IsRefusedBy Q e
refused_by_map P Q (NoMemory back) on it = tt
refused_by_map P Q (Full size back) on it = tt
refused_by_map P Q (Moved size back) on it = tt
refused_by_map P Q (Refused run made cause) on it = on (values_of made) cause it
refused_by_map P Q (Taken place found) on it = tt

-- the first value is the result for 0
pub first_made : {F T E : Type 0} (step : F → ℕ → Result T E → F → Type 0) → FirstIsForZero step
first_made step maker [] last x made h = absurd (cc)
first_made step maker (y ∷ ys) last x made h = let same : y ≡ x = cc in (made.0.1, subst (λ z. step maker 0 (Ok z) made.0.1) same made.1.1)

module _ {F T E : Type 0} (step : F → ℕ → Result T E → F → Type 0) (maker : F) where
  -- a further value
  pub made_push : (values : List T) (last end : F) (x : T) (i : ℕ) → Makes step maker values last → length values ≡ i → step last i (Ok x) end
      → Makes step maker (values ++ x ∷ []) end
  made_push values last end x i made same call =
      FoldsTo-push (λ (p : ℕ × F) x q. (q.0 ≡ p.0 + 1) × step p.1 p.0 (Ok x) q.1) (0, maker) values (length values, last) x
      (length (values ++ x ∷ []), end) made (length-append values (x ∷ []), subst (λ k. step last k (Ok x) end) (sym same) call)

  -- the maker refused after these values
  pub stops_at : (values : List T) (last end : F) (cause : E) (i : ℕ) → Makes step maker values last → length values ≡ i → step last i (Err cause) end
      → StopsAt step maker values cause end
  stops_at values last end cause i made n call = (last, made, subst (λ k. step last k (Err cause) end) (sym n) call)

  -- a maker that refused is left as it was then
  pub left_by_stop : {V : Type 0} (vector : VectorView T) (run : Run) (made : List T) (why : E) (end : F) (e : GrowError T V E) → StopsIn vector run e
      → IsRefusedBy (λ values cause. (values ≡ made) × (cause ≡ why)) e → StopsAt step maker made why end → LeavesMaker step maker end e
  left_by_stop vector run made why end (NoMemory back) s r at = absurd s
  left_by_stop vector run made why end (Full size back) s r at = absurd s
  left_by_stop vector run made why end (Moved size back) s r at = absurd s
  left_by_stop vector run made why end (Refused of grown cause) s r at =
      subst (λ vs. StopsAt step maker vs cause end) (sym r.0) (subst (λ w. StopsAt step maker made w end) (sym r.1) at)
  left_by_stop vector run made why end (Taken place found) s r at = absurd s

  -- a growth that claims nothing asks its maker for nothing
  pub left_by_none : {V : Type 0} (e : GrowError T V E) → ClaimsNothing e → LeavesMaker step maker maker e
  left_by_none (NoMemory back) none = refl
  left_by_none (Full size back) none = refl
  left_by_none (Moved size back) none = refl
  left_by_none (Refused run made cause) none = absurd none
  left_by_none (Taken place found) none = absurd none

  -- the cause of a refused construction is the last result of the maker
  pub cause_of_left : {X V : Type 0} (end : F) (result : Result X (GrowError T V E))
      → IfErr result (LeavesMaker step maker end) → IfErr result (IsRefusedBy (StopsAfter step maker))
  cause_of_left end (Ok x) left = tt
  cause_of_left end (Err (NoMemory back)) left = tt
  cause_of_left end (Err (Full size back)) left = tt
  cause_of_left end (Err (Moved size back)) left = tt
  cause_of_left end (Err (Refused run made cause)) left = (left.0, left.1, (end, left.2))
  cause_of_left end (Err (Taken place found)) left = absurd left

  -- a run that was claimed and then filled with what the maker made is a growth that won
  pub won_made : {X : Type 0} (vector : VectorView T) (wanted : ℕ) (old new : HandView) (claimed : Run) (result : Result (GrownView T) X) (end : F)
      → IsClaimed vector wanted old new claimed
      → IfOk result (λ grown. grown.run ≡ claimed) → IfOk result (λ grown. length (values_of grown) ≡ claimed.n)
      → IfOk result (IsGrownOf vector) → IfOk result (λ grown. Makes step maker (values_of grown) end)
      → IfOk result (WonMade step maker vector wanted old new)
  won_made vector wanted old new claimed (Ok grown) end it run n tokens made = record {
    won = won_of_claimed vector wanted old new claimed it (values_of grown) grown (sym it.n ∙ sym n) run tokens refl;
    n = ap (λ (r : Run). r.n) run ∙ it.n;
    made = (end, made);
  }
  won_made vector wanted old new claimed (Err e) end it run n tokens made = tt

  -- a run up to a size that was claimed and then filled with what the maker made is a growth up to that size
  -- that won
  pub won_up_to : (vector : VectorView T) (to : ℕ) (old new : HandView) (claimed : Run) (grown : GrownView T) (end : F)
      → (claimed.from + claimed.n ≡ to) × (0 < claimed.n) × IsClaimed vector claimed.n old new claimed
      → grown.run ≡ claimed → length (values_of grown) ≡ claimed.n → IsGrownOf vector grown → Makes step maker (values_of grown) end
      → (grown.run.from + grown.run.n ≡ to) × (0 < grown.run.n) × WonMade step maker vector grown.run.n old new grown
  won_up_to vector to old new claimed grown end it run n tokens made =
      let same_n : grown.run.n ≡ claimed.n = ap (λ (r : Run). r.n) run in (
        ap (λ (r : Run). r.from + r.n) run ∙ it.0,
        omega (arith, same_n, it.1),
        record {
          won = won_of_claimed vector claimed.n old new claimed it.2 (values_of grown) grown (sym n) run tokens refl;
          n = refl;
          made = (end, made);
        },
      )

-- values that are all the same
same_all : {X : Type 0} (P : X → Type 0) (given : X) → ((x : X) → P x → x ≡ given) → (xs : List X) → All P xs → xs ≡ replicate (length xs) given
same_all P given on [] all = refl
same_all P given on (x ∷ xs) all =
    ap (λ y. y ∷ xs) (on x (all 0 x (omega arith)))
    ∙ ap (λ ys. given ∷ ys) (same_all P given on xs (λ k d below. all (suc k) d (omega (arith, below))))

module _ {F T E : Type 0} (step : F → ℕ → Result T E → F → Type 0) (P : T → Type 0) (maker : F)
    (each : (i : ℕ) (x : T) (next : F) → step maker i (Ok x) next → P x × (next ≡ maker)) where
  -- what holds of each result of a maker that stays as it is holds of all that it made
  pub all_made : (values : List T) (last : F) → Makes step maker values last → All P values × (last ≡ maker)
  all_made values last made =
      chained_keeps (λ (p : ℕ × F) x q. (q.0 ≡ p.0 + 1) × step p.1 p.0 (Ok x) q.1) (λ xs q. All P xs × (q.1 ≡ maker))
      (λ xs q x v so call. let one = each q.0 x v.1 (subst (λ m. step m q.0 (Ok x) v.1) so.1 call.1) in (All-push P xs x so.0 one.0, one.1))
      values (0, maker) (length values, last) (all_none P, refl) made

  -- so of what it made before it refused
  pub all_before : {V : Type 0} (e : GrowError T V E) → IsRefusedBy (StopsAfter step maker) e → IsRefusedBy (λ values _. All P values) e
  all_before e = refused_by_map (StopsAfter step maker) (λ values _. All P values) e (λ values cause it. (all_made values it.0 it.1).0)

-- a growth by a maker that makes clones
pub won_clones : {F T E X : Type 0} (step : F → ℕ → Result T E → F → Type 0) (is_clone : T → T → Type 0) (given : T) (maker : F)
    → ((i : ℕ) (x : T) (next : F) → step maker i (Ok x) next → is_clone given x × (next ≡ maker))
    → (vector : VectorView T) (wanted : ℕ) (old new : HandView) (result : Result (GrownView T) X)
    → IfOk result (WonMade step maker vector wanted old new) → IfOk result (WonClones is_clone given vector wanted old new)
won_clones step is_clone given maker each vector wanted old new (Ok grown) w =
    let clones = (all_made step (is_clone given) maker each (values_of grown) w.made.0 w.made.1).0 in record {
      won = w.won;
      n = w.n;
      clones = clones;
      same = λ on. same_all (is_clone given) given on (values_of grown) clones ∙ ap (λ k. replicate k given) (sym w.won.n ∙ w.n);
    }
won_clones step is_clone given maker each vector wanted old new (Err e) w = tt

-- what a growth by clones leaves when it is refused
pub made_clones : {F T E V : Type 0} (step : F → ℕ → Result T E → F → Type 0) (P : T → Type 0) (maker : F) (vector : VectorView T) (wanted : ℕ) (old new : HandView)
    (result : Result (GrownView T) (GrowError T V E)) → IfOk result (WonMade step maker vector wanted old new)
    → IfErr result (IsRefusedBy (StopsAfter step maker))
    → ((i : ℕ) (x : T) (next : F) → step maker i (Ok x) next → P x × (next ≡ maker)) → IfErr result (IsRefusedBy (λ values _. All P values))
made_clones step P maker vector wanted old new (Ok x) won it each = tt
made_clones step P maker vector wanted old new (Err e) won it each = all_before step P maker each e it
