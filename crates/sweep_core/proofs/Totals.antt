-- Reports of many schedules, put together.
use Rattle.std.proofs.Common.{◌≡◌, ℕ, ◌+◌, ◌*◌, ◌≤◌, ◌%◌, ◌^◌, List, [], ◌∷◌, ◌++◌, length, map, Result, Ok, Err, IfOk, refl, sym, ap, ◌∙◌, subst, arith}
use Rattle.std.proofs.lemmas.List.{map-append}
use Rattle.std.proofs.lemmas.List.FromFn.{length-range_with_len}
use Rattle.std.proofs.lemmas.List.Sums.{sum_by-append, sum_by-cons}
use Rattle.std.proofs.lemmas.Slice.Zip.{AllZip-map}
use Rattle.std.specs.List.{AllZip, range_with_len, sum_by}
use Rattle.std.specs.Prelude.{⊤}
use Rattle.std.specs.declared.alloc.AllocError.{AllocError}
use Rattle.sweep_core.specs.declared.report.SweepReport.{SweepReport}
use Rattle.sweep_core.specs.Sweep.{seed_of, all_events, all_ended}
use Rattle.sweep_core.specs.Sums.{no_report, report_of, plus, sum_of_results, total_of, reports_of}
use Rattle.sweep_core.proofs.Sampled.{is_short}

abbrev Outcome : Type 0
Outcome = Result SweepReport AllocError

join_in : (f : SweepReport → ℕ) (xs ys : List SweepReport)
    → (sum_by f xs % 2 ^ 64 + sum_by f ys % 2 ^ 64) % 2 ^ 64 ≡ sum_by f (xs ++ ys) % 2 ^ 64
join_in f xs ys = omega (arith, sum_by-append f xs ys)

more_in : (f : SweepReport → ℕ) (xs : List SweepReport) (x : SweepReport)
    → (sum_by f xs % 2 ^ 64 + f x) % 2 ^ 64 ≡ sum_by f (xs ++ x ∷ []) % 2 ^ 64
more_in f xs x =
    let one : sum_by f (x ∷ []) ≡ f x = omega (arith, sum_by-cons f x []) in
    omega (arith, sum_by-append f xs (x ∷ []), one)

total_join : (xs ys : List SweepReport) → plus (total_of xs) (total_of ys) ≡ total_of (xs ++ ys)
total_join xs ys = λ i. record {
  schedules = join_in (λ report. report.schedules) xs ys i;
  legal = join_in (λ report. report.legal) xs ys i;
  events = join_in (λ report. report.events) xs ys i;
  ended = join_in (λ report. report.ended) xs ys i;
}

total_more : (xs : List SweepReport) (x : SweepReport) → plus (total_of xs) x ≡ total_of (xs ++ x ∷ [])
total_more xs x = λ i. record {
  schedules = more_in (λ report. report.schedules) xs x i;
  legal = more_in (λ report. report.legal) xs x i;
  events = more_in (λ report. report.events) xs x i;
  ended = more_in (λ report. report.ended) xs x i;
}

-- the outcome is that of all these together
abbrev pub IsTotal : List Outcome → Outcome → Type 0
IsTotal outcomes (Ok report) = (reports : List SweepReport) × (outcomes ≡ map Ok reports) × (report ≡ total_of reports)
IsTotal outcomes (Err e) = ⊤

-- of none
pub none_total : (e : Outcome) → e ≡ Ok no_report → IsTotal [] e
none_total e is = subst (IsTotal []) (sym is) ([], refl, refl)

-- of one more
pub more_total : (xs : List Outcome) (a x r : Outcome) → IsTotal xs a → r ≡ sum_of_results a x → IsTotal (xs ++ x ∷ []) r
more_total xs (Ok a) (Ok x) r h is =
    subst (IsTotal (xs ++ Ok x ∷ [])) (sym is)
    (h.0 ++ x ∷ [], ap (λ l. l ++ Ok x ∷ []) h.1 ∙ sym (map-append Ok h.0 (x ∷ [])), ap (λ t. plus t x) h.2 ∙ total_more h.0 x)
more_total xs (Ok a) (Err e) r h is = subst (IsTotal (xs ++ Err e ∷ [])) (sym is) tt
more_total xs (Err e) x r h is = subst (IsTotal (xs ++ x ∷ [])) (sym is) tt

-- of two lots
pub join_total : (xs ys : List Outcome) (a b r : Outcome) → IsTotal xs a → IsTotal ys b → r ≡ sum_of_results a b → IsTotal (xs ++ ys) r
join_total xs ys (Ok a) (Ok b) r h k is =
    subst (IsTotal (xs ++ ys)) (sym is)
    (h.0 ++ k.0, (λ i. h.1 i ++ k.1 i) ∙ sym (map-append Ok h.0 k.0), (λ i. plus (h.2 i) (k.2 i)) ∙ total_join h.0 k.0)
join_total xs ys (Ok a) (Err e) r h k is = subst (IsTotal (xs ++ ys)) (sym is) tt
join_total xs ys (Err e) b r h k is = subst (IsTotal (xs ++ ys)) (sym is) tt

module _ (g : ℕ → SweepReport) where
  all_ok : (xs : List ℕ) (reports : List SweepReport) → AllZip (λ x (y : Outcome). IfOk y (λ report. report ≡ g x)) xs (map Ok reports)
      → AllZip (λ x report. report ≡ g x) xs reports
  all_ok [] [] h = tt
  all_ok [] (r ∷ rs) h = absurd h
  all_ok (x ∷ xs) [] h = absurd h
  all_ok (x ∷ xs) (r ∷ rs) h = (h.0, all_ok xs rs h.1)

  -- the total of outcomes is that of their reports
  pub total_is : (xs : List ℕ) (outcomes : List Outcome) (r : Outcome) → AllZip (λ x (y : Outcome). IfOk y (λ report. report ≡ g x)) xs outcomes
      → IsTotal outcomes r → IfOk r (λ report. report ≡ total_of (map g xs))
  total_is xs outcomes (Ok report) each h =
      let all = all_ok xs h.0 (subst (AllZip (λ x (y : Outcome). IfOk y (λ report. report ≡ g x)) xs) h.1 each) in
      h.2 ∙ ap total_of (AllZip-map g xs h.0 all)
  total_is xs outcomes (Err e) each h = tt

  sum_ones : (f : SweepReport → ℕ) (xs : List ℕ) → ((x : ℕ) → f (g x) ≡ 1) → sum_by f (map g xs) ≡ length xs
  sum_ones f [] one = refl
  sum_ones f (x ∷ xs) one = omega (arith, sum_by-cons f (g x) (map g xs), one x, sum_ones f xs one)

  sum_few : (f : SweepReport → ℕ) (xs : List ℕ) → ((x : ℕ) → f (g x) ≤ 1000) → sum_by f (map g xs) ≤ 1000 * length xs
  sum_few f [] few = omega arith
  sum_few f (x ∷ xs) few = omega (arith, sum_by-cons f (g x) (map g xs), few x, sum_few f xs few)

  sum_through : (f : SweepReport → ℕ) (xs : List ℕ) → sum_by f (map g xs) ≡ sum_by (λ x. f (g x)) xs
  sum_through f [] = refl
  sum_through f (x ∷ xs) =
      omega (arith, sum_by-cons f (g x) (map g xs), sum_by-cons (λ y. f (g y)) x xs, sum_through f xs)

module _ (seed count len : ℕ) (few : count ≤ 10000) (short : len ≤ 1000) where
  abbrev number_of : ℕ → SweepReport
  number_of number = report_of len (seed_of seed number)

  abbrev numbers : List ℕ
  numbers = range_with_len 0 count

  ones : (f : SweepReport → ℕ) → ((x : ℕ) → f (number_of x) ≡ 1) → sum_by f (reports_of seed count len) % 2 ^ 64 ≡ count
  ones f one = omega (arith, few, sum_ones number_of f numbers one, length-range_with_len 0 count)

  sums : (f : SweepReport → ℕ) → ((x : ℕ) → f (number_of x) ≤ len)
      → sum_by f (reports_of seed count len) % 2 ^ 64 ≡ sum_by (λ x. f (number_of x)) numbers
  sums f small =
      let most = sum_few number_of f numbers (λ x. omega (arith, short, small x)) in
      omega (arith, few, most, length-range_with_len 0 count, sum_through number_of f numbers)

  -- each schedule is counted once
  pub total_schedules : (total_of (reports_of seed count len)).schedules ≡ count
  total_schedules = ones (λ report. report.schedules) (λ x. refl)

  -- and is legal
  pub total_legal : (total_of (reports_of seed count len)).legal ≡ count
  total_legal = ones (λ report. report.legal) (λ x. refl)

  -- and its events are counted
  pub total_events : (total_of (reports_of seed count len)).events ≡ all_events seed count len
  total_events = sums (λ report. report.events) (λ x. (is_short (seed_of seed x) len).0)

  -- and its ended calls
  pub total_ended : (total_of (reports_of seed count len)).ended ≡ all_ended seed count len
  total_ended = sums (λ report. report.ended) (λ x. (is_short (seed_of seed x) len).1)

-- what holds of a value holds of what it is the same as
pub of_ok : (f : SweepReport → ℕ) (r : Outcome) (total : SweepReport) (n : ℕ) → f total ≡ n → IfOk r (λ report. report ≡ total)
    → IfOk r (λ report. f report ≡ n)
of_ok f (Ok report) total n is h = ap f h ∙ is
of_ok f (Err e) total n is h = tt
