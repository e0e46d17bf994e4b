-- The wins of workers in turn, as one team.
use Rattle.std.proofs.Common.{◌≡◌, ℕ, suc, ◌+◌, ◌*◌, ◌<◌, List, [], ◌∷◌, ◌++◌, length, arith, subst, sym, refl, ap, ◌∙◌}
use Rattle.std.proofs.lemmas.List.{append-nil}
use Rattle.std.proofs.lemmas.List.Elements.{Contains-append_right}
use Rattle.std.specs.List.{Contains, flat_map, sum_by}
use Rattle.claim_core.specs.Lengths.{places_in}
use Rattle.claim_core.specs.Word.{WordView}
use Rattle.claim_core.specs.Hand.{HandView, SeesOwn, own_places}
use Rattle.claim_core.specs.Laws.{PlacesStay, SeenRunsStay}
use Rattle.span_core.specs.Hands.{SayInTurn, HaveAnswered}
use Rattle.race_core.specs.declared.team.Win.{Win}
use Rattle.race_core.specs.Race.{Team, IsTeam, IsTeamOf, HasWin, team_of, sum_below}
use Rattle.race_core.proofs.Teams.{teams_joined, team_new}

-- the hand with these runs alone, and `shares` shares
abbrev part_with : HandView → List ℕ → ℕ → HandView
part_with all mine shares = record all { mine = mine; shares = shares }

module _ {V : Type 0} (items : V → List Win) (says : ℕ → HandView → V → Type 0) (word : WordView) (each : ℕ)
    (tells : (worker : ℕ) (own : HandView) (v : V) → says worker own v → IsTeamOf word each worker (team_of own (items v)) × SeesOwn own) where
  -- the workers from one on, with a share each
  turn_team : PlacesStay → SeenRunsStay → (all : HandView) → all.of ≡ word → (worker : ℕ) (xs : List V) (mine : List ℕ)
      → ((k : ℕ) → Contains mine k → k < length all.seen) → SayInTurn says all worker xs mine
      → IsTeam word (length xs) (worker * each) ((worker + length xs) * each) (team_of (part_with all mine (length xs)) (flat_map items xs))
  turn_team places stay all of worker [] mine below none =
      let same : worker ≡ worker + 0 = omega arith in
      let team : Team = team_of (part_with all mine 0) [] in
      let nothing = team_new (worker * each) team none refl in
      subst (λ n. IsTeam word 0 (worker * each) (n * each) team) same (subst (λ w. IsTeam w 0 (worker * each) (worker * each) team) of nothing)
  turn_team places stay all of worker (x ∷ xs) mine below (own, rest, said, part, split, others) =
      let told = tells worker own x said in
      let later : (k : ℕ) → Contains rest k → k < length all.seen = λ k has. below k (subst (λ m. Contains m k) (sym split) (Contains-append_right own.mine rest k has)) in
      let next = turn_team places stay all of (worker + 1) xs rest later others in
      let a : Team = team_of own (items x) in
      let b : Team = team_of (part_with all rest (length xs)) (flat_map items xs) in
      let new : Team = team_of (part_with all mine (suc (length xs))) (items x ++ flat_map items xs) in
      let shares : suc (length xs) ≡ own.shares + length xs = let one = told.0.part in omega arith in
      let joined = teams_joined places stay word 1 (length xs) (worker * each) ((worker + 1) * each) ((worker + 1 + length xs) * each) a b new told.0 next told.1 later
      (sym part.of) split shares part.seen ([], append-nil all.seen) refl in
      let to : worker + 1 + length xs ≡ worker + suc (length xs) = omega arith in
      let count : 1 + length xs ≡ suc (length xs) = omega arith in
      subst (λ n. IsTeam word n (worker * each) ((worker + suc (length xs)) * each) new) count
      (subst (λ n. IsTeam word (1 + length xs) (worker * each) (n * each) new) to joined)

-- all of them, by the hand that theirs were joined with
pub all_team : {V : Type 0} {says : ℕ → HandView → V → Type 0} (items : V → List Win) (word : WordView) (each : ℕ) (old new : HandView) (workers shares : ℕ)
    (xs : List V) (wins : List Win) → HaveAnswered says old new workers xs
    → ((worker : ℕ) (own : HandView) (v : V) → says worker own v → IsTeamOf word each worker (team_of own (items v)) × SeesOwn own)
    → PlacesStay → SeenRunsStay → old.mine ≡ [] → new.of ≡ word → new.shares ≡ shares → SeesOwn new → wins ≡ flat_map items xs
    → IsTeam word shares 0 (workers * each) (team_of new wins)
all_team {V} {says} items word each old new workers shares xs wins (mine, split, turn, long) tells places stay none of part below flat =
    let same : new.mine ≡ mine = split ∙ ap (λ m. m ++ mine) none in
    let part_team = turn_team items says word each tells places stay new of 0 xs mine (λ k has. below k (subst (λ m. Contains m k) (sym same) has)) turn in
    let whole : 0 + length xs ≡ workers = omega (arith, long) in
    let ends : (0 + length xs) * each ≡ workers * each = ap (λ k. k * each) whole in
    let zero : 0 * each ≡ 0 = omega arith in
    let none_below : sum_below (0 * each) ≡ sum_below 0 = ap sum_below zero in
    let all_below : sum_below ((0 + length xs) * each) ≡ sum_below (workers * each) = ap sum_below ends in
    let own : own_places new ≡ places_in new.seen mine = ap (places_in new.seen) same in
    let sums : sum_by (λ (w : Win). w.value) wins ≡ sum_by (λ (w : Win). w.value) (flat_map items xs) = ap (sum_by (λ (w : Win). w.value)) flat in
    let n = part_team.places in
    let s = part_team.sum in
    record {
      of = of;
      part = part;
      places = omega (arith, own, n, ends, zero);
      wins = λ k has.
          let won = part_team.wins k (subst (λ m. Contains m k) same has) in
          let sees = won.2 in
          subst (λ ws. HasWin new ws k) (sym flat) (won.0, won.1, record { there = sees.there; from = sees.from; n = sees.n });
      seen = λ w has.
          let sees = part_team.seen w (subst (λ ws. Contains ws w) flat has) in
          let run = sees.1 in
          (sees.0, record { there = run.there; from = run.from; n = run.n });
      sum = omega (arith, sums, s, none_below, all_below);
    }
