-- A team's wins after an added value, and two teams' wins together. The premises are public laws and clauses.
use Rattle.std.proofs.Common.{◌≡◌, ◌≢◌, ℕ, zero, suc, ◌+◌, ◌*◌, ◌<◌, ◌≤◌, List, [], ◌∷◌, ◌++◌, refl, sym, ap, ◌∙◌, subst, ⊎_elim, arith, add-one}
use Rattle.std.specs.Prelude.{slice_index, slice_index_or}
use Rattle.std.specs.List.{Contains, sum_by}
use Rattle.std.proofs.lemmas.Bool.{cases_eq}
use Rattle.std.proofs.lemmas.List.Elements.{Contains-append_left, Contains-append_right, Contains-append_cases, Contains-push}
use Rattle.std.proofs.lemmas.Map.Made.{Contains-tail}
use Rattle.std.proofs.lemmas.List.Sums.{sum_by-append}
use mathlib.Core.List.{IsPrefix}
use Rattle.claim_core.specs.Lengths.{Tiles, places_in}
use Rattle.claim_core.specs.Word.{WordView}
use Rattle.claim_core.specs.Hand.{HandView, GainsRun, AddsRun, SeesRun, SeesOwn, own_places, seen_size}
use Rattle.claim_core.specs.Laws.{PlacesStay, SeenRunsStay, SeenRunsAreWithin, AddedRunsAreLast}
use Rattle.grow_core.specs.Growth.{single}
use Rattle.race_core.specs.declared.team.Win.{Win}
use Rattle.race_core.specs.Race.{sum_below, Team, HasWin, IsSeen, IsTeam, AreAllPlaces, AreBelow}

value_of : Win → ℕ
value_of win = win.value

-- a list of one win has no other
only : (win w : Win) (k : ℕ) → k < 1 → slice_index_or (win ∷ []) k w ≡ w → win ≡ w
only win w zero near is = is
only win w (suc k) near is = absurd (omega (arith, near))

-- the hand has one more run, and the wins have its place
wins_more : SeenRunsStay → (old new : HandView) (index : ℕ) (wins : List Win) (win : Win) → new.of ≡ old.of
    → GainsRun old new index (single win.place)
    → ((k : ℕ) → Contains old.mine k → HasWin old wins k)
    → (k : ℕ) → Contains new.mine k → HasWin new (wins ++ win ∷ []) k
wins_more stay old new index wins win of gain had k own =
    ⊎_elim
    (λ (same : index ≡ k). (win, Contains-push wins win, subst (λ i. SeesRun new i (single win.place)) same gain.sees))
    (λ (other : index ≢ k).
    let has = had k (Contains-tail index old.mine k other (subst (λ m. Contains m k) gain.mine own)) in
    (has.0, Contains-append_left wins (win ∷ []) has.0 has.1, stay old new k (single has.0.place) of gain.seen has.2))
    (cases_eq index k)

-- each win, the new one too, is a run that the hand has seen
seen_more : SeenRunsStay → (old new : HandView) (index : ℕ) (wins : List Win) (win : Win) → new.of ≡ old.of
    → GainsRun old new index (single win.place) → ((w : Win) → Contains wins w → IsSeen old w)
    → (w : Win) → Contains (wins ++ win ∷ []) w → IsSeen new w
seen_more stay old new index wins win of gain had w has =
    ⊎_elim
    (λ (was : Contains wins w). let sees = had w was in (sees.0, stay old new sees.0 (single w.place) of gain.seen sees.1))
    (λ (is : Contains (win ∷ []) w). subst (λ (u : Win). IsSeen new u) (only win w is.0 is.1 is.2) (index, gain.sees))
    (Contains-append_cases wins (win ∷ []) w has)

-- so it owns one more place than before
places_more : PlacesStay → (old new : HandView) (index place : ℕ) → GainsRun old new index (single place) → SeesOwn old
    → own_places new ≡ own_places old + 1
places_more law old new index place gain below =
    let all = ap (places_in new.seen) gain.mine in
    let both = sum_by-append (λ k. slice_index new.seen k) (index ∷ []) old.mine in
    let was = law old.seen new.seen old.mine gain.seen below in
    let n = gain.sees.n in
    omega arith

sum_below_more : (n : ℕ) → sum_below (n + 1) ≡ sum_below n + n
sum_below_more n = ap sum_below (add-one n)

-- a team has one more value
team_more : AddedRunsAreLast → PlacesStay → SeenRunsStay
    → (word : WordView) (shares from : ℕ) (old new : Team) (win : Win)
    → IsTeam word shares from win.value old → SeesOwn old.hand → AddsRun old.hand new.hand (single win.place)
    → new.wins ≡ old.wins ++ win ∷ [] → IsTeam word shares from (win.value + 1) new
team_more last places stay word shares from old new win team below adds more =
    let gain = last old.hand new.hand (single win.place) adds in
    let count = places_more places old.hand new.hand gain.0 win.place gain.1 below in
    let sums = sum_by-append (λ (w : Win). w.value) old.wins (win ∷ []) in
    let next = sum_below_more win.value in
    record {
      of = adds.of ∙ team.of;
      part = adds.shares ∙ team.part;
      places = let was = team.places in omega arith;
      wins = subst (λ ws. (k : ℕ) → Contains new.hand.mine k → HasWin new.hand ws k) (sym more) (wins_more stay old.hand new.hand gain.0 old.wins win adds.of gain.1 team.wins);
      seen = subst (λ ws. (w : Win) → Contains ws w → IsSeen new.hand w) (sym more) (seen_more stay old.hand new.hand gain.0 old.wins win adds.of gain.1 team.seen);
      sum = let was = team.sum in let is = ap (sum_by (λ (w : Win). w.value)) more in omega arith;
    }

-- the same of the place and the value that were reported
pub team_told : AddedRunsAreLast → PlacesStay → SeenRunsStay
    → (word : WordView) (shares from value place : ℕ) (old new : Team) (win : Win) → win.place ≡ place → win.value ≡ value
    → IsTeam word shares from value old → SeesOwn old.hand → AddsRun old.hand new.hand (single place)
    → new.wins ≡ old.wins ++ win ∷ [] → IsTeam word shares from (value + 1) new
team_told last places stay word shares from value place old new win here holds team below adds more =
    subst (λ v. IsTeam word shares from (v + 1) new) holds
    (team_more last places stay word shares from old new win
    (subst (λ v. IsTeam word shares from v old) (sym holds) team) below
    (subst (λ p. AddsRun old.hand new.hand (single p)) (sym here) adds) more)

-- what a hand had won is there in all that is seen later
wins_stay : SeenRunsStay → (old new : HandView) (wins all : List Win) → new.of ≡ old.of → IsPrefix old.seen new.seen
    → ((win : Win) → Contains wins win → Contains all win) → (k : ℕ) → HasWin old wins k → HasWin new all k
wins_stay stay old new wins all of seen more k has = (has.0, more has.0 has.1, stay old new k (single has.0.place) of seen has.2)

-- two teams are one
pub teams_joined : PlacesStay → SeenRunsStay
    → (word : WordView) (some more from middle to : ℕ) (a b new : Team)
    → IsTeam word some from middle a → IsTeam word more middle to b → SeesOwn a.hand → SeesOwn b.hand
    → new.hand.of ≡ a.hand.of → new.hand.mine ≡ a.hand.mine ++ b.hand.mine → new.hand.shares ≡ a.hand.shares + b.hand.shares
    → IsPrefix a.hand.seen new.hand.seen → IsPrefix b.hand.seen new.hand.seen
    → new.wins ≡ a.wins ++ b.wins → IsTeam word (some + more) from to new
teams_joined places stay word some more from middle to a b new team_a team_b below_a below_b of mine shares seen_a seen_b wins =
    let all = ap (places_in new.hand.seen) mine in
    let both = sum_by-append (λ k. slice_index new.hand.seen k) a.hand.mine b.hand.mine in
    let of_a = places a.hand.seen new.hand.seen a.hand.mine seen_a below_a in
    let of_b = places b.hand.seen new.hand.seen b.hand.mine seen_b below_b in
    let also_of : new.hand.of ≡ b.hand.of = of ∙ (team_a.of ∙ sym team_b.of) in
    record {
      of = of ∙ team_a.of;
      part = let x = team_a.part in let y = team_b.part in omega arith;
      places = let x = team_a.places in let y = team_b.places in omega arith;
      wins = λ k own.
          subst (λ ws. HasWin new.hand ws k) (sym wins)
          (⊎_elim
          (λ (was : Contains a.hand.mine k). wins_stay stay a.hand new.hand a.wins (a.wins ++ b.wins) of seen_a (Contains-append_left a.wins b.wins) k (team_a.wins k was))
          (λ (was : Contains b.hand.mine k). wins_stay stay b.hand new.hand b.wins (a.wins ++ b.wins) also_of seen_b (Contains-append_right a.wins b.wins) k (team_b.wins k was))
          (Contains-append_cases a.hand.mine b.hand.mine k (subst (λ m. Contains m k) mine own)));
      seen = λ w has. ⊎_elim
          (λ (was : Contains a.wins w). let sees = team_a.seen w was in (sees.0, stay a.hand new.hand sees.0 (single w.place) of seen_a sees.1))
          (λ (was : Contains b.wins w). let sees = team_b.seen w was in (sees.0, stay b.hand new.hand sees.0 (single w.place) also_of seen_b sees.1))
          (Contains-append_cases a.wins b.wins w (subst (λ ws. Contains ws w) wins has));
      sum =
          let x = team_a.sum in
          let y = team_b.sum in
          let is = ap (sum_by (λ (w : Win). w.value)) wins in
          let sums = sum_by-append (λ (w : Win). w.value) a.wins b.wins in
          omega arith;
    }

-- nothing is won yet
pub team_new : (from : ℕ) (team : Team) → team.hand.mine ≡ [] → team.wins ≡ [] → IsTeam team.hand.of team.hand.shares from from team
team_new from team mine wins =
    let none = ap (places_in team.hand.seen) mine in
    let sum = ap (sum_by (λ (w : Win). w.value)) wins in record {
      of = refl;
      part = refl;
      places = omega arith;
      wins = λ k own. absurd (let lt = (subst (λ m. Contains m k) mine own).1 in omega arith);
      seen = λ w has. absurd (let lt = (subst (λ ws. Contains ws w) wins has).1 in omega arith);
      sum = omega arith;
    }

-- if the runs of a team tile all places, each place was won
pub all_won : (hand : HandView) (wins : List Win) → hand.of.base ≡ 0 → Tiles hand.of.base hand.seen hand.mine
    → ((k : ℕ) → Contains hand.mine k → HasWin hand wins k) → AreAllPlaces (seen_size hand) wins
all_won hand wins base tiles won place below =
    let at = tiles.covers place (omega arith) below in
    let has = won at.0 at.1 in
    let run = at.2 in
    let after = run.after in
    let before = run.before in
    let from = has.2.from in
    let n = has.2.n in
    (has.0, has.1, omega arith)

-- and each win is below the size
pub all_below : SeenRunsAreWithin → (hand : HandView) (wins : List Win) → ((w : Win) → Contains wins w → IsSeen hand w)
    → AreBelow (seen_size hand) wins
all_below within hand wins seen win has =
    let sees = seen win has in let ends = (within hand sees.0 (single win.place) sees.1).1 in omega (arith, ends)

-- a sum of a race's values is small
pub sum_is_small : (n : ℕ) → n ≤ 6400000 → sum_below n ≤ n * 6400000
sum_is_small zero le = omega arith
sum_is_small (suc n) le = let before = sum_is_small n (omega arith) in omega arith
