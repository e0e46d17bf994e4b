-- Which places a hand owns after a step.
use Rattle.std.proofs.Common.{◌≡◌, ◌≢◌, ℕ, ◌++◌, List, arith, inl, inr, ⊎_elim, sym, subst}
use Rattle.std.specs.List.{Contains}
use Rattle.std.proofs.lemmas.Bool.{cases_eq}
use Rattle.std.proofs.lemmas.List.Elements.{Contains-append_cases, Contains-append_left, Contains-append_right}
use Rattle.std.proofs.lemmas.Map.Made.{Contains-tail}
use mathlib.Core.List.{IsPrefix}
use Rattle.claim_core.specs.Lengths.{InRun}
use Rattle.claim_core.specs.Word.{WordView}
use Rattle.claim_core.specs.declared.run.Run.{Run}
use Rattle.claim_core.specs.Hand.{HandView, OwnsRun, OwnsPlace, SeesOwn}
use Rattle.claim_core.specs.Laws.{OwnPlacesStay, AddedPlacesAreNotBegun, AddedPlacesAreOwned, AddedPlacesAreOfTheRun, JoinedPlacesAreOfEither, JoinedHandsOwnRuns}
use Rattle.claim_core.proofs.Prefixes.{prefix_append, prefix_sum}
use Rattle.claim_core.proofs.Tiles.{run_was_there}
use Rattle.claim_core.proofs.RunLaws.{added_last, added_owned, seen_places, seen_stay}

-- a place of an old run is in that run still
stays : (old new : HandView) (index place : ℕ) → SeesOwn old → new.of ≡ old.of → IsPrefix old.seen new.seen
    → Contains old.mine index → InRun new.of.base new.seen index place → OwnsPlace old place
stays old new index place sees of more own in_run =
    (index, own, run_was_there old.of.base old.seen new.seen index place more (sees index own) (subst (λ (w : WordView). InRun w.base new.seen index place) of in_run))

pub own_places_stay : OwnPlacesStay
own_places_stay old new place sees keeps more (index, own, in_run) =
    stays old new index place sees keeps.of more (subst (λ m. Contains m index) keeps.mine own) in_run

pub added_places : AddedPlacesAreOfTheRun
added_places old new run place sees adds (index, own, in_run) =
    let (last, gain) = added_last old new run adds in
    ⊎_elim
    (λ (same : last ≡ index).
    inr ((seen_places new last run place gain.sees).1 (subst (λ i. InRun new.of.base new.seen i place) (sym same) in_run)))
    (λ (other : last ≢ index).
    inl (stays old new index place sees adds.of gain.seen (Contains-tail last old.mine index other (subst (λ m. Contains m index) gain.mine own)) in_run))
    (cases_eq last index)

pub added_own : AddedPlacesAreOwned
added_own old new run place adds is_place =
    let (index, own, sees) = added_owned old new run adds in
    (index, own, (seen_places new index run place sees).0 is_place)

pub joined_places : JoinedPlacesAreOfEither
joined_places a b new place sees also_sees of also_of more also_more mine (index, own, in_run) =
    ⊎_elim
    (λ (was : Contains a.mine index). inl (stays a new index place sees of more was in_run))
    (λ (was : Contains b.mine index). inr (stays b new index place also_sees also_of also_more was in_run))
    (Contains-append_cases a.mine b.mine index (subst (λ m. Contains m index) mine own))

-- a run of a hand is one of a hand that owns at least as much
takes_over : (old new : HandView) (run : Run) → new.of ≡ old.of → IsPrefix old.seen new.seen
    → ((k : ℕ) → Contains old.mine k → Contains new.mine k) → OwnsRun old run → OwnsRun new run
takes_over old new run of more own owns = (owns.0, own owns.0 owns.1, seen_stay old new owns.0 run of more owns.2)

pub joined_own : JoinedHandsOwnRuns
joined_own a b new run of also_of more also_more mine owns =
    ⊎_elim
    (λ (was : OwnsRun a run). takes_over a new run of more (λ k there. subst (λ m. Contains m k) (sym mine) (Contains-append_left a.mine b.mine k there)) was)
    (λ (was : OwnsRun b run). takes_over b new run also_of also_more (λ k there. subst (λ m. Contains m k) (sym mine) (Contains-append_right a.mine b.mine k there)) was)
    owns

-- the places of an added run lie past all that the hand had seen
pub added_not_begun : AddedPlacesAreNotBegun
added_not_begun old new run place sees cells adds is_place there =
    let below = sees place (subst (λ (b : List ℕ). Contains b place) cells.begun there) in
    let begins = adds.begins in
    let le = prefix_sum old.seen (old.seen ++ adds.between) (prefix_append old.seen adds.between) in
    let from = is_place.0 in
    absurd (omega arith)
