-- What follows from the definitions of runs and hands alone.
use Rattle.std.proofs.Common.{◌≡◌, ℕ, zero, ◌+◌, ◌<◌, ◌≤◌, List, [], ◌∷◌, ◌++◌, length, get_or, take, refl, ap, sym, ◌∙◌, subst, arith, append_assoc, length-append}
use Rattle.std.specs.List.{Contains, sum}
use Rattle.std.proofs.Math.Seq.{take-length}
use Rattle.std.proofs.lemmas.List.{take-append-le}
use mathlib.Core.List.{IsPrefix}
use Rattle.claim_core.specs.declared.run.Run.{Run}
use Rattle.claim_core.specs.Lengths.{InRun}
use Rattle.claim_core.specs.Word.{WordView}
use Rattle.claim_core.specs.Hand.{HandView, SeesRun, IsPlaceOf, single}
use Rattle.claim_core.specs.Laws.{AddedRunsAreLast, AddedRunsAreOwned, OwnRunsStay, SeenRunsStay, SeenRunsWereThere, SeenRunsAreWithin, SeenRunsHavePlaces, OwnersAreApart, JoinedOwnersAreApart, SinglePlacesDiffer}
use Rattle.claim_core.proofs.Prefixes.{prefix_self, prefix_length}
use Rattle.claim_core.proofs.Tiles.{run_within, run_apart, run_stays, starts_there, reads_there}

-- the last member of a list
pub last_at : (xs : List ℕ) (n : ℕ) → get_or (xs ++ n ∷ []) (length xs) 0 ≡ n
last_at [] n = refl
last_at (x ∷ xs) n = last_at xs n

pub added_last : AddedRunsAreLast
added_last old new run adds =
    let front = old.seen ++ adds.between in
    let index = length front in
    let begins = adds.begins in
    let base : new.of.base ≡ old.of.base = ap (λ (w : WordView). w.base) adds.of in
    let first : sum (take index new.seen) ≡ sum front = ap (λ l. sum (take index l)) adds.seen ∙ ap sum (take-append-le index front (run.n ∷ []) (omega arith) ∙ take-length front) in
    let long : length new.seen ≡ index + 1 = ap length adds.seen ∙ length-append front (run.n ∷ []) in
    let more : length front ≡ length old.seen + length adds.between = length-append old.seen adds.between in
    let here : get_or new.seen index 0 ≡ run.n = ap (λ l. get_or l index 0) adds.seen ∙ last_at front run.n in (
      index,
      record {
        last = long;
        later = omega arith;
        mine = adds.mine;
        seen = (adds.between ++ run.n ∷ [], sym (append_assoc old.seen adds.between (run.n ∷ [])) ∙ sym adds.seen);
        sees = record { there = omega arith; from = omega arith; n = sym here };
      },
    )

pub added_owned : AddedRunsAreOwned
added_owned old new run adds =
    let last = added_last old new run adds in
    let first : Contains (last.0 ∷ old.mine) last.0 = (zero, omega arith, refl) in
    (last.0, subst (λ l. Contains l last.0) (sym last.1.mine) first, last.1.sees)

pub seen_stay : SeenRunsStay
seen_stay old new k run word more sees =
    let there = sees.there in
    let from = sees.from in
    let n = sees.n in
    let long = prefix_length old.seen new.seen more in
    let base : new.of.base ≡ old.of.base = ap (λ (w : WordView). w.base) word in
    let front = starts_there old.seen new.seen k more (omega arith) in
    let here = reads_there old.seen new.seen k more there in
    record { there = omega arith; from = omega arith; n = omega arith }

pub own_stay : OwnRunsStay
own_stay old new run own more owns =
    (owns.0, subst (λ m. Contains m owns.0) (sym own.mine) owns.1, seen_stay old new owns.0 run own.of more owns.2)

pub seen_were_there : SeenRunsWereThere
seen_were_there old new k run word more there sees =
    let from = sees.from in
    let n = sees.n in
    let base : new.of.base ≡ old.of.base = ap (λ (w : WordView). w.base) word in
    let front = starts_there old.seen new.seen k more (omega arith) in
    let here = reads_there old.seen new.seen k more there in
    record { there = there; from = omega arith; n = omega arith }

pub seen_within : SeenRunsAreWithin
seen_within hand k run sees =
    let from = sees.from in
    let n = sees.n in
    let within = run_within hand.seen k sees.there in
    (omega arith, omega arith)

pub seen_places : SeenRunsHavePlaces
seen_places hand index run place sees =
    let f = sees.from in
    let n = sees.n in (
      λ (is : IsPlaceOf run place). record { there = sees.there; after = let a = is.0 in omega arith; before = let b = is.1 in omega arith },
      λ (in_run : InRun hand.of.base hand.seen index place). let a = in_run.after in let b = in_run.before in (omega arith, omega arith),
    )

-- a place of a run that was seen lies in the run of that index of each list that goes on
place_in : (hand : HandView) (lengths : List ℕ) (index : ℕ) (run : Run) (place : ℕ) → IsPrefix hand.seen lengths
    → SeesRun hand index run
    → run.from ≤ place → place < run.from + run.n → InRun hand.of.base lengths index place
place_in hand lengths index run place more sees from to =
    run_stays hand.of.base hand.seen lengths index place more ((seen_places hand index run place sees).0 (from, to))

pub joined_owners_apart : JoinedOwnersAreApart
joined_owners_apart a b lengths x y word more_a more_b apart own_x own_y place from_x to_x from_y to_y =
    let in_x = place_in a lengths own_x.0 x place more_a own_x.2 from_x to_x in
    let in_y = place_in b lengths own_y.0 y place more_b own_y.2 from_y to_y in
    let also : InRun a.of.base lengths own_y.0 place = subst (λ (w : WordView). InRun w.base lengths own_y.0 place) word in_y in
    let same : own_x.0 ≡ own_y.0 = run_apart a.of.base lengths own_x.0 own_y.0 place in_x also in
    apart own_x.0 own_x.1 (subst (λ k. Contains b.mine k) (sym same) own_y.1)

pub owners_apart : OwnersAreApart
owners_apart a b x y word seen = joined_owners_apart a b a.seen x y word (prefix_self a.seen) (subst (λ l. IsPrefix b.seen l) seen (prefix_self b.seen))

pub singles_differ : SinglePlacesDiffer
singles_differ a b x y word seen apart own_x own_y same =
    owners_apart a b (single x) (single y) word seen apart own_x own_y x (omega arith) (omega arith) (omega arith) (omega arith)
