-- What the wins of a worker add to the history.
use Rattle.std.proofs.Common.{◌≡◌, ℕ, List, [], ◌∷◌, ◌++◌, sym, ap, subst, ◌∙◌, append_assoc}
use Rattle.std.proofs.lemmas.List.{append-nil}
use mathlib.Core.List.{IsPrefix}
use Rattle.claim_core.specs.declared.run.Run.{Run}
use Rattle.claim_core.specs.History.{Log, claim_event}
use Rattle.claim_core.specs.Hand.{HandView, single}
use Rattle.grow_core.specs.Logs.{LogsPush, step_of, fill_steps}
use Rattle.grow_core.proofs.Adds.{prefix_same, steps_after}
use Rattle.grow_core.proofs.Logs.{nothing_after}
use Rattle.race_core.specs.declared.team.Win.{Win}
use Rattle.race_core.specs.Race.{LogsWins, LogsMoreWins}

-- a push of a hand whose history goes on from an earlier one
push_after : (old mid new : HandView) (place : ℕ) → IsPrefix old.log mid.log
    → LogsPush mid new place → LogsPush old new place
push_after old mid new place goes_on push =
    let index : ℕ = push.claimed.index in let run : Run = single place in let claim : List Log = step_of (claim_event index run) in record {
      claimed = record {
        index = index;
        last = push.claimed.last;
        adds = steps_after old.log mid.log new.log claim goes_on push.claimed.adds;
      };
      places = steps_after old.log mid.log new.log (claim ++ fill_steps index place 1) goes_on push.places;
    }

-- wins of such a hand
wins_after : (old mid new : HandView) (wins : List Win) → IsPrefix old.log mid.log
    → LogsWins mid new wins → LogsWins old new wins
wins_after old mid new [] goes_on nothing = nothing_after old.log mid.log new.log goes_on nothing
wins_after old mid new (win ∷ wins) goes_on (next, push, rest) =
    (next, push_after old mid next win.place goes_on push, rest)

-- wins, and then others
wins_join : (old mid new : HandView) (wins more : List Win) → LogsWins old mid wins
    → LogsWins mid new more → LogsWins old new (wins ++ more)
wins_join old mid new [] more goes_on after = wins_after old mid new more goes_on after
wins_join old mid new (win ∷ wins) more (next, push, rest) after =
    (next, push, wins_join next mid new wins more rest after)

-- the push of the last win
pub one_win : (old new : HandView) (before after : List Win) (win : Win) → LogsPush old new win.place
    → after ≡ before ++ win ∷ [] → LogsMoreWins old new before after
one_win old new before after win push is = (win ∷ [], is, (new, push, prefix_same new.log))

-- no win
pub no_win : (hand : HandView) (wins : List Win) → LogsMoreWins hand hand wins wins
no_win hand wins = ([], sym (append-nil wins), prefix_same hand.log)

-- more wins, and then others
pub more_wins : (old mid new : HandView) (before between after : List Win)
    → LogsMoreWins old mid before between → LogsMoreWins mid new between after
    → LogsMoreWins old new before after
more_wins old mid new before between after first next = (
  first.0 ++ next.0,
  next.1 ∙ (ap (λ (wins : List Win). wins ++ next.0) first.1 ∙ append_assoc before first.0 next.0),
  wins_join old mid new first.0 next.0 first.2 next.2,
)

-- if there were none before, they are all
pub all_wins : (old new : HandView) (before after : List Win) → before ≡ []
    → LogsMoreWins old new before after → LogsWins old new after
all_wins old new before after none more =
    let won : after ≡ more.0 = more.1 ∙ ap (λ (wins : List Win). wins ++ more.0) none in
    subst (λ (wins : List Win). LogsWins old new wins) (sym won) more.2
