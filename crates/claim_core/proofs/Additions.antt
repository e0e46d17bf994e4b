-- What several steps add to a history.
use Rattle.std.proofs.Common.{[], ◌∷◌, ◌++◌, sym, ap, ◌∙◌, append_assoc}
use Rattle.std.proofs.lemmas.List.{append-nil}
use mathlib.Core.List.{IsPrefix}
use Rattle.claim_core.specs.History.{Log, AddsEvents}
use Rattle.claim_core.specs.Laws.{EventsFollow, PrefixesAddNothing, StepsGoOn, StepsStay}
use Rattle.claim_core.proofs.Prefixes.{prefix_self, prefix_trans}

-- what was added to a history goes on from it
pub added_begins : (a es b : Log) → AddsEvents a es b → IsPrefix a b
added_begins a es b added = (added.since ++ es, sym (append_assoc a added.since es) ∙ sym added.is)

-- a history that goes on has nothing added
nothing_added : (a b : Log) → IsPrefix a b → AddsEvents a [] b
nothing_added a b p = record { since = p.0; is = sym p.1 ∙ sym (append-nil (a ++ p.0)) }

-- what is added to a history that goes on from another is added to that one
pub added_before : (a b c fs : Log) → IsPrefix a b → AddsEvents b fs c → AddsEvents a fs c
added_before a b c fs p added = record {
  since = p.0 ++ added.since;
  is =
      added.is
      ∙ (ap (λ (l : Log). (l ++ added.since) ++ fs) (sym p.1) ∙ ap (λ (l : Log). l ++ fs) (append_assoc a p.0 added.since));
}

pub events_follow : EventsFollow
events_follow a b c es fs first second = added_before a b c fs (added_begins a es b first) second

pub prefixes_add_nothing : PrefixesAddNothing
prefixes_add_nothing a b = (λ (added : AddsEvents a [] b). added_begins a [] b added, λ (p : IsPrefix a b). nothing_added a b p)

pub steps_go_on : StepsGoOn
steps_go_on old mid new [] es steps added = (new, added_before old mid new es steps added, prefix_self new)
steps_go_on old mid new (fs ∷ rest) es (next, first, others) added = (next, first, steps_go_on next mid new rest es others added)

pub steps_stay : StepsStay
steps_stay old mid new [] steps p = prefix_trans old mid new steps p
steps_stay old mid new (fs ∷ rest) (next, first, others) p = (next, first, steps_stay next mid new rest others p)
