-- The events of a play of the machine are a legal history, and what is finished stays.
pub mod Replies
use Rattle.std.proofs.Common.{◌≡◌, ℕ, ◌+◌, ◌-◌, Bool, List, [], ◌∷◌, ◌++◌, Option, refl, ap, sym, ◌∙◌, subst, append_assoc}
use Rattle.std.proofs.lemmas.List.{append-nil}
use Rattle.std.proofs.lemmas.List.Elements.{Contains-append_right}
use Rattle.std.specs.List.{Contains}
use Rattle.std.specs.Option.{option_to_list}
use Rattle.book_core.specs.declared.events.Event.{Event}
use Rattle.book_core.specs.declared.events.Event.TheVariants.{Mend}
use Rattle.book_core.specs.declared.events.Reply.{Reply}
use Rattle.book_core.specs.declared.commands.Command.{Command}
use Rattle.book_core.specs.declared.commands.Item.{Item}
use Rattle.seg_core.specs.Segment.{IsLayout, IsLimit}
use Rattle.book_core.specs.Cells.{empty_list}
use Rattle.book_core.specs.History.{IsHistory, runs_of, writes_of}
use Rattle.step_core.specs.machine.Step.{Configuration, step_of, outcome_of}
use Rattle.step_core.specs.machine.Bounds.{IsInLimit}
use Rattle.step_core.specs.machine.Play.{Play, empty_play, with_step, after_items, play_of}
use Rattle.step_core.specs.machine.Legal.{list_seen, EveryPlayIsLegal}
use Rattle.step_core.specs.machine.Kept.{EveryPlayKeepsFilledCells, EveryPlayKeepsBrokenCells}
use Rattle.step_core.proofs.atomic_steps.Cases.{step_cases}
use Rattle.step_core.proofs.atomic_steps.Bounds.{opening_in_limit, within_at, step_in_limit}
use Rattle.book_core.proofs.Histories.{IsHistory-append, filled_cells_stay, broken_cells_stay}
use Rattle.book_core.proofs.Runs.{runs_of-append, writes_of-append}
use Rattle.step_core.proofs.atomic_steps.Tiling.{HoldsAt, step_holds, opening_holds, items_hold}
use Rattle.step_core.proofs.atomic_steps.Legal.Replies.{seen, row_told}

-- what a step does to the vector that is seen of a configuration and its history
abbrev StepTold : ℕ → Configuration → List (Event × Reply) → Configuration → Option (Event × Reply) → Type 0
StepTold limit c events c' event =
    IsHistory (seen limit c.storage (runs_of events)) (option_to_list event) (seen limit c'.storage (runs_of (events ++ option_to_list event)))

-- a step is legal, or adds nothing
step_told : (c : Configuration) (events : List (Event × Reply)) (actor : ℕ) (memory : Bool) → IsInLimit c
    → HoldsAt c events → StepTold c.limit c events (step_of c actor memory).to (step_of c actor memory).event
step_told c events actor memory in_limit holds =
    step_cases (λ step. StepTold c.limit c events step.to step.event) c actor memory
    (ap (λ es. seen c.limit c.storage (runs_of es)) (append-nil events))
    (λ state command there is.
    let outcome = outcome_of c.limit c.storage actor command memory state.phase in
    subst (λ rs. IsHistory (seen c.limit c.storage (runs_of events)) (option_to_list outcome.event) (seen c.limit outcome.storage rs)) (sym (runs_of-append events (option_to_list outcome.event)))
    (row_told c.limit c.storage (runs_of events) actor (record { room = in_limit.1; tile = holds.tile; taken = holds.taken }) command memory state.phase (within_at c in_limit actor state command there is) (λ q. writes_of q events) (holds.knows actor state there)))

-- a step leaves the limit
limit_kept : (c : Configuration) (actor : ℕ) (memory : Bool) → (step_of c actor memory).to.limit ≡ c.limit
limit_kept c actor memory = step_cases (λ step. step.to.limit ≡ c.limit) c actor memory refl (λ state command there is. refl)

-- so do items, which stay within it
pub items_limit : (p : Play) (items : List Item) → (after_items p items).at.limit ≡ p.at.limit
items_limit p [] = refl
items_limit p (item ∷ items) = items_limit (with_step p (step_of p.at item.actor item.memory)) items ∙ limit_kept p.at item.actor item.memory

pub items_in_limit : (p : Play) (items : List Item) → IsInLimit p.at → IsInLimit (after_items p items).at
items_in_limit p [] in_limit = in_limit
items_in_limit p (item ∷ items) in_limit = items_in_limit (with_step p (step_of p.at item.actor item.memory)) items (step_in_limit p.at in_limit item.actor item.memory)

-- the events that further items add, and what they do to the vector that is seen
record Further (limit : ℕ) (p q : Play) : Type 0 where
  pub more : List (Event × Reply)
  pub events : q.events ≡ p.events ++ more
  pub told : IsHistory (list_seen limit p) more (list_seen limit q)

items_told : (limit : ℕ) (p : Play) (items : List Item) → p.at.limit ≡ limit → IsInLimit p.at
    → HoldsAt p.at p.events → Further limit p (after_items p items)
items_told limit p [] is in_limit holds = record { more = []; events = sym (append-nil p.events); told = refl }
items_told limit p (item ∷ items) is in_limit holds =
    let step = step_of p.at item.actor item.memory in
    let next = with_step p step in
    let others = items_told limit next items (limit_kept p.at item.actor item.memory ∙ is) (step_in_limit p.at in_limit item.actor item.memory) (step_holds p.at p.events item.actor item.memory in_limit holds) in
    record {
      more = option_to_list step.event ++ others.more;
      events = others.events ∙ append_assoc p.events (option_to_list step.event) others.more;
      told = IsHistory-append (list_seen limit p) (option_to_list step.event) others.more (list_seen limit next) (list_seen limit (after_items next items))
          (subst (λ k. StepTold k p.at p.events step.to step.event) is (step_told p.at p.events item.actor item.memory in_limit holds))
          others.told;
    }

pub every_play_is_legal : EveryPlayIsLegal
every_play_is_legal f is_layout limit programs items is_limit =
    let further = items_told limit (empty_play f limit programs) items refl (opening_in_limit f limit programs is_layout is_limit) (opening_holds f limit programs) in
    subst (λ es. IsHistory (empty_list limit) es (list_seen limit (play_of f limit programs items))) (sym further.events) further.told

-- ---- What is finished stays

-- the cells that are seen later come from those that are seen now, by a history
goes_on : (f : ℕ) → IsLayout f → (limit : ℕ) (programs : List (List Command)) (items more : List Item) → IsLimit limit
    → Further limit (play_of f limit programs items) (after_items (play_of f limit programs items) more)
goes_on f is_layout limit programs items more is_limit =
    let opens = opening_in_limit f limit programs is_layout is_limit in
    let p = play_of f limit programs items in
    let in_limit : IsInLimit p.at = items_in_limit (empty_play f limit programs) items opens in
    let holds : HoldsAt p.at p.events = items_hold (empty_play f limit programs) items opens (opening_holds f limit programs) in
    items_told limit p more (items_limit (empty_play f limit programs) items) in_limit holds

pub every_play_keeps_filled_cells : EveryPlayKeepsFilledCells
every_play_keeps_filled_cells f is_layout limit programs items is_limit more place value here =
    let p = play_of f limit programs items in
    let on = goes_on f is_layout limit programs items more is_limit in
    filled_cells_stay (list_seen limit p) (list_seen limit (after_items p more)) on.more place value on.told here

pub every_play_keeps_broken_cells : EveryPlayKeepsBrokenCells
every_play_keeps_broken_cells f is_layout limit programs items is_limit more place unmended here =
    let p = play_of f limit programs items in
    let on = goes_on f is_layout limit programs items more is_limit in
    let writes : writes_of place p.events ++ writes_of place on.more ≡ writes_of place (after_items p more).events =
    sym (ap (writes_of place) on.events ∙ writes_of-append place p.events on.more)
    in
    broken_cells_stay (list_seen limit p) (list_seen limit (after_items p more)) on.more place on.told
    (λ actor mends. unmended actor (subst (λ xs. Contains xs (Mend actor place)) writes (Contains-append_right (writes_of place p.events) (writes_of place on.more) (Mend actor place) mends)))
    here
