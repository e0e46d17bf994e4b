-- Wins put in order of place, and the history that they make.
use Rattle.std.proofs.Common.{◌≡◌, ℕ, ◌+◌, ◌<◌, ◌≤◌, List, [], ◌∷◌, ◌++◌, length, get_or, Option, Some, None, refl, sym, ap, ◌∙◌, subst, arith, slice_get}
use Rattle.std.specs.List.{Contains}
use Rattle.std.proofs.lemmas.List.{get_or_default, length-append, length-set}
use Rattle.book_core.specs.declared.cells.Cell.{Cell}
use Rattle.book_core.specs.declared.cells.Cell.TheVariants.{Pending, Filled}
use Rattle.book_core.specs.declared.events.Event.{Event}
use Rattle.book_core.specs.declared.events.Event.TheVariants.{Claim}
use Rattle.book_core.specs.declared.events.Reply.{Reply}
use Rattle.book_core.specs.declared.events.Reply.TheVariants as replies
use Rattle.book_core.specs.Cells.{CellList, empty_list, apply_event, with_pending, with_cell}
use Rattle.book_core.specs.History.{IsHistory}
use Rattle.book_core.specs.Laws.{HistoriesSplit, ClaimsAppend, OwnersFill}
use Rattle.race_core.specs.declared.team.Win.{Win}
use Rattle.race_core.specs.Race.{IsWinOf, AreAllPlaces, AreInOrder, events_of_win}

-- what a list has at an index below its length is one of its elements
pub at_index : {X : Type 0} (xs : List X) (i : ℕ) (d : X) → i < length xs → Contains xs (get_or xs i d)
at_index xs i d near = (i, near, get_or_default xs i (get_or xs i d) d near)

-- the slot has the win of this place
abbrev pub HasPlace : List (Option Win) → ℕ → Type 0
HasPlace slots place = IsWinOf place (get_or slots place None)

-- the wins before this index are at their places
pub record ArePut (size : ℕ) (wins : List Win) (i : ℕ) (slots : List (Option Win)) : Type 0 where
  pub long : length slots ≡ size
  pub put : (j : ℕ) (win : Win) → j < i → j < length wins → get_or wins j win ≡ win → win.place < size → HasPlace slots win.place

-- so all places have theirs, once each win is put
pub all_put : (size : ℕ) (wins : List Win) (i : ℕ) (slots : List (Option Win)) → length wins ≤ i → AreAllPlaces size wins
    → ArePut size wins i slots → AreInOrder size slots
all_put size wins i slots end all put = (
  put.long,
  λ place below.
      let won = all place below in
      let at = won.1 in
      subst (HasPlace slots) won.2 (put.put at.0 won.0 (omega (arith, at.1, end)) at.1 at.2 (subst (λ p. p < size) (sym won.2) below)),
)

-- the history leads to a list of this length
pub record LeadsTo (limit : ℕ) (history : List (Event × Reply)) (n : ℕ) : Type 0 where
  pub cells : List Cell
  pub long : length cells ≡ n
  pub legal : IsHistory (empty_list limit) history (record { limit = limit; cells = cells })

-- the last place is pending for its claimer
last_pending : (cells : List Cell) (actor : ℕ) → slice_get (cells ++ Pending actor ∷ []) (length cells) ≡ Some (Pending actor)
last_pending [] actor = refl
last_pending (c ∷ cells) actor = last_pending cells actor

-- the history goes on by the win of the next place
pub leads_on : HistoriesSplit → ClaimsAppend → OwnersFill → (limit n : ℕ) (history : List (Event × Reply)) (win : Win)
    → LeadsTo limit history n → win.place ≡ n → n + 1 ≤ limit
    → LeadsTo limit (history ++ events_of_win win) (n + 1)
leads_on split append fill limit n history win leads here room =
    let v : CellList = record { limit = limit; cells = leads.cells } in
    let long : length leads.cells ≡ win.place = leads.long ∙ sym here in
    let w : CellList = with_pending v win.worker 1 in
    let pending : slice_get w.cells win.place ≡ Some (Pending win.worker) =
    subst (λ p. slice_get w.cells p ≡ Some (Pending win.worker)) long (last_pending leads.cells win.worker)
    in
    let u : CellList = with_cell w win.place (Filled win.value) in
    let claimed : apply_event v (Claim win.worker 1) ≡ Some (w, replies.Run win.place 1) =
    append v win.worker 1 (omega arith) ∙ ap (λ k. Some (w, replies.Run k 1)) long
    in
    let filled = fill w win.worker win.place win.value pending in
    let both : IsHistory v (events_of_win win) u = (w, claimed, (u, filled, refl)) in
    let size : length u.cells ≡ n + 1 = omega (arith, length-set w.cells win.place (Filled win.value), length-append leads.cells (Pending win.worker ∷ []), leads.long) in
    record {
      cells = u.cells;
      long = size;
      legal = (split (empty_list limit) u history (events_of_win win)).1 (v, leads.legal, both);
    }
