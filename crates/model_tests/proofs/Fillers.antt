-- Who filled a place that holds a value.
use Rattle.std.proofs.Common.{◌≡◌, ℕ, List, [], ◌∷◌, refl, sym, subst, arith, inl, inr}
use Rattle.std.specs.List.{Contains}
use Rattle.std.proofs.lemmas.List.Elements.{Contains-append_left, Contains-append_right, Contains-push}
use Rattle.book_core.specs.declared.events.Event.{Event}
use Rattle.book_core.specs.declared.events.Event.TheVariants.{Finish, Mend}
use Rattle.book_core.specs.declared.events.Reply.TheVariants as replies
use Rattle.book_core.specs.Events.{finisher_in, finishers_of}
use Rattle.book_core.specs.History.{writes_of}
use Rattle.book_core.specs.Laws.{ValuesHaveOneWriter}
use Rattle.step_core.specs.machine.Legal.{IsLegal, list_seen, EveryPlayIsLegal}
use Rattle.step_core.specs.machine.Play.{Play, play_of}
use Rattle.model_tests.specs.Places.{OfEveryPlay, FilledPlacesHaveOneFiller}
use Rattle.model_tests.proofs.PlacesLater.{first_or_later, none_inside, finish_written}

-- who fills a place by an event of these is among those who fill one
filler_among : (events : List Event) (filler place value : ℕ) → Contains events (Finish filler place value)
    → Contains (finishers_of events) filler
filler_among [] filler place value is = none_inside (Finish filler place value) is
filler_among (event ∷ events) filler place value is =
    elim (first_or_later event (Finish filler place value) events is) [
      | inl first ↦ Contains-append_left (finisher_in event) (finishers_of events) filler
          (subst (λ e. Contains (finisher_in e) filler) (sym first) (0, omega arith, refl))
      | inr later ↦ Contains-append_right (finisher_in event) (finishers_of events) filler (filler_among events filler place value later)
    ]

-- the one member of a list
only_one : (x y : ℕ) → Contains (x ∷ []) y → y ≡ x
only_one x y is = elim (first_or_later x y [] is) [ inl same ↦ sym same | inr past ↦ none_inside y past ]

filled_by : (limit : ℕ) (p : Play) → ValuesHaveOneWriter → IsLegal limit p → FilledPlacesHaveOneFiller p
filled_by limit p law legal place value here =
    let is = law limit (list_seen limit p) p.events place value legal here in
    let mend = Mend is.writer place in (
      is.writer,
      record {
        filled = is.filled;
        its = elim is.its [
          | inl owns ↦ inl owns.0
          | inr mended ↦ inr (subst (λ es. Contains es mend) (sym is.last)
              (Contains-append_left is.before (Finish is.writer place value ∷ []) mend
              (subst (λ es. Contains es mend) (sym mended.1) (Contains-push mended.0 mend))))
        ];
        alone = λ other held filled. only_one is.writer other
            (subst (λ fs. Contains fs other) is.once
            (filler_among (writes_of place p.events) other place held (finish_written p.events other place held replies.Done filled)));
      },
    )

pub filled_places_have_one_filler : ValuesHaveOneWriter → EveryPlayIsLegal → OfEveryPlay FilledPlacesHaveOneFiller
filled_places_have_one_filler law legal f is_layout limit programs items is_limit =
    filled_by limit (play_of f limit programs items) law (legal f is_layout limit programs items is_limit)
