-- `idle` makes ties that have no seats.
use Rattle.atomic_table.proofs.Names.{◌≡◌, ℕ, [], ◌∷◌, refl, w64, Val, vint, SProp, emp, ‵, raw, ◌⊛◌, ◌$◌, ◌∵◌, !, qed, by, keep, split, fjoin, use0, no_more, and_then, returns, enter, alloc_all, pass_all, free_all, look_at, get, sets, agg, tables, yes, RattleType, owns, types_at, plain, nothing, alive, Stays, stay_dropped, walk_of, Goes-dropped, fact, fact_i, u64, uint_vals, uint_Tells}
use Rattle.atomic_table.proofs.Walks.{proved, leaves}
use Rattle.atomic_table.proofs.Fields.{token_val}
use Rattle.tie_core.specs.Tie.{seats, idle_ties}
use Rattle.tie_core.specs.contracts.seats.Seats as Seats
use Rattle.tie_core.proofs.SeatsMade.{SeatWords, seats_made, idle_owned}
use Rattle.tie_core.specs.contracts.seats.Seats.idle.{ended, clauses}
use Rattle.tie_core.specs.contracts.seats.Seats.idle.Key.{name as #self}
use Rattle.tie_core.proofs.seats.Seats.idle.Statement.{statement}
use Rattle.tie_core.proofs.seats.Seats.idle.Code as code

pub idle_spec : {M : Type 1} → statement M
idle_spec 𝓤 𝓛 𝓜 𝓡 wired =
    let H = 𝓛.H in let 𝓣 = tables 𝓤 H 𝓜 𝓡 𝓡.env in let c = clauses 𝓛 𝓜.mem 𝓡.returns in let Sr : RattleType = Seats.the_row in let number = plain (λ _. u64) in
    let hs : Stays ended.signature.params ended.kept = (stay_dropped number yes, tt) in
    proved 𝓛 ended hs c 𝓜 𝓡 (Goes-dropped 𝓛 0 number yes (λ κs x f. refl), tt) #self code.function (code.unfolded 𝓤 H 𝓜 𝓡 wired)
    (λ κs. (uint_vals w64, tt)) (λ κs. (uint_Tells w64, tt)) (λ κs qs bounds a gh are.
    let n : ℕ = a.0 in let y : (walk_of 𝓛 ended hs c).Ghost = ((κs, qs, bounds, a, (vint w64 n ∷ [], tt)), gh) in let Post : Val → SProp 𝓤 = (walk_of 𝓛 ended hs c).post y in let r : Sr.Denot = record { marker = record {}; ties = idle_ties n } in
    qed 𝓛 ((raw (alive 𝓛 ended.signature κs qs) ⊛ ‵ (owns (types_at ended.signature.params κs) a y.0.4)) ∷ raw ((c κs a).requires gh) ∷ []) ∵ split ! $ keep ! (0 ∷ []) $
    use0 𝓛 (‵ (seats (idle_ties n))) (idle_owned n 𝓛) $ use0 𝓛 (‵ (SeatWords.own_val (tt, tt) (token_val ∷ []))) (seats_made 𝓛) $ fjoin ! $
    enter ! 𝓣.C 𝓣.Λ code.function (vint w64 n ∷ []) Post $ alloc_all ! (λ l. pass_all ! refl ((tt, record { fits = are.0.1 }), tt) $
    sets ! (agg ! (no_more !)) refl (tt, tt) $ sets ! (agg ! (and_then ! (get ! refl) (no_more !))) refl (tt, (tt, tt)) $
    use0 𝓛 (raw (fact 𝓤 (idle_ties n ≡ idle_ties n))) (fact_i 𝓤 (idle_ties n ≡ idle_ties n) (emp 𝓤) refl) $ nothing ! $ nothing ! $ fjoin ! $
    returns ! (look_at ! 0 refl) $ free_all ! refl $ keep ! (3 ∷ 0 ∷ 2 ∷ 1 ∷ []) $ by ! (leaves 𝓛 ended hs c y token_val r (tt, tt) (tt, tt))))
