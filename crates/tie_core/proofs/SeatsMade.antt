-- Seats, as a value: they have no bytes. Assumes `Logic`.
use Rattle.std.proofs.Common.{◌≡◌, ℕ, zero, suc, ◌≤◌, min, List, [], ◌∷◌, ◌++◌, refl, ap, ◌∙◌, arith}
use seplogic.Ra.Ura.{Ura}
use mir.Val.{Val, vstruct, vnil, of_list}
use base.Logic.{ent, emp}
use base.Fml.{ftrue}
use types.Logic.{Logic, sem}
use types.Kit.{‵, ◌$◌, ◌∵◌, !, qed, fjoin, fpack, use0, done}
use denote.RattleType.{RattleType}
use denote.Laws.{Is}
use denote.Shadow.{makes_shadow}
use denote.Steps.{nothing}
use denote.Struct.Struct.{Struct}
use denote.Struct.Owning.{shape}
use Rattle.tie_core.specs.Tie.{Idle, seats, idle_ties}
use Rattle.tie_core.specs.contracts.seats.Seats as Seats
use Rattle.tie_core.specs.contracts.seats.StagedSeats as StagedSeats
use Rattle.atomic_table.proofs.Fields.{token_val}

abbrev pub SeatWords : RattleType
SeatWords = Struct (shape Seats.the_type)

pub seats_told : (vs : List Val) → Is SeatWords (tt, tt) vs → vs ≡ token_val ∷ []
seats_told vs is = is.1.0 ∙ ap (λ (ws : List Val). vstruct (of_list (ws ++ [])) ∷ []) is.1.1.0.1.0

pub seats_made : {M : Type 1} {𝓤 : Ura M} (𝓛 : Logic 𝓤) → ent 𝓤 (emp 𝓤) (sem 𝓛 (SeatWords.own_val (tt, tt) (token_val ∷ [])))
seats_made 𝓛 = makes_shadow 𝓛 (SeatWords.own_val (tt, tt) (token_val ∷ [])) (λ vss. (tt, ((λ uss. (tt, tt)), tt))) ((vstruct vnil ∷ [], tt), (refl, ((tt, (refl, tt)), tt)))

abbrev pub StagedWords : RattleType
StagedWords = Struct (shape StagedSeats.the_type)

pub staged_made : {M : Type 1} {𝓤 : Ura M} (𝓛 : Logic 𝓤) → ent 𝓤 (emp 𝓤) (sem 𝓛 (StagedWords.own_val (tt, tt) (token_val ∷ [])))
staged_made 𝓛 = makes_shadow 𝓛 (StagedWords.own_val (tt, tt) (token_val ∷ [])) (λ vss. (tt, ((λ uss. (tt, tt)), tt))) ((vstruct vnil ∷ [], tt), (refl, ((tt, (refl, tt)), tt)))

-- cells of an owner's, which nobody has begun, have no seats
pub idle_owned : (n : ℕ) {M : Type 1} {𝓤 : Ura M} (𝓛 : Logic 𝓤) → ent 𝓤 (emp 𝓤) (sem 𝓛 (seats (idle_ties n)))
idle_owned zero 𝓛 = qed 𝓛 [] ∵ nothing ! $ done !
idle_owned (suc n) 𝓛 = qed 𝓛 [] ∵ use0 𝓛 (‵ (seats (idle_ties n))) (idle_owned n 𝓛) $ nothing ! $ fpack ! (Idle ≡ Idle) (λ _. ftrue) refl $ fjoin ! $ done !

pub min_of : (n m : ℕ) → n ≤ m → min n m ≡ n
min_of n m le = omega arith
