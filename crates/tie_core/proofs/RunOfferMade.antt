-- An offer for a run, as a value: it has no bytes. Assumes `Logic`.
use Rattle.std.proofs.Common.{◌≡◌, List, [], ◌∷◌, ◌++◌, refl, ap, ◌∙◌}
use seplogic.Ra.Ura.{Ura}
use mir.Val.{Val, vstruct, vnil, of_list}
use base.Logic.{ent, emp}
use types.Logic.{Logic, sem}
use denote.RattleType.{RattleType}
use denote.Laws.{Is}
use denote.Ref.{NamedLft}
use denote.Shadow.{makes_shadow}
use denote.Struct.Struct.{Struct}
use denote.Struct.Owning.{shape}
use Rattle.tie_core.specs.declared.run.RunBook.{Ghosts}
use Rattle.tie_core.specs.contracts.run.RunOffer as RunOffer
use Rattle.atomic_table.proofs.Fields.{token_val}

module _ (a : NamedLft) (X K : RattleType) (g : Ghosts K.Denot X.Denot) where
  abbrev pub RunOfferWords : RattleType
  RunOfferWords = Struct (shape (RunOffer.the_type a X K g))

  pub run_offer_told : (vs : List Val) → Is RunOfferWords (record {}, tt) vs → vs ≡ token_val ∷ []
  run_offer_told vs is = is.1.0 ∙ ap (λ (ws : List Val). vstruct (of_list (ws ++ [])) ∷ []) is.1.1.0.1.0

  pub run_offer_made : {M : Type 1} {𝓤 : Ura M} (𝓛 : Logic 𝓤) → ent 𝓤 (emp 𝓤) (sem 𝓛 (RunOfferWords.own_val (record {}, tt) (token_val ∷ [])))
  run_offer_made 𝓛 = makes_shadow 𝓛 (RunOfferWords.own_val (record {}, tt) (token_val ∷ [])) (λ vss. (tt, ((λ uss. (tt, tt)), tt))) ((vstruct vnil ∷ [], tt), (refl, ((tt, (refl, tt)), tt)))
