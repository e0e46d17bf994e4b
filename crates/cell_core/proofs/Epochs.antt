-- The ghost steps of an epoch, and its values. Assumes `Logic`.
use Rattle.std.proofs.Common.{◌≡◌, ℕ, List, [], ◌∷◌, ◌++◌, refl, ap, ◌∙◌}
use seplogic.Ra.Ura.{Ura}
use base.Fraction.{full_share}
use base.Logic.{ent}
use base.Fml.{Lft, flft, fdead, fbor}
use base.Before.{before}
use mir.Val.{Val, vstruct, vnil, of_list}
use contract.BorrowLft.{meet_⊑_left}
use types.Logic.{Logic, sem, lfts}
use types.Kit.{‵, raw, ◌$◌, ◌∵◌, !, qed, move, use0, use2, updating, now, done}
use types.Tokens.{bor_fracture}
use types.Na.{before-Incl, before_lent}
use denote.Laws.{Is}
use denote.Shadow.{makes_shadow}
use denote.Struct.Lending.{Lends}
use denote.Struct.Struct.{Struct}
use denote.Struct.Owning.{shape}
use Rattle.cell_core.specs.contracts.slot.epoch.RawEpoch as RawEpoch
use Rattle.cell_core.specs.contracts.slot.epoch.RawEnded as RawEnded
use Rattle.cell_core.proofs.CellMade.{token_val}

module _ {M : Type 1} {𝓤 : Ura M} (𝓛 : Logic 𝓤) where
  -- a lent token keeps its lifetime alive
  pub epoch_lends : (e l : Lft) → Lends 𝓛 (flft e full_share) (λ κ. before κ e) l
  epoch_lends e l κ ts inc sp = qed 𝓛 (‵ (fbor κ (flft e full_share)) ∷ raw (lfts 𝓛 ts) ∷ []) ∵ updating ! $ bor_fracture ! tt (λ q. flft e q) full_share $
      use0 𝓛 (‵ (before (e ++ κ) e)) (before-Incl 𝓛 (e ++ κ) e (meet_⊑_left e κ)) $ move ! (1 ∷ 0 ∷ []) $ use2 𝓛 (‵ (before κ e)) (before_lent 𝓛 κ e e) $ now ! $ done !

  pub epoch_made : (e : ℕ) → ent 𝓤 (sem 𝓛 (flft (e ∷ []) full_share)) (sem 𝓛 (RawEpoch.the_row.own_val (record { marker = record {}; of = e }) (token_val ∷ [])))
  epoch_made e = let F = (Struct (shape RawEpoch.the_type)).own_val (tt, tt) (token_val ∷ []) in
      qed 𝓛 (‵ (flft (e ∷ []) full_share) ∷ []) ∵ use0 𝓛 (‵ F) (makes_shadow 𝓛 F (λ vss. (tt, ((λ uss. (tt, tt)), tt))) ((vstruct vnil ∷ [], tt), (refl, ((tt, (refl, tt)), tt)))) $ done !

  pub ended_made : (e : ℕ) → ent 𝓤 (sem 𝓛 (fdead (e ∷ []))) (sem 𝓛 (RawEnded.the_row.own_val (record { marker = record {}; of = e }) (token_val ∷ [])))
  ended_made e = let F = (Struct (shape RawEnded.the_type)).own_val (tt, tt) (token_val ∷ []) in
      qed 𝓛 (‵ (fdead (e ∷ [])) ∷ []) ∵ use0 𝓛 (‵ F) (makes_shadow 𝓛 F (λ vss. (tt, ((λ uss. (tt, tt)), tt))) ((vstruct vnil ∷ [], tt), (refl, ((tt, (refl, tt)), tt)))) $ done !

pub epoch_told : (vs : List Val) → Is (Struct (shape RawEpoch.the_type)) (tt, tt) vs → vs ≡ token_val ∷ []
epoch_told vs is = is.1.0 ∙ ap (λ (ws : List Val). vstruct (of_list (ws ++ [])) ∷ []) is.1.1.0.1.0
