-- The machine value of an `EntrySight`, and one behind a `&mut` opened and closed. Assumes `Logic`.
use Rattle.std.proofs.Common.{◌≡◌, ℕ, [], ◌∷◌, refl, ap, IfSome}
use seplogic.Ra.Ura.{Ura}
use mir.Val.{Val, vstruct, vcons, vnil}
use base.Stored.{gnil, gcons}
use base.Logic.{SProp, ent, sep, wand, all, emp, emp∗, via, fst∗, snd∗, apply∗}
use base.Fml.{Lft, Share, Fml, fsep, fobs, fbor, flft}
use types.Logic.{Logic, sem, lfts}
use types.SemTy.{Body}
use types.Kit.{‵, raw, ◌⊛◌, later, ◌$◌, ◌∵◌, !, qed, move, drop, fsplit, fjoin, frame, each, assume, updating, now, done, use0, use2, use1, split, await}
use contract.Monad.{fact, fact_i, fact_mono, conj_i}
use denote.RattleType.{RattleType}
use denote.Memory.{mem}
use denote.Sharing.{said}
use denote.Shadow.{makes_shadow}
use denote.Steps.{opens, closes}
use denote.Struct.Struct.{Struct}
use denote.Struct.Owning.{shape}
use denote.Struct.Lending.{Lends}
use Rattle.std.specs.declared.option.Option.{Option}
use Rattle.std.specs.declared.option.Option.TheVariants.{None, Some}
use Rattle.once_cell.proofs.Moves.{second}
use Rattle.table_core.specs.Entry.{Agrees, noted}
use Rattle.table_core.specs.contracts.entry.steps.EntrySight as sight

abbrev pub token : Val
token = vstruct (vcons (vstruct vnil) vnil)

module _ {M : Type 1} {𝓤 : Ura M} (𝓛 : Logic 𝓤) (R : RattleType) where
  abbrev pub EntrySight : RattleType
  EntrySight = sight.the_row R

  abbrev Data : Fml
  Data = (Struct (shape (sight.the_type R))).own_val (tt, tt) (token ∷ [])

  -- a sight is made of what it knows
  pub sight_made : (γ : ℕ) (k : Option R.Denot)
      → ent 𝓤 (sem 𝓛 (noted R γ k)) (sem 𝓛 (EntrySight.own_val (record { marker = record {}; of = γ; known = k }) (token ∷ [])))
  sight_made γ k = qed 𝓛 (‵ (noted R γ k) ∷ []) ∵ use0 𝓛 (‵ Data) (makes_shadow 𝓛 Data (λ vss. (tt, ((λ uss. (tt, tt)), tt))) ((vstruct vnil ∷ [], tt), (refl, ((tt, (refl, tt)), tt)))) $ fjoin ! $ done !

  -- what is known is known twice
  pub noted_twice : (γ : ℕ) (k : Option R.Denot) → ent 𝓤 (sem 𝓛 (noted R γ k)) (sep 𝓤 (sem 𝓛 (noted R γ k)) (sem 𝓛 (noted R γ k)))
  noted_twice γ None = emp∗ 𝓤 (emp 𝓤)
  noted_twice γ (Some x) = 𝓛.names.res_dup γ (gcons gnil (R.coded.code x))

  -- an entry has one block
  pub noted_agree : (γ : ℕ) (k j : Option R.Denot)
      → ent 𝓤 (sep 𝓤 (sem 𝓛 (noted R γ k)) (sem 𝓛 (noted R γ j))) (fact 𝓤 (IfSome j (Agrees k)))
  noted_agree γ k None = fact_i 𝓤 _ _ tt
  noted_agree γ None (Some y) = fact_i 𝓤 _ _ tt
  noted_agree γ (Some x) (Some y) = let m = gcons gnil (R.coded.code x) in let n = gcons gnil (R.coded.code y) in let P : SProp 𝓤 = 𝓛.A.res γ m in let Q : SProp 𝓤 = 𝓛.A.res γ n in
      via 𝓤 _ (via 𝓤 _ (conj_i 𝓤 P Q (fst∗ 𝓤 P Q) (snd∗ 𝓤 P Q)) (𝓛.names.res_one γ m n)) (fact_mono 𝓤 (m ≡ n) (x ≡ y) (λ e. R.coded.inj x y (ap second e)))

  -- what is known twice can be lent as it is
  pub noted_lends : (γ : ℕ) (k : Option R.Denot) (l : Lft) → Lends 𝓛 (noted R γ k) (said (noted R γ k)) l
  noted_lends γ k l κ ts inc sp = let P : Fml = noted R γ k in let Back = 𝓛.H.⇛ (sep 𝓤 (𝓛.A.bor κ P) (lfts 𝓛 ts)) in
      qed 𝓛 (‵ (fbor κ P) ∷ raw (lfts 𝓛 ts) ∷ []) ∵ updating ! $ use2 𝓛 (later (‵ P ⊛ raw (wand 𝓤 (sem 𝓛 P) Back))) (𝓛.more.bor_acc_by κ ts P sp) $ await ! tt $ split ! $ use1 𝓛 (‵ P ⊛ ‵ P) (noted_twice γ k) $ split ! $ move ! (0 ∷ 2 ∷ []) $
      use2 𝓛 (later (‵ (fbor κ P) ⊛ raw (lfts 𝓛 ts))) (apply∗ 𝓤 (sem 𝓛 P) Back) $ await ! tt $ split ! $ drop ! $ move ! (1 ∷ 0 ∷ []) $ now ! $ done !

  module _ (κ : Lft) (q : Share) (b o ν : ℕ) where
    abbrev pub lent : EntrySight.Denot → Fml
    lent n = fsep (fobs ν (EntrySight.coded.code n)) (fbor κ (Body (mem EntrySight) b o ν))

    abbrev pub Closes : EntrySight.Denot → SProp 𝓤
    Closes n = wand 𝓤 (sem 𝓛 (noted R n.of n.known)) (𝓛.H.⇛ (sep 𝓤 (sem 𝓛 (lent n)) (𝓛.A.lft κ q)))

    -- a `&mut` to a sight opens to what it knows, and closes on what it then knows
    pub sight_opens : (n : EntrySight.Denot)
        → ent 𝓤 (sep 𝓤 (sem 𝓛 (lent n)) (𝓛.A.lft κ q)) (𝓛.H.⇛ (sep 𝓤 (sem 𝓛 (noted R n.of n.known)) (all 𝓤 Closes)))
    sight_opens n = qed 𝓛 (‵ (lent n) ∷ ‵ (flft κ q) ∷ []) ∵ updating ! $ fsplit ! $ opens ! tt EntrySight b o (λ vs. move ! (1 ∷ []) $ fsplit ! $ now ! $ move ! (1 ∷ []) $ frame ! $
        each ! Closes (λ m. assume ! (‵ (noted R m.of m.known)) $ updating ! $ move ! (1 ∷ 0 ∷ []) $ fjoin ! $ move ! (1 ∷ 0 ∷ []) $ closes ! tt EntrySight m vs b o $ fjoin ! $ now ! $ done !))
