-- What follows from the codes of ties, and what rows of tags are as values. Assumes `Logic`.
use Rattle.std.proofs.Common.{◌≡◌, ℕ, zero, suc, ◌<◌, List, [], ◌∷◌, ◌++◌, length, refl, sym, ap, ◌∙◌, arith}
use Rattle.std.specs.Prelude.{Some, slice_get}
use seplogic.Ra.Ura.{Ura}
use mir.Val.{Val, vstruct, vnil, of_list}
use base.Stored.{Gv}
use base.Logic.{ent, sep, emp}
use base.Fml.{ftrue}
use types.Logic.{Logic, sem}
use types.Kit.{‵, ◌$◌, ◌∵◌, !, qed, drop, fpick, fpack, frame, done}
use denote.RattleType.{RattleType}
use denote.Laws.{Is}
use denote.Steps.{nothing}
use denote.Shadow.{makes_shadow}
use denote.Struct.Struct.{Struct}
use denote.Struct.Owning.{shape}
use Rattle.atomic_table.proofs.Fields.{token_val}
use Rattle.tie_core.specs.Tie.{Tie, Stage, Idle, Begun, Mending, Filled, Broken}
use Rattle.tie_core.specs.Desk.{AreAlike, HasCodes}
use Rattle.tie_core.specs.Visit.{HasEntryCodes}
use Rattle.tie_core.specs.Tags.{TagView, AreTagged, row_tagged}
use Rattle.tie_core.specs.declared.visit.Entered.{Ghosts}
use Rattle.tie_core.specs.contracts.tags.RawTags as RawTags

-- ties of one table whose codes are those of the views differ in their numbers alone
pub alike : {V : Type 0} (c : V → Gv) (shows : Stage → V) (a b : Tie) → HasCodes c shows a → HasCodes c shows b → AreAlike a b
alike c shows a b at_a at_b z number k of_a of_b = λ i. record {
  views = (of_a.views ∙ sym of_b.views) i;
  id = k;
  floor = (of_a.floor ∙ sym of_b.floor) i;
  idle = (at_a Idle ∙ sym (at_b Idle)) i;
  begun = (at_a Begun ∙ sym (at_b Begun)) i;
  mending = (at_a Mending ∙ sym (at_b Mending)) i;
  filled = (at_a Filled ∙ sym (at_b Filled)) i;
  broken = (at_a Broken ∙ sym (at_b Broken)) i;
  fixed = (of_a.free ∙ sym of_b.free) i;
}

module _ {V : Type 0} (c : V → Gv) (empty placed : ℕ → ℕ → V) where
  -- the codes of the tag are those of its places' views
  abbrev pub IsTagged : TagView → Type 0
  IsTagged t = HasEntryCodes c (empty t.from t.n) (placed t.from t.n) t.tie

  -- one more at the end
  pub tagged_more : (ts : List TagView) (t : TagView) → AreTagged c empty placed ts → IsTagged t → AreTagged c empty placed (ts ++ t ∷ [])
  tagged_more [] t all one = (one, tt)
  tagged_more (s ∷ ts) t all one = (all.0, tagged_more ts t all.1 one)

  -- the one at an index
  pub tagged_at : (ts : List TagView) (i : ℕ) → i < length ts → AreTagged c empty placed ts → (t : TagView) × (slice_get ts i ≡ Some t) × IsTagged t
  tagged_at [] i near all = absurd (omega (arith, near))
  tagged_at (t ∷ ts) zero near all = (t, refl, all.0)
  tagged_at (t ∷ ts) (suc i) near all = tagged_at ts i (omega (arith, near)) all.1

  -- what is known of a row can be had twice
  pub row_twice : (ts : List TagView) {M : Type 1} {𝓤 : Ura M} (𝓛 : Logic 𝓤)
      → ent 𝓤 (sem 𝓛 (row_tagged c empty placed ts)) (sep 𝓤 (sem 𝓛 (row_tagged c empty placed ts)) (sem 𝓛 (row_tagged c empty placed ts)))
  row_twice ts 𝓛 = let φ : Type 0 = AreTagged c empty placed ts in qed 𝓛 (‵ (row_tagged c empty placed ts) ∷ []) ∵ fpick ! (λ all. drop ! $ nothing ! $ fpack ! φ (λ _. ftrue) all $ frame ! $ nothing ! $ fpack ! φ (λ _. ftrue) all $ done !)

module _ (U Y : RattleType) (g : Ghosts Y.Denot U.Denot) where
  abbrev pub RowWords : RattleType
  RowWords = Struct (shape (RawTags.the_type U Y g))

  pub row_told : (vs : List Val) → Is RowWords (tt, tt) vs → vs ≡ token_val ∷ []
  row_told vs is = is.1.0 ∙ ap (λ (ws : List Val). vstruct (of_list (ws ++ [])) ∷ []) is.1.1.0.1.0

  pub row_words : {M : Type 1} {𝓤 : Ura M} (𝓛 : Logic 𝓤) → ent 𝓤 (emp 𝓤) (sem 𝓛 (RowWords.own_val (tt, tt) (token_val ∷ [])))
  row_words 𝓛 = makes_shadow 𝓛 (RowWords.own_val (tt, tt) (token_val ∷ [])) (λ vss. (tt, ((λ uss. (tt, tt)), tt))) ((vstruct vnil ∷ [], tt), (refl, ((tt, (refl, tt)), tt)))
