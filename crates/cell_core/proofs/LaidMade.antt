-- The machine value of a link to a row, and the size of a row. Assumes `Logic`.
use Rattle.std.proofs.Common.{zero, suc, sym, subst, suc-mul, zero-mul, ◌≡◌, ℕ, ◌*◌, ◌^◌, ◌<◌, List, [], ◌∷◌, ◌++◌, refl, ap, ◌∙◌, arith}
use seplogic.Ra.Ura.{Ura}
use mir.Val.{Val, vstruct, vnil, of_list}
use base.Logic.{ent, emp}
use mir.Syntax.{ty_array}
use prog.Memory.{capped, size, align}
use prog.RawLaws.{size-raw, align-raw}
use prog.Capped.{capped_is, capped_small}
use types.Logic.{Logic, sem}
use denote.RattleType.{RattleType}
use denote.Laws.{Is}
use denote.RawPtr.{ptr_val}
use denote.Shadow.{makes_shadow}
use denote.Struct.Struct.{Struct}
use Rattle.core.specs.contracts.marker.PhantomData as marker
use denote.Memory.{lone}
use Rattle.cell_core.specs.Slot.{step}
use Rattle.cell_core.specs.Laid.{rooms_ty}
use Rattle.cell_core.specs.contracts.block.steps.Link as link
use Rattle.cell_core.proofs.CellMade.{token_val, pointers_val}

module _ (X : RattleType) where
  pub link_told : (x : (link.the_row X).Denot) (vs : List Val) → Is (link.the_row X) x vs → vs ≡ pointers_val x.words x.rooms ∷ []
  link_told x vs is = is.1.0 ∙ ap (λ (ws : List Val). vstruct (of_list (ws ++ (is.0.1.0 ++ (is.0.1.1.0 ++ [])))) ∷ []) is.1.1.0 ∙ ap (λ (ws : List Val). vstruct (of_list (ptr_val x.words ∷ (ws ++ (is.0.1.1.0 ++ [])))) ∷ []) is.1.1.1.0
      ∙ ap (λ (ws : List Val). vstruct (of_list (ptr_val x.words ∷ ptr_val x.rooms ∷ (ws ++ []))) ∷ []) is.1.1.1.1.0.1.0

pub row_size : (R : RattleType) (n : ℕ) → n * step R < 2 ^ 64 → capped (size (rooms_ty R n)) ≡ n * step R
row_size R n small = ap capped (size-raw (ty_array (lone R.mir) n)) ∙ capped_is (n * step R) small

pub row_align : (R : RattleType) (n : ℕ) → capped (align (rooms_ty R n)) ≡ capped (align (lone R.mir))
row_align R n = ap capped (align-raw (ty_array (lone R.mir) n))

module _ (X : RattleType) where
  abbrev pub Token : RattleType
  Token = Struct record { name = []; args = []; types = []; fields = marker.the_row X ∷ [] }

  pub token_told : (vs : List Val) → Is Token (record {}, tt) vs → vs ≡ token_val ∷ []
  token_told vs is = is.1.0 ∙ ap (λ (ws : List Val). vstruct (of_list (ws ++ [])) ∷ []) is.1.1.0.1.0

  pub token_made : {M : Type 1} {𝓤 : Ura M} (𝓛 : Logic 𝓤) → ent 𝓤 (emp 𝓤) (sem 𝓛 (Token.own_val (record {}, tt) (token_val ∷ [])))
  token_made 𝓛 = makes_shadow 𝓛 (Token.own_val (record {}, tt) (token_val ∷ [])) (λ vss. (tt, ((λ uss. (tt, tt)), tt))) ((vstruct vnil ∷ [], tt), (refl, ((tt, (refl, tt)), tt)))

-- what fits by the size that a word holds, fits
pub bytes_fit : (n k : ℕ) → n * capped k < 2 ^ 63 → n * k < 2 ^ 63
bytes_fit zero k h = let none = zero-mul k in omega arith
bytes_fit (suc n) k h =
    let more = suc-mul n (capped k) in let same : capped k ≡ k = capped_is k (let x = capped_small k (omega arith) in omega arith) in
    subst (λ (j : ℕ). suc n * j < 2 ^ 63) same h

pub uncapped : (i k : ℕ) → i * k < 2 ^ 64 → i * capped k ≡ i * k
uncapped zero k h = zero-mul (capped k) ∙ sym (zero-mul k)
uncapped (suc i) k h = let more = suc-mul i k in ap (λ (j : ℕ). suc i * j) (capped_is k (omega arith))
