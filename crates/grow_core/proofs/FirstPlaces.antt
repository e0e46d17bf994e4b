-- The history of a vector begins with the list that the vector was opened on.
use Rattle.std.proofs.Common.{◌≡◌, ℕ, Bool, false, List, length, get_or, if◌then◌else◌, Option, Some, None, is_some, option_map, slice_get, ap, ◌∙◌, subst, arith}
use Rattle.std.proofs.lemmas.List.{length-map}
use Rattle.std.proofs.lemmas.Option.{slice_get-map, slice_get_within, get_or_from_slice_get}
use Rattle.claim_core.specs.Word.{WordView, first_at}
use Rattle.claim_core.specs.History.{value_cell, broken_cell}
use Rattle.claim_core.specs.Laws.{FirstPlacesAreTold}
use Rattle.cell_core.specs.Member.{MemberView}
use Rattle.table_core.specs.Table.{TableView}
use Rattle.grow_core.specs.Keys.{KeyRow}
use Rattle.grow_core.specs.Parts.{values_in, filled_in}
use Rattle.tie_core.specs.Tie.{Tie}
use Rattle.grow_core.specs.Ties.{TagRow}
use Rattle.grow_core.specs.Vector.{VectorView, IsShared, BeginsAsOpened, vector_of}

-- whether a member has a value
filled_at : {T : Type 0} (members : List (Option T)) (place : ℕ) (member : Option T) → slice_get members place ≡ Some member
    → get_or (filled_in members) place false ≡ is_some member
filled_at {T} members place member there =
    get_or_from_slice_get (filled_in members) place (is_some member) false
    (slice_get-map (λ (m : Option T). is_some m) members place ∙ ap (option_map (λ (m : Option T). is_some m)) there)

-- what the history begins with at a member's place
first_is : {T : Type 0} → FirstPlacesAreTold → (word : WordView) (members : List (Option T)) → length members ≡ word.base
    → word.filled ≡ filled_in members → (place : ℕ) (member : Option T) → slice_get members place ≡ Some member
    → first_at word place ≡ Some (if is_some member then value_cell place else broken_cell)
first_is law word members long filled place member there =
    let within = slice_get_within members place member there in
    let told : get_or word.filled place false ≡ is_some member =
    ap (λ (fs : List Bool). get_or fs place false) filled ∙ filled_at members place member there in
    law word place (omega (arith, within, long)) ∙ ap (λ (b : Bool). Some (if b then value_cell place else broken_cell)) told

pub begins_as_opened : {T : Type 0} {word : WordView} {segments : TableView} {keys : KeyRow} {known : List (MemberView T)} {count : ℕ} {cells : Tie} {tags : TagRow} {vector : VectorView T}
    → FirstPlacesAreTold → IsShared word segments keys known count cells tags → vector_of word segments known ≡ vector
    → BeginsAsOpened vector
begins_as_opened {T} {word} {segments} {keys} {known} law shared view_is =
    let long : length (values_in known) ≡ word.base = length-map known (λ (m : MemberView T). m.value) ∙ shared.whole.all in
    subst (λ (v : VectorView T). BeginsAsOpened v) view_is
    (record {
      values = λ place x there. first_is law word (values_in known) long shared.filled place (Some x) there;
      broken = λ place there. first_is law word (values_in known) long shared.filled place None there;
    })
