-- What visits and tags of entries are as values, and what a desk makes of a seat for them. Assumes `Logic`.
use Rattle.std.proofs.Common.{◌≡◌, ℕ, List, [], ◌∷◌, ◌++◌, refl, sym, ap, ◌∙◌}
use Rattle.std.specs.Prelude.{Option, Some, None}
use seplogic.Ra.Ura.{Ura}
use mir.Val.{Val, vstruct, vnil, of_list}
use base.Share.{three_quarters}
use base.Stored.{Gv, Coded}
use base.Logic.{SProp, ent, sep, wand, emp, upd, upd_i}
use base.Fml.{Lft, Fml}
use types.Logic.{Logic, sem}
use types.Kit.{‵, raw, ◌⊛◌, ◌$◌, ◌∵◌, !, qed, by, move, keep, split, split3, join, fjoin, use3, each, assume, suffices, rewrite, settle, done}
use denote.RattleType.{RattleType}
use denote.RawPtr.{Ptr}
use denote.Laws.{Is}
use denote.Ref.{NamedLft}
use denote.Shadow.{makes_shadow}
use denote.Struct.Struct.{Struct}
use denote.Struct.Owning.{shape}
use Rattle.atomic_table.specs.Table.{State}
use Rattle.atomic_table.specs.Seated.{TableId, age, seen}
use Rattle.atomic_table.proofs.Fields.{token_val}
use Rattle.tie_core.specs.Desk.{gone}
use Rattle.tie_core.specs.Permits.{PermitsLook}
use Rattle.tie_core.specs.Visit.{EntryTie, Content, HasEntryCodes, HasVisited, PermitsVisit, PermitsPublish, entry_seat, visited, visit}
use Rattle.tie_core.specs.declared.visit.EntryBook as book
use Rattle.tie_core.specs.declared.visit.Entered as entered
use Rattle.tie_core.specs.contracts.visit.Visit as Visit
use Rattle.tie_core.specs.contracts.visit.EntryTag as EntryTag
use Rattle.tie_core.specs.contracts.visit.EntrySeat as EntrySeat
use Rattle.tie_core.specs.contracts.visit.PlacedSeat as PlacedSeat
use Rattle.tie_core.proofs.SeatSteps as seats

module _ (a : NamedLft) (X K : RattleType) (g : book.Ghosts K.Denot X.Denot) where
  abbrev pub VisitWords : RattleType
  VisitWords = Struct (shape (Visit.the_type a X K g))

  pub visit_told : (vs : List Val) → Is VisitWords (record {}, tt) vs → vs ≡ token_val ∷ []
  visit_told vs is = is.1.0 ∙ ap (λ (ws : List Val). vstruct (of_list (ws ++ [])) ∷ []) is.1.1.0.1.0

  pub visit_made : {M : Type 1} {𝓤 : Ura M} (𝓛 : Logic 𝓤) → ent 𝓤 (emp 𝓤) (sem 𝓛 (VisitWords.own_val (record {}, tt) (token_val ∷ [])))
  visit_made 𝓛 = makes_shadow 𝓛 (VisitWords.own_val (record {}, tt) (token_val ∷ [])) (λ vss. (tt, ((λ uss. (tt, tt)), tt))) ((vstruct vnil ∷ [], tt), (refl, ((tt, (refl, tt)), tt)))

module _ (U Y : RattleType) (g : entered.Ghosts Y.Denot U.Denot) where
  abbrev pub EntryTagWords : RattleType
  EntryTagWords = Struct (shape (EntryTag.the_type U Y g))

  pub entry_tag_words : {M : Type 1} {𝓤 : Ura M} (𝓛 : Logic 𝓤) → ent 𝓤 (emp 𝓤) (sem 𝓛 (EntryTagWords.own_val (tt, tt) (token_val ∷ [])))
  entry_tag_words 𝓛 = makes_shadow 𝓛 (EntryTagWords.own_val (tt, tt) (token_val ∷ [])) (λ vss. (tt, ((λ uss. (tt, tt)), tt))) ((vstruct vnil ∷ [], tt), (refl, ((tt, (refl, tt)), tt)))

abbrev pub EntrySeatWords : RattleType
EntrySeatWords = Struct (shape EntrySeat.the_type)

pub entry_seat_told : (vs : List Val) → Is EntrySeatWords (tt, tt) vs → vs ≡ token_val ∷ []
entry_seat_told vs is = is.1.0 ∙ ap (λ (ws : List Val). vstruct (of_list (ws ++ [])) ∷ []) is.1.1.0.1.0

pub entry_seat_words : {M : Type 1} {𝓤 : Ura M} (𝓛 : Logic 𝓤) → ent 𝓤 (emp 𝓤) (sem 𝓛 (EntrySeatWords.own_val (tt, tt) (token_val ∷ [])))
entry_seat_words 𝓛 = makes_shadow 𝓛 (EntrySeatWords.own_val (tt, tt) (token_val ∷ [])) (λ vss. (tt, ((λ uss. (tt, tt)), tt))) ((vstruct vnil ∷ [], tt), (refl, ((tt, (refl, tt)), tt)))

abbrev pub PlacedSeatWords : RattleType
PlacedSeatWords = Struct (shape PlacedSeat.the_type)

pub placed_seat_words : {M : Type 1} {𝓤 : Ura M} (𝓛 : Logic 𝓤) → ent 𝓤 (emp 𝓤) (sem 𝓛 (PlacedSeatWords.own_val (tt, tt) (token_val ∷ [])))
placed_seat_words 𝓛 = makes_shadow 𝓛 (PlacedSeatWords.own_val (tt, tt) (token_val ∷ [])) (λ vss. (tt, ((λ uss. (tt, tt)), tt))) ((vstruct vnil ∷ [], tt), (refl, ((tt, (refl, tt)), tt)))

-- an update that has run has what the step found
pub found_of : (made : Option Content) → HasVisited made → (v : Content) × (made ≡ Some v)
found_of None is = absurd is
found_of (Some v) is = (v, refl)

module _ {M : Type 1} {𝓤 : Ura M} (𝓛 : Logic 𝓤) (R : RattleType) {V : Type 0} (cv : Coded V) (holds : State R.Denot V → Type 0) (w : Ptr) (z : TableId) where
  abbrev Pr : Type 2
  Pr = SProp 𝓤

  abbrev ◌⊢◌ : Pr → Pr → Type 1
  P ⊢ Q = ent 𝓤 P Q

  abbrev ◌∗◌ : Pr → Pr → Pr
  P ∗ Q = sep 𝓤 P Q

  abbrev ⟦◌⟧ : Fml → Pr
  ⟦ P ⟧ = sem 𝓛 P

  infix 26 ◌⊢◌
  infixr 35 ◌∗◌
  abbrev α : Lft
  α = age z

  abbrev J : Fml
  J = seats.J 𝓛 R cv holds w z

  abbrev half : ℕ → V → Fml
  half = seats.half 𝓛 R cv holds w z

  module _ (t : EntryTie) (id : ℕ) (v empty placed : V) (then : Content → V → Type 0) where
    abbrev pub gain : Content → Fml
    gain c = gone cv.code z id (then c)

    -- a seat, by the name of its table and its code
    abbrev seat : ℕ → ℕ × Gv → Fml
    seat k u = seen (λ (g : Gv). g) u.0 k three_quarters u.1

    abbrev Turned : Content → Content → Pr
    Turned brought c = wand 𝓤 (⟦ entry_seat (Some t) c ⟧ ∗ ⟦ J ⟧) (upd 𝓤 ⟦ visited α J gain t brought c ⟧)

    -- the caller's seat goes along with a look that leaves the entry's seat
    looked : t.views ≡ z.views_name → (c : Content) (k : ℕ) (x : V) (g : Gv) → g ≡ cv.code x → PermitsLook holds id v k x (then c)
        → ⟦ half id v ⟧ ∗ ⟦ seat k (t.views, g) ⟧ ∗ ⟦ J ⟧ ⊢ upd 𝓤 (⟦ seat k (t.views, g) ⟧ ∗ ⟦ J ⟧ ∗ ⟦ gain c ⟧)
    looked views c k x g code law = let Z : Pr = ⟦ seat k (t.views, g) ⟧ ∗ ⟦ J ⟧ ∗ ⟦ gain c ⟧ in
        qed 𝓛 (‵ (half id v) ∷ ‵ (seat k (t.views, g)) ∷ ‵ J ∷ []) ∵ rewrite ! 1 (λ (u : ℕ × Gv). ‵ (seat k u)) (λ i. (views i, code i)) refl $ move ! (2 ∷ 0 ∷ 1 ∷ []) $
        use3 𝓛 (raw (upd 𝓤 (⟦ half k x ⟧ ∗ ⟦ J ⟧ ∗ ⟦ gain c ⟧))) (seats.looks_on 𝓛 R cv holds w z id v k x (then c) law) $ settle 𝓛 Z (‵ (half k x) ⊛ ‵ J ⊛ ‵ (gain c)) $ split3 ! $ suffices ! _ (upd_i 𝓤 Z) $
        rewrite ! 0 (λ (u : ℕ × Gv). ‵ (seat k u)) (λ i. (sym views i, sym code i)) refl $ done !

    -- the same, with the entry's own words
    stays : t.views ≡ z.views_name → HasEntryCodes cv.code empty placed t → PermitsVisit holds id v t empty placed then → (c : Content)
        → ⟦ half id v ⟧ ∗ ⟦ entry_seat (Some t) c ⟧ ∗ ⟦ J ⟧ ⊢ upd 𝓤 (⟦ entry_seat (Some t) c ⟧ ∗ ⟦ J ⟧ ∗ ⟦ gain c ⟧)
    stays views codes law None = looked views None t.own empty t.empty codes.empty law.at_none
    stays views codes law (Some k) = looked views (Some k) k placed t.placed codes.placed (law.at_block k)

    -- the caller's seat makes the update of a look
    pub visits : t.views ≡ z.views_name → HasEntryCodes cv.code empty placed t → PermitsVisit holds id v t empty placed then → ⟦ half id v ⟧ ⊢ ⟦ visit α J gain t None ⟧
    visits views codes law = qed 𝓛 (‵ (half id v) ∷ []) ∵ each ! (Turned None) (λ c. let Z : Pr = ⟦ visited α J gain t None c ⟧ in
        assume ! (‵ (entry_seat (Some t) c) ⊛ ‵ J) $ split ! $ move ! (2 ∷ 0 ∷ 1 ∷ []) $
        use3 𝓛 (raw (upd 𝓤 (⟦ entry_seat (Some t) c ⟧ ∗ ⟦ J ⟧ ∗ ⟦ gain c ⟧))) (stays views codes law c) $ settle 𝓛 Z (‵ (entry_seat (Some t) c) ⊛ ‵ J ⊛ ‵ (gain c)) $ split3 ! $ suffices ! _ (upd_i 𝓤 Z) $
        -- [the entry's seat; the table; the gain]
        move ! (1 ∷ 2 ∷ []) $ fjoin ! $ move ! (1 ∷ 0 ∷ []) $ fjoin ! $ done !)

    module _ (spent : V) (j : ℕ) (y : V) where
      -- what becomes of an entry when a block is brought: an empty one takes the block's seat, another one stays
      taken : t.views ≡ z.views_name → HasEntryCodes cv.code empty placed t → PermitsPublish holds id v t empty spent placed j y then → (c : Content)
          → ⟦ half id v ⟧ ∗ ⟦ half j y ⟧ ⊢ Turned (Some j) c
      taken views codes law None = let Z : Pr = ⟦ visited α J gain t (Some j) None ⟧ in
          qed 𝓛 (‵ (half id v) ∷ ‵ (half j y) ∷ []) ∵ assume ! (‵ (entry_seat (Some t) None) ⊛ ‵ J) $ split ! $
          rewrite ! 0 (λ (u : ℕ × Gv). ‵ (seat t.own u)) (λ i. (views i, codes.empty i)) refl $
          -- [the entry's own seat; the table; the caller's seat; the block's]
          move ! (0 ∷ 3 ∷ []) $ join ! $ move ! (1 ∷ 2 ∷ 0 ∷ []) $
          use3 𝓛 (raw (upd 𝓤 (⟦ half t.own spent ⟧ ∗ ⟦ half j placed ⟧ ∗ ⟦ J ⟧ ∗ ⟦ gain None ⟧))) (seats.trades 𝓛 R cv holds w z id v t.own empty spent j y placed (then None) law.at_none) $
          settle 𝓛 Z (‵ (half t.own spent) ⊛ ‵ (half j placed) ⊛ ‵ J ⊛ ‵ (gain None)) $ split3 ! $ suffices ! _ (upd_i 𝓤 Z) $
          -- [the entry's own seat, spent; the block's; the table, with the gain]
          move ! (2 ∷ []) $ split ! $ fjoin ! $ move ! (2 ∷ 0 ∷ []) $ rewrite ! 0 (λ (u : ℕ × Gv). ‵ (seat j u)) (λ i. (sym views i, sym codes.placed i)) refl $ fjoin ! $ keep ! (0 ∷ []) $ done !
      taken views codes law (Some k) = let c : Content = Some k in let Z : Pr = ⟦ visited α J gain t (Some j) c ⟧ in
          qed 𝓛 (‵ (half id v) ∷ ‵ (half j y) ∷ []) ∵ assume ! (‵ (entry_seat (Some t) c) ⊛ ‵ J) $ split ! $ keep ! (2 ∷ 0 ∷ 1 ∷ []) $
          use3 𝓛 (raw (upd 𝓤 (⟦ entry_seat (Some t) c ⟧ ∗ ⟦ J ⟧ ∗ ⟦ gain c ⟧))) (looked views c k placed t.placed codes.placed (law.at_block k)) $ settle 𝓛 Z (‵ (entry_seat (Some t) c) ⊛ ‵ J ⊛ ‵ (gain c)) $ split3 ! $ suffices ! _ (upd_i 𝓤 Z) $
          move ! (1 ∷ 2 ∷ []) $ fjoin ! $ move ! (1 ∷ 0 ∷ []) $ fjoin ! $ done !

      -- the caller's seat and a block's make the update of a publication
      pub publishes : t.views ≡ z.views_name → HasEntryCodes cv.code empty placed t → PermitsPublish holds id v t empty spent placed j y then
          → ⟦ half id v ⟧ ∗ ⟦ half j y ⟧ ⊢ ⟦ visit α J gain t (Some j) ⟧
      publishes views codes law = qed 𝓛 (‵ (half id v) ∷ ‵ (half j y) ∷ []) ∵ each ! (Turned (Some j)) (λ c. by ! (taken views codes law c))
