-- Cells that nobody shares give up their seats. Assumes `Logic`.
use Rattle.std.proofs.Common.{Bool, false, ◌≡◌, ℕ, zero, suc, ◌+◌, ◌*◌, ◌<◌, ◌≤◌, List, [], ◌∷◌, ◌++◌, length, take, drop, length-drop, sym, refl, ap, ◌∙◌, subst, arith}
use Rattle.std.specs.Prelude.{Option, Some, None, slice_get}
use seplogic.Ra.Ura.{Ura}
use mir.Syntax.{Ty, w64, ty_int, ty_array}
use mir.Raw.{raw as bare}
use base.Stored.{Gv, gnil, gcons, gnum}
use base.Logic.{SProp, ent, sep, ex, guard, id⊢}
use base.Fml.{Lft, Fml, ftrue, fsep, fres, fauth, froom}
use types.Logic.{Logic, sem}
use types.Kit.{‵, ◌⊛◌, some, given, later, updating, await, now, ◌$◌, ◌∵◌, !, qed, by, move, keep, drop as toss, use1, use2, split, check, fsplit, fjoin, fpick, fpack, pick, learn, show, rewrite, done}
use types.Tokens.{name_new}
use denote.RattleType.{RattleType}
use denote.Memory.{lone}
use denote.RawPtr.{Ptr, block_of, count_of}
use denote.Steps.{nothing}
use denote.Param.{param}
use denote.Param.Laws.{Laws}
use Rattle.cell_core.specs.Fields.{pack}
use Rattle.cell_core.specs.Slot.{Names, Phase, Rest, IsPlain, HasNoSeat, ArePlain, cell_in, free, begun, busy, full, broken, broken_by_owner, state, mark, place, ended_or_seatless, told, word, step}
use Rattle.cell_core.specs.Slot.{Lies as Fills}
use Rattle.cell_core.specs.Laid.{AreOfKind, Extent, Lies, words_ty, rooms_ty, lying, rests, still, along, laid}
use Rattle.cell_core.specs.Member.{MemberView, HasNames, KnowsCells, IsUntied, AreUntied, known_as, members}
use Rattle.cell_core.specs.Fixed.{untied_cell}
use Rattle.tie_core.specs.Tie.{Tie, Begun, IsTied, seat_at}
use Rattle.cell_core.proofs.Stages.{AgreesAt, seat_told}
use Rattle.cell_core.proofs.Fields.{pack_ap, pack_alike}
use Rattle.cell_core.proofs.MemberParts.{known_twice}
use Rattle.cell_core.proofs.RestParts.{emptied}

-- one that was not tied stays as it is
untied_plain : (γ : Names) → IsPlain γ → untied_cell γ ≡ γ
untied_plain γ plain = λ i. record { value_name = γ.value_name; broken_name = γ.broken_name; epoch = γ.epoch; tied = sym plain i }

-- the same cell without its tie
untied_is : (γ : Names) → IsUntied γ (untied_cell γ)
untied_is γ = record { plain = refl; broken = refl; epoch = refl; kept = untied_plain γ; same = λ s is other. refl }

plain_not_tied : (τ : Option Tie) → τ ≡ None → IsTied τ → ⊥
plain_not_tied None none tied = tied
plain_not_tied (Some t) none tied = absurd (let z = none in cc)

-- a begun cell gets another name for its value
untied_begun : (γ : Names) (n : ℕ) → IsTied γ.tied → AgreesAt γ.tied Begun → IsUntied γ (record { value_name = n; broken_name = γ.broken_name; epoch = γ.epoch; tied = None })
untied_begun γ n tied at = record { plain = refl; broken = refl; epoch = refl; kept = λ plain. absurd (plain_not_tied γ.tied plain tied); same = λ s is other. absurd (other (sym (at s is))) }

names_kept : {X : Type 0} (γ γ' : Names) → γ'.value_name ≡ γ.value_name → γ'.epoch ≡ γ.epoch → (v : Option X) (name : ℕ) (epoch : Lft) → HasNames γ v name epoch → HasNames γ' v name epoch
names_kept γ γ' same also (Some x) name epoch is = is ∙ sym same
names_kept γ γ' same also None name epoch is = is ∙ sym also

-- what a row says of one cell, if it says something
abbrev Keeps : {X : Type 0} → Option (MemberView X) → Names → Type 0
Keeps None γ = Unit {0}
Keeps (Some m) γ = HasNames γ m.value m.name m.epoch

keeps_names : {X : Type 0} (γ γ' : Names) → γ'.value_name ≡ γ.value_name → γ'.epoch ≡ γ.epoch → (o : Option (MemberView X)) → Keeps o γ → Keeps o γ'
keeps_names γ γ' same also None is = tt
keeps_names γ γ' same also (Some m) is = names_kept γ γ' same also m.value m.name m.epoch is

-- the same of cells, from an index of the row on
abbrev pub Knows : {X : Type 0} → List (MemberView X) → ℕ → List Names → Type 0
Knows ms j [] = Unit {0}
Knows ms j (γ ∷ γs) = Keeps (slice_get ms j) γ × Knows ms (suc j) γs

keeps_of : {X : Type 0} (γ : Names) (o : Option (MemberView X)) → ((m : MemberView X) → o ≡ Some m → HasNames γ m.value m.name m.epoch) → Keeps o γ
keeps_of γ None is = tt
keeps_of γ (Some m) is = is m refl

pub knows_of : {X : Type 0} (ms : List (MemberView X)) (j : ℕ) (γs : List Names) → KnowsCells ms j γs → Knows ms j γs
knows_of ms j [] known = tt
knows_of ms j (γ ∷ γs) known = (
  keeps_of γ (slice_get ms j) (λ m e. known 0 m (omega arith) (ap (slice_get ms) (let z : j + 0 ≡ j = omega arith in z) ∙ e)),
  knows_of ms (suc j) γs (λ i m near e. known (suc i) m (omega (arith, near)) (ap (slice_get ms) (let z : j + suc i ≡ suc j + i = omega arith in z) ∙ e)),
)

pub known_of : {X : Type 0} (ms : List (MemberView X)) (j : ℕ) (γs : List Names) → Knows ms j γs → KnowsCells ms j γs
known_of ms j [] knows i m near e = absurd (omega (arith, near))
known_of {X} ms j (γ ∷ γs) knows zero m near e = subst (λ (o : Option (MemberView X)). Keeps o γ) (ap (slice_get ms) (let z : j ≡ j + 0 = omega arith in z) ∙ e) knows.0
known_of ms j (γ ∷ γs) knows (suc i) m near e = known_of ms (suc j) γs knows.1 i m (omega (arith, near)) (ap (slice_get ms) (let z : suc j + i ≡ j + suc i = omega arith in z) ∙ e)

-- of the first cells, and of the others
knows_take : {X : Type 0} (ms : List (MemberView X)) (n j : ℕ) (γs : List Names) → Knows ms j γs → Knows ms j (take n γs)
knows_take ms zero j γs knows = tt
knows_take ms (suc n) j [] knows = tt
knows_take ms (suc n) j (γ ∷ γs) knows = (knows.0, knows_take ms n (suc j) γs knows.1)

knows_drop : {X : Type 0} (ms : List (MemberView X)) (n j : ℕ) (γs : List Names) → Knows ms j γs → Knows ms (j + n) (drop n γs)
knows_drop ms zero j γs knows = subst (λ (i : ℕ). Knows ms i γs) (let z : j ≡ j + 0 = omega arith in z) knows
knows_drop ms (suc n) j [] knows = tt
knows_drop ms (suc n) j (γ ∷ γs) knows = subst (λ (i : ℕ). Knows ms i (drop n γs)) (let z : suc j + n ≡ j + suc n = omega arith in z) (knows_drop ms n (suc j) γs knows.1)

-- cells that are untied in two parts
record Joins (n : ℕ) (γs us bs : List Names) : Type 0 where
  pub first : take n (us ++ bs) ≡ us
  pub rest : drop n (us ++ bs) ≡ bs
  pub untied : AreUntied γs (us ++ bs)

joins : (n : ℕ) (γs us bs : List Names) → AreUntied (take n γs) us → AreUntied (drop n γs) bs → Joins n γs us bs
joins zero γs [] bs one two = record { first = refl; rest = refl; untied = two }
joins zero γs (a ∷ us) bs one two = absurd one
joins (suc n) [] [] [] one two = record { first = refl; rest = refl; untied = tt }
joins (suc n) [] [] (b ∷ bs) one two = absurd two
joins (suc n) [] (a ∷ us) bs one two = absurd one
joins (suc n) (γ ∷ γs) [] bs one two = absurd one
joins (suc n) (γ ∷ γs) (a ∷ us) bs one two = let r = joins n γs us bs one.1 two in record { first = ap (λ (l : List Names). a ∷ l) r.first; rest = r.rest; untied = (one.0, r.untied) }

knows_join : {X : Type 0} (ms : List (MemberView X)) (n j : ℕ) (γs us bs : List Names) → AreUntied (take n γs) us → AreUntied (drop n γs) bs → Knows ms j us → Knows ms (j + n) bs → Knows ms j (us ++ bs)
knows_join ms zero j γs [] bs one two k l = subst (λ (i : ℕ). Knows ms i bs) (let z : j + 0 ≡ j = omega arith in z) l
knows_join ms zero j γs (a ∷ us) bs one two k l = absurd one
knows_join ms (suc n) j [] [] [] one two k l = tt
knows_join ms (suc n) j [] [] (b ∷ bs) one two k l = absurd two
knows_join ms (suc n) j [] (a ∷ us) bs one two k l = absurd one
knows_join ms (suc n) j (γ ∷ γs) [] bs one two k l = absurd one
knows_join ms (suc n) j (γ ∷ γs) (a ∷ us) bs one two k l = (k.0, knows_join ms n (suc j) γs us bs one.1 two k.1 (subst (λ (i : ℕ). Knows ms i bs) (let z : j + suc n ≡ suc j + n = omega arith in z) l))

pub untied_length : (γs us : List Names) → AreUntied γs us → length us ≡ length γs
untied_length [] [] are = refl
untied_length [] (a ∷ us) are = absurd are
untied_length (γ ∷ γs) [] are = absurd are
untied_length (γ ∷ γs) (a ∷ us) are = ap suc (untied_length γs us are.1)

pub untied_at : (γs us : List Names) → AreUntied γs us → (i : ℕ) → i < length γs → IsUntied (cell_in γs i) (cell_in us i)
untied_at [] [] are i near = absurd (omega (arith, near))
untied_at [] (a ∷ us) are i near = absurd are
untied_at (γ ∷ γs) [] are i near = absurd are
untied_at (γ ∷ γs) (a ∷ us) are zero near = are.0
untied_at (γ ∷ γs) (a ∷ us) are (suc i) near = untied_at γs us are.1 i (omega (arith, near))

plain_in : (γs us : List Names) → AreUntied γs us → (i : ℕ) → IsPlain (cell_in us i)
plain_in [] [] are i = refl
plain_in [] (a ∷ us) are i = absurd are
plain_in (γ ∷ γs) [] are i = absurd are
plain_in (γ ∷ γs) (a ∷ us) are zero = are.0.plain
plain_in (γ ∷ γs) (a ∷ us) are (suc i) = plain_in γs us are.1 i

pub are_plain : (γs us : List Names) → AreUntied γs us → ArePlain us
are_plain [] [] are = tt
are_plain [] (a ∷ us) are = absurd are
are_plain (γ ∷ γs) [] are = absurd are
are_plain (γ ∷ γs) (a ∷ us) are = (are.0.plain, are_plain γs us are.1)

pub untied_kind : (tied : Bool) (γs us : List Names) → AreUntied γs us → AreOfKind tied us
untied_kind tied γs us are = record { plain = λ _. plain_in γs us are }

-- a function that is x at first, and then f
abbrev before : {X : Type 0} → X → (ℕ → X) → ℕ → X
before x f zero = x
before x f (suc i) = f i

abbrev paired : Gv → ℕ
paired gnil = 0
paired (gcons x y) = 1
paired (gnum n) = 0

-- the mark of a begun cell is not that of a filled one
no_mark : (x y : Gv) → gcons x y ≡ gnum 0 → ⊥
no_mark x y e = let z : 1 ≡ 0 = ap paired e in omega (arith, z)

module _ (T : RattleType) (L : Laws T) {M : Type 1} {𝓤 : Ura M} (𝓛 : Logic 𝓤) where
  open 𝓛 use {H}

  abbrev R : RattleType
  R = param 0 T

  abbrev View : Type 0
  View = MemberView T.Denot

  abbrev Pr : Type 2
  Pr = SProp 𝓤

  abbrev ◌⊢◌ : Pr → Pr → Type 1
  P ⊢ Q = ent 𝓤 P Q

  abbrev ◌∗◌ : Pr → Pr → Pr
  P ∗ Q = sep 𝓤 P Q

  abbrev ⟦◌⟧ : Fml → Pr
  ⟦ P ⟧ = sem 𝓛 P

  infix 26 ◌⊢◌
  infixr 35 ◌∗◌
  -- what a row knows of one cell, if anything
  abbrev Says : Option View → Fml
  Says None = ftrue
  Says (Some m) = known_as R m.value m.name

  says_at : (ms : List View) (j : ℕ) → ⟦ members R ms ⟧ ⊢ ⟦ members R ms ⟧ ∗ ⟦ Says (slice_get ms j) ⟧
  says_at [] j = qed 𝓛 (‵ ftrue ∷ []) ∵ nothing ! $ done !
  says_at (m ∷ ms) zero = qed 𝓛 (‵ (members R (m ∷ ms)) ∷ []) ∵ fsplit ! $ use1 𝓛 (‵ (known_as R m.value m.name) ⊛ ‵ (known_as R m.value m.name)) (known_twice 𝓛 R m.value m.name) $ split ! $ move ! (0 ∷ 2 ∷ []) $ fjoin ! $ done !
  says_at (m ∷ ms) (suc j) = qed 𝓛 (‵ (members R (m ∷ ms)) ∷ []) ∵ fsplit ! $ move ! (1 ∷ []) $ use1 𝓛 (‵ (members R ms) ⊛ ‵ (Says (slice_get ms j))) (says_at ms j) $ split ! $ move ! (2 ∷ 0 ∷ []) $ fjoin ! $ done !

  -- a cell without its seat, and what it is known of it
  abbrev One : Names → Rest R.Denot → ℕ → ℕ → Option View → Names × Rest R.Denot → Pr
  One γ u c e o y = guard 𝓤 (IsUntied γ y.0 × Keeps o y.0 × (state y.1.1 ≡ state u.1)) ⟦ lying R c e y.0 y.1 ⟧

  -- a cell whose phase needs no tie keeps its names
  stays : (γ : Names) (v : Option R.Denot) (s : Phase R.Denot) (c e : ℕ) (o : Option View) → Keeps o γ → (⟦ told R γ s ⟧ ⊢ ⟦ told R (untied_cell γ) s ⟧) → ⟦ lying R c e γ (v, s) ⟧ ∗ ⟦ Says o ⟧ ⊢ H.⇛ (ex 𝓤 (One γ (v, s) c e o))
  stays γ v s c e o known same = let γ' : Names = untied_cell γ in
      qed 𝓛 (‵ (lying R c e γ (v, s)) ∷ ‵ (Says o) ∷ []) ∵ updating ! $ keep ! (0 ∷ []) $ fsplit ! $ move ! (1 ∷ []) $ fsplit ! $ fsplit ! $ move ! (1 ∷ []) $ fsplit ! $
      -- [what goes with the phase; the seat; the names; that it lies there; the room]
      use1 𝓛 (‵ (told R γ' s)) same $ keep ! (0 ∷ 2 ∷ 3 ∷ 4 ∷ []) $ nothing ! $ move ! (1 ∷ 0 ∷ []) $ fjoin ! $ move ! (1 ∷ 0 ∷ []) $ fjoin ! $ fjoin ! $ move ! (1 ∷ 0 ∷ []) $ fjoin ! $ now ! $
      show ! (One γ (v, s) c e o) (γ', (v, s)) $ check ! (untied_is γ, keeps_names γ γ' refl refl o known, refl) $ done !

  -- a begun cell gets a new name for its value, and is free
  renamed : (γ : Names) (v : Option R.Denot) (c e : ℕ) (o : Option View) → ((γ' : Names) → γ'.epoch ≡ γ.epoch → Keeps o γ') → ⟦ lying R c e γ (v, begun) ⟧ ⊢ H.⇛ (ex 𝓤 (One γ (v, begun) c e o))
  renamed γ v c e o known =
      qed 𝓛 (‵ (lying R c e γ (v, begun)) ∷ []) ∵ updating ! $ fsplit ! $ use1 𝓛 (‵ (place R None c e)) (emptied T L 𝓛 c e v) $ move ! (1 ∷ []) $ fsplit ! $ fsplit ! $ move ! (1 ∷ []) $ fsplit ! $ fsplit ! $
      -- [the epoch has ended; that it is tied; the seat; the names; that it lies there; the room]
      move ! (2 ∷ []) $ use1 𝓛 (given (AgreesAt γ.tied Begun) (‵ (seat_at γ.tied Begun))) (seat_told 𝓛 γ.tied Begun) $ learn ! (λ at. move ! (2 ∷ []) $ fpick ! (λ tied. toss ! $
      -- [the seat; the epoch has ended; the names; that it lies there; the room]
      move ! (2 ∷ []) $ fsplit ! $ keep ! (1 ∷ 3 ∷ 5 ∷ []) $ name_new ! tt gnil (λ γv. let γ' : Names = record { value_name = γv; broken_name = γ.broken_name; epoch = γ.epoch; tied = None } in now ! $
      -- [the right to fill; its name; the name of a break; the epoch has ended; the room]
      move ! (1 ∷ 2 ∷ []) $ fjoin ! $ move ! (2 ∷ 1 ∷ []) $ fjoin ! $ nothing ! $ move ! (1 ∷ 0 ∷ []) $ fjoin ! $ move ! (1 ∷ 0 ∷ []) $ fjoin ! $
      nothing ! $ fpack ! (Fills R None free) (λ _. ftrue) refl $ move ! (1 ∷ 0 ∷ []) $ fjoin ! $ move ! (1 ∷ 0 ∷ []) $ fjoin ! $
      show ! (One γ (v, begun) c e o) (γ', (None, free)) $ check ! (untied_begun γ γv tied at, known γ' refl, refl) $ done !)))

  -- no value is known of a begun cell
  begun_by : (γ : Names) (w : Option R.Denot) (c e : ℕ) (v : Option R.Denot) (name : ℕ) (epoch : Lft) → HasNames γ v name epoch
      → ⟦ lying R c e γ (w, begun) ⟧ ∗ ⟦ known_as R v name ⟧ ⊢ H.⇛ (ex 𝓤 (One γ (w, begun) c e (Some (record { value = v; name = name; epoch = epoch }))))
  begun_by γ w c e (Some x) name epoch is = let n : ℕ = γ.value_name in let m : Gv = mark R (full x) in qed 𝓛 (‵ (lying R c e γ (w, begun)) ∷ ‵ (fres name m) ∷ []) ∵ rewrite ! 1 (λ (k : ℕ). ‵ (fres k m)) is refl $
      fsplit ! $ move ! (1 ∷ []) $ fsplit ! $ fsplit ! $ fsplit ! $
      -- [the value's name; the name of a break; what goes with the phase; that it lies there; the room; written]
      move ! (5 ∷ 0 ∷ []) $ use2 𝓛 (given (m ≡ gnum 0) (‵ (fres n m) ⊛ ‵ (fauth n (gnum 0)))) (𝓛.names.res_agree n m (gnum 0)) $ learn ! (λ z. absurd (no_mark (R.coded.code x) gnil z))
  begun_by γ w c e None name epoch is = let o : Option View = Some (record { value = None; name = name; epoch = epoch }) in
      qed 𝓛 (‵ (lying R c e γ (w, begun)) ∷ ‵ (known_as R None name) ∷ []) ∵ keep ! (0 ∷ []) $ by ! (renamed γ w c e o (λ γ' same. is ∙ sym same))

  begun_at : (γ : Names) (w : Option R.Denot) (c e : ℕ) (o : Option View) → Keeps o γ → ⟦ lying R c e γ (w, begun) ⟧ ∗ ⟦ Says o ⟧ ⊢ H.⇛ (ex 𝓤 (One γ (w, begun) c e o))
  begun_at γ w c e None known = qed 𝓛 (‵ (lying R c e γ (w, begun)) ∷ ‵ ftrue ∷ []) ∵ keep ! (0 ∷ []) $ by ! (renamed γ w c e None (λ γ' same. tt))
  begun_at γ w c e (Some m) known = begun_by γ w c e m.value m.name m.epoch known

  one : (γ : Names) (u : Rest R.Denot) (c e : ℕ) (o : Option View) → Keeps o γ → ⟦ lying R c e γ u ⟧ ∗ ⟦ Says o ⟧ ⊢ H.⇛ (ex 𝓤 (One γ u c e o))
  one γ (v, free) c e o known = stays γ v free c e o known (id⊢ 𝓤 _)
  one γ (v, begun) c e o known = begun_at γ v c e o known
  one γ (v, busy) c e o known = stays γ v busy c e o known (id⊢ 𝓤 _)
  one γ (v, full x) c e o known = stays γ v (full x) c e o known (id⊢ 𝓤 _)
  one γ (v, broken) c e o known = stays γ v broken c e o known (id⊢ 𝓤 _)
  one γ (v, broken_by_owner) c e o known = stays γ v broken_by_owner c e o known (qed 𝓛 (‵ (told R γ broken_by_owner) ∷ []) ∵ fsplit ! $ keep ! (0 ∷ []) $
      nothing ! $ fpack ! (HasNoSeat None) (λ _. ftrue) tt $ fpack ! Bool (ended_or_seatless R (untied_cell γ)) false $ move ! (1 ∷ 0 ∷ []) $ fjoin ! $ done !)

  -- cells with the same states
  abbrev Many : List Names → ℕ → ℕ → (ℕ → Rest R.Denot) → List View → ℕ → List Names × (ℕ → Rest R.Denot) → Pr
  Many γs c e s ms j y = guard 𝓤 (AreUntied γs y.0 × Knows ms j y.0 × ((i : ℕ) → state (y.1 i).1 ≡ state (s i).1)) (⟦ rests R y.0 c e y.1 ⟧ ∗ ⟦ members R ms ⟧)

  same_states : (x : Rest R.Denot) (f s : ℕ → Rest R.Denot) → state x.1 ≡ state (s 0).1 → ((i : ℕ) → state (f i).1 ≡ state (s (suc i)).1) → (i : ℕ) → state (before x f i).1 ≡ state (s i).1
  same_states x f s one more zero = one
  same_states x f s one more (suc i) = more i

  many : (γs : List Names) (c e : ℕ) (s : ℕ → Rest R.Denot) (ms : List View) (j : ℕ) → Knows ms j γs → ⟦ rests R γs c e s ⟧ ∗ ⟦ members R ms ⟧ ⊢ H.⇛ (ex 𝓤 (Many γs c e s ms j))
  many [] c e s ms j known = qed 𝓛 (‵ ftrue ∷ ‵ (members R ms) ∷ []) ∵ updating ! $ now ! $ show ! (Many [] c e s ms j) ([], s) $ check ! (tt, tt, λ i. refl) $ done !
  many (γ ∷ γs) c e s ms j known = let o : Option View = slice_get ms j in let σ : ℕ → Rest R.Denot = λ i. s (suc i) in let e' : ℕ = e + step R in
      qed 𝓛 (‵ (rests R (γ ∷ γs) c e s) ∷ ‵ (members R ms) ∷ []) ∵ updating ! $ move ! (1 ∷ []) $ use1 𝓛 (‵ (members R ms) ⊛ ‵ (Says o)) (says_at ms j) $ split ! $ move ! (2 ∷ []) $ fsplit ! $
      -- [the cell; the others; the row; what it says]
      move ! (0 ∷ 3 ∷ []) $ use2 𝓛 (later (some (λ (y : Names × Rest R.Denot). given (IsUntied γ y.0 × Keeps o y.0 × (state y.1.1 ≡ state (s 0).1)) (‵ (lying R c e y.0 y.1))))) (one γ (s 0) c e o known.0) $ await ! tt $ pick ! (λ y. learn ! (λ first.
      move ! (1 ∷ 2 ∷ []) $ use2 𝓛 (later (some (λ (z : List Names × (ℕ → Rest R.Denot)). given (AreUntied γs z.0 × Knows ms (suc j) z.0 × ((i : ℕ) → state (z.1 i).1 ≡ state (σ i).1)) (‵ (rests R z.0 c e' z.1) ⊛ ‵ (members R ms))))) (many γs c e' σ ms (suc j) known.1) $ await ! tt $ pick ! (λ z. learn ! (λ others. split ! $ now ! $
      -- [the others; the row; the cell]
      move ! (2 ∷ 0 ∷ []) $ fjoin ! $ show ! (Many (γ ∷ γs) c e s ms j) (y.0 ∷ z.0, before y.1 z.1) $
      check ! ((first.0, others.0), (first.1, others.1), same_states y.1 z.1 s first.2 others.2) $ done !))))

  -- the cells of a word
  abbrev Word : List Names → ℕ → ℕ → ℕ → ℕ → List View → ℕ → List Names → Pr
  Word γs b o c e ms j γs' = guard 𝓤 (AreUntied γs γs' × Knows ms j γs') (⟦ still R γs' b o c e ⟧ ∗ ⟦ members R ms ⟧)

  one_word : (γs : List Names) (b o c e : ℕ) (ms : List View) (j : ℕ) → Knows ms j γs → ⟦ still R γs b o c e ⟧ ∗ ⟦ members R ms ⟧ ⊢ H.⇛ (ex 𝓤 (Word γs b o c e ms j))
  one_word γs b o c e ms j known = qed 𝓛 (‵ (still R γs b o c e) ∷ ‵ (members R ms) ∷ []) ∵ updating ! $ fpick ! (λ s. fsplit ! $ move ! (1 ∷ 2 ∷ []) $
      use2 𝓛 (later (some (λ (z : List Names × (ℕ → Rest R.Denot)). given (AreUntied γs z.0 × Knows ms j z.0 × ((i : ℕ) → state (z.1 i).1 ≡ state (s i).1)) (‵ (rests R z.0 c e z.1) ⊛ ‵ (members R ms))))) (many γs c e s ms j known) $ await ! tt $ pick ! (λ z. learn ! (λ are. split ! $ now ! $
      let γs' : List Names = z.0 in let f : ℕ → ℕ = λ i. state (z.1 i).1 in
      let same : pack γs (λ i. state (s i).1) ≡ pack γs' f = pack_ap γs (λ i. sym (are.2 i)) ∙ pack_alike γs γs' f (sym (untied_length γs γs' are.0)) in
      -- [the cells; the row; the word]
      move ! (2 ∷ []) $ rewrite ! 0 (λ (n : ℕ). ‵ (word b o n)) same refl $ move ! (0 ∷ 1 ∷ []) $ fjoin ! $ fpack ! (ℕ → Rest R.Denot) (λ r. fsep (word b o (pack γs' (λ i. state (r i).1))) (rests R γs' c e r)) z.1 $
      show ! (Word γs b o c e ms j) γs' $ check ! (are.0, are.1) $ done !)))

  -- those of each word of a row
  abbrev Words : ℕ → List Names → ℕ → ℕ → ℕ → ℕ → List View → ℕ → List Names → Pr
  Words k γs b o c e ms j γs' = guard 𝓤 (AreUntied γs γs' × Knows ms j γs') (⟦ along R k γs' b o c e ⟧ ∗ ⟦ members R ms ⟧)

  words : (k : ℕ) (γs : List Names) (b o c e : ℕ) (ms : List View) (j : ℕ) → length γs ≤ k * 16 → Knows ms j γs → ⟦ along R k γs b o c e ⟧ ∗ ⟦ members R ms ⟧ ⊢ H.⇛ (ex 𝓤 (Words k γs b o c e ms j))
  words zero [] b o c e ms j few known = qed 𝓛 (‵ ftrue ∷ ‵ (members R ms) ∷ []) ∵ updating ! $ now ! $ show ! (Words zero [] b o c e ms j) [] $ check ! (tt, tt) $ done !
  words zero (γ ∷ γs) b o c e ms j few known = absurd (omega (arith, few))
  words (suc k) γs b o c e ms j few known = let W : List Names = take 16 γs in let Ws : List Names = drop 16 γs in let m = length-drop 16 γs in let o' : ℕ = o + 8 in let e' : ℕ = e + 16 * step R in
      qed 𝓛 (‵ (along R (suc k) γs b o c e) ∷ ‵ (members R ms) ∷ []) ∵ updating ! $ fsplit ! $ move ! (0 ∷ 2 ∷ []) $
      use2 𝓛 (later (some (λ (us : List Names). given (AreUntied W us × Knows ms j us) (‵ (still R us b o c e) ⊛ ‵ (members R ms))))) (one_word W b o c e ms j (knows_take ms 16 j γs known)) $ await ! tt $ pick ! (λ us. learn ! (λ one. split ! $
      -- [the first word; the row; the other words]
      move ! (2 ∷ 1 ∷ []) $ use2 𝓛 (later (some (λ (bs : List Names). given (AreUntied Ws bs × Knows ms (j + 16) bs) (‵ (along R k bs b o' c e') ⊛ ‵ (members R ms))))) (words k Ws b o' c e' ms (j + 16) (omega (arith, m, few)) (knows_drop ms 16 j γs known)) $ await ! tt $ pick ! (λ bs. learn ! (λ two. split ! $ now ! $
      -- [the other words; the row; the first word]
      let γs' : List Names = us ++ bs in let whole = joins 16 γs us bs one.0 two.0 in
      rewrite ! 0 (λ (l : List Names). ‵ (along R k l b o' c e')) (sym whole.rest) refl $ rewrite ! 2 (λ (l : List Names). ‵ (still R l b o c e)) (sym whole.first) refl $ move ! (2 ∷ 0 ∷ []) $ fjoin ! $
      show ! (Words (suc k) γs b o c e ms j) γs' $ check ! (whole.untied, knows_join ms 16 j γs us bs one.0 two.0 one.1 two.1) $ done !))))

  module _ (token : Ty → Ptr → Fml) where
    abbrev pub Rows : Extent → List Names → List View → ℕ → List Names → Pr
    Rows x γs ms j γs' = guard 𝓤 (AreUntied γs γs' × Knows ms j γs') ⟦ laid R token x γs' ⟧

    -- cells in their rows
    pub rows : (x : Extent) (γs : List Names) (ms : List View) (j : ℕ) → Knows ms j γs → ⟦ laid R token x γs ⟧ ∗ ⟦ members R ms ⟧ ⊢ H.⇛ (ex 𝓤 (Rows x γs ms j))
    rows x γs ms j known = let b : ℕ = block_of x.at in let o : ℕ = count_of x.at in let c : ℕ = block_of x.rooms in let e : ℕ = count_of x.rooms in let k : ℕ = x.words in
        let Others : ℕ → Fml = λ n. fsep (fsep (froom (ty_array (ty_int w64) x.more) b (k * 8 + o)) (froom (ty_array (bare (lone R.mir)) x.left) c (n * step R + e))) (fsep (token (words_ty (k + x.more)) x.at) (token (rooms_ty R (n + x.left)) x.rooms)) in
        qed 𝓛 (‵ (laid R token x γs) ∷ ‵ (members R ms) ∷ []) ∵ updating ! $ fsplit ! $ fpick ! (λ so. toss ! $ fsplit ! $ move ! (0 ∷ 2 ∷ []) $
        use2 𝓛 (later (some (λ (us : List Names). given (AreUntied γs us × Knows ms j us) (‵ (along R k us b o c e) ⊛ ‵ (members R ms))))) (words k γs b o c e ms j so.4 known) $ await ! tt $ pick ! (λ us. learn ! (λ are. split ! $ now ! $
        let same : length γs ≡ length us = sym (untied_length γs us are.0) in
        -- [the cells; the row; the rooms]
        rewrite ! 2 (λ (n : ℕ). ‵ (Others n)) same refl $ keep ! (0 ∷ 2 ∷ []) $ fjoin ! $ nothing ! $ fpack ! (Lies R x (length us)) (λ _. ftrue) (subst (Lies R x) same so) $ fjoin ! $
        show ! (Rows x γs ms j) us $ check ! are $ done !)))

-- what the owner's call needs of all cells
pub ruleset untied_cells = (untied_kind, untied_length, untied_at)
