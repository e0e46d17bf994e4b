-- The tags of entries in a row.
use Rattle.std.specs.Prelude.{ℕ, List, [], ◌∷◌}
use base.Stored.{Gv, Coded, coded×, coded_ℕ, coded_via}
use base.Fml.{Fml, ftrue, fex}
use Rattle.tie_core.specs.Visit.{EntryTie, entry_tie_coded, HasEntryCodes}

-- the tag of an entry: its tie, and the places whose views the codes of the tie are of, n from the first one on
pub record TagView : Type 0 where
  pub tie : EntryTie
  pub from : ℕ
  pub n : ℕ

-- how it is stored
abbrev pub tag_coded : Coded TagView
tag_coded =
    coded_via (coded× entry_tie_coded (coded× coded_ℕ coded_ℕ)) (λ (t : TagView). (t.tie, (t.from, t.n)))
    (λ x y e i. record { tie = (e i).0; from = (e i).1.0; n = (e i).1.1 })

-- the tag of this tie
abbrev pub tag_of : EntryTie → ℕ → ℕ → TagView
tag_of t from n = record { tie = t; from = from; n = n }

-- each tie has the codes of the views of its places
abbrev pub AreTagged : {V : Type 0} → (V → Gv) → (ℕ → ℕ → V) → (ℕ → ℕ → V) → List TagView → Type 0
AreTagged c empty placed [] = Unit {0}
AreTagged c empty placed (t ∷ ts) =
    HasEntryCodes c (empty t.from t.n) (placed t.from t.n) t.tie × AreTagged c empty placed ts

-- the same, as a formula
abbrev pub row_tagged : {V : Type 0} → (V → Gv) → (ℕ → ℕ → V) → (ℕ → ℕ → V) → List TagView → Fml
row_tagged c empty placed ts = fex (AreTagged c empty placed ts) (λ _. ftrue)
