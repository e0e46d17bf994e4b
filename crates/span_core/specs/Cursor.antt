-- Cursors: places of a list, its end among them.
use Rattle.std.specs.Prelude.{ℕ, refl}
use Rattle.std.specs.Coded.{Coded, code_by, coded×, coded_ℕ}
use Rattle.quiet_core.specs.QuietList.{QuietList, quiet_code}

-- the list, and the place
pub record CursorView (T : Type 0) : Type 0 where
  pub list : QuietList T
  pub place : ℕ

-- a cursor is stored as the pair of its fields
abbrev pub cursor_code : {T : Type 0} → Coded T → Coded (CursorView T)
cursor_code {T} code =
    code_by (QuietList T × ℕ) (coded× (quiet_code code) coded_ℕ) (λ c. (c.list, c.place))
    (λ p. record { list = p.0; place = p.1 }) (λ _. refl)
