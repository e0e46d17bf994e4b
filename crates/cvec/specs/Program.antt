-- The program's use of its three streams, and its exit status.
use Rattle.std.specs.Prelude.{◌≡◌, ◌≢◌, ◌⊎◌, ℕ, ◌*◌, List, Option, Result, Ok, Err, OnOk, IfErr, IsErrOf}
use Rattle.std.specs.Io.KnownBytes.{Appends, Keeps}
use Rattle.script_core.specs.Text.{AppendsPrefix}
use Rattle.engine_core.specs.declared.error.RunError.{RunError}
use Rattle.engine_core.specs.declared.error.RunError.TheVariants.{NoMemory, Write}
use Rattle.race_core.specs.declared.refusal.RaceError.TheVariants.{BadSize}
use Rattle.race_core.specs.Race.{race_text, IsBadSize}
use Rattle.cvec.specs.declared.error.ProgramError.{ProgramError}
use Rattle.cvec.specs.declared.error.ProgramError.TheVariants.{Run, Race}
use Rattle.cvec.specs.ProgramError.{run_status, status_of, error_line, explained_lines, IsRaceEnd}

-- a run that succeeds has status 0 and adds nothing to standard error; any other has the status of its error,
-- and adds a prefix of the error's line: the whole line, unless standard error fails too
abbrev pub EndsAs : Result (Unit {0}) ProgramError → ℕ → Option (List ℕ) → Option (List ℕ) → Type 0
EndsAs (Ok done) status old new = (status ≡ 0) × Keeps old new
EndsAs (Err e) status old new = (status ≡ status_of e) × AppendsPrefix old new (error_line e)

-- the same of a run that is explained: standard error gets a second line, which says what the error means
abbrev pub EndsExplained : Result (Unit {0}) RunError → ℕ → Option (List ℕ) → Option (List ℕ) → Type 0
EndsExplained (Ok done) status old new = (status ≡ 0) × Keeps old new
EndsExplained (Err e) status old new = (status ≡ run_status e) × AppendsPrefix old new (explained_lines e)

-- a race is held of `workers` workers with `each` values each: what the writer gets, and how it ends
pub record Races (workers each : ℕ) (ended : Result (Unit {0}) ProgramError) (old new : Option (List ℕ)) : Type 0 where
  pub written : OnOk ended (Appends old new (race_text (workers * each)))
  pub prefix : IsErrOf ended (Run Write) → AppendsPrefix old new (race_text (workers * each))
  pub unwritten : IfErr ended (λ e. e ≢ Run Write → Keeps old new)
  pub refused : IfErr ended (IsRaceEnd workers each)
  pub bad_size : IsBadSize workers each → ended ≡ Err (Race BadSize)

-- a text is made and written: what the writer gets, and how it ends
pub record Writes (text : List ℕ) (ended : Result (Unit {0}) RunError) (old new : Option (List ℕ)) : Type 0 where
  pub written : OnOk ended (Appends old new text)
  pub prefix : IsErrOf ended Write → AppendsPrefix old new text
  pub unwritten : IfErr ended (λ e. e ≢ Write → Keeps old new)
  pub refused : IfErr ended (λ e. (e ≡ NoMemory) ⊎ (e ≡ Write))

-- a text is shown: the whole of it, or a prefix and a write fault
abbrev pub Shows : List ℕ → Result (Unit {0}) RunError → Option (List ℕ) → Option (List ℕ) → Type 0
Shows text (Ok done) old new = Appends old new text
Shows text (Err e) old new = (e ≡ Write) × AppendsPrefix old new text
