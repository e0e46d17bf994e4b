-- What the bytes of a script give: the text of its play.
use Rattle.std.specs.Prelude.{◌≡◌, ◌≢◌, ℕ, List, [], ◌++◌, Option, Some, Result, Ok, Err, OnOk, IfErr, IfSome, IsErrOf, slice_index}
use Rattle.std.specs.List.{flat_map}
use Rattle.std.specs.Io.KnownBytes.{Appends, Keeps}
use Rattle.book_core.specs.declared.commands.Ended.{Ended}
use Rattle.book_core.specs.declared.commands.Work.{Work}
use Rattle.script_core.specs.declared.error.ScriptError.{ScriptError}
use Rattle.script_core.specs.declared.error.ScriptError.TheVariants as faults
use Rattle.script_core.specs.declared.script.Script.{Script}
use Rattle.script_core.specs.Grammar.{script_of}
use Rattle.script_core.specs.Text.{answer_line, cells_line, work_line, AppendsPrefix}
use Rattle.step_core.specs.declared.programs.Played.{Played}
use Rattle.step_core.specs.calls.Play.{calls_played}
use Rattle.step_core.specs.machine.Work.{play_shown}
use Rattle.engine_core.specs.declared.engine.Engine.{Engine}
use Rattle.engine_core.specs.declared.engine.Engine.TheVariants.{Calls, Steps, Counted, Traced, TracedCounted}
use Rattle.engine_core.specs.declared.error.RunError.{RunError}
use Rattle.engine_core.specs.declared.error.RunError.TheVariants as errors
use Rattle.engine_core.specs.Trace.{trace_text}

-- the answer line of a call that ended, with its actor's letter
abbrev pub ended_line : List ℕ → Ended → List ℕ
ended_line names ended = answer_line (slice_index names ended.actor) ended

-- the text of a play: a line for each call that ended, in order, and then the cells
abbrev pub played_text : List ℕ → Played → List ℕ
played_text names played = flat_map (ended_line names) played.ended ++ cells_line played.cells

-- the line of what an ended call took, with its actor's letter
abbrev pub work_line_in : List ℕ → Work → List ℕ
work_line_in names work = work_line (slice_index names work.actor) work

-- the same, and then a line of what each ended call took, in order
abbrev pub counted_text : List ℕ → Played → List ℕ
counted_text names played = played_text names played ++ flat_map (work_line_in names) played.work

-- what an engine writes of a play: its text, with the counts or without
abbrev pub text_by : Engine → List ℕ → Played → List ℕ
text_by Calls names played = played_text names played
text_by Steps names played = played_text names played
text_by Counted names played = counted_text names played
text_by Traced names played = played_text names played
text_by TracedCounted names played = counted_text names played

-- what it writes before that: the trace of the play, or nothing
abbrev pub trace_by : Engine → Script → List ℕ
trace_by Calls s = []
trace_by Steps s = []
trace_by Counted s = []
trace_by Traced s = trace_text s
trace_by TracedCounted s = trace_text s

-- the play of a script: each item is one whole call, or one atomic step in segments of its layout
abbrev pub play_by : Engine → Script → Option Played
play_by Calls s = calls_played s.limit s.programs s.items
play_by Steps s = Some (play_shown s.first s.limit s.programs s.items)
play_by Counted s = Some (play_shown s.first s.limit s.programs s.items)
play_by Traced s = Some (play_shown s.first s.limit s.programs s.items)
play_by TracedCounted s = Some (play_shown s.first s.limit s.programs s.items)

-- the input is a script, and the text is that of its play, after its trace if the engine writes one
pub record IsTextOf (engine : Engine) (input text : List ℕ) : Type 0 where
  pub script : Script
  pub played : Played
  pub read : script_of input ≡ Ok script
  pub play_of : play_by engine script ≡ Some played
  pub whole : text ≡ trace_by engine script ++ text_by engine script.names played

-- known bytes grow by the text of the script that the input is
abbrev pub AppendsText : Engine → List ℕ → Option (List ℕ) → Option (List ℕ) → Type 0
AppendsText engine input old new = (text : List ℕ) × IsTextOf engine input text × Appends old new text

-- known bytes grow by a prefix of the text of the script that the input is
abbrev pub AppendsPrefixOfText : Engine → List ℕ → Option (List ℕ) → Option (List ℕ) → Type 0
AppendsPrefixOfText engine input old new = (text : List ℕ) × IsTextOf engine input text × AppendsPrefix old new text

-- a script is read and played: what the writer gets, and how the run ends
pub record Plays (engine : Engine) (ended : Result (Unit {0}) RunError) (input old new : Option (List ℕ)) : Type 0 where
  pub written : OnOk ended (IfSome input (λ bytes. AppendsText engine bytes old new))
  pub script : (fault : ScriptError) → ended ≡ Err (errors.Script fault)
      → (fault ≢ faults.NoMemory) × IfSome input (λ bytes. script_of bytes ≡ Err fault)
  pub prefix : IsErrOf ended errors.Write → IfSome input (λ bytes. AppendsPrefixOfText engine bytes old new)
  pub unwritten : IfErr ended (λ e. e ≢ errors.Write → Keeps old new)
