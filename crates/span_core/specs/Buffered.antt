-- A writer with a buffer, and what a push to it does.
use Rattle.std.specs.Prelude.{◌≡◌, ℕ, ◌<◌, List, [], ◌∷◌, ◌++◌, Option, Some, None, length}
use base.Stored.{Coded, coded×, coded_ℕ, coded_list, coded_via}
use Rattle.grow_core.specs.Vector.{SeesMore}
use Rattle.grow_core.specs.Grown.{GrownView}
use Rattle.grow_core.specs.Growth.{WonRun, Refuses}
use Rattle.grow_core.specs.Logs.{AllFilled, LogsGrowth}
use Rattle.grow_core.specs.declared.errors.GrowError.{GrowError}
use Rattle.grow_core.specs.declared.errors.GrowError.TheVariants.{NoMemory, Taken}
use Rattle.span_core.specs.Writer.{WriterView, writer_coded}

-- the writer, the values that are not appended yet, in order, and how many there may be
pub record BufferedView (T : Type 0) : Type 0 where
  pub writer : WriterView T
  pub buffered : List T
  pub bound : ℕ

-- how that is stored
abbrev pub buffered_coded : {T : Type 0} → Coded T → Coded (BufferedView T)
buffered_coded {T} c =
    coded_via (coded× (writer_coded c) (coded× (coded_list c) coded_ℕ))
    (λ (b : BufferedView T). (b.writer, (b.buffered, b.bound)))
    (λ x y e i. record { writer = (e i).0; buffered = (e i).1.0; bound = (e i).1.1 })

-- a push won: the value is behind those that are buffered, if there was room for it. Otherwise those were
-- appended in one run, whose token this is, and the value alone is buffered
abbrev pub Pushes : {T : Type 0} → BufferedView T → BufferedView T → T → Option (GrownView T) → Type 0
Pushes old new value None =
    (length old.buffered < old.bound) × (new.buffered ≡ old.buffered ++ value ∷ []) × (new.writer ≡ old.writer)
Pushes old new value (Some grown) =
    (length old.buffered ≡ old.bound) × (new.buffered ≡ value ∷ [])
    × WonRun old.writer.vector old.buffered old.writer.hand new.writer.hand grown

-- the history of the writer's hand gets the growth of what was flushed, or the hand is as it was
abbrev pub LogsFlush : {T : Type 0} → WriterView T → WriterView T → Option (GrownView T) → Type 0
LogsFlush old new None = new.hand ≡ old.hand
LogsFlush old new (Some grown) = LogsGrowth AllFilled old.hand new.hand grown.run

-- what a refused growth of buffered values leaves in the buffer: all of them, or nothing if a place was taken
abbrev pub LeavesBuffer : {T V E : Type 0} → List T → List T → GrowError T V E → Type 0
LeavesBuffer old new (Taken place found) = new ≡ []
LeavesBuffer old new refusal = new ≡ old

-- a push was refused: there was no memory, for the buffer or for segments, or the buffered values were refused
abbrev pub RefusesPush : {T E : Type 0} → BufferedView T → BufferedView T → GrowError T (Unit {0}) E → Type 0
RefusesPush old new (NoMemory back) = SeesMore old.writer.hand new.writer.hand
RefusesPush old new refusal =
    (length old.buffered ≡ old.bound)
    × Refuses old.writer.vector (length old.buffered) tt old.writer.hand new.writer.hand refusal

-- there was no memory
abbrev pub IsOutOfMemory : {T V E : Type 0} → GrowError T V E → Type 0
IsOutOfMemory (NoMemory back) = Unit {0}
IsOutOfMemory refusal = ⊥
