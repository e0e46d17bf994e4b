-- The places of a shared vector, divided among workers.
use Rattle.std.specs.Prelude.{◌≡◌, ◌≢◌, ℕ, ◌+◌, ◌-◌, ◌*◌, ◌/◌, ◌%◌, ◌<◌, ◌≤◌, List, Option, Some, None, min}
use base.Stored.{Coded, coded×, coded_ℕ, coded_via}
use Rattle.grow_core.specs.Vector.{VectorView, vector_coded, base_of, limit_of, layout_of}
use Rattle.grow_core.specs.ShownCells.{CellsView}
use Rattle.grow_core.specs.Slices.{IsInOneSegment, IsToTheEnd}
use Rattle.span_core.specs.Workers.{EachGives}

-- how many places next to each other are one worker's
abbrev pub stretch_len : ℕ
stretch_len = 4096

-- the vector, the next place, the end of the walk, the worker and the number of workers
pub record WorkerCellsView (T : Type 0) : Type 0 where
  pub vector : VectorView T
  pub place : ℕ
  pub end : ℕ
  pub worker : ℕ
  pub workers : ℕ

-- how that is stored
abbrev pub worker_cells_coded : {T : Type 0} → Coded T → Coded (WorkerCellsView T)
worker_cells_coded {T} c =
    coded_via (coded× (vector_coded c) (coded× coded_ℕ (coded× coded_ℕ (coded× coded_ℕ coded_ℕ))))
    (λ (w : WorkerCellsView T). (w.vector, (w.place, (w.end, (w.worker, w.workers)))))
    (λ x y e i. record {
      vector = (e i).0;
      place = (e i).1.0;
      end = (e i).1.1.0;
      worker = (e i).1.1.1.0;
      workers = (e i).1.1.1.1;
    })

-- the place is of this worker: stretch i of the vector is worker i's, modulo their number
abbrev pub IsOfWorker : ℕ → ℕ → ℕ → Type 0
IsOfWorker workers worker place = (place / stretch_len) % workers ≡ worker % workers

-- one past the last place of the stretch, or of the walk
abbrev pub part_end : {T : Type 0} → WorkerCellsView T → ℕ
part_end w = min w.end (w.place / stretch_len * stretch_len + stretch_len)

-- the worker's next place, if this is the next one of the vector: after a stretch come those of the others
abbrev pub IsNextPlace : ℕ → ℕ → ℕ → Type 0
IsNextPlace workers past place =
    (past % stretch_len ≢ 0 → place ≡ past) × (past % stretch_len ≡ 0 → place ≡ past + (workers - 1) * stretch_len)

-- a worker goes on by the places of one segment, up to its end or that of the stretch; or the walk is at its end
abbrev pub GoesOnByPart : {T : Type 0} → WorkerCellsView T → Option (CellsView T) → WorkerCellsView T → Type 0
GoesOnByPart old None new = (old.end ≤ old.place) × (new ≡ old)
GoesOnByPart old (Some cells) new =
    (cells.vector ≡ old.vector) × (cells.from ≡ old.place) × (0 < cells.n) × (old.place + cells.n ≤ part_end old)
    × IsInOneSegment (layout_of old.vector) old.place cells.n
    × IsToTheEnd (layout_of old.vector) old.place cells.n (part_end old)
    × IsNextPlace old.workers (old.place + cells.n) new.place × (new ≡ record old { place = new.place })

-- the places of a worker, of the vector's places before an end
abbrev pub cells_of : {T : Type 0} → VectorView T → ℕ → ℕ → ℕ → WorkerCellsView T
cells_of vector end workers worker =
    record { vector = vector; place = worker * stretch_len; end = end; worker = worker; workers = workers }

-- one result of each worker for its places, of those before one end that a load found
abbrev pub AreOfSegments : {T A : Type 0} → (WorkerCellsView T → A → Type 0) → VectorView T → ℕ → List A → Type 0
AreOfSegments post vector workers answers =
    (end : ℕ) × (base_of vector ≤ end) × (end ≤ limit_of vector)
    × EachGives (λ worker. post (cells_of vector end workers worker)) 0 workers answers
