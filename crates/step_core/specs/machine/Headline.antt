-- The headline: every interleaving of the machine's steps is one history of the sequential vector.
use Rattle.std.specs.Prelude.{ℕ, List}
use Rattle.book_core.specs.declared.commands.Command.{Command}
use Rattle.book_core.specs.declared.commands.Item.{Item}
use Rattle.seg_core.specs.Segment.{IsLayout, IsLimit}
use Rattle.book_core.specs.Commands.{AreSound}
use Rattle.step_core.specs.machine.Claims.{MovesAtClaims, MovesAreOwnClaims, NothingIsClaimedAtLoad}
use Rattle.step_core.specs.machine.Play.{Play, play_of}
use Rattle.step_core.specs.machine.Legal.{IsLegal}
use Rattle.step_core.specs.machine.Record.{AreRecorded}
use Rattle.step_core.specs.machine.Tiling.{IsTiled}
use Rattle.step_core.specs.machine.Kept.{FilledCellsAreKept, BrokenCellsAreKept}

-- what holds of a play of these programs
pub record IsSequential (limit : ℕ) (programs : List (List Command)) (p : Play) : Type 0 where
  -- every reply is the one that a sequential vector of cells gives in one legal history, which leads to the
  -- cells seen
  pub legal : IsLegal limit p
  -- the history holds each call that claimed once, in its caller's order, with its answer
  pub recorded : AreRecorded programs p
  -- and at its claim: its run is the event of the step that moved the size
  pub at_claims : MovesAtClaims p
  -- which is the claim of the stepping actor's own call under way
  pub own_claims : MovesAreOwnClaims p
  -- and a growth of nothing is claimed at its load
  pub nothing_at_load : NothingIsClaimedAtLoad p
  -- runs tile the claimed size; each place is its owner's, who fills or breaks it; a broken one is filled by
  -- its mender, and no place is filled twice; a refusal breaks its own cells alone
  pub tiled : IsTiled p
  -- a published cell keeps its value
  pub kept : FilledCellsAreKept p
  -- and a broken one stays broken until it is mended
  pub stays_broken : BrokenCellsAreKept p

-- Over every layout, every limit, every sound programs, every schedule with any marks of memory.
abbrev pub EveryInterleavingIsSequential : Type 0
EveryInterleavingIsSequential =
    (f : ℕ) → IsLayout f → (limit : ℕ) (programs : List (List Command)) (items : List Item) → IsLimit limit
    → AreSound programs → IsSequential limit programs (play_of f limit programs items)
