use Rattle.std.proofs.Common.{◌≡◌, ℕ, IfOk, sym, ◌∙◌, subst}
use Rattle.book_core.specs.Commands.{AreSound}
use Rattle.step_core.specs.machine.Work.{play_shown}
use Rattle.sweep_core.specs.Sweep.{sampled_limit}
use Rattle.sweep_core.proofs.Sampled.{are_sound, have_programs, shows_events, shows_ended}
use Rattle.sweep_core.proofs.one_schedule.play_seed.Goals as goal

pub play_valid-requires-clause-sound : goal.play_valid-requires-clause-sound
play_valid-requires-clause-sound c = subst AreSound (sym c.in_ok-programs.ensures) are_sound

pub play_valid-requires-clause-programs : goal.play_valid-requires-clause-programs
play_valid-requires-clause-programs c =
    rw (c.in_ok-programs.ensures, c.deref.ensures.value, c.in_ok-items.ensures) (have_programs c.args.seed c.args.len)

pub returns-clause-events : goal.returns-clause-events
returns-clause-events c =
    let played = subst (λ (f : ℕ). IfOk c.play_valid.result (λ played. played ≡ play_shown f sampled_limit c.in_ok-programs.programs c.deref.result.now)) c.default.ensures c.play_valid.ensures.played in
    shows_events c.args.seed c.args.len c.in_ok-programs.programs c.deref.result.now c.play_valid.result c.in_ok-programs.ensures (c.deref.ensures.value ∙ c.in_ok-items.ensures) played

pub returns-clause-ended : goal.returns-clause-ended
returns-clause-ended c =
    let played = subst (λ (f : ℕ). IfOk c.play_valid.result (λ played. played ≡ play_shown f sampled_limit c.in_ok-programs.programs c.deref.result.now)) c.default.ensures c.play_valid.ensures.played in
    shows_ended c.args.seed c.args.len c.in_ok-programs.programs c.deref.result.now c.play_valid.result c.in_ok-programs.ensures (c.deref.ensures.value ∙ c.in_ok-items.ensures) played
