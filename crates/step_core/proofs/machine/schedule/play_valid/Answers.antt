use Rattle.std.proofs.Common.{◌∙◌, refl}
use Rattle.step_core.proofs.atomic_steps.Tallies.{from_first, all_shown, all_actors}
use Rattle.step_core.proofs.atomic_steps.WorkActors.{work_actors}
use Rattle.step_core.proofs.machine.schedule.play_valid.Goals as goal

pub returns-clause-played : goal.returns-clause-played
returns-clause-played c =
    all_shown c.args.layout c.args.limit c.args.programs c.args.items.now c.play.new.self c.into_played.result c.in_ok-of_sound.ensures.layout c.requires.limit
    (from_first c.args.layout c.args.limit c.args.programs c.args.items.now c.play.new.self c.in_ok-counted.counted c.in_ok-play.ensures (c.in_ok-counted.ensures ∙ rw (c.in_ok-of_sound.ensures.made, c.new.ensures.items, c.new-2.ensures.items, c.len-actors.ensures) refl))
    c.into_played.ensures

pub returns-clause-actors : goal.returns-clause-actors
returns-clause-actors c =
    all_actors c.args.layout c.args.limit c.args.programs c.args.items.now c.play.new.self c.into_played.result c.requires.programs
    (from_first c.args.layout c.args.limit c.args.programs c.args.items.now c.play.new.self c.in_ok-counted.counted c.in_ok-play.ensures (c.in_ok-counted.ensures ∙ rw (c.in_ok-of_sound.ensures.made, c.new.ensures.items, c.new-2.ensures.items, c.len-actors.ensures) refl))
    c.into_played.ensures

pub returns-clause-work : goal.returns-clause-work
returns-clause-work c =
    work_actors c.args.layout c.args.limit c.args.programs c.args.items.now c.into_played.result c.in_ok-of_sound.ensures.layout c.requires.limit c.requires.programs
    (returns-clause-played c)
