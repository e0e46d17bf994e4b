use Rattle.cvec.proofs.ScheduleText.{by_parts}
use Rattle.cvec.proofs.schedule.make_schedule_text.Goals as goal

pub returns : goal.returns
returns c =
    rw (c.in_ok-push.ensures.items, c.in_ok-push_items.ensures, c.deref.ensures.value, c.in_ok-items.ensures.items, c.in_ok-text.ensures.items)
    (by_parts c.args.seed c.args.number c.args.len)
