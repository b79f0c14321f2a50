use Rattle.std.proofs.Common.{◌∙◌}
use Rattle.cpe_command.proofs.WatchLemmas.{changes-said}
use Rattle.cpe_command.proofs.changes.say_applied.Goals as goal

-- the lines of the changes were appended
pub returns-in_ok-push_changes-in-Ok-clause-said : goal.returns-in_ok-push_changes-in-Ok-clause-said
returns-in_ok-push_changes-in-Ok-clause-said g c =
    changes-said c.args.number c.args.engine.now c.apply.new.self c.args.edit c.args.dropped.now c.as_slice.result.now
    c.args.page.now c.push_changes.new.page
    c.in-Ok.ensures.applied (c.as_slice.ensures ∙ c.in-Ok.ensures.changes) c.requires.drops c.in_ok-push_changes-in-Ok.ensures
