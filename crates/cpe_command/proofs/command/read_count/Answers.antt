use Rattle.std.proofs.Common.{sym, ap, ◌∙◌}
use Rattle.cpe_command.specs.Command.{begins_count}
use Rattle.cpe_command.proofs.Counts.{count_of-other, count_of-read, count_of-unread}
use Rattle.cpe_command.proofs.command.read_count.Goals as goal

pub returns-then-not-begins_count : goal.returns-then-not-begins_count
returns-then-not-begins_count c =
    count_of-other c.args.word.now (ap begins_count (sym c.as_bytes.ensures.value) ∙ sym c.begins_count.ensures ∙ c.if-not-begins_count.true)

pub returns-in-Ok : goal.returns-in-Ok
returns-in-Ok c =
    c.within.ensures
    ∙ count_of-read c.args.word.now (ap begins_count (sym c.as_bytes.ensures.value) ∙ sym c.begins_count.ensures ∙ c.if-not-begins_count.false) c.in-Ok.count c.in-Ok.ensures.value.0

pub returns-in-Err : goal.returns-in-Err
returns-in-Err c =
    count_of-unread c.args.word.now (ap begins_count (sym c.as_bytes.ensures.value) ∙ sym c.begins_count.ensures ∙ c.if-not-begins_count.false) c.in-Err.ensures.value.0
