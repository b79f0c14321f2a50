use Rattle.std.proofs.Common.{sym, ap, ◌∙◌, take_all}
use Rattle.std.specs.List.{list_all}
use Rattle.serde_json.specs.View.{view}
use Rattle.cpe_records.specs.Names.{is_written}
use Rattle.cpe_records.proofs.Lists.{all_viewed}
use Rattle.cpe_records.proofs.name.are_written.Goals as goal

pub returns : goal.returns
returns c =
    c.loop-json.invariant ∙ ap (list_all (λ v. is_written c.args.format (view v))) (take_all c.loop-json.json-index c.args.json_list.now c.loop-json-test.false)
    ∙ sym (all_viewed (is_written c.args.format) c.args.json_list.now)
