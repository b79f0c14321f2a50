use Rattle.std.proofs.Common.{◌∙◌, sym, ap}
use Rattle.cpe_uri.specs.TextMachine.{read_from}
use Rattle.cpe_uri.specs.declared.text.Stage.TheVariants.{Body}
use Rattle.cpe_uri.specs.declared.text.TextState.TheVariants.{Whole}
use Rattle.cpe_uri.proofs.Components.{begun_at}
use Rattle.cpe_uri.proofs.text.begin.Goals as goal

pub returns-in-len1-up : goal.returns-in-len1-up
returns-in-len1-up c = record { same = λ packed. ap (read_from packed (Whole Body)) c.skip_bare.ensures ∙ begun_at packed c.args.bytes.now c.in-len1-up.len_at_least (sym c.begins_body.ensures ∙ c.if-begins_body.true) }
