use Rattle.std.proofs.Common.{◌∙◌, sym, ap}
use Rattle.cpe_uri.specs.TextMachine.{read_from}
use Rattle.cpe_uri.proofs.Components.{skip_in_body}
use Rattle.cpe_uri.proofs.text.skip_from.Goals as goal

pub returns-then-is_in_body-clause-same : goal.returns-then-is_in_body-clause-same
returns-then-is_in_body-clause-same c = λ packed. ap (read_from packed c.args.state) c.skip_bare.ensures ∙ skip_in_body packed c.args.state c.args.bytes.now (sym c.is_in_body.ensures ∙ c.if-is_in_body.true)
