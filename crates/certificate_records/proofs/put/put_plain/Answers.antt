use Rattle.std.proofs.Common.{[], ◌∷◌}
use Rattle.json.specs.Token.{begin_object}
use Rattle.record_writer.proofs.Pieces.{two}
use Rattle.certificate_records.specs.Written.{truth_end}
use Rattle.certificate_records.proofs.put.put_plain.Goals as goal

pub returns : goal.returns
returns c = (
  cc (c.in_ok-put.ensures.0, c.in_ok-put_truth.ensures.0),
  two c.args.writer.now.tokens (begin_object ∷ []) (truth_end c.args.truth) c.put.new.writer.tokens c.put_truth.new.writer.tokens c.in_ok-put.ensures.1 c.in_ok-put_truth.ensures.1,
)
