use Rattle.snapshot_bytes.proofs.PartLemmas.{unnamed, refused_at}
use Rattle.snapshot_bytes.proofs.parts.unbound.Goals as goal

pub returns-in-Err-At : goal.returns-in-Err-At
returns-in-Err-At c =
    unnamed c.args.bytes.now (λ n is. c.read_fs_is.ensures.found n c.args.bytes.now is)
    (refused_at c.in-Err-At.field-0 c.in-Err-At.field-0-0 c.args.bytes.now c.in-Err-At.field-0-is c.in-Err-At.ensures.refused)
