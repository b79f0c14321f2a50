use Rattle.std.proofs.Common.{◌≡◌, IfOk, subst}
use Rattle.snapshot_bytes.specs.Parts.{number}
use Rattle.snapshot_bytes.specs.Snapshot.{mark}
use Rattle.snapshot_bytes.proofs.WriteLemmas.{four_numbers}
use Rattle.snapshot_bytes.proofs.write.push_head.Goals as goal

pub returns : goal.returns
returns c =
    subst (λ t. IfOk c.push_number-4.result (λ b. b.items ≡ t))
    (four_numbers c.args.bytes.items mark (number c.args.entries) (number c.args.items) (number c.args.statements) (number c.args.results)
    c.in_ok-out.out.items c.in_ok-out-2.out.items c.in_ok-out-3.out.items c.in_ok-out-4.out.items
    c.in_ok-out.ensures c.in_ok-out-2.ensures c.in_ok-out-3.ensures c.in_ok-out-4.ensures)
    c.push_number-4.ensures
