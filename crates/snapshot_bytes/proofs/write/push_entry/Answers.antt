use Rattle.std.proofs.Common.{◌≡◌, IfOk, subst}
use Rattle.snapshot_bytes.specs.Parts.{text, name, list}
use Rattle.snapshot_bytes.specs.Snapshot.{note_row, deprecation_part, placed_deprecation}
use Rattle.snapshot_bytes.proofs.WriteLemmas.{five_parts}
use Rattle.snapshot_bytes.proofs.write.push_entry.Goals as goal

pub returns : goal.returns
returns c =
    let p = c.args.provenance.now in
    subst (λ t. IfOk c.push_deprecation.result (λ b. b.items ≡ t))
    (five_parts c.args.bytes.items (name c.args.put.now) (text c.args.title.now) (text p.submitter) (text p.authority) (list note_row p.notes)
    (deprecation_part (placed_deprecation c.args.kind c.args.successors.now)) c.in_ok-out.out.items c.in_ok-out-2.out.items c.in_ok-out-3.out.items
    c.in_ok-out.ensures c.in_ok-out-2.ensures c.in_ok-out-3.ensures)
    c.push_deprecation.ensures
