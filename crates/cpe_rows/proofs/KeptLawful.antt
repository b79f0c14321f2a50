-- Lemmas: each accepted edit leaves lawful rows.
use Rattle.cpe_rows.specs.Rows.{Rows}
use Rattle.cpe_rows.specs.Lawful.{IsLawful}
use Rattle.cpe_rows.specs.Accepted.{IsAccepted}
use Rattle.cpe_rows.specs.declared.edit.Edit.{Edit}
use Rattle.cpe_rows.specs.declared.edit.Edit.TheVariants as edit
use Rattle.cpe_rows.proofs.Accepted.{lawful}
use Rattle.cpe_rows.proofs.AcceptedItems.{lawful_with, lawful_without}
use Rattle.cpe_rows.proofs.AcceptedRows.{put_lawful, dropped_lawful, set_lawful, cleared_lawful}
use Rattle.cpe_rows.proofs.Deprecated.{deprecated_lawful, amended_lawful, restored_lawful}

pub stays_lawful : (rows next : Rows) (e : Edit) → IsAccepted rows e next → IsLawful next
stays_lawful rows next (edit.Entry e) h = lawful rows next e h
stays_lawful rows next (edit.Item n) h = lawful_with rows next n h
stays_lawful rows next (edit.DropItem n) h = lawful_without rows next n h
stays_lawful rows next (edit.Deprecate n d date comment) h = deprecated_lawful rows next n d date comment h
stays_lawful rows next (edit.Amend n d date comment) h = amended_lawful rows next n d date comment h
stays_lawful rows next (edit.Restore n date comment) h = restored_lawful rows next n date comment h
stays_lawful rows next (edit.PutStatement s) h = put_lawful rows next s h
stays_lawful rows next (edit.DropStatement id) h = dropped_lawful rows next id h
stays_lawful rows next (edit.SetCheck k t) h = set_lawful rows next k t h
stays_lawful rows next (edit.DropCheck k) h = cleared_lawful rows next k h
