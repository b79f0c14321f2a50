use Rattle.certificate_records.proofs.GoodForms.{good_is_formed, good_has_names}
use Rattle.certificate_records.proofs.law.good_certificates_are_read.Goals as goal

pub returns-clause-formed : goal.returns-clause-formed
returns-clause-formed c = good_is_formed

pub returns-clause-read : goal.returns-clause-read
returns-clause-read c rows lawful s there w good u =
    c.written_is_read.ensures (record { id = s.id; why = w }) (good_has_names rows lawful s there w good) (good_is_formed rows lawful s there w good) u
