use Rattle.cpe_name.proofs.PutLemmas.{suits_other}
use Rattle.cpe_name.proofs.name.test_value.Goals as goal

pub returns-in_default-clause-suits : goal.returns-in_default-clause-suits
returns-in_default-clause-suits c = suits_other c.args.which c.args.value.now c.in_default.not-Part c.in_default.not-Language c.lawful.ensures
