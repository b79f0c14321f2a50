use Rattle.cpe_name.proofs.PutLemmas.{put_lawful}
use Rattle.cpe_name.proofs.name.Wfn.set.Goals as goal

pub invariant_of-self : goal.invariant_of-self
invariant_of-self c = rw c.set.ensures (put_lawful _ c.args.which c.args.value c.self.invariant c.in_ok-test_value.ensures.suits)
