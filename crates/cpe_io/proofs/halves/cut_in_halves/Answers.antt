use Rattle.cpe_io.proofs.HalvesLemmas.{no_space, more_spaces, one_space}
use Rattle.cpe_io.proofs.halves.cut_in_halves.Goals as goal

pub returns-in_default : goal.returns-in_default
returns-in_default c = no_space c.args.line.now c.in_default.ensures

pub returns-in-Some-memchr : goal.returns-in-Some-memchr
returns-in-Some-memchr c = more_spaces c.args.line.now c.in-Some.at c.in-Some-memchr.field-0 c.in-Some.ensures c.in-Some-memchr.ensures

pub returns-in-None : goal.returns-in-None
returns-in-None c = one_space c.args.line.now c.in-Some.at c.in-Some.ensures c.in-None.ensures
