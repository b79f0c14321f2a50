use Rattle.std.proofs.Common.{◌+◌, ◌-◌, ◌*◌, length}
use Rattle.cpe_relation.specs.Folded.{table_index, IsBefore}
use Rattle.memchr.proofs.lemmas.SuffixLemmas.{IsScan}
use Rattle.cpe_relation.proofs.cut.greatest_suffix.Given as goal

abbrev pub invariant-loop-candidate : goal.invariant-loop-candidate
invariant-loop-candidate l = IsScan (IsBefore l.usual) (table_index l.body) (length l.body) l.start l.period l.candidate l.offset

abbrev pub decreases-loop-candidate : goal.decreases-loop-candidate
decreases-loop-candidate l = 2 * length l.body + 1 - (l.start + l.candidate + l.offset)
