use Rattle.name_index.proofs.Rearranged.{rearranged, same_by_order}
use Rattle.name_index.proofs.law.same_elements_rearrange.Goals as goal

pub returns : goal.returns
returns c xs ys = (rearranged xs ys, same_by_order xs ys)
