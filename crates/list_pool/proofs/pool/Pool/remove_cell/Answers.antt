use Rattle.std.proofs.Common.{arith}
use Rattle.list_pool.proofs.SlotWrites.{taken_out}
use Rattle.list_pool.proofs.pool.Pool.remove_cell.Goals as goal

pub returns-clause-removed : goal.returns-clause-removed
returns-clause-removed c = (taken_out c.args.self.now.lists c.set_value.new.self.lists c.remove_value.new.self.lists c.args.list.0 c.args.cell.0 c.in-Some.first.0 c.value-value.result c.set_value.new.self.spare c.remove_value.new.self.spare c.remove_value.result c.requires c.in-Some.ensures c.value-value.ensures c.set_value.ensures.written c.remove_value.ensures.found c.remove_value.ensures.removed c.remove_value.ensures.spare).0

pub returns-clause-spare : goal.returns-clause-spare
returns-clause-spare c = omega (arith, c.set_value.ensures.spare, (taken_out c.args.self.now.lists c.set_value.new.self.lists c.remove_value.new.self.lists c.args.list.0 c.args.cell.0 c.in-Some.first.0 c.value-value.result c.set_value.new.self.spare c.remove_value.new.self.spare c.remove_value.result c.requires c.in-Some.ensures c.value-value.ensures c.set_value.ensures.written c.remove_value.ensures.found c.remove_value.ensures.removed c.remove_value.ensures.spare).1)
