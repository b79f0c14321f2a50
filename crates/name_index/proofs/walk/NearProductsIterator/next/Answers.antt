use Rattle.std.proofs.Common.{rules, ◌≡◌, ◌∙◌, [], arith}
use Rattle.name_index.proofs.ProductWalkSteps.{none_left, next_front, next_end, front_present, end_present}
use Rattle.name_index.proofs.walk.NearProductsIterator.next.Goals as goal

pub loop-self-preserved-then-self-gt0 : goal.loop-self-preserved-then-self-gt0
loop-self-preserved-then-self-gt0 c =
    let i = c.loop-self.self-inside in
    let none : i.first ≡ [] = search (rules, none_left) in
    record {
      left = c.loop-self.invariant.left ∙ next_front i.values.now i.order.now.items i.text.now i.first i.second i.third c.in_run-self-inside.result i.fronts i.ends
          none c.if-not-are_empty.ensures.empty.0 c.if-not-are_empty.ensures.empty.1 (omega arith) c.in_run-self-inside.ensures;
      present = front_present i.values.now i.order.now.items i.text.now i.fronts i.ends c.loop-self.invariant.present;
    }

pub loop-self-preserved : goal.loop-self-preserved
loop-self-preserved c =
    let i = c.loop-self.self-inside in
    let none : i.first ≡ [] = search (rules, none_left) in
    record {
      left = c.loop-self.invariant.left ∙ next_end i.values.now i.order.now.items i.text.now i.first i.second i.third c.in_run-self-inside-then-self-gt0-2.result i.fronts i.ends
          none c.if-not-are_empty.ensures.empty.0 c.if-not-are_empty.ensures.empty.1 (omega arith) (omega arith) (rw c.end_of.ensures at c.in_run-self-inside-then-self-gt0-2.ensures);
      present = end_present i.values.now i.order.now.items i.text.now i.fronts i.ends c.loop-self.invariant.present;
    }
