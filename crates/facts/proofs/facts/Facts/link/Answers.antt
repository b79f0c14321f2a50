use Rattle.std.proofs.Common.{refl, sym, ap, subst, ◌∙◌}
use Rattle.std.specs.Prelude.{is_some}
use Rattle.cpe_rows.specs.declared.statement.Mode.TheVariants.{Follow}
use Rattle.fact_rows.specs.Facts.{ends_or_none, truth_or_unknown, users_or_none}
use Rattle.facts.specs.Facts.{FactsNow}
use Rattle.facts.specs.Room.{EndsLinked}
use Rattle.facts.proofs.RoomLemmas.{alike}
use Rattle.facts.proofs.facts.Facts.link.Goals as goal

pub returns : goal.returns
returns c =
    let boards = c.self.inside.boards in
    let plain = c.self.inside.plain in
    let follow = c.self.inside.follow in
    let inside : FactsNow = record { boards = boards; plain = plain; follow = follow } in
    let next = c.link.new.self in
    let new : FactsNow = record { boards = boards; plain = plain; follow = next } in
    let linked = c.link.ensures in
    subst (λ (f : FactsNow). EndsLinked f new c.args.fact.0 c.args.ends.now c.link.result) c.self.view_is (record {
      facts = λ names rows tickets rows_before. record {
        plain = rows_before.plain;
        follow = alike names boards.follow Follow rows tickets follow next rows_before.follow (λ q is. rows_before.follow.live q (sym (ap is_some (linked.stay q)) ∙ is)) (λ q. ap users_or_none (linked.stay q)) (λ q used. ap ends_or_none (linked.stay q)) (λ q used. ap truth_or_unknown (linked.stay q)) (linked.linked rows_before.follow.linked);
        settled = rows_before.settled;
        numbered = rows_before.numbered;
      };
      table = linked;
      boards = refl;
      plain = refl;
    })
