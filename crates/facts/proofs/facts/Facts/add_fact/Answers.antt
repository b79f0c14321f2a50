use Rattle.std.proofs.Common.{◌≡◌, ◌∷◌, None, refl, sym, subst}
use Rattle.cpe_rows.specs.declared.statement.Mode.{Mode}
use Rattle.cpe_rows.specs.declared.statement.Mode.TheVariants.{Plain, Follow}
use Rattle.fact_rows.specs.Facts.{fact_at, fact_name_id}
use Rattle.facts.specs.Facts.{FactsNow, table_of}
use Rattle.facts.specs.Room.{UnusedAdded}
use Rattle.facts.proofs.RoomLemmas.{only_follow, only_plain, used_but_follow, used_but_plain, used_with, with_unused}
use Rattle.facts.proofs.facts.Facts.add_fact.Goals as goal

pub returns-in-Plain : goal.returns-in-Plain
returns-in-Plain c =
    let boards = c.self.inside.boards in
    let plain = c.self.inside.plain in
    let follow = c.self.inside.follow in
    let inside : FactsNow = record { boards = boards; plain = plain; follow = follow } in
    let next = c.add_fact.new.self in
    let new : FactsNow = record { boards = boards; plain = c.add_fact.new.self; follow = follow } in
    let fact = c.args.fact.0 in
    let its_ends = c.args.ends.items in
    let result = c.add_fact.result in
    let added = c.add_fact.ensures in
    let none = subst (λ (m : Mode). fact_at (table_of inside m) fact ≡ None) c.in-Plain.is (subst (λ (f : FactsNow). fact_at (table_of f c.args.mode) fact ≡ None) (sym c.self.view_is) c.requires) in
    let core : UnusedAdded inside new Plain fact its_ends result = record {
      facts = λ names rows tickets live rows_before. record { plain = with_unused plain next fact its_ends result none added names boards.plain Plain rows tickets live rows_before.plain; follow = rows_before.follow; settled = rows_before.settled; numbered = rows_before.numbered };
      table = added;
      only = only_plain inside new refl refl;
      used = λ fresh used. used_but_plain new (fact_name_id fact ∷ fresh) (used_with plain next fact its_ends result none added fresh (used Plain)) (used Follow);
    } in
    subst (λ (f : FactsNow). UnusedAdded f new c.args.mode c.args.fact.0 c.args.ends.items c.add_fact.result) c.self.view_is (subst (λ (m : Mode). UnusedAdded inside new m c.args.fact.0 c.args.ends.items c.add_fact.result) (sym c.in-Plain.is) core)

pub returns-in-Follow : goal.returns-in-Follow
returns-in-Follow c =
    let boards = c.self.inside.boards in
    let plain = c.self.inside.plain in
    let follow = c.self.inside.follow in
    let inside : FactsNow = record { boards = boards; plain = plain; follow = follow } in
    let next = c.add_fact-in-Follow.new.self in
    let new : FactsNow = record { boards = boards; plain = plain; follow = c.add_fact-in-Follow.new.self } in
    let fact = c.args.fact.0 in
    let its_ends = c.args.ends.items in
    let result = c.add_fact-in-Follow.result in
    let added = c.add_fact-in-Follow.ensures in
    let none = subst (λ (m : Mode). fact_at (table_of inside m) fact ≡ None) c.in-Follow.is (subst (λ (f : FactsNow). fact_at (table_of f c.args.mode) fact ≡ None) (sym c.self.view_is) c.requires) in
    let core : UnusedAdded inside new Follow fact its_ends result = record {
      facts = λ names rows tickets live rows_before. record { follow = with_unused follow next fact its_ends result none added names boards.follow Follow rows tickets live rows_before.follow; plain = rows_before.plain; settled = rows_before.settled; numbered = rows_before.numbered };
      table = added;
      only = only_follow inside new refl refl;
      used = λ fresh used. used_but_follow new (fact_name_id fact ∷ fresh) (used Plain) (used_with follow next fact its_ends result none added fresh (used Follow));
    } in
    subst (λ (f : FactsNow). UnusedAdded f new c.args.mode c.args.fact.0 c.args.ends.items c.add_fact-in-Follow.result) c.self.view_is (subst (λ (m : Mode). UnusedAdded inside new m c.args.fact.0 c.args.ends.items c.add_fact-in-Follow.result) (sym c.in-Follow.is) core)
