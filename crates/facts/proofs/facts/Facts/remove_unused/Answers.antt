use Rattle.std.proofs.Common.{◌≡◌, ℕ, [], true, refl, sym, subst}
use Rattle.cpe_rows.specs.declared.statement.Mode.{Mode}
use Rattle.cpe_rows.specs.declared.statement.Mode.TheVariants.{Plain, Follow}
use Rattle.fact_rows.specs.Facts.{has_end_of_fact, users_of}
use Rattle.facts.specs.Facts.{AreUsedBut, FactsNow, table_of}
use Rattle.facts.specs.Room.{UnusedRemoved}
use Rattle.facts.proofs.RoomLemmas.{only_follow, only_plain, used_without, without_unused}
use Rattle.facts.proofs.UsedLemmas.{all_used, but_none}
use Rattle.facts.proofs.facts.Facts.remove_unused.Goals as goal

pub returns-in-Plain : goal.returns-in-Plain
returns-in-Plain c =
    let boards = c.self.inside.boards in
    let plain = c.self.inside.plain in
    let follow = c.self.inside.follow in
    let inside : FactsNow = record { boards = boards; plain = plain; follow = follow } in
    let next = c.remove_facts.new.facts in
    let new : FactsNow = record { boards = boards; plain = c.remove_facts.new.facts; follow = follow } in
    let unused = c.args.unused.now in
    let removed = c.remove_facts.ensures.removed in
    let none = subst (λ (m : Mode). (q : ℕ) → has_end_of_fact unused q ≡ true → users_of (table_of inside m) q ≡ []) c.in-Plain.is (subst (λ (f : FactsNow). (q : ℕ) → has_end_of_fact unused q ≡ true → users_of (table_of f c.args.mode) q ≡ []) (sym c.self.view_is) c.requires.users) in
    let core : UnusedRemoved inside new Plain unused = record {
      facts = λ names rows tickets rows_before. record { plain = without_unused plain next unused none removed names boards.plain Plain rows tickets rows_before.plain; follow = rows_before.follow; settled = rows_before.settled; numbered = rows_before.numbered };
      table = removed;
      only = only_plain inside new refl refl;
      used = λ (used : AreUsedBut inside Plain unused). all_used new (used_without plain next unused none removed (used Plain)) (but_none follow (used Follow));
    } in
    subst (λ (f : FactsNow). UnusedRemoved f new c.args.mode c.args.unused.now) c.self.view_is (subst (λ (m : Mode). UnusedRemoved inside new m c.args.unused.now) (sym c.in-Plain.is) core)

pub returns-in-Follow : goal.returns-in-Follow
returns-in-Follow c =
    let boards = c.self.inside.boards in
    let plain = c.self.inside.plain in
    let follow = c.self.inside.follow in
    let inside : FactsNow = record { boards = boards; plain = plain; follow = follow } in
    let next = c.remove_facts-in-Follow.new.facts in
    let new : FactsNow = record { boards = boards; plain = plain; follow = c.remove_facts-in-Follow.new.facts } in
    let unused = c.args.unused.now in
    let removed = c.remove_facts-in-Follow.ensures.removed in
    let none = subst (λ (m : Mode). (q : ℕ) → has_end_of_fact unused q ≡ true → users_of (table_of inside m) q ≡ []) c.in-Follow.is (subst (λ (f : FactsNow). (q : ℕ) → has_end_of_fact unused q ≡ true → users_of (table_of f c.args.mode) q ≡ []) (sym c.self.view_is) c.requires.users) in
    let core : UnusedRemoved inside new Follow unused = record {
      facts = λ names rows tickets rows_before. record { follow = without_unused follow next unused none removed names boards.follow Follow rows tickets rows_before.follow; plain = rows_before.plain; settled = rows_before.settled; numbered = rows_before.numbered };
      table = removed;
      only = only_follow inside new refl refl;
      used = λ (used : AreUsedBut inside Follow unused). all_used new (but_none plain (used Plain)) (used_without follow next unused none removed (used Follow));
    } in
    subst (λ (f : FactsNow). UnusedRemoved f new c.args.mode c.args.unused.now) c.self.view_is (subst (λ (m : Mode). UnusedRemoved inside new m c.args.unused.now) (sym c.in-Follow.is) core)
