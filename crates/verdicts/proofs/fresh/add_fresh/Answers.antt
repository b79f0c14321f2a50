use Rattle.std.proofs.Common.{◌∷◌, []}
use Rattle.facts.specs.Facts.{table_of}
use Rattle.facts.proofs.RoomLemmas.{same_users}
use Rattle.verdicts.proofs.BesideLemmas.{beside_none, beside_wider, one_added}
use Rattle.verdicts.proofs.fresh.add_fresh.Goals as goal

pub returns-in_err-ends-clause-beside : goal.returns-in_err-ends-clause-beside
returns-in_err-ends-clause-beside c =
    beside_wider c.args.facts.now c.args.facts.now c.args.registry.now.table c.args.mode [] (c.args.fact ∷ []) (λ q h. absurd cc) (beside_none c.args.facts.now c.args.registry.now.table c.args.mode)

pub returns-clause-beside : goal.returns-clause-beside
returns-clause-beside c =
    let e = c.add_fact.ensures in
    let mode = c.args.mode in
    record {
      facts = λ rows tickets s. e.facts c.args.registry.now.table rows tickets c.requires.live s;
      users = same_users (table_of c.args.facts.now mode) (table_of c.add_fact.new.self mode) c.args.fact.0 c.in_ok-ends.ends.items c.add_fact.result c.requires.none e.table;
      used = λ before u. e.used before u;
      changed = e.table.changed;
    }

pub returns-clause-others : goal.returns-clause-others
returns-clause-others c = c.add_fact.ensures.table.others

pub returns-clause-added : goal.returns-clause-added
returns-clause-added c =
    one_added c.args.registry.now.table c.args.registry.now.entries c.args.mode c.add_fact.new.self c.args.fact c.in_ok-ends.ends.items c.add_fact.result c.add_fact.ensures.table.here c.in_ok-ends.ensures
