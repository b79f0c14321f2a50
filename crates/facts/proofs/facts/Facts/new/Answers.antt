use Rattle.std.proofs.Common.{refl}
use Rattle.cpe_rows.specs.declared.statement.Mode.TheVariants.{Plain, Follow}
use Rattle.facts.proofs.MoveLemmas.{no_facts}
use Rattle.facts.proofs.facts.Facts.new.Goals as goal

pub returns-clause-facts : goal.returns-clause-facts
returns-clause-facts c names =
    let plain = c.new-2.result in
    let follow = c.new-3.result in
    record {
      plain = no_facts names Plain c.new.result.plain plain c.new-2.ensures.facts c.new-2.ensures.linked (c.new.ensures.shows names).plain (c.new.ensures.fits names).plain;
      follow = no_facts names Follow c.new.result.follow follow c.new-3.ensures.facts c.new-3.ensures.linked (c.new.ensures.shows names).follow (c.new.ensures.fits names).follow;
      settled = c.new.ensures.settled;
      numbered = record { each = refl; rising = tt };
    }
