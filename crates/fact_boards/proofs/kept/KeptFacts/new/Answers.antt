use Rattle.cpe_rows.specs.declared.statement.Mode.TheVariants.{Plain, Follow}
use Rattle.fact_boards.proofs.Boards.{empty_asked}
use Rattle.fact_boards.proofs.kept.KeptFacts.new.Goals as goal

pub returns-clause-shows : goal.returns-clause-shows
returns-clause-shows c names = record {
  plain = empty_asked c.new.result names Plain c.new.ensures.empty;
  follow = empty_asked c.new-2.result names Follow c.new-2.ensures.empty;
}

pub returns-clause-fits : goal.returns-clause-fits
returns-clause-fits c names = record { plain = c.new.ensures.fits names; follow = c.new-2.ensures.fits names }
