use Rattle.verdicts.proofs.items.met_uncounted.Given as goal

abbrev pub ghosts-met_over : goal.ghosts-met_over
ghosts-met_over a = record { name = a.blank.name; parts = a.blank.parts }
