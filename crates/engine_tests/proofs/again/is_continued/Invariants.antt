use Rattle.engine_tests.proofs.again.is_continued.Given as goal

abbrev pub ghosts-continues_over : goal.ghosts-continues_over
ghosts-continues_over a = record { name = a.blank.name; parts = a.blank.parts }
