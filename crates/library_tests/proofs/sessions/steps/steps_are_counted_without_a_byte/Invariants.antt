use Rattle.library_tests.proofs.sessions.steps.steps_are_counted_without_a_byte.Given as goal

abbrev pub ghosts-bytes_of_two_steps : goal.ghosts-bytes_of_two_steps
ghosts-bytes_of_two_steps g a = record { name = a.blank.name; parts = a.blank.parts }
