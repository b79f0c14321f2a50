use Rattle.c_library.proofs.sessions.cpe_c_end.Given as goal

abbrev pub ghosts-end_counted : goal.ghosts-end_counted
ghosts-end_counted a = record { name = a.blank.name; parts = a.blank.parts }
