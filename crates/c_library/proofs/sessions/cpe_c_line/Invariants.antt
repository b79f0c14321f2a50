use Rattle.c_library.proofs.sessions.cpe_c_line.Given as goal

abbrev pub ghosts-say_counted : goal.ghosts-say_counted
ghosts-say_counted a = record { name = a.blank.name; parts = a.blank.parts }
