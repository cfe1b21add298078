use Rattle.call_tests.proofs.days.all_are_called.Given as goal

-- the board and the configuration of these calls
abbrev pub ghosts-each_is_called : goal.ghosts-each_is_called
ghosts-each_is_called g a = record { board = a.board; config = a.config }
