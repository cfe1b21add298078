use Rattle.day_tests.proofs.actors.all_work.Given as goal

-- the board and the configuration of this day
abbrev pub ghosts-each_works : goal.ghosts-each_works
ghosts-each_works g a = record { board = a.board; config = a.config }
