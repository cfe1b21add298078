use Rattle.session_worker.proofs.days.run_day.Given as goal

-- the board and the configuration of this day
abbrev pub ghosts-run_named : goal.ghosts-run_named
ghosts-run_named g a = record { board = a.board; config = a.config }
