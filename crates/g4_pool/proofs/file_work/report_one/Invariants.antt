use Rattle.g4_pool.proofs.file_work.report_one.Given as goal

abbrev pub ghosts-report_counted : goal.ghosts-report_counted
ghosts-report_counted g a = record { name = a.blank.name; parts = a.blank.parts }
