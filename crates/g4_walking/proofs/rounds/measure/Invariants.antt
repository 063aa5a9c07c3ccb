use Rattle.g4_walking.proofs.rounds.measure.Given as goal

abbrev pub ghosts-learn_and_walk : goal.ghosts-learn_and_walk
ghosts-learn_and_walk g a = record { table = a.opened.table.shared.table_id; plan = a.opened.plan }
