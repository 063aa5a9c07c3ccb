use Rattle.g4_learned_tests.proofs.overlap.learn_both.Given as goal

abbrev pub ghosts-both-B-Home : goal.ghosts-both-B-Home
ghosts-both-B-Home g a = record { table = a.opened.table.shared.table_id; plan = a.opened.plan }

abbrev pub ghosts-both-L-Ledger : goal.ghosts-both-L-Ledger
ghosts-both-L-Ledger g a = record { name = a.blank.name; parts = a.blank.parts }

abbrev pub ghosts-both-K-Ledger : goal.ghosts-both-K-Ledger
ghosts-both-K-Ledger g a = record { name = a.second_blank.name; parts = a.second_blank.parts }
