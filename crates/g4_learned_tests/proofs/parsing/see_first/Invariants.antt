use Rattle.g4_learned_tests.proofs.parsing.see_first.Given as goal

abbrev pub ghosts-see-B-Home : goal.ghosts-see-B-Home
ghosts-see-B-Home g a = record { table = a.opened.table.shared.table_id; plan = a.opened.plan }

abbrev pub ghosts-see-L-Ledger : goal.ghosts-see-L-Ledger
ghosts-see-L-Ledger g a = record { name = a.blank.name; parts = a.blank.parts }
