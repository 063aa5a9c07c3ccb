use Rattle.g4_parse_tests.proofs.files.parsed_with.Given as goal

abbrev pub ghosts-parse_all-B-Home : goal.ghosts-parse_all-B-Home
ghosts-parse_all-B-Home g a = record { table = a.opened.table.shared.table_id; plan = a.opened.plan }

abbrev pub ghosts-parse_all-L-Ledger : goal.ghosts-parse_all-L-Ledger
ghosts-parse_all-L-Ledger g a = record { name = a.blank.name; parts = a.blank.parts }
