use Rattle.g4_tool.proofs.files.parse_files.Given as goal

abbrev pub ghosts-parse_opened-B-Home : goal.ghosts-parse_opened-B-Home
ghosts-parse_opened-B-Home g a = record { table = a.opened.table.shared.table_id; plan = a.opened.plan }

abbrev pub ghosts-parse_opened-B-LexerHome : goal.ghosts-parse_opened-B-LexerHome
ghosts-parse_opened-B-LexerHome g a = record { lexer = a.grammar.now.lexer }

abbrev pub ghosts-parse_opened-B-InputsHome : goal.ghosts-parse_opened-B-InputsHome
ghosts-parse_opened-B-InputsHome g a = record { inputs = a.inputs.items }
