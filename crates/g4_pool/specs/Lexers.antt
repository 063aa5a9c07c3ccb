-- The lexer of a run.
use Rattle.std.specs.Prelude.{[]}
use Rattle.g4_lexer.specs.declared.lexer.Lexer.{Lexer}

-- a lexer without states, for a name that nothing is named by
abbrev pub no_lexer : Lexer
no_lexer = record { net = record { states = []; callers = []; written = [] }; modes = []; types = []; commands = [] }
