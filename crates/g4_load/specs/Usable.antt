-- What parsing asks of an interpreter.
use Rattle.std.specs.Prelude.{ℕ, List, [], ◌∷◌}
use Rattle.g4_tokens.specs.Symbols.{eof}
use Rattle.g4_grammar.specs.StepRules.{StepRule, CanBeRewritten}
use Rattle.g4_net.specs.Network.{ParserNetwork}
use Rattle.g4_ordered.specs.Network.{IsLexable}
use Rattle.g4_lexer.specs.Lexers.{HasTokenTypes}
use Rattle.g4_net.specs.AddedRule.{IsReady}
use Rattle.g4_net.specs.Loops.{HasLoops}
use Rattle.g4_layout.specs.Built.{IsBuilt}
use Rattle.g4_leftrec.specs.Rewriting.{rewritten, numberings}
use Rattle.g4_load.specs.declared.interpreter.Interpreter.{Interpreter}

-- The network can be parsed with, and is that of the rewritten rules from some start rule.
pub record IsParsing (rules : List StepRule) (net : ParserNetwork) : Type 0 where
  pub ready : IsReady net
  pub built : (start : List ℕ) × IsBuilt (eof ∷ []) (rewritten rules) (numberings rules) start net

-- The network is that of the rules as they are run, from this start rule.
abbrev pub IsNetworkFrom : Interpreter → List ℕ → Type 0
IsNetworkFrom interpreter start = IsBuilt (eof ∷ []) (rewritten interpreter.rules) (numberings interpreter.rules) start interpreter.net

-- Its rules can be rewritten and its network parsed with, whose levels are in loops, and its lexer can be lexed with and gives token types.
pub record IsUsable (interpreter : Interpreter) : Type 0 where
  pub rewritable : CanBeRewritten interpreter.rules
  pub parsing : IsParsing interpreter.rules interpreter.net
  pub loops : HasLoops interpreter.net
  pub lexable : IsLexable interpreter.lexer.net
  pub types : HasTokenTypes interpreter.lexer

-- the same with these flags given
abbrev pub with_flags : List (List ℕ) → Interpreter → Interpreter
with_flags flags interpreter = record interpreter { flags = flags }
