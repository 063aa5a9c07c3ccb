-- What a file leaves the pass that it is parsed with: the words of the store's table that the run over its tokens passes.
use Rattle.std.specs.Prelude.{◌≡◌, ℕ, List, All, Ok}
use Rattle.g4_classes.specs.Classes.{IsSymbol}
use Rattle.g4_decide.specs.Asked.{Told}
use Rattle.g4_learned.specs.Tables.{Tables}
use Rattle.g4_lexer.specs.Lexing.{IsLexing}
use Rattle.g4_load.specs.declared.interpreter.Interpreter.{Interpreter}
use Rattle.g4_net.specs.Configurations.{Config}
use Rattle.g4_parse.specs.Teaching.{HasKept, IsPassed, IsTaught}
use Rattle.g4_store.specs.declared.automaton.Fact.{Fact}
use Rattle.g4_store.specs.declared.automaton.Plan.{Plan}
use Rattle.g4_tokens.specs.declared.token.Tokens.{Tokens}
use Rattle.g4_run.specs.Running.{RunOver}
use Rattle.g4_outcome.specs.Predicates.{run_over}
use Rattle.g4_outcome.specs.declared.input.Input.{Input}
use Rattle.g4_outcome.specs.declared.input.Input.TheVariants.{Bytes}

-- The run is that over the file's tokens. A file that is too large or has a fault of its characters has none.
pub record IsRunOf (interpreter : Interpreter) (input : Input) (over : RunOver) : Type 0 where
  pub bytes : List ℕ
  pub tokens : Tokens
  pub given : input ≡ Bytes bytes
  pub lexed : IsLexing interpreter.lexer bytes (Ok tokens)
  pub is : over ≡ run_over interpreter tokens

-- The run over the file's tokens passes the word of the table.
pub record IsPassedIn (t : Tables) (interpreter : Interpreter) (input : Input) (f : Fact (List Config)) : Type 0 where
  pub over : RunOver
  pub of : IsRunOf interpreter input over
  pub passed : IsPassed t over.values over.word f

-- Nothing is lost, what the run over the file's tokens passes is seen then as far as there is room, and these are symbols.
pub record HasTaught (p : Plan Tables) (interpreter : Interpreter) (input : Input) (old new : Told) : Type 0 where
  pub kept : HasKept old new
  pub taught : IsTaught p (IsPassedIn p.net interpreter input) old new
  pub symbols : (over : RunOver) → IsRunOf interpreter input over → All IsSymbol over.word
