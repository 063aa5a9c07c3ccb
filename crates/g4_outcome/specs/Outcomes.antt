-- What becomes of a file: a function of the interpreter and the file's bytes alone.
use Rattle.std.specs.Prelude.{◌≡◌, ◌≢◌, ℕ, List, [], ◌∷◌, ◌++◌, Bool, true, false, Ok, Err}
use Rattle.g4_tokens.specs.declared.token.Tokens.{Tokens}
use Rattle.g4_tokens.specs.TokenList.{word_of}
use Rattle.g4_lexer.specs.Lexing.{IsLexing}
use Rattle.g4_lexer.specs.declared.fault.LexFault.{LexFault}
use Rattle.g4_lexer.specs.declared.fault.LexFault.TheVariants as lexing
use Rattle.g4_trees.specs.declared.tree.Item.{Item}
use Rattle.g4_trees.specs.Events.{tree_events}
use Rattle.g4_trees.specs.Trees.{Tree, items_of}
use Rattle.g4_trees.specs.TreeText.{tree_text}
use Rattle.g4_parse.specs.declared.parser.ParseFault.{ParseFault}
use Rattle.g4_parse.specs.declared.parser.ParseFault.TheVariants as parsing
use Rattle.g4_parse.specs.Parsing.{IsParse}
use Rattle.g4_outcome.specs.Texts.{line_of_events, line_of_tokens, line_of_tree, mismatch_line, no_viable_line, failed_predicate_line, too_deep_line, no_token_line, empty_mode_stack_line, many_tokens_line, not_utf8_line, large_line}
use Rattle.g4_outcome.specs.Predicates.{values_of}
use Rattle.g4_outcome.specs.declared.input.Input.{Input}
use Rattle.g4_outcome.specs.declared.input.Input.TheVariants as inputs
use Rattle.g4_load.specs.declared.interpreter.Interpreter.{Interpreter}
use Rattle.g4_outcome.specs.declared.outcome.Outcome.{Outcome}
use Rattle.g4_outcome.specs.declared.outcome.Outcome.TheVariants as outcomes
use Rattle.g4_words.specs.declared.command.Output.{Output}
use Rattle.g4_words.specs.declared.command.Output.TheVariants as outputs
use Rattle.g4_outcome.specs.declared.line.Line.{Line}

-- The outcome of an input: its size past the limit, the fault of its lexing, or the tree or the fault of the run over its tokens.
pub data IsOutcome (interpreter : Interpreter) (input : Input) : Outcome → Type 0 where
  too_large : (size : ℕ) → input ≡ inputs.TooLarge size → IsOutcome interpreter input (outcomes.TooLarge size)
  not_lexed : (bytes : List ℕ) (fault : LexFault) → input ≡ inputs.Bytes bytes → IsLexing interpreter.lexer bytes (Err fault)
      → fault ≢ lexing.NoMemory → IsOutcome interpreter input (outcomes.Lex fault)
  not_parsed : (bytes : List ℕ) (tokens : Tokens) (fault : ParseFault) → input ≡ inputs.Bytes bytes
      → IsLexing interpreter.lexer bytes (Ok tokens) → IsParse interpreter.net (values_of interpreter tokens) (word_of tokens.list)
      (Err fault)
      → fault ≢ parsing.NoMemory → IsOutcome interpreter input (outcomes.Parse tokens fault)
  parsed : (bytes : List ℕ) (tokens : Tokens) (tree : List Item) → input ≡ inputs.Bytes bytes
      → IsLexing interpreter.lexer bytes (Ok tokens) → IsParse interpreter.net (values_of interpreter tokens) (word_of tokens.list)
      (Ok tree)
      → IsOutcome interpreter input (outcomes.Tree tokens tree)

-- an outcome for each input, in order
abbrev pub AreOutcomes : Interpreter → List Input → List Outcome → Type 0
AreOutcomes interpreter [] [] = Unit {0}
AreOutcomes interpreter [] (outcome ∷ os) = ⊥
AreOutcomes interpreter (input ∷ is) [] = ⊥
AreOutcomes interpreter (input ∷ is) (outcome ∷ os) = IsOutcome interpreter input outcome × AreOutcomes interpreter is os

-- memory was refused when the tokens were made, or when they were parsed
abbrev pub lexing_refused : LexFault → Bool
lexing_refused (lexing.NotUtf8 at) = false
lexing_refused (lexing.NoToken place character) = false
lexing_refused (lexing.EmptyModeStack place) = false
lexing_refused (lexing.Tokens place) = false
lexing_refused lexing.NoMemory = true

abbrev pub parsing_refused : ParseFault → Bool
parsing_refused (parsing.Mismatch at state) = false
parsing_refused (parsing.NoViable at) = false
parsing_refused (parsing.FailedPredicate at rule) = false
parsing_refused (parsing.TooDeep at) = false
parsing_refused parsing.NoMemory = true

-- a file is accepted where it has a tree
abbrev pub is_accepted : Outcome → Bool
is_accepted (outcomes.Tree tokens tree) = true
is_accepted (outcomes.Lex fault) = false
is_accepted (outcomes.Parse tokens fault) = false
is_accepted (outcomes.TooLarge size) = false

-- the lines of a lexer's fault
abbrev pub lex_lines : List ℕ → LexFault → List Line
lex_lines name (lexing.NotUtf8 at) = not_utf8_line name at ∷ []
lex_lines name (lexing.NoToken place character) = no_token_line name place character ∷ []
lex_lines name (lexing.EmptyModeStack place) = empty_mode_stack_line name place ∷ []
lex_lines name (lexing.Tokens place) = many_tokens_line name place ∷ []
lex_lines name lexing.NoMemory = []

-- the lines of a parser's fault
abbrev pub parse_lines : Interpreter → List ℕ → Tokens → ParseFault → List Line
parse_lines interpreter name tokens (parsing.Mismatch at state) = mismatch_line interpreter.shown interpreter.net name tokens at state ∷ []
parse_lines interpreter name tokens (parsing.NoViable at) = no_viable_line name tokens at ∷ []
parse_lines interpreter name tokens (parsing.FailedPredicate at rule) = failed_predicate_line interpreter.names name tokens at rule ∷ []
parse_lines interpreter name tokens (parsing.TooDeep at) = too_deep_line name tokens at ∷ []
parse_lines interpreter name tokens parsing.NoMemory = []

-- what is written of a file with these tokens and the tree that has these items: the tree's text in a line, the lines of its
-- events, or those of the tokens
abbrev pub accepted_line : Output → Interpreter → List ℕ → Tokens → List Item → Line
accepted_line outputs.Trees interpreter name tokens tree = line_of_tree name (tree_text interpreter.rules tokens tree)
accepted_line outputs.Events interpreter name tokens tree = line_of_events interpreter.rules tokens name (tree_events tree)
accepted_line outputs.Tokens interpreter name tokens tree = line_of_tokens interpreter.shown name tokens

-- the items are those of a tree
abbrev pub HasTree : List Item → Type 0
HasTree tree = (t : Tree) × (tree ≡ items_of t)

-- where the file is accepted, its items are those of a tree
abbrev pub IsNested : Outcome → Type 0
IsNested (outcomes.Tree tokens tree) = HasTree tree
IsNested (outcomes.Lex fault) = Unit {0}
IsNested (outcomes.Parse tokens fault) = Unit {0}
IsNested (outcomes.TooLarge size) = Unit {0}

-- the lines of the outcome of a file of this name
abbrev pub outcome_lines : Output → Interpreter → List ℕ → Outcome → List Line
outcome_lines output interpreter name (outcomes.Tree tokens tree) = accepted_line output interpreter name tokens tree ∷ []
outcome_lines output interpreter name (outcomes.Lex fault) = lex_lines name fault
outcome_lines output interpreter name (outcomes.Parse tokens fault) = parse_lines interpreter name tokens fault
outcome_lines output interpreter name (outcomes.TooLarge size) = large_line name size ∷ []

-- the lines of all files, in order
abbrev pub lines_of_files : Output → Interpreter → List (List ℕ) → List Outcome → List Line
lines_of_files output interpreter [] os = []
lines_of_files output interpreter (name ∷ names) [] = []
lines_of_files output interpreter (name ∷ names) (outcome ∷ os) =
    outcome_lines output interpreter name outcome ++ lines_of_files output interpreter names os
