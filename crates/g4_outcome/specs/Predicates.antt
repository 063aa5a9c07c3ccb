-- The values of a grammar's predicates over a file.
use Rattle.std.specs.Prelude.{ℕ, ◌-◌, List, [], Bool, false, Option, Some, None, cond, codes, drop, get_or, map, slice_get}
use Rattle.g4_load.specs.declared.interpreter.Interpreter.{Interpreter}
use Rattle.g4_preds.specs.Trees.{Tree}
use Rattle.g4_preds.specs.Values.{Moment, value}
use Rattle.g4_run.specs.Running.{RunOver, Values}
use Rattle.g4_tokens.specs.declared.token.Token.{Token}
use Rattle.g4_tokens.specs.declared.token.Tokens.{Tokens}
use Rattle.g4_tokens.specs.TokenList.{bytes_of, word_of}
use Rattle.g4_trees.specs.TreeText.{is_at_end}

-- the text of a token: its bytes, and `<EOF>` of those that close the file
abbrev pub text_in : List ℕ → Token → List ℕ
text_in bytes token = cond (is_at_end bytes token) (codes "<EOF>") (bytes_of bytes token)

-- the name of a rule by its number; rules count from 1
abbrev pub rule_name : List (List ℕ) → ℕ → List ℕ
rule_name names rule = get_or names (rule - 1) []

-- what predicates look at, with these flags and with these rules open, at a place of the token list
abbrev pub moment_at : List (List ℕ) → List (List ℕ) → Tokens → List ℕ → ℕ → Moment
moment_at flags names tokens rules place = record {
  flags = flags;
  open_rules = map (rule_name names) rules;
  texts = map (text_in tokens.bytes) (drop place tokens.list);
}

-- the value of a predicate that was looked up; one that is not there is false
abbrev pub value_by : Option Tree → Moment → Bool
value_by None m = false
value_by (Some tree) m = value m tree

-- the values of predicates over tokens
abbrev pub values_over : List (List ℕ) → List (List ℕ) → List Tree → Tokens → Values
values_over flags names predicates tokens predicate rules place =
    value_by (slice_get predicates predicate) (moment_at flags names tokens rules place)

-- those of the grammar's
abbrev pub values_of : Interpreter → Tokens → Values
values_of interpreter tokens = values_over interpreter.flags interpreter.names interpreter.predicates tokens

-- what the run over the tokens goes over
abbrev pub run_over : Interpreter → Tokens → RunOver
run_over interpreter tokens = record { word = word_of tokens.list; values = values_of interpreter tokens }
