-- The lines of a report that are not of a file that is parsed, as bytes.
use Rattle.std.specs.Prelude.{ℕ, List, [], ◌∷◌, ◌++◌, codes}
use Rattle.std.specs.List.{flat_map}
use Rattle.std.specs.Fmt.{decimal}
use Rattle.g4_base.specs.declared.place.Place.{Place}
use Rattle.g4_base.specs.Shown.{shown}
use Rattle.g4_outcome.specs.Texts.{at_place}
use Rattle.g4_outcome.specs.declared.line.Line.{Line}
use Rattle.g4_outcome.specs.declared.line.Line.TheVariants.{ToOut, ToErr}

-- the line of a name that no file has
abbrev pub absent_line : List ℕ → Line
absent_line name = ToErr (name ++ codes ": not found\n")

-- the line of words that are no command
abbrev pub usage_line : Line
usage_line = ToErr (codes "usage: g4 parse, check, atn, match or drill\n")

-- the line of a token with which no grammar text continues
abbrev pub syntax_line : List ℕ → Place → List ℕ → Line
syntax_line name place characters = ToErr (((at_place name place ++ codes "syntax error at '") ++ shown characters) ++ codes "'\n")

-- the line of a set that is empty, has a range that runs backward or names an unknown property
abbrev pub bad_set_line : List ℕ → Place → Line
bad_set_line name place = ToErr (at_place name place ++ codes "bad character set\n")

-- the line of a rule whose name an earlier rule has
abbrev pub twice_line : List ℕ → List ℕ → Line
twice_line name rule = ToErr (name ++ (codes ": rule " ++ (rule ++ codes " stands twice\n")))

-- the line of a grammar of a kind that cannot be imported there, by the name by which it is imported
abbrev pub bad_import_line : List ℕ → List ℕ → Line
bad_import_line name imported = ToErr (name ++ (codes ": cannot import " ++ (imported ++ codes "\n")))

-- the line of a file of tokens with a line that is no token line
abbrev pub bad_tokens_line : List ℕ → ℕ → Line
bad_tokens_line name line = ToErr (name ++ (codes ": line " ++ (decimal line ++ codes " is no token line\n")))

-- the line of a parser grammar that names no lexer grammar
abbrev pub no_lexer_line : List ℕ → List ℕ → Line
no_lexer_line name grammar = ToErr (name ++ (codes ": no lexer grammar for " ++ (grammar ++ codes "\n")))

-- the line of a literal that names no token of the lexer grammar, as it is written
abbrev pub no_token_type_line : List ℕ → List ℕ → Line
no_token_type_line name literal = ToErr (name ++ (codes ": no token for " ++ (literal ++ codes "\n")))

-- the line of a rule, a mode or a channel that is named and that the grammar has not
abbrev pub undefined_line : List ℕ → List ℕ → List ℕ → Line
undefined_line name kind item = ToErr (name ++ (codes ": " ++ (kind ++ (item ++ codes " is not defined\n"))))

-- the line of a command that is none
abbrev pub unknown_command_line : List ℕ → List ℕ → Line
unknown_command_line name command = ToErr (name ++ (codes ": command " ++ (command ++ codes " is not known\n")))

-- the line of a predicate in a lexer rule
abbrev pub lexer_predicate_line : List ℕ → Place → Line
lexer_predicate_line name place = ToErr (at_place name place ++ codes "predicate in a lexer rule\n")

-- the line of a predicate whose text is none
abbrev pub unknown_predicate_line : List ℕ → Place → Line
unknown_predicate_line name place = ToErr (at_place name place ++ codes "predicate is not known\n")

-- the line of a label that clashes, or of a rule that is partly labelled
abbrev pub label_clash_line : List ℕ → List ℕ → Line
label_clash_line name label = ToErr (name ++ (codes ": label " ++ (label ++ codes " clashes\n")))

-- the line of a rule each of whose alternatives begins with the rule itself
abbrev pub no_primary_line : List ℕ → List ℕ → Line
no_primary_line name rule = ToErr (name ++ (codes ": rule " ++ (rule ++ codes " has no alternative without left recursion\n")))

-- the line of a rule and the number of its alternative that begins with the rule itself and goes on with the empty word
abbrev pub empty_operator_line : List ℕ → List ℕ → ℕ → Line
empty_operator_line name rule i = ToErr (name
    ++ (codes ": rule " ++ (rule ++ (codes " alternative " ++ (decimal i ++ codes " is an empty operator\n")))))

-- names, with `, ` between them
abbrev pub more_names : List (List ℕ) → List ℕ
more_names names = flat_map (λ name. codes ", " ++ name) names

abbrev pub names_in_order : List (List ℕ) → List ℕ
names_in_order [] = []
names_in_order (name ∷ names) = name ++ more_names names

-- the line of rules of which each calls the next before anything is read, and the last the first
abbrev pub left_cycle_line : List ℕ → List (List ℕ) → Line
left_cycle_line name rules = ToErr (((name ++ codes ": left recursion through ") ++ names_in_order rules) ++ codes "\n")

-- the line of a rule with a loop that can be empty
abbrev pub empty_loop_line : List ℕ → List ℕ → Line
empty_loop_line name rule = ToErr (name ++ (codes ": rule " ++ (rule ++ codes " has a loop that can be empty\n")))

-- the line of an undefined start rule
abbrev pub no_rule_line : List ℕ → List ℕ → Line
no_rule_line name start = ToErr (name ++ (codes ": no parser rule " ++ (start ++ codes "\n")))

-- the line of a limit that the grammar passes
abbrev pub limit_line : List ℕ → List ℕ → Line
limit_line name kind = ToErr (name ++ (codes ": limit " ++ (kind ++ codes "\n")))

-- the line of a grammar that is checked: how many parser rules it has, and its greatest token type
abbrev pub checked_line : ℕ → ℕ → Line
checked_line rules types = ToOut (codes "rules " ++ (decimal rules ++ (codes " tokens " ++ (decimal types ++ codes "\n"))))

-- the closing line: how many files there were, and how many were accepted
abbrev pub closing_line : ℕ → ℕ → Line
closing_line files accepted = ToOut (codes "files " ++ (decimal files ++ (codes " accepted " ++ (decimal accepted ++ codes "\n"))))
