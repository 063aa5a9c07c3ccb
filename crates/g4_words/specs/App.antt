-- The command line of `g4`, in the terms of `clap`.
use Rattle.std.specs.Prelude.{ℕ, Some, true, codes}
use Rattle.clap.specs.Words.{App, Rule, Text, new_app, new_rule, with_rule, with_subcommand}
use Rattle.clap.specs.declared.builder.ArgAction.TheVariants.{Append, Set, SetTrue}

-- an option with one value, under a name of one letter
abbrev pub option_rule : Text → ℕ → Rule
option_rule id letter = record (new_rule id) { short = Some letter; action = Some Set }

-- a flag, under its own name
abbrev pub flag_rule : Text → Rule
flag_rule name = record (new_rule name) { long = Some name; action = Some SetTrue }

-- one word in its place
abbrev pub word_rule : Text → Rule
word_rule id = record (new_rule id) { action = Some Set }

-- all words that are left
abbrev pub words_rule : Text → Rule
words_rule id = record (new_rule id) { action = Some Append }

-- an argument that is needed
abbrev pub needed_rule : Rule → Rule
needed_rule rule = record rule { required = true }

-- the letters of the options
abbrev pub letter_g : ℕ
letter_g = 103

abbrev pub letter_s : ℕ
letter_s = 115

abbrev pub letter_j : ℕ
letter_j = 106

abbrev pub letter_r : ℕ
letter_r = 114

abbrev pub letter_l : ℕ
letter_l = 108

abbrev pub letter_f : ℕ
letter_f = 102

-- `parse` with the two options that are needed, and with the two that give a number
abbrev pub named_app : App
named_app = with_rule (with_rule (new_app (codes "parse")) (needed_rule (option_rule (codes "grammar") letter_g)))
    (needed_rule (option_rule (codes "start") letter_s))

abbrev pub numbered_app : App
numbered_app = with_rule (with_rule named_app (option_rule (codes "jobs") letter_j)) (option_rule (codes "rows") letter_r)

-- with an option that gives the library of imported grammars
abbrev pub with_library : App → App
with_library app = with_rule app (option_rule (codes "library") letter_l)

-- with an option that gives flags
abbrev pub with_flags : App → App
with_flags app = with_rule app (option_rule (codes "flags") letter_f)

-- `parse -g GRAMMAR -s RULE [-j JOBS] [-r ROWS] [-l LIB] [-f FLAGS] [--events] [--tokens] [--learned] FILE..`
abbrev pub parse_app : App
parse_app = with_rule (with_rule (with_rule (with_rule (with_flags (with_library numbered_app)) (flag_rule (codes "events")))
    (flag_rule (codes "tokens"))) (flag_rule (codes "learned"))) (needed_rule (words_rule (codes "files")))

-- `check [-l LIB] GRAMMAR`
abbrev pub check_app : App
check_app = with_rule (with_library (new_app (codes "check"))) (needed_rule (word_rule (codes "grammar")))

-- `atn [-l LIB] GRAMMAR RULE`
abbrev pub atn_app : App
atn_app = with_rule (with_rule (with_library (new_app (codes "atn"))) (needed_rule (word_rule (codes "grammar"))))
    (needed_rule (word_rule (codes "rule")))

-- one of the commands is needed, and the program's own name is not among the words
abbrev pub base_app : App
base_app = record (new_app (codes "g4")) { top = record (new_app (codes "g4")).top { no_binary_name = true; subcommand_required = true } }

-- the command line: one of these commands
abbrev pub g4_app : App
g4_app = with_subcommand (with_subcommand (with_subcommand base_app parse_app.top) check_app.top) atn_app.top
