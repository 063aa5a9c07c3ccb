-- Rules, and the sections of modes.
use Rattle.std.specs.Prelude.{ℕ, List, [], ◌∷◌, map, Option, Some, None}
use Rattle.g4_grammar_tokens.specs.declared.token.Kind.TheVariants as kinds
use Rattle.g4_source.specs.declared.rule.Argument.{Argument}
use Rattle.g4_source.specs.declared.rule.Argument.TheVariants as arguments
use Rattle.g4_source.specs.declared.rule.Command.{Command}
use Rattle.g4_source.specs.declared.rule.LexerAlternative.{LexerAlternative}
use Rattle.g4_source.specs.declared.rule.LexerRule.{LexerRule}
use Rattle.g4_source.specs.declared.rule.ParserRule.{ParserRule}
use Rattle.g4_source.specs.declared.rule.Rule.{Rule}
use Rattle.g4_source.specs.declared.rule.Rule.TheVariants as rules
use Rattle.g4_source.specs.declared.rule.RuleAlternative.{RuleAlternative}
use Rattle.g4_source.specs.Trees.{in_order}
use Rattle.g4_source.specs.declared.atom.Atom.{Atom}
use Rattle.g4_syntax.specs.Notation.{◌▸◌, ◌∣◌, optional, repeated, sign, name, with_commas, with_bars}
use Rattle.g4_syntax.specs.Productions.{rule_alternative, parser_rule, command, lexer_alternative, lexer_rule, mode}
use Rattle.g4_syntax.specs.Trees.{Tree, both, left, right, absent, present, end, more}
use Rattle.g4_cursor.specs.Texts.{is_present, text_of, name_of}
use Rattle.g4_productions.specs.declared.lexer_rule.ModeSection.{ModeSection}
use Rattle.g4_productions.specs.LexerElements.{lexer_elements}
use Rattle.g4_productions.specs.ParserElements.{alternative_elements, alternative_right}

-- the label of an alternative
abbrev pub alternative_label : Tree (optional (sign kinds.Hash ▸ name)) → Option (List ℕ)
alternative_label absent = None
alternative_label (present (both hash n)) = Some (text_of n)

-- an alternative of a parser rule
abbrev pub rule_alternative_of : Tree rule_alternative → RuleAlternative Atom
rule_alternative_of (both x l) = record { right = alternative_right x; elements = alternative_elements x; label = alternative_label l }

-- the alternatives of a parser rule after bars
abbrev pub rule_alternatives_after : Tree (repeated (sign kinds.Bar ▸ rule_alternative)) → List (RuleAlternative Atom)
rule_alternatives_after end = []
rule_alternatives_after (more (both bar x) xs) = rule_alternative_of x ∷ rule_alternatives_after xs

-- the alternatives of a parser rule
abbrev pub rule_alternatives_of : Tree (with_bars rule_alternative) → List (RuleAlternative Atom)
rule_alternatives_of (both x xs) = rule_alternative_of x ∷ rule_alternatives_after xs

-- a parser rule
abbrev pub parser_rule_of : Tree parser_rule → ParserRule Atom
parser_rule_of (both modifier (both n (both prequels (both colon (both xs (both semicolon handlers)))))) =
    record { name = text_of n; alternatives = rule_alternatives_of xs }

-- the name or the number that the argument of a command is
abbrev pub argument_text_of : Tree (name ∣ sign kinds.Number) → Argument
argument_text_of (left n) = arguments.Name (text_of n)
argument_text_of (right n) = arguments.Number (text_of n)

-- the argument of a command
abbrev pub argument_of : Tree (optional (sign kinds.LeftParenthesis ▸ (name ∣ sign kinds.Number) ▸ sign kinds.RightParenthesis))
    → Option Argument
argument_of absent = None
argument_of (present (both opening (both a closing))) = Some (argument_text_of a)

-- a command
abbrev pub command_of : Tree command → Command
command_of (both n a) = record { name = name_of n; argument = argument_of a }

-- the commands after commas
abbrev pub commands_after : Tree (repeated (sign kinds.Comma ▸ command)) → List Command
commands_after end = []
commands_after (more (both comma c) cs) = command_of c ∷ commands_after cs

-- the commands after `->`
abbrev pub commands_in_order : Tree (with_commas command) → List Command
commands_in_order (both c cs) = command_of c ∷ commands_after cs

-- the commands of an alternative
abbrev pub commands_of : Tree (optional (sign kinds.Arrow ▸ with_commas command)) → List Command
commands_of absent = []
commands_of (present (both arrow cs)) = commands_in_order cs

-- an alternative of a lexer rule
abbrev pub lexer_alternative_of : Tree lexer_alternative → LexerAlternative
lexer_alternative_of (both x cs) = record { elements = in_order (lexer_elements x); commands = commands_of cs }

-- the alternatives of a lexer rule after bars
abbrev pub rule_lexer_alternatives_after : Tree (repeated (sign kinds.Bar ▸ lexer_alternative)) → List LexerAlternative
rule_lexer_alternatives_after end = []
rule_lexer_alternatives_after (more (both bar x) xs) = lexer_alternative_of x ∷ rule_lexer_alternatives_after xs

-- the alternatives of a lexer rule
abbrev pub rule_lexer_alternatives : Tree (with_bars lexer_alternative) → List LexerAlternative
rule_lexer_alternatives (both x xs) = lexer_alternative_of x ∷ rule_lexer_alternatives_after xs

-- a lexer rule
abbrev pub lexer_rule_of : Tree lexer_rule → LexerRule
lexer_rule_of (both fragment (both n (both options (both colon (both xs semicolon))))) =
    record { mode = None; fragment = is_present fragment; name = text_of n; alternatives = rule_lexer_alternatives xs }

-- lexer rules in order
abbrev pub lexer_rules : Tree (repeated lexer_rule) → List LexerRule
lexer_rules end = []
lexer_rules (more r rs) = lexer_rule_of r ∷ lexer_rules rs

-- the rules of a combined grammar
abbrev pub combined_rules : Tree (repeated (lexer_rule ∣ parser_rule)) → List Rule
combined_rules end = []
combined_rules (more (left r) rs) = rules.Lexer (lexer_rule_of r) ∷ combined_rules rs
combined_rules (more (right r) rs) = rules.Parser (parser_rule_of r) ∷ combined_rules rs

-- the rules of a lexer grammar before the first `mode`
abbrev pub default_rules : Tree (repeated lexer_rule) → List Rule
default_rules end = []
default_rules (more r rs) = rules.Lexer (lexer_rule_of r) ∷ default_rules rs

-- the rules of a parser grammar
abbrev pub parser_rules : Tree (repeated parser_rule) → List Rule
parser_rules end = []
parser_rules (more r rs) = rules.Parser (parser_rule_of r) ∷ parser_rules rs

-- `mode`, a name, and the rules after it
abbrev pub section_of : Tree mode → ModeSection
section_of (both keyword (both n (both semicolon rs))) = record { name = text_of n; rules = lexer_rules rs }

-- the sections in order
abbrev pub sections_of : Tree (repeated mode) → List ModeSection
sections_of end = []
sections_of (more m ms) = section_of m ∷ sections_of ms

-- a lexer rule in the mode of this name
abbrev pub in_mode : List ℕ → LexerRule → Rule
in_mode mode rule =
    rules.Lexer (record { mode = Some mode; fragment = rule.fragment; name = rule.name; alternatives = rule.alternatives })

-- the rules of a section, each with its mode
abbrev pub section_rules : ModeSection → List Rule
section_rules section = map (in_mode section.name) section.rules
