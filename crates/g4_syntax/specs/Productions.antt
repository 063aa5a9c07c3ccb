-- The grammar of grammar texts. Where a name can be a label, it is read once, and what follows it
-- decides which it is.
use Rattle.std.specs.Prelude.{codes}
use Rattle.g4_grammar_tokens.specs.declared.token.Kind.TheVariants as kinds
use Rattle.g4_syntax.specs.Notation.{a_set, characters, excluded, Nonterminal, element, token_set, lexer_element, character_set, more_names, Expression, one, ◌▸◌, ◌∣◌, optional, repeated, part, sign, word, name, with_commas, with_bars}

-- the value of an option: names with dots between, a literal, a number, an action or `*`: `org.example`, `'x'`, `2`
abbrev pub value : Expression
value = name ▸ repeated (sign kinds.Dot ▸ name) ∣ sign kinds.Literal ∣ sign kinds.Number ∣ sign kinds.Action ∣ sign kinds.Star

-- an option, its value and `;`: `language = Java ;`
abbrev pub setting : Expression
setting = name ▸ sign kinds.Equals ▸ value ▸ sign kinds.Semicolon

-- `options` and settings in braces: `options { language = Java ; }`
abbrev pub options : Expression
options = word (codes "options") ▸ sign kinds.LeftBrace ▸ repeated setting ▸ sign kinds.RightBrace

-- an option of an element, perhaps with its value: `assoc = right`
abbrev pub element_option : Expression
element_option = name ▸ optional (sign kinds.Equals ▸ value)

-- options of an element between `<` and `>`: `<assoc = right>`
abbrev pub element_options : Expression
element_options = sign kinds.Less ▸ with_commas element_option ▸ sign kinds.Greater

-- an imported grammar, perhaps under another name: `B`, `C = B`
abbrev pub imported : Expression
imported = name ▸ optional (sign kinds.Equals ▸ name)

-- `import`, grammars and `;`: `import A, C = B ;`
abbrev pub import : Expression
import = word (codes "import") ▸ with_commas imported ▸ sign kinds.Semicolon

-- names in braces, with commas between them and perhaps one at the end: `{ A, B, }`
abbrev pub names : Expression
names = sign kinds.LeftBrace ▸ optional (name ▸ optional (part more_names)) ▸ sign kinds.RightBrace

-- `tokens` and names
abbrev pub tokens : Expression
tokens = word (codes "tokens") ▸ names

-- `channels` and names
abbrev pub channels : Expression
channels = word (codes "channels") ▸ names

-- `@`, a name, perhaps `::` and another, and an action: `@parser::members {..}`
abbrev pub named_action : Expression
named_action = sign kinds.At ▸ name ▸ optional (sign kinds.DoubleColon ▸ name) ▸ sign kinds.Action

-- a prequel: what can come before the rules
abbrev pub prequel : Expression
prequel = options ∣ import ∣ tokens ∣ channels ∣ named_action

-- `@`, a name and an action, in a rule or a block: `@init {..}`
abbrev pub rule_action : Expression
rule_action = sign kinds.At ▸ name ▸ sign kinds.Action

-- an action, or a predicate: an action followed by `?` and perhaps options: `{..}`, `{..}?`
abbrev pub action : Expression
action = sign kinds.Action ▸ optional (sign kinds.Question ▸ optional element_options)

-- the sign of a label: `=`, or `+=` for a list
abbrev pub assign : Expression
assign = sign kinds.Equals ∣ sign kinds.PlusEquals

-- how often an element may be taken, and whether greedily: `*`, `+?`
abbrev pub suffix : Expression
suffix = (sign kinds.Question ∣ sign kinds.Star ∣ sign kinds.Plus) ▸ optional (sign kinds.Question)

-- what may follow the name of a rule that is referred to: `[1, x]`, `<assoc = right>`
abbrev pub reference_end : Expression
reference_end = optional (sign kinds.Arguments) ▸ optional element_options

-- an alternative: perhaps options, and elements, if any: `<assoc = right> e '^' e`
abbrev pub alternative : Expression
alternative = optional element_options ▸ repeated (part element)

-- what may come before the alternatives of a block: `options {..} @init {..} :`
abbrev pub block_prequel : Expression
block_prequel = optional options ▸ repeated rule_action ▸ sign kinds.Colon

-- alternatives in brackets: `('a' | B)`
abbrev pub block : Expression
block = sign kinds.LeftParenthesis ▸ optional block_prequel ▸ with_bars alternative ▸ sign kinds.RightParenthesis

-- an item of a parser rule that begins with no name: `'a'`, `.`, `~A`, `('a' | B)`
abbrev pub unnamed_item : Expression
unnamed_item = sign kinds.Literal ▸ optional element_options ∣ sign kinds.Dot ▸ optional element_options ∣ sign kinds.Tilde ▸ part
    token_set ∣ block

-- an item of a parser rule: a reference to a rule, a token, or one that begins with no name
abbrev pub item : Expression
item = sign kinds.Lower ▸ reference_end ∣ sign kinds.Upper ▸ optional element_options ∣ unnamed_item

-- an item of a parser rule, perhaps with a label: `e`, `x = e`, `ids += ID`
abbrev pub labelled_item : Expression
labelled_item = sign kinds.Lower ▸ (assign ▸ item ∣ reference_end) ∣ sign kinds.Upper ▸ (assign ▸ item ∣ optional element_options) ∣
    unnamed_item

-- an alternative of a parser rule, perhaps with a label: `e '+' e # Sum`
abbrev pub rule_alternative : Expression
rule_alternative = alternative ▸ optional (sign kinds.Hash ▸ name)

-- what may come before a parser rule's name
abbrev pub modifier : Expression
modifier = word (codes "public") ∣ word (codes "private") ∣ word (codes "protected")

-- what may come between a parser rule's name and its `:`
abbrev pub rule_prequels : Expression
rule_prequels =
    optional (sign kinds.Arguments)
    ▸ optional (word (codes "returns") ▸ sign kinds.Arguments)
    ▸ optional (word (codes "throws") ▸ with_commas name)
    ▸ optional (word (codes "locals") ▸ sign kinds.Arguments)
    ▸ repeated (options ∣ rule_action)

-- what may follow a parser rule
abbrev pub handlers : Expression
handlers = repeated (word (codes "catch") ▸ sign kinds.Arguments ▸ sign kinds.Action) ▸ optional
    (word (codes "finally") ▸ sign kinds.Action)

-- a parser rule
abbrev pub parser_rule : Expression
parser_rule = optional modifier ▸ sign kinds.Lower ▸ rule_prequels ▸ sign kinds.Colon ▸ with_bars rule_alternative ▸ sign
    kinds.Semicolon ▸ handlers

-- alternatives of a lexer rule in brackets: `('a'..'z' | [0-9])`
abbrev pub lexer_block : Expression
lexer_block = sign kinds.LeftParenthesis ▸ with_bars (repeated (part lexer_element)) ▸ sign kinds.RightParenthesis

-- an item of a lexer rule that begins with no name: `'if'`, `'a'..'z'`, `[0-9]`, `.`, `~'\n'`
abbrev pub unnamed_lexer_item : Expression
unnamed_lexer_item =
    one characters ▸ (sign kinds.DoubleDot ▸ sign kinds.Literal ∣ optional element_options)
    ∣ one a_set
    ∣ sign kinds.Dot
    ∣ sign kinds.Tilde ▸ part character_set
    ∣ lexer_block

-- an item of a lexer rule
abbrev pub lexer_item : Expression
lexer_item = sign kinds.Upper ▸ optional element_options ∣ unnamed_lexer_item

-- an item of a lexer rule, perhaps with a label
abbrev pub labelled_lexer_item : Expression
labelled_lexer_item = sign kinds.Lower ▸ assign ▸ lexer_item ∣ sign kinds.Upper ▸ (assign ▸ lexer_item ∣ optional element_options) ∣
    unnamed_lexer_item

-- a command of a lexer rule, perhaps with an argument: `skip`, `channel(HIDDEN)`
abbrev pub command : Expression
command = name ▸ optional (sign kinds.LeftParenthesis ▸ (name ∣ sign kinds.Number) ▸ sign kinds.RightParenthesis)

-- an alternative of a lexer rule, perhaps with commands: `[ \n]+ -> skip`
abbrev pub lexer_alternative : Expression
lexer_alternative = repeated (part lexer_element) ▸ optional (sign kinds.Arrow ▸ with_commas command)

-- a lexer rule
abbrev pub lexer_rule : Expression
lexer_rule = optional (word (codes "fragment")) ▸ sign kinds.Upper ▸ optional options ▸ sign kinds.Colon ▸ with_bars lexer_alternative
    ▸ sign kinds.Semicolon

-- a mode and its rules: `mode Text ; ..`
abbrev pub mode : Expression
mode = word (codes "mode") ▸ name ▸ sign kinds.Semicolon ▸ repeated lexer_rule

-- what follows the words that say of which kind a grammar text is
abbrev pub heading : Expression
heading = name ▸ sign kinds.Semicolon ▸ repeated prequel

-- a combined grammar
abbrev pub combined_grammar : Expression
combined_grammar = word (codes "grammar") ▸ heading ▸ repeated (lexer_rule ∣ parser_rule)

-- a lexer grammar
abbrev pub lexer_grammar : Expression
lexer_grammar = word (codes "lexer") ▸ word (codes "grammar") ▸ heading ▸ repeated lexer_rule ▸ repeated mode

-- a parser grammar
abbrev pub parser_grammar : Expression
parser_grammar = word (codes "parser") ▸ word (codes "grammar") ▸ heading ▸ repeated parser_rule

-- a grammar text
abbrev pub grammar : Expression
grammar = combined_grammar ∣ lexer_grammar ∣ parser_grammar

-- what the parts that can be nested in themselves are
abbrev pub production : Nonterminal → Expression
production element = action ∣ labelled_item ▸ optional suffix
production token_set = sign kinds.Upper ▸ optional element_options ∣ sign kinds.Literal ∣ sign kinds.LeftParenthesis ▸ with_bars
    (part token_set) ▸ sign kinds.RightParenthesis
production lexer_element = action ∣ labelled_lexer_item ▸ optional suffix
production character_set = one excluded ▸ optional (sign kinds.DoubleDot ▸ sign kinds.Literal) ∣ one a_set ∣ sign
    kinds.LeftParenthesis ▸ with_bars (part character_set) ▸ sign kinds.RightParenthesis
production more_names = sign kinds.Comma ▸ optional (name ▸ optional (part more_names))
