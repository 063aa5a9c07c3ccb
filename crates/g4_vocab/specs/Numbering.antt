-- The numbering of token types. The numbers of a table come first; then types are given to the literals of parser rules that need a token
-- of their own, to the lexer rules, to the names in `tokens { .. }`, to the other token names of parser rules, and to the names in
-- `type(..)` commands of lexer rules: to each that has none the next one after the greatest.
use Rattle.std.specs.Prelude.{ℕ, ◌==◌, List, [], ◌∷◌, ◌++◌, map, filter, Option, Some, None, option_map, Bool, true, false, not, cond, codes, slice_get}
use Rattle.std.specs.List.{filter_map, flat_map, list_any}
use Rattle.std.specs.Option.{is_some}
use Rattle.std.specs.Str.{bytes_eq}
use Rattle.g4_tokens.specs.Symbols.{eof}
use Rattle.g4_source.specs.Elements.{Element, atom, block, Elements, empty, then, atoms_of_either}
use Rattle.g4_source.specs.declared.atom.Atom.{Atom}
use Rattle.g4_source.specs.declared.atom.AtomKind.{AtomKind}
use Rattle.g4_source.specs.declared.atom.AtomKind.TheVariants as kinds
use Rattle.g4_source.specs.declared.atom.Literal.{Literal}
use Rattle.g4_source.specs.declared.atom.TokenReference.{TokenReference}
use Rattle.g4_source.specs.declared.atom.TokenReference.TheVariants as refs
use Rattle.g4_source.specs.declared.prequel.Prequel.{Prequel}
use Rattle.g4_source.specs.declared.prequel.Prequel.TheVariants.{Options, Import, Tokens, Channels}
use Rattle.g4_source.specs.declared.source.Source.{Source}
use Rattle.g4_source.specs.declared.rule.Rule.{Rule}
use Rattle.g4_source.specs.declared.rule.ParserRule.{ParserRule}
use Rattle.g4_source.specs.declared.rule.LexerRule.{LexerRule}
use Rattle.g4_source.specs.declared.rule.LexerAlternative.{LexerAlternative}
use Rattle.g4_source.specs.declared.rule.Command.{Command}
use Rattle.g4_source.specs.declared.rule.Argument.{Argument}
use Rattle.g4_source.specs.declared.rule.Argument.TheVariants as arguments
use Rattle.g4_source.specs.Rules.{parser_rules, lexer_rules, alternatives_of}
use Rattle.g4_token_file.specs.declared.entry.TokenKey.{TokenKey}
use Rattle.g4_token_file.specs.declared.entry.TokenKey.TheVariants as keys
use Rattle.g4_token_file.specs.declared.entry.TokenEntry.{TokenEntry}
use Rattle.g4_vocab.specs.Types.{Wanted, type_of, all_types, with_keys}

-- the lexer rules without `fragment`, in order of the text
abbrev pub token_lexers : List Rule → List LexerRule
token_lexers rules = filter (λ rule. not rule.fragment) (lexer_rules rules)

-- an atom, where it is a literal
abbrev pub literal_kind : AtomKind → Option Literal
literal_kind (kinds.Rule name) = None
literal_kind (kinds.Token name) = None
literal_kind (kinds.Literal literal) = Some literal
literal_kind (kinds.Range first last) = None
literal_kind (kinds.Set set) = None
literal_kind kinds.Any = None
literal_kind (kinds.NotTokens tokens) = None
literal_kind (kinds.NotCharacters set) = None
literal_kind kinds.Action = None
literal_kind (kinds.Predicate name) = None

-- the literal that an element is, its label and options aside
abbrev pub literal_element : Element Atom → Option Literal
literal_element (atom a) = literal_kind a.kind
literal_element (block label repeat xs) = None

-- the literal that is the whole of these elements
abbrev pub whole_elements : Elements Atom → Option Literal
whole_elements empty = None
whole_elements (then x empty) = literal_element x
whole_elements (then x (then y more)) = None

-- the literal that is the whole of these alternatives, commands aside
abbrev pub whole_literal : List LexerAlternative → Option Literal
whole_literal [] = None
whole_literal (x ∷ []) = whole_elements x.elements
whole_literal (x ∷ y ∷ more) = None

-- the literal matches these characters
abbrev pub stands_for : List ℕ → Option Literal → Bool
stands_for characters None = false
stands_for characters (Some literal) = bytes_eq characters literal.characters

-- the mode of a lexer rule is the default mode
abbrev pub in_default_mode : Option (List ℕ) → Bool
in_default_mode None = true
in_default_mode (Some name) = bytes_eq name (codes "DEFAULT_MODE")

-- the literal that is the whole of a lexer rule of the default mode
abbrev pub default_literal : LexerRule → Option Literal
default_literal rule = cond (in_default_mode rule.mode) (whole_literal rule.alternatives) None

-- the lexer rule is in the default mode, a literal for these characters and nothing else
abbrev pub is_whole : List ℕ → LexerRule → Bool
is_whole characters rule = stands_for characters (default_literal rule)

-- the name of the rule, where there is exactly one
abbrev pub only_name : List LexerRule → Option (List ℕ)
only_name [] = None
only_name (rule ∷ []) = Some rule.name
only_name (rule ∷ other ∷ more) = None

-- the name of the rule whose token a literal for these characters names: the only one of the default mode that is such a literal
abbrev pub named_rule : List LexerRule → List ℕ → Option (List ℕ)
named_rule lexers characters = only_name (filter (is_whole characters) lexers)

-- the key of a literal, given the name of the rule whose token it names
abbrev pub key_by_rule : List ℕ → Option (List ℕ) → TokenKey
key_by_rule characters None = keys.Literal characters
key_by_rule characters (Some name) = keys.Name name

-- the key of a literal for these characters
abbrev pub literal_key : List LexerRule → List ℕ → TokenKey
literal_key lexers characters = key_by_rule characters (named_rule lexers characters)

-- the tokens that an atom names
abbrev pub references : AtomKind → List TokenReference
references (kinds.Rule name) = []
references (kinds.Token name) = refs.Token name.text ∷ []
references (kinds.Literal literal) = refs.Literal literal ∷ []
references (kinds.Range first last) = []
references (kinds.Set set) = []
references kinds.Any = []
references (kinds.NotTokens tokens) = tokens
references (kinds.NotCharacters set) = []
references kinds.Action = []
references (kinds.Predicate name) = []

-- the atoms of parser rules, in order of the text
abbrev pub all_atoms : List (ParserRule Atom) → List Atom
all_atoms parsers = flat_map (λ rule. atoms_of_either (alternatives_of rule)) parsers

-- the tokens that atoms name
abbrev pub all_references : List Atom → List TokenReference
all_references atoms = flat_map (λ a. references a.kind) atoms

-- the literal that needs a token of its own: it names no lexer rule's
abbrev pub needs_own : List LexerRule → TokenReference → Option Literal
needs_own lexers (refs.Token name) = None
needs_own lexers (refs.Literal literal) = cond (is_some (named_rule lexers literal.characters)) None (Some literal)

-- the literals, of those for the same characters the first
abbrev pub first_literals : List Literal → List Literal
first_literals [] = []
first_literals (literal ∷ more) = literal ∷ filter (λ other. not (bytes_eq other.characters literal.characters)) (first_literals more)

-- the literals among these tokens that need tokens of their own
abbrev pub own_literals : List LexerRule → List TokenReference → List Literal
own_literals lexers tokens = first_literals (filter_map (needs_own lexers) tokens)

-- such a literal, as it is wanted
abbrev pub literal_token : Literal → Wanted
literal_token literal = record { token = refs.Literal literal; literal = None }

-- the literal, where it names a lexer rule's token
abbrev pub if_named : List LexerRule → Option Literal → Option Literal
if_named lexers None = None
if_named lexers (Some literal) = cond (is_some (named_rule lexers literal.characters)) (Some literal) None

-- the literal that names the token of the lexer rule: the rule alone is it
abbrev pub rule_literal : List LexerRule → LexerRule → Option Literal
rule_literal lexers rule = if_named lexers (default_literal rule)

-- a lexer rule's token
abbrev pub rule_token : List LexerRule → LexerRule → Wanted
rule_token lexers rule = record {
  token = refs.Token rule.name;
  literal = option_map (λ literal. literal.characters) (rule_literal lexers rule);
}

-- the token that a command's argument names: a number names none
abbrev pub argument_name : Option Argument → Option TokenReference
argument_name None = None
argument_name (Some (arguments.Name name)) = Some (refs.Token name)
argument_name (Some (arguments.Number digits)) = None

-- the token that a command names: `type` with a name names one
abbrev pub commanded_token : Command → Option TokenReference
commanded_token command = cond (bytes_eq command.name.text (codes "type")) (argument_name command.argument) None

-- the tokens that commands of an alternative name, in order
abbrev pub commanded_by : LexerAlternative → List TokenReference
commanded_by alternative = filter_map commanded_token alternative.commands

-- the tokens that commands of lexer rules name, in order of the text
abbrev pub all_commanded : List LexerRule → List TokenReference
all_commanded lexers = flat_map (λ rule. flat_map commanded_by rule.alternatives) lexers

-- the token that a name in `tokens { .. }` is
abbrev pub name_token : List ℕ → TokenReference
name_token name = refs.Token name

-- the tokens that something before the rules declares
abbrev pub declared_by : Prequel → List TokenReference
declared_by (Options settings) = []
declared_by (Import place names) = []
declared_by (Tokens place names) = map name_token names
declared_by (Channels place names) = []

-- the tokens that a grammar declares, in order of the text
abbrev pub all_declared : List Prequel → List TokenReference
all_declared prequels = flat_map declared_by prequels

-- a token name that is declared, or of a parser rule or of a command: `EOF` is none
abbrev pub token_name : TokenReference → Option Wanted
token_name (refs.Token name) = cond (bytes_eq name (codes "EOF")) None (Some (record { token = refs.Token name; literal = None }))
token_name (refs.Literal literal) = None

-- what types are given to, in order
abbrev pub wanted : List LexerRule → List Literal → List TokenReference → List TokenReference → List TokenReference → List Wanted
wanted lexers own declared tokens commanded = map literal_token own ++ (map (rule_token lexers) lexers
    ++ (filter_map token_name declared ++ (filter_map token_name tokens ++ filter_map token_name commanded)))

-- the tokens that parser rules name, in order of the text
abbrev pub all_named : List Rule → List TokenReference
all_named rules = all_references (all_atoms (parser_rules rules))

-- the literals of a grammar's parser rules that need tokens of their own
abbrev pub own_of : Source → List Literal
own_of source = own_literals (token_lexers source.rules) (all_named source.rules)

-- the first of them, in order of the text
abbrev pub first_own_literal : Source → Option Literal
first_own_literal source = slice_get (own_of source) 0

-- what types are given to in a grammar, in order
abbrev pub wanted_of : Source → List Wanted
wanted_of source = wanted (token_lexers source.rules) (own_of source) (all_declared source.prequels) (all_named source.rules)
    (all_commanded (lexer_rules source.rules))

-- the types of a grammar, which a table of types begins
abbrev pub types_of : List TokenEntry → Source → List TokenEntry
types_of table source = with_keys table (wanted_of source)

-- the symbol of a token that is named: EOF, or a type
abbrev pub symbol_of : List LexerRule → List TokenEntry → TokenReference → ℕ
symbol_of lexers types (refs.Token name) = cond (bytes_eq name (codes "EOF")) eof (type_of types (keys.Name name))
symbol_of lexers types (refs.Literal literal) = type_of types (literal_key lexers literal.characters)

-- all types but those of these tokens
abbrev pub types_without : List LexerRule → List TokenEntry → List TokenReference → List ℕ
types_without lexers types tokens = filter (λ type. not (list_any (λ token. symbol_of lexers types token == type) tokens)) (all_types types)

-- the symbols of which an atom of a parser rule reads one; an atom that only a lexer rule can have reads none
abbrev pub symbols_of_kind : List LexerRule → List TokenEntry → AtomKind → List ℕ
symbols_of_kind lexers types (kinds.Rule name) = []
symbols_of_kind lexers types (kinds.Token name) = symbol_of lexers types (refs.Token name.text) ∷ []
symbols_of_kind lexers types (kinds.Literal literal) = symbol_of lexers types (refs.Literal literal) ∷ []
symbols_of_kind lexers types (kinds.Range first last) = []
symbols_of_kind lexers types (kinds.Set set) = []
symbols_of_kind lexers types kinds.Any = all_types types
symbols_of_kind lexers types (kinds.NotTokens tokens) = types_without lexers types tokens
symbols_of_kind lexers types (kinds.NotCharacters set) = []
symbols_of_kind lexers types kinds.Action = []
symbols_of_kind lexers types (kinds.Predicate name) = []
