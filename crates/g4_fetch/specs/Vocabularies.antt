-- What the option `tokenVocab` of a grammar names: of a parser grammar another grammar, of another one a file of tokens.
use Rattle.std.specs.Prelude.{ℕ, List, [], ◌∷◌, flat_map, Option, Some, None, option_map, codes, if◌then◌else◌}
use Rattle.std.specs.Option.{option_or}
use Rattle.std.specs.Str.{bytes_eq}
use Rattle.g4_source.specs.declared.prequel.OptionValue.{OptionValue}
use Rattle.g4_source.specs.declared.prequel.OptionValue.TheVariants.{Names, Literal, Number, Action, Star}
use Rattle.g4_source.specs.declared.prequel.Prequel.{Prequel}
use Rattle.g4_source.specs.declared.prequel.Prequel.TheVariants.{Options, Import, Tokens, Channels}
use Rattle.g4_source.specs.declared.prequel.Setting.{Setting}
use Rattle.g4_source.specs.declared.source.GrammarKind.{GrammarKind}
use Rattle.g4_source.specs.declared.source.GrammarKind.TheVariants as kinds
use Rattle.g4_source.specs.declared.source.Source.{Source}
use Rattle.g4_fetch.specs.Names.{grammar_file, tokens_file}

-- the name that is the value of an option
abbrev pub named_by : OptionValue → Option (List ℕ)
named_by (Names []) = None
named_by (Names (name ∷ [])) = Some name
named_by (Names (name ∷ other ∷ names)) = None
named_by (Literal text) = None
named_by (Number text) = None
named_by (Action text) = None
named_by Star = None

-- the vocabulary that an option names
abbrev pub setting_vocabulary : Setting → Option (List ℕ)
setting_vocabulary setting = if bytes_eq setting.name.text (codes "tokenVocab") then named_by setting.value else None

-- the options here
abbrev pub settings_in : Prequel → List Setting
settings_in (Options settings) = settings
settings_in (Import place names) = []
settings_in (Tokens place names) = []
settings_in (Channels place names) = []

-- the last thing that an item of the list gives
unfoldable pub last_some : {X Y : Type 0} → (X → Option Y) → List X → Option Y
last_some f [] = None
last_some f (x ∷ xs) = option_or (last_some f xs) (f x)

-- the vocabulary of a grammar: the last that its options name
abbrev pub vocabulary_of : Source → Option (List ℕ)
vocabulary_of source = last_some setting_vocabulary (flat_map settings_in source.prequels)

-- the file of the grammar that is the vocabulary of a grammar of this kind
abbrev pub lexer_file : List ℕ → Source → GrammarKind → Option (List ℕ)
lexer_file prefix source kinds.Combined = None
lexer_file prefix source kinds.Lexer = None
lexer_file prefix source kinds.Parser = option_map (grammar_file prefix) (vocabulary_of source)

-- the file of tokens that is
abbrev pub table_file : List ℕ → Source → GrammarKind → Option (List ℕ)
table_file prefix source kinds.Combined = option_map (tokens_file prefix) (vocabulary_of source)
table_file prefix source kinds.Lexer = option_map (tokens_file prefix) (vocabulary_of source)
table_file prefix source kinds.Parser = None

-- the same of the vocabulary of a parser grammar: nothing more is fetched of one that is no lexer grammar
abbrev pub lexer_table_file : List ℕ → Source → GrammarKind → Option (List ℕ)
lexer_table_file prefix source kinds.Combined = None
lexer_table_file prefix source kinds.Lexer = option_map (tokens_file prefix) (vocabulary_of source)
lexer_table_file prefix source kinds.Parser = None
