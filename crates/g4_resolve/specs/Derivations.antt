-- What the parser rules of a grammar derive as its text has them: by the names of rules and tokens and by literals. Levels and numbers of
-- rules come in later.
use Rattle.std.specs.Prelude.{◌≡◌, ◌≢◌, ◌≤◌, ◌<◌, ℕ, List, [], ◌∷◌, map, Some, All, Contains, slice_get}
use Rattle.g4_source.specs.Elements.{Alternatives}
use Rattle.g4_source.specs.Rules.{alternatives_of, parser_rules}
use Rattle.g4_source.specs.declared.atom.Atom.{Atom}
use Rattle.g4_source.specs.declared.atom.AtomKind.{AtomKind}
use Rattle.g4_source.specs.declared.atom.AtomKind.TheVariants as kinds
use Rattle.g4_source.specs.declared.atom.TokenReference.TheVariants as refs
use Rattle.g4_source.specs.declared.rule.LexerRule.{LexerRule}
use Rattle.g4_source.specs.declared.rule.ParserRule.{ParserRule}
use Rattle.g4_source.specs.declared.rule.Rule.{Rule}
use Rattle.g4_grammar.specs.Derives.{DerivesOne}
use Rattle.g4_grammar.specs.Steps.{CallsRule, ReadsSymbols}
use Rattle.g4_grammar.specs.declared.step.Step.{Step}
use Rattle.g4_token_file.specs.declared.entry.TokenEntry.{TokenEntry}
use Rattle.g4_vocab.specs.Numbering.{symbol_of, token_lexers}

-- the number is a token type: a name or a literal has it, and it is not 0
abbrev pub IsTokenType : List TokenEntry → ℕ → Type 0
IsTokenType types symbol = (1 ≤ symbol) × ((entry : TokenEntry) × Contains types entry × (entry.number ≡ symbol))

-- The words of an atom of a parser rule: a token's name or a literal is the symbol that it names, `.` any token type, `~` any that none of
-- its tokens names. An action and a predicate read nothing, and a reference nothing of its own. Only lexer rules have the others.
abbrev pub ReadsByName : List LexerRule → List TokenEntry → AtomKind → List ℕ → Type 0
ReadsByName lexers types (kinds.Rule name) w = ⊥
ReadsByName lexers types (kinds.Token name) w = w ≡ symbol_of lexers types (refs.Token name.text) ∷ []
ReadsByName lexers types (kinds.Literal literal) w = w ≡ symbol_of lexers types (refs.Literal literal) ∷ []
ReadsByName lexers types (kinds.Range first last) w = ⊥
ReadsByName lexers types (kinds.Set set) w = ⊥
ReadsByName lexers types kinds.Any w = (s : ℕ) × IsTokenType types s × (w ≡ s ∷ [])
ReadsByName lexers types (kinds.NotTokens tokens) w = (s : ℕ) × IsTokenType types s
    × All (λ token. symbol_of lexers types token ≢ s) tokens × (w ≡ s ∷ [])
ReadsByName lexers types (kinds.NotCharacters set) w = ⊥
ReadsByName lexers types kinds.Action w = w ≡ []
ReadsByName lexers types (kinds.Predicate name) w = w ≡ []

-- The parser rule at this place, where these count from 0, is the first of this name.
pub record IsFirstNamed (parsers : List (ParserRule Atom)) (name : List ℕ) (k : ℕ) : Type 0 where
  pub rule : ParserRule Atom
  pub placed : slice_get parsers k ≡ Some rule
  pub named : rule.name ≡ name
  pub first : (j : ℕ) (other : ParserRule Atom) → j < k → slice_get parsers j ≡ Some other → other.name ≢ name

-- an atom of a parser rule that is a reference calls the rule of this name
abbrev pub CallsByName : List (ParserRule Atom) → AtomKind → ℕ → Type 0
CallsByName parsers (kinds.Rule name) k = IsFirstNamed parsers name.text k
CallsByName parsers (kinds.Token name) k = ⊥
CallsByName parsers (kinds.Literal literal) k = ⊥
CallsByName parsers (kinds.Range first last) k = ⊥
CallsByName parsers (kinds.Set set) k = ⊥
CallsByName parsers kinds.Any k = ⊥
CallsByName parsers (kinds.NotTokens tokens) k = ⊥
CallsByName parsers (kinds.NotCharacters set) k = ⊥
CallsByName parsers kinds.Action k = ⊥
CallsByName parsers (kinds.Predicate name) k = ⊥

-- The parser rule of this name derives the word, by the rules as they are written.
pub record DerivesByName (types : List TokenEntry) (rules : List Rule) (name word : List ℕ) : Type 0 where
  pub place : ℕ
  pub named : IsFirstNamed (parser_rules rules) name place
  pub derives : DerivesOne (λ a. ReadsByName (token_lexers rules) types a.kind) (λ a. CallsByName (parser_rules rules) a.kind)
      (map alternatives_of (parser_rules rules)) (alternatives_of named.rule) word

-- the rule of this number derives the word over steps, by the alternatives of the rules; levels are ignored
abbrev pub DerivesByNumber : List (Alternatives (Step (List ℕ))) → ℕ → List ℕ → Type 0
DerivesByNumber rules k word = (xs : Alternatives (Step (List ℕ))) × (slice_get rules k ≡ Some xs)
    × DerivesOne ReadsSymbols CallsRule rules xs word
