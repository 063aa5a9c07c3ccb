-- What the tables of the code have.
use Rattle.std.specs.Prelude.{◌≡◌, ◌≤◌, ◌<◌, ◌+◌, ◌==◌, ℕ, List, [], ◌∷◌, ◌++◌, filter, length, cond, Option, Some, None, option_map, map, Result, Ok, Err, Vec, slice_get}
use Rattle.std.specs.Global.{Global}
use Rattle.std.specs.Borrow.{Bor}
use Rattle.std.specs.BTreeMap.{BTreeMap, get_by}
use Rattle.std.specs.Cmp.Lexicographic.{slice_cmp}
use Rattle.std.specs.Option.{option_or, unwrap_or}
use Rattle.std.specs.Ordering.{nat_cmp}
use Rattle.g4_tokens.specs.declared.symbol.TheConstants.{MOST_TYPES}
use Rattle.g4_source.specs.declared.atom.Literal.{Literal as Written}
use Rattle.g4_source.specs.declared.atom.TokenReference.{TokenReference}
use Rattle.g4_source.specs.declared.atom.TokenReference.TheVariants as refs
use Rattle.g4_source.specs.declared.atom.Atom.{Atom}
use Rattle.g4_source.specs.declared.rule.LexerRule.{LexerRule}
use Rattle.g4_source.specs.declared.rule.ParserRule.{ParserRule}
use Rattle.g4_source.specs.declared.source.Source.{Source}
use Rattle.g4_source.specs.Rules.{lexer_rules}
use Rattle.g4_grammar.specs.declared.token_types.TokenLiteral.{TokenLiteral}
use Rattle.g4_token_file.specs.Keys.{greatest_number}
use Rattle.g4_token_file.specs.declared.entry.TokenEntry.{TokenEntry}
use Rattle.g4_vocab.specs.declared.faces.Face.{Face as Lent}
use Rattle.g4_vocab.specs.declared.fault.NumberFault.{NumberFault}
use Rattle.g4_vocab.specs.declared.fault.NumberFault.TheVariants.{Rules, Types, NoMemory}
use Rattle.g4_vocab.specs.declared.named.Named.{Named}
use Rattle.g4_vocab.specs.declared.references.Reference.{Reference}
use Rattle.g4_vocab.specs.declared.references.Reference.TheVariants as lent
use Rattle.g4_vocab.specs.declared.wanted.WantedToken.{WantedToken}
use Rattle.g4_vocab.specs.Numbering.{all_atoms, all_commanded, all_declared, all_references, is_whole, own_literals, wanted}
use Rattle.g4_vocab.specs.Shown.{Face, of_type}
use Rattle.g4_vocab.specs.Types.{Wanted, literal_number, with_keys}

-- a map with texts or characters as keys
abbrev pub TextMap : Type 0 → Type 0
TextMap X = BTreeMap (Bor (List ℕ)) X

-- the value at these bytes or characters
abbrev pub at : {X : Type 0} → TextMap X → List ℕ → Option X
at map key = get_by (λ k. slice_cmp nat_cmp key k.now) map

-- what is kept of rules that are one literal: nothing of no rule, the name of one, and that there are several
abbrev pub kept_name : List LexerRule → Option (Option (List ℕ))
kept_name [] = None
kept_name (rule ∷ []) = Some (Some rule.name)
kept_name (rule ∷ other ∷ more) = Some None

-- what a map keeps at these characters
abbrev pub kept : TextMap (Option (Bor (List ℕ))) → List ℕ → Option (Option (List ℕ))
kept names characters = option_map (λ only. option_map (λ name. name.now) only) (at names characters)

-- the map has the characters of each literal that is the whole of a rule, with what is kept of these rules
abbrev pub AreWholes : List LexerRule → TextMap (Option (Bor (List ℕ))) → Type 0
AreWholes lexers names = (characters : List ℕ) → kept names characters ≡ kept_name (filter (is_whole characters) lexers)

-- what is kept where one rule more is a literal
abbrev pub kept_more : Option (Option (List ℕ)) → List ℕ → Option (Option (List ℕ))
kept_more None name = Some (Some name)
kept_more (Some only) name = Some None

-- the new map has the rule too, which is kept where it is a literal
abbrev pub AddsRule : LexerRule → TextMap (Option (Bor (List ℕ))) → TextMap (Option (Bor (List ℕ))) → Type 0
AddsRule rule old new = (characters : List ℕ)
    → kept new characters ≡ cond (is_whole characters rule) (kept_more (kept old characters) rule.name) (kept old characters)

-- the token that is named
abbrev pub reference_of : Reference → TokenReference
reference_of (lent.Token name) = refs.Token name.now
reference_of (lent.Literal literal) = refs.Literal literal.now

-- what types are given to, as it is lent
abbrev pub wanted_of : WantedToken → Wanted
wanted_of wanted = record { token = reference_of wanted.token; literal = option_map (λ literal. literal.now.characters) wanted.literal }

-- the literals of tokens that are named that need tokens of their own
abbrev pub own_by : List LexerRule → Named → List Written
own_by lexers named = own_literals lexers (map reference_of named.tokens.items)

-- what types are given to: these lexer rules, and the tokens that a grammar names
abbrev pub wanted_by : List LexerRule → Named → List Wanted
wanted_by lexers named = wanted lexers (own_by lexers named) (map reference_of named.declared.items) (map reference_of named.tokens.items)
    (map reference_of named.commanded.items)

-- these are the tokens that a grammar of these parser rules names
pub record AreNamed (source : Source) (parsers : List (ParserRule Atom)) (named : Named) : Type 0 where
  pub declared : map reference_of named.declared.items ≡ all_declared source.prequels
  pub tokens : map reference_of named.tokens.items ≡ all_references (all_atoms parsers)
  pub commanded : map reference_of named.commanded.items ≡ all_commanded (lexer_rules source.rules)

-- adding these tokens gives the table with them, or a fault with its cause
abbrev pub Adds : List TokenEntry → List Wanted → Result (List TokenEntry) NumberFault → Type 0
Adds table all (Ok new) = new ≡ with_keys table all
Adds table all (Err Rules) = ⊥
Adds table all (Err Types) = MOST_TYPES < greatest_number (with_keys table all)
Adds table all (Err NoMemory) = Unit {0}

-- a new token gets this number, or a fault with its cause
abbrev pub GivesNumber : List TokenEntry → Option (List ℕ) → Result ℕ NumberFault → Type 0
GivesNumber table literal (Ok number) =
    (number ≡ unwrap_or (literal_number table literal) (greatest_number table + 1)) × (number ≤ MOST_TYPES)
GivesNumber table literal (Err Rules) = ⊥
GivesNumber table literal (Err Types) = (literal_number table literal ≡ None) × (MOST_TYPES ≤ greatest_number table)
GivesNumber table literal (Err NoMemory) = Unit {0}

-- a way to show a type, as it is lent
abbrev pub face_of : Lent → Face
face_of face = record { number = face.number; text = face.text.now }

-- a map of texts by numbers
abbrev pub NumberMap : Type 0
NumberMap = BTreeMap ℕ (Bor (List ℕ))

-- the text at the number: the empty one, where there is none
abbrev pub text_or : Option (Bor (List ℕ)) → List ℕ
text_or None = []
text_or (Some text) = text.now

abbrev pub shown_at : NumberMap → ℕ → List ℕ
shown_at first number = text_or (get_by (nat_cmp number) first)

-- the first way to show the number
abbrev pub first_face : List Face → ℕ → Option (List ℕ)
first_face [] number = None
first_face (face ∷ more) number = cond (face.number == number) (Some face.text) (first_face more number)

-- the text that the map has for the number
abbrev pub text_in : NumberMap → ℕ → Option (List ℕ)
text_in first number = option_map (λ text. text.now) (get_by (nat_cmp number) first)

-- the map has the first way to show each number
abbrev pub AreShown : List Face → NumberMap → Type 0
AreShown faces first = (number : ℕ) → text_in first number ≡ first_face faces number

-- the new map has this way too, where the old one has none
abbrev pub AddsFace : Face → NumberMap → NumberMap → Type 0
AddsFace face old new = (number : ℕ)
    → text_in new number ≡ option_or (text_in old number) (cond (face.number == number) (Some face.text) None)

-- groups of tokens
abbrev pub Groups : Type 0
Groups = List (Vec TokenLiteral Global)

-- the tokens of a group, if there is one
abbrev pub members_of : Option (Vec TokenLiteral Global) → List TokenLiteral
members_of None = []
members_of (Some group) = group.items

-- the tokens of the group of this number
abbrev pub members_in : Groups → ℕ → List TokenLiteral
members_in groups number = members_of (slice_get groups number)

-- a token more is in the group of its type, and in no other
pub record Joins (old : Groups) (token : TokenLiteral) (new : Groups) : Type 0 where
  pub same : length new ≡ length old
  pub joined : (number : ℕ) → members_in new number
      ≡ cond (token.symbol == number) (members_in old number ++ token ∷ []) (members_in old number)

-- there are as many groups, and each has the tokens of its number in order
pub record HaveJoined (count : ℕ) (tokens : List TokenLiteral) (groups : Vec (Vec TokenLiteral Global) Global) : Type 0 where
  pub counted : length groups.items ≡ count
  pub joined : (number : ℕ) → number < count → members_in groups.items number ≡ of_type tokens number
