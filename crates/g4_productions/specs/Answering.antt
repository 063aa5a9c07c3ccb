-- What is asked of the next tokens where a character set may begin, and what reading answers but for how deep brackets are nested.
-- This serves only contracts of private calls.
use Rattle.std.specs.Prelude.{◌≡◌, ◌<◌, ℕ, List, Bool, true, false, ◌&&◌, ◌||◌, Option, Some, None, Result, Ok, Err, length, take, drop, nat_le, if◌then◌else◌}
use Rattle.std.specs.Str.{chars}
use Rattle.g4_chars.specs.declared.range.Range.{Range as Span}
use Rattle.g4_base.specs.declared.place.Place.{Place}
use Rattle.g4_grammar_tokens.specs.declared.token.Kind.{Kind}
use Rattle.g4_grammar_tokens.specs.declared.token.Kind.TheVariants as kinds
use Rattle.g4_grammar_tokens.specs.declared.token.Token.{Token}
use Rattle.g4_source.specs.declared.source.Source.{Source}
use Rattle.g4_syntax.specs.Notation.{Spelled, is_kind, Terminal, characters, excluded}
use Rattle.g4_syntax.specs.Productions.{grammar}
use Rattle.g4_syntax.specs.Trees.{BeginsText, TextStops}
use Rattle.g4_cursor.specs.Progress.{Progress, bytes_ahead}
use Rattle.g4_cursor.specs.Sets.{content, is_no_character, is_bad_range, HasNoBad, HasFirstBad}
use Rattle.g4_cursor.specs.Texts.{from, spelled, place_of}
use Rattle.g4_productions.specs.Grammars.{IsGrammarText}
use Rattle.g4_productions.specs.Members.{set_of}
use Rattle.g4_productions.specs.Nesting.{IsTooDeep, NoneTooDeep, NoneTooDeepBefore}
use Rattle.g4_productions.specs.declared.nesting.TheConstants.{MOST_OPEN}
use Rattle.g4_productions.specs.declared.reader.Stop.{Stop}
use Rattle.g4_productions.specs.declared.reader.Stop.TheVariants as stops

-- the terminal of a literal that is under `~` or not
abbrev pub literal_terminal : Bool → Terminal
literal_terminal true = excluded
literal_terminal false = characters

-- whether a bad range begins with the next token
abbrev pub bad_range_next : Progress → Bool
bad_range_next s = is_bad_range (bytes_ahead 0 kinds.Literal s) (bytes_ahead 1 kinds.DoubleDot s) (bytes_ahead 2 kinds.Literal s)

-- the same, or under `~` whether it is a literal that is no character
abbrev pub bad_literal_next : Bool → Progress → Bool
bad_literal_next under s = (under && is_no_character (bytes_ahead 0 kinds.Literal s)) || bad_range_next s

-- a set is next, and this is the set, unless it is bad
pub record HasNext (set : Option (List Span)) (s : Progress) : Type 0 where
  pub bytes : List ℕ
  pub next : bytes_ahead 0 kinds.Set s ≡ Some bytes
  pub is : set ≡ set_of (content (chars bytes))

-- 1 where a token of this kind is of the wanted one
abbrev pub one_if : Kind → Kind → ℕ
one_if wanted kind = if is_kind wanted kind then 1 else 0

-- whether a token of this kind is a bracket that opens while as many are open as may be
abbrev pub opens_too_deep : Kind → ℕ → Bool
opens_too_deep kind many = is_kind kinds.LeftParenthesis kind && nat_le MOST_OPEN many

-- the first bracket that opens too deep is the token with this index
pub record IsFirstTooDeep (tokens : List Spelled) (at : ℕ) : Type 0 where
  pub within : at < length tokens
  pub deep : IsTooDeep (take at tokens) (drop at tokens)
  pub first : NoneTooDeepBefore tokens (drop at tokens)

-- the index of the first bracket that opens too deep, if one does
abbrev pub FindsTooDeep : List Spelled → Option ℕ → Type 0
FindsTooDeep tokens (Some at) = IsFirstTooDeep tokens at
FindsTooDeep tokens None = NoneTooDeep tokens

-- the first bad set begins at this place
abbrev pub BeginsBadAt : List Spelled → Place → Type 0
BeginsBadAt tokens place = (rest : List Spelled) × HasFirstBad grammar tokens rest × (place ≡ place_of rest)

-- what reading answers, however deep brackets are nested
abbrev pub ReadsAll : List ℕ → List Token → Result Source Stop → Type 0
ReadsAll text tokens (Ok source) = IsGrammarText (spelled text tokens) source × HasNoBad grammar (spelled text tokens)
ReadsAll text tokens (Err (stops.At index)) = TextStops (spelled text tokens) (from text tokens index)
    × HasNoBad grammar (spelled text tokens)
ReadsAll text tokens (Err (stops.BadSet place)) = BeginsBadAt (spelled text tokens) place
ReadsAll text tokens (Err stops.Nesting) = ⊥
ReadsAll text tokens (Err stops.NoMemory) = Unit {0}

-- why reading does not go on after the last of the tokens, a bracket
abbrev pub StopsWithin : List ℕ → List Token → Stop → Type 0
StopsWithin text tokens (stops.At index) = (index < length tokens) × TextStops (spelled text tokens) (from text tokens index)
    × HasNoBad grammar (spelled text tokens)
StopsWithin text tokens (stops.BadSet place) = BeginsBadAt (spelled text tokens) place
StopsWithin text tokens stops.Nesting = BeginsText (spelled text tokens) × HasNoBad grammar (spelled text tokens)
StopsWithin text tokens stops.NoMemory = Unit {0}
