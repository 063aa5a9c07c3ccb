-- The tokens of a file.
use Rattle.std.specs.Prelude.{◌≡◌, ◌<◌, ℕ, ◌+◌, List, [], ◌∷◌, ◌++◌, length, take, drop, Option, Some, None, Result, Ok, Err, unwrap_or}
use Rattle.std.specs.Str.{IsUtf8, IsValidUpTo, chars}
use Rattle.g4_base.specs.declared.place.Place.{Place}
use Rattle.g4_ordered.specs.Matching.{IsMatch, NoMatch}
use Rattle.g4_tokens.specs.declared.token.Token.{Token}
use Rattle.g4_tokens.specs.declared.token.Tokens.{Tokens}
use Rattle.g4_lexer.specs.declared.effects.Effects.{Effects}
use Rattle.g4_lexer.specs.declared.effects.Fate.TheVariants as fates
use Rattle.g4_lexer.specs.declared.fault.LexFault.{LexFault}
use Rattle.g4_lexer.specs.declared.fault.LexFault.TheVariants as faults
use Rattle.g4_lexer.specs.declared.lexer.Lexer.{Lexer}
use Rattle.g4_lexer.specs.declared.lexing.TheConstants.{MOST_TOKENS}
use Rattle.g4_lexer.specs.declared.position.Position.{Position}
use Rattle.g4_lexer.specs.declared.token.Begun.{Begun}
use Rattle.g4_lexer.specs.Commands.{after_commands}
use Rattle.g4_lexer.specs.Lexers.{starts_in, type_of, commands_of}
use Rattle.g4_lexer.specs.Positions.{first_position, position_after}
use Rattle.g4_lexer.specs.Tokens.{made, goes_on, visible, closing_tokens}

-- Where a lexing is: the position, the current mode, the modes that are pushed, the last of them first, and the token that the
-- matches before have begun, if `more` keeps their text.
pub record Course : Type 0 where
  pub at : Position
  pub mode : ℕ
  pub pushed : List ℕ
  pub begun : Option Begun

-- at the start of a file
abbrev pub first_course : Course
first_course = record { at = first_position; mode = 0; pushed = []; begun = None }

-- the token of the next match: that which has begun, or one that begins here on channel 0
abbrev pub current : Course → Begun
current s = unwrap_or s.begun (record { from = s.at; channel = 0 })

-- before the commands of a match of the rule are carried out: it makes a token of the rule's type
abbrev pub before_commands : Lexer → Course → ℕ → Effects
before_commands lexer s rule = record {
  mode = s.mode;
  pushed = s.pushed;
  channel = (current s).channel;
  fate = fates.Token (type_of lexer rule);
}

-- The next match has n characters, and the commands of its alternative have these effects; they are `None` where one of them finds
-- no mode to go back to.
pub record NextMatch (lexer : Lexer) (s : Course) (text : List ℕ) (n : ℕ) (effects : Option Effects) : Type 0 where
  pub rule : ℕ
  pub alternative : ℕ
  pub matches : IsMatch lexer.net (starts_in lexer s.mode) text n rule alternative
  pub carried_out : after_commands (commands_of lexer rule alternative) (before_commands lexer s rule) ≡ effects

-- the tokens that a match of these characters makes with these effects
abbrev pub made_at : Course → Effects → List ℕ → List Token
made_at s e w = made (current s) e (position_after s.at w)

-- where a lexing is after it
abbrev pub course_after : Course → Effects → List ℕ → Course
course_after s e w = record { at = position_after s.at w; mode = e.mode; pushed = e.pushed; begun = goes_on (current s) e }

-- Why a lexing goes no further, and at which place: no rule matches at a character, or at the end a token does not go on that has
-- begun; there is no mode to go back to; one token too many.
pub data Stuck : Type 0 where
  no_token : (place : Place) (character : Option ℕ) → Stuck
  empty_mode_stack : (place : Place) → Stuck
  too_many : (place : Place) → Stuck

-- the tokens with these before them
abbrev pub with_tokens : List Token → Result (List Token) Stuck → Result (List Token) Stuck
with_tokens tokens (Ok more) = Ok (tokens ++ more)
with_tokens tokens (Err stuck) = Err stuck

-- the tokens of the text that is left, by one match after another, while there is room for them
pub data LexesWithin (lexer : Lexer) : ℕ → Course → List ℕ → Result (List Token) Stuck → Type 0 where
  at_end : (room : ℕ) (s : Course) → s.begun ≡ None → LexesWithin lexer room s [] (Ok [])
  unfinished : (room : ℕ) (s : Course) (begun : Begun) → s.begun ≡ Some begun → LexesWithin lexer room s [] (Err (no_token s.at.place None))
  no_match : (room : ℕ) (s : Course) (c : ℕ) (text : List ℕ) → NoMatch lexer.net (starts_in lexer s.mode) (c ∷ text)
      → LexesWithin lexer room s (c ∷ text) (Err (no_token s.at.place (Some c)))
  no_mode : (room : ℕ) (s : Course) (text : List ℕ) (n : ℕ) → NextMatch lexer s text n None
      → LexesWithin lexer room s text (Err (empty_mode_stack s.at.place))
  no_room : (room : ℕ) (s : Course) (text : List ℕ) (n : ℕ) (e : Effects) → NextMatch lexer s text n (Some e)
      → room < length (made_at s e (take n text)) → LexesWithin lexer room s text (Err (too_many (current s).from.place))
  a_match : (room left : ℕ) (s : Course) (text : List ℕ) (n : ℕ) (e : Effects) (more : Result (List Token) Stuck)
      → NextMatch lexer s text n (Some e) → room ≡ length (made_at s e (take n text)) + left →
      LexesWithin lexer left (course_after s e (take n text)) (drop n text) more
      → LexesWithin lexer room s text (with_tokens (made_at s e (take n text)) more)

-- the tokens of a text, of which this many may be made
abbrev pub LexesText : Lexer → ℕ → List ℕ → Result (List Token) Stuck → Type 0
LexesText lexer room text answer = LexesWithin lexer room first_course text answer

-- the tokens of the file with its bytes, and what the parser sees of them
abbrev pub token_list : List ℕ → List Token → Tokens
token_list bytes tokens = record { bytes = bytes; all = tokens; list = visible tokens ++ closing_tokens (chars bytes) }

-- the lexing of the file's characters gets stuck so
abbrev pub StopsWithin : ℕ → Lexer → List ℕ → Stuck → Type 0
StopsWithin room lexer bytes stuck = IsUtf8 bytes × LexesText lexer room (chars bytes) (Err stuck)

-- what a fault says of the bytes of a file, of which this many tokens may be made
abbrev pub IsLexFaultWithin : ℕ → Lexer → List ℕ → LexFault → Type 0
IsLexFaultWithin room lexer bytes (faults.NotUtf8 at) = IsValidUpTo bytes at
IsLexFaultWithin room lexer bytes (faults.NoToken place character) = StopsWithin room lexer bytes (no_token place character)
IsLexFaultWithin room lexer bytes (faults.EmptyModeStack place) = StopsWithin room lexer bytes (empty_mode_stack place)
IsLexFaultWithin room lexer bytes (faults.Tokens place) = StopsWithin room lexer bytes (too_many place)
IsLexFaultWithin room lexer bytes faults.NoMemory = Unit {0}

-- the call answers with the tokens of the file or its fault, where this many tokens may be made, unless memory runs out
abbrev pub IsLexingWithin : ℕ → Lexer → List ℕ → Result Tokens LexFault → Type 0
IsLexingWithin room lexer bytes (Ok found) = IsUtf8 bytes × LexesText lexer room (chars bytes) (Ok found.all)
    × (found ≡ token_list bytes found.all)
IsLexingWithin room lexer bytes (Err fault) = IsLexFaultWithin room lexer bytes fault

-- the call answers with the tokens of the file or its fault, unless memory runs out
abbrev pub IsLexing : Lexer → List ℕ → Result Tokens LexFault → Type 0
IsLexing = IsLexingWithin MOST_TOKENS
