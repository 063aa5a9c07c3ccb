-- The tokens that matches make, and those that close a file.
use Rattle.std.specs.Prelude.{◌≡◌, ◌==◌, ℕ, ◌+◌, ◌≤◌, ◌<◌, List, [], ◌∷◌, ◌++◌, cond, length, Option, Some, None, Result, Ok, Err}
use Rattle.std.specs.List.{filter}
use Rattle.g4_tokens.specs.Symbols.{eof, end_of_list}
use Rattle.g4_tokens.specs.declared.token.Token.{Token}
use Rattle.g4_lexer.specs.declared.effects.Effects.{Effects}
use Rattle.g4_lexer.specs.declared.effects.Fate.{Fate}
use Rattle.g4_lexer.specs.declared.effects.Fate.TheVariants as fates
use Rattle.g4_lexer.specs.declared.fault.LexFault.{LexFault}
use Rattle.g4_lexer.specs.declared.fault.LexFault.TheVariants as faults
use Rattle.g4_lexer.specs.declared.position.Position.{Position}
use Rattle.g4_lexer.specs.declared.token.Begun.{Begun}
use Rattle.g4_lexer.specs.Positions.{first_position, position_after}

-- a token of this type and channel, from one position up to another
abbrev pub token_between : ℕ → ℕ → Position → Position → Token
token_between symbol channel from to = record
    { symbol = symbol; channel = channel; place = from.place; start = from.offset; end = to.offset }

-- a token type; that of EOF in the place of none
abbrev pub type_or_eof : ℕ → ℕ
type_or_eof symbol = cond (symbol == 0) eof symbol

-- The tokens that a match makes which ends at the position: one or none. The token begins where its first match began.
abbrev pub made_by : Fate → Begun → ℕ → Position → List Token
made_by fates.Dropped begun channel end = []
made_by fates.Kept begun channel end = []
made_by (fates.Token symbol) begun channel end = token_between (type_or_eof symbol) channel begun.from end ∷ []

-- the token that goes on with the next match, if one does: it keeps its beginning and its channel
abbrev pub going_on : Fate → Begun → ℕ → Option Begun
going_on fates.Dropped begun channel = None
going_on fates.Kept begun channel = Some (record { from = begun.from; channel = channel })
going_on (fates.Token symbol) begun channel = None

-- the same by what the commands of the match did
abbrev pub made : Begun → Effects → Position → List Token
made begun e end = made_by e.fate begun e.channel end

abbrev pub goes_on : Begun → Effects → Option Begun
goes_on begun e = going_on e.fate begun e.channel

-- concluding a match adds what it makes and gives what goes on, or there is no room for what it makes, unless memory runs out
abbrev pub Concludes : ℕ → Begun → Effects → Position → List Token → List Token → Result (Option Begun) LexFault → Type 0
Concludes room begun e end old new (Ok kept) = (new ≡ old ++ made begun e end) × (kept ≡ goes_on begun e)
    × (length old ≤ room → length new ≤ room)
Concludes room begun e end old new (Err (faults.NotUtf8 at)) = ⊥
Concludes room begun e end old new (Err (faults.NoToken place character)) = ⊥
Concludes room begun e end old new (Err (faults.EmptyModeStack place)) = ⊥
Concludes room begun e end old new (Err (faults.Tokens place)) = (room < length old + length (made begun e end))
    × (place ≡ begun.from.place)
Concludes room begun e end old new (Err faults.NoMemory) = Unit {0}

-- the tokens that the parser sees, but for those that close the file: those of channel 0
abbrev pub visible : List Token → List Token
visible tokens = filter (λ (t : Token). t.channel == 0) tokens

-- what follows the tokens of a file that ends at the position: four of EOF and one of END
abbrev pub closing_at : Position → List Token
closing_at end = token_between eof 0 end end ∷ token_between eof 0 end end ∷ token_between eof 0 end end ∷ token_between eof 0 end end
    ∷ token_between end_of_list 0 end end ∷ []

-- what follows the tokens of a file of these characters, at its end
abbrev pub closing_tokens : List ℕ → List Token
closing_tokens text = closing_at (position_after first_position text)

-- the token begins and ends in a file of this many bytes
abbrev pub EndsBy : ℕ → Token → Type 0
EndsBy bytes token = (token.start ≤ token.end) × (token.end ≤ bytes)

-- the token has a text: a byte or more of its file
abbrev pub HasText : Token → Type 0
HasText token = token.start < token.end
