-- What the reading of a text's tokens says of the text.
use Rattle.std.proofs.Common.{◌≡◌, ℕ, List, ◌++◌, Result, Ok, Err, inr, refl, sym}
use Rattle.g4_grammar_tokens.specs.Answers.{HasTokens}
use Rattle.g4_grammar_tokens.specs.declared.token.Token.{Token}
use Rattle.g4_source.specs.declared.source.Source.{Source}
use Rattle.g4_syntax.specs.Notation.{Spelled}
use Rattle.g4_syntax.specs.Productions.{grammar}
use Rattle.g4_syntax.specs.Trees.{TextStops}
use Rattle.g4_syntax.proofs.FirstStop.{begins_text, ends_text}
use Rattle.g4_cursor.specs.Texts.{spelled}
use Rattle.g4_cursor.specs.Sets.{HasNoBad}
use Rattle.g4_productions.specs.Nesting.{NoneTooDeepBefore}
use Rattle.g4_reader.specs.Answering.{IsFault, IsReadingOf}
use Rattle.g4_reader.specs.Reading.{HasSpelled, IsCut, IsReading, fault_at}
use Rattle.g4_reader.specs.declared.reader.ReadFault.{ReadFault}
use Rattle.g4_reader.specs.declared.reader.ReadFault.TheVariants.{NotUtf8, Syntax, BadSet, Nesting, NoMemory}

-- where reading stops, the tokens are cut
pub cut_from : (tokens front rest : List Spelled) → tokens ≡ front ++ rest → TextStops tokens rest → IsCut tokens front rest
cut_from tokens front rest parts stop = record
    { parts = parts; begins = begins_text tokens front rest parts stop; ends = ends_text tokens front rest parts stop }

-- the fault before which reading the tokens stops, unless memory runs out, is a reading
pub stopped_is : (bytes : List ℕ) (tokens front rest : List Spelled) (fault : ReadFault) → IsCut tokens front rest
    → HasNoBad grammar tokens → NoneTooDeepBefore tokens rest → IsFault (fault_at bytes rest) fault → IsReadingOf bytes tokens (Err fault)
stopped_is bytes tokens front rest (Syntax place characters) cut good shallow is =
    record { front = front; rest = rest; cut = cut; good = good; shallow = shallow; is = sym is }
stopped_is bytes tokens front rest (BadSet place) cut good shallow none = absurd none
stopped_is bytes tokens front rest Nesting cut good shallow none = absurd none
stopped_is bytes tokens front rest (NotUtf8 at) cut good shallow none = absurd none
stopped_is bytes tokens front rest NoMemory cut good shallow reported = tt

-- the bytes have their tokens with their bytes
pub spelled_is : (bytes : List ℕ) (tokens : List Token) → HasTokens bytes tokens → HasSpelled bytes (spelled bytes tokens)
spelled_is bytes tokens has = record { scanned = tokens; has = has; are = refl }

-- a reading of the tokens of a text is a reading of the text
pub IsReading-from : (bytes : List ℕ) (tokens : List Token) (result : Result Source ReadFault) → HasTokens bytes tokens
    → IsReadingOf bytes (spelled bytes tokens) result → IsReading bytes result
IsReading-from bytes tokens (Ok source) has (is, good, shallow) =
    record { tokens = spelled bytes tokens; has = spelled_is bytes tokens has; is = is; good = good; shallow = shallow }
IsReading-from bytes tokens (Err (Syntax place characters)) has first = inr (spelled bytes tokens, spelled_is bytes tokens has, first)
IsReading-from bytes tokens (Err (BadSet place)) has first = (spelled bytes tokens, spelled_is bytes tokens has, first)
IsReading-from bytes tokens (Err Nesting) has nested = (spelled bytes tokens, spelled_is bytes tokens has, nested)
IsReading-from bytes tokens (Err (NotUtf8 at)) has none = absurd none
IsReading-from bytes tokens (Err NoMemory) has given = tt
