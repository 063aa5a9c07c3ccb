-- What the calls on whole texts answer. This serves only contracts of private calls: `read_grammar` does not rest on it.
use Rattle.std.specs.Prelude.{◌≡◌, ℕ, List, Result, Ok, Err}
use Rattle.g4_source.specs.declared.source.Source.{Source}
use Rattle.g4_syntax.specs.Notation.{Spelled}
use Rattle.g4_syntax.specs.Productions.{grammar}
use Rattle.g4_cursor.specs.Sets.{HasNoBad}
use Rattle.g4_productions.specs.Grammars.{IsGrammarText, HasBadSetAt}
use Rattle.g4_productions.specs.Nesting.{NoneTooDeep, IsNested}
use Rattle.g4_reader.specs.Reading.{Fault, IsFirstFault}
use Rattle.g4_reader.specs.declared.reader.ReadFault.{ReadFault}
use Rattle.g4_reader.specs.declared.reader.ReadFault.TheVariants as faults

-- the call's fault is this one, unless memory runs out
abbrev pub IsFault : Fault → ReadFault → Type 0
IsFault fault (faults.Syntax place characters) = fault ≡ record { place = place; characters = characters }
IsFault fault (faults.BadSet place) = ⊥
IsFault fault faults.Nesting = ⊥
IsFault fault (faults.NotUtf8 at) = ⊥
IsFault fault faults.NoMemory = Unit {0}

-- the call answers with the grammar that the tokens of the text are, or with their first fault, bad set or bracket that opens too
-- deep, whichever comes first, unless memory runs out
abbrev pub IsReadingOf : List ℕ → List Spelled → Result Source ReadFault → Type 0
IsReadingOf bytes tokens (Ok source) = IsGrammarText tokens source × HasNoBad grammar tokens × NoneTooDeep tokens
IsReadingOf bytes tokens (Err (faults.Syntax place characters)) =
    IsFirstFault bytes tokens (record { place = place; characters = characters })
IsReadingOf bytes tokens (Err (faults.BadSet place)) = HasBadSetAt tokens place
IsReadingOf bytes tokens (Err faults.Nesting) = IsNested tokens
IsReadingOf bytes tokens (Err (faults.NotUtf8 at)) = ⊥
IsReadingOf bytes tokens (Err faults.NoMemory) = Unit {0}
