-- What is written of a file, as bytes.
use Rattle.std.specs.Prelude.{ℕ, List, [], ◌∷◌, ◌++◌, Option, Some, None, codes, slice_get}
use Rattle.std.specs.Fmt.{decimal}
use Rattle.g4_base.specs.declared.place.Place.{Place}
use Rattle.g4_base.specs.Place.{first_place}
use Rattle.g4_base.specs.Shown.{shown}
use Rattle.g4_netlist.specs.Listing.{name_of}
use Rattle.g4_netlist.specs.Shown.{shown_set}
use Rattle.g4_net.specs.declared.network.State.{State}
use Rattle.g4_net.specs.declared.network.State.TheVariants.{Decision, End, Edge, Call, Predicate, Level, Action, Empty}
use Rattle.g4_net.specs.Network.{ParserNetwork, state_at}
use Rattle.g4_tokens.specs.declared.token.Token.{Token}
use Rattle.g4_tokens.specs.declared.token.Tokens.{Tokens}
use Rattle.g4_grammar.specs.StepRules.{StepRule}
use Rattle.g4_trees.specs.declared.events.Event.{Event}
use Rattle.g4_trees.specs.Events.{event_lines}
use Rattle.g4_trees.specs.TreeText.{text_at}
use Rattle.g4_trees.specs.TokenLines.{token_lines}
use Rattle.g4_outcome.specs.declared.line.Line.{Line}
use Rattle.g4_outcome.specs.declared.line.Line.TheVariants.{ToOut, ToErr}

-- `NAME: line L:C `
abbrev pub at_place : List ℕ → Place → List ℕ
at_place name place = name ++ (codes ": line " ++ (decimal place.line ++ (codes ":" ++ (decimal place.column ++ codes " "))))

-- the symbols that a state's edge takes
abbrev pub taken_by : Option (State (List ℕ)) → List ℕ
taken_by None = []
taken_by (Some (Edge set t)) = set
taken_by (Some (Decision targets)) = []
taken_by (Some (End rule)) = []
taken_by (Some (Call rule level back)) = []
taken_by (Some (Predicate k t)) = []
taken_by (Some (Level q t)) = []
taken_by (Some (Action t)) = []
taken_by (Some (Empty t)) = []

-- the place of a token that was looked up, the start where there is none
abbrev pub place_by : Option Token → Place
place_by None = first_place
place_by (Some token) = token.place

-- the place of the token at a place of the list
abbrev pub place_of_token : List Token → ℕ → Place
place_of_token list at = place_by (slice_get list at)

-- the line of a tree
abbrev pub line_of_tree : List ℕ → List ℕ → Line
line_of_tree name tree = ToOut (((name ++ codes ": ") ++ tree) ++ codes "\n")

-- the lines of events
abbrev pub line_of_events : List StepRule → Tokens → List ℕ → List Event → Line
line_of_events rules tokens name events = ToOut (event_lines rules tokens name events)

-- the lines of all tokens
abbrev pub line_of_tokens : List (List ℕ) → List ℕ → Tokens → Line
line_of_tokens types name tokens = ToOut (token_lines types name tokens)

-- the line of a token that a state does not take
abbrev pub mismatch_line : List (List ℕ) → ParserNetwork → List ℕ → Tokens → ℕ → ℕ → Line
mismatch_line types net name tokens at state =
    ToErr (((((at_place name (place_of_token tokens.list at) ++ codes "mismatched input '") ++ text_at tokens at)
    ++ codes "' expecting ") ++ shown_set types (taken_by (state_at net state))) ++ codes "\n")

-- the line of a token with which no alternative continues
abbrev pub no_viable_line : List ℕ → Tokens → ℕ → Line
no_viable_line name tokens at = ToErr (((at_place name (place_of_token tokens.list at) ++ codes "no viable alternative at input '")
    ++ text_at tokens at) ++ codes "'\n")

-- the line of a predicate that is false in an open rule
abbrev pub failed_predicate_line : List (List ℕ) → List ℕ → Tokens → ℕ → ℕ → Line
failed_predicate_line names name tokens at rule =
    ToErr (((at_place name (place_of_token tokens.list at) ++ codes "rule ") ++ name_of names rule) ++ codes " failed predicate\n")

-- the line of a call with too many rules open
abbrev pub too_deep_line : List ℕ → Tokens → ℕ → Line
too_deep_line name tokens at = ToErr (at_place name (place_of_token tokens.list at) ++ codes "more than 10000 open rules\n")

-- what is shown of a character, or of the end of the file
abbrev pub character_text : Option ℕ → List ℕ
character_text (Some c) = shown (c ∷ [])
character_text None = codes "<EOF>"

-- the line of a character at which no token begins, or of the end of the file in a token that has begun
abbrev pub no_token_line : List ℕ → Place → Option ℕ → Line
no_token_line name place character = ToErr (((at_place name place ++ codes "token recognition error at: '")
    ++ character_text character) ++ codes "'\n")

-- the line of a match whose command goes back to a mode, where none is pushed
abbrev pub empty_mode_stack_line : List ℕ → Place → Line
empty_mode_stack_line name place = ToErr (at_place name place ++ codes "mode stack is empty\n")

-- the line of a file with too many tokens: where the first of them past the limit begins
abbrev pub many_tokens_line : List ℕ → Place → Line
many_tokens_line name place = ToErr (at_place name place ++ codes "more than 1000000 tokens\n")

-- the line of bytes that are no UTF-8 text
abbrev pub not_utf8_line : List ℕ → ℕ → Line
not_utf8_line name at = ToErr (name ++ (codes ": byte " ++ (decimal at ++ codes ": not UTF-8\n")))

-- the line of a file past the limit
abbrev pub large_line : List ℕ → ℕ → Line
large_line name size = ToErr (name ++ (codes ": file of " ++ (decimal size ++ codes " bytes\n")))
