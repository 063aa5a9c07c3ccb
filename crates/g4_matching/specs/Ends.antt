-- Ends of rules in a list of entries.
use Rattle.std.specs.Prelude.{◌≡◌, ℕ, ◌⊎◌, List, Option, Some, None, slice_get}
use Rattle.g4_net.specs.Network.{state_at}
use Rattle.g4_ordered.specs.Network.{LexerNetwork}
use Rattle.g4_ordered.specs.Configurations.{LexerConfig, In}
use Rattle.g4_ordered.specs.Lists.{IsEndBy, IsCharacterBy, IsAtEnd}
use Rattle.g4_ordered.specs.Matching.{IsLeastEnd}
use Rattle.g4_matching.specs.declared.entry.Entry.{Entry}
use Rattle.g4_matching.specs.declared.rule_end.RuleEnd.{RuleEnd}

-- the entry is at the end of its rule
abbrev pub EndsAt : LexerNetwork → Entry → Type 0
EndsAt net e = IsEndBy (state_at net e.state) × (e.returns ≡ 0)

-- the entry is kept
abbrev pub KeptAt : LexerNetwork → Entry → Type 0
KeptAt net e = IsCharacterBy (state_at net e.state) ⊎ EndsAt net e

-- the list has an end of the rule
abbrev pub HasRuleEnd : LexerNetwork → List Entry → ℕ → Type 0
HasRuleEnd net list rule = (e : Entry) × In e list × (e.rule ≡ rule) × EndsAt net e

-- it has one at this place
abbrev pub IsEndAt : LexerNetwork → List Entry → ℕ → ℕ → Type 0
IsEndAt net list rule place = (e : Entry) × (slice_get list place ≡ Some e) × (e.rule ≡ rule) × EndsAt net e

-- for each rule whose end is in the list, the place of one is noted
abbrev pub AreEnds : LexerNetwork → List Entry → List ℕ → Type 0
AreEnds net list ends = (k : ℕ) (e : Entry) → slice_get list k ≡ Some e → EndsAt net e
    → (place : ℕ) × (slice_get ends e.rule ≡ Some place) × IsEndAt net list e.rule place

-- no rule ends in the list
abbrev pub HasNoEnd : LexerNetwork → List LexerConfig → Type 0
HasNoEnd net list = (e : LexerConfig) → In e list → IsAtEnd net e → ⊥

-- what the list gives: an end, or that no rule ends in it
abbrev pub TellsEnd : LexerNetwork → List LexerConfig → Option RuleEnd → Type 0
TellsEnd net list None = HasNoEnd net list
TellsEnd net list (Some end) = IsLeastEnd net list end.rule end.alternative
