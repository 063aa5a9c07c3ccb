-- Where a match may begin.
use Rattle.std.specs.Prelude.{◌≡◌, ◌≤◌, ◌==◌, ℕ, zero, suc, ◌+◌, List, [], ◌∷◌, ◌++◌, length, map, Bool, true, false, cond, codes, Option, Some, None, slice_get}
use Rattle.std.specs.List.{range_with_len}
use Rattle.std.specs.Option.{unwrap_or}
use Rattle.g4_source.specs.declared.rule.LexerAlternative.{LexerAlternative}
use Rattle.g4_source.specs.declared.rule.LexerRule.{LexerRule}
use Rattle.g4_names.specs.Places.{first_place}
use Rattle.g4_net.specs.declared.network.State.{State}
use Rattle.g4_net.specs.declared.network.TheConstants.{MOST_STATES}
use Rattle.g4_net.specs.declared.network.State.TheVariants.{Decision, End, Edge, Call, Predicate, Level, Action, Empty}
use Rattle.g4_net.specs.Network.{start_of}
use Rattle.g4_ordered.specs.declared.network.Reads.{Reads}
use Rattle.g4_ordered.specs.declared.start.Start.{Start}

-- the alternatives of a rule from this number on begin at these states
abbrev pub numbered_starts : ℕ → ℕ → List ℕ → List Start
numbered_starts rule alternative [] = []
numbered_starts rule alternative (p ∷ ps) = record { rule = rule; alternative = alternative; state = p }
    ∷ numbered_starts rule (alternative + 1) ps

-- where several alternatives of a rule begin whose start is this state: at the first states of its decision
abbrev pub decided_starts : ℕ → Option (State Reads) → List Start
decided_starts rule None = []
decided_starts rule (Some (Decision targets)) = numbered_starts rule 1 targets
decided_starts rule (Some (End ended)) = []
decided_starts rule (Some (Edge label t)) = []
decided_starts rule (Some (Call called level back)) = []
decided_starts rule (Some (Predicate k t)) = []
decided_starts rule (Some (Level q t)) = []
decided_starts rule (Some (Action t)) = []
decided_starts rule (Some (Empty t)) = []

-- where the alternatives of a rule begin: one at the rule's start itself
abbrev pub rule_starts : List (State Reads) → ℕ → List LexerAlternative → List Start
rule_starts states rule [] = decided_starts rule (slice_get states (start_of rule))
rule_starts states rule (x ∷ []) = record { rule = rule; alternative = 1; state = start_of rule } ∷ []
rule_starts states rule (x ∷ y ∷ more) = decided_starts rule (slice_get states (start_of rule))

-- these starts, unless the rule is a fragment: no match begins with one
abbrev pub unless_fragment : Bool → List Start → List Start
unless_fragment false starts = starts
unless_fragment true starts = []

-- where a match of a rule may begin
abbrev pub matched_starts : List (State Reads) → ℕ → LexerRule → List Start
matched_starts states number rule = unless_fragment rule.fragment (rule_starts states number rule.alternatives)

-- where a match of one of these rules may begin, the first of which has this number
abbrev pub starts_from : List (State Reads) → ℕ → List LexerRule → List Start
starts_from states number [] = []
starts_from states number (rule ∷ rules) = matched_starts states number rule ++ starts_from states (number + 1) rules

-- the name of the mode of a rule
abbrev pub mode_name : LexerRule → List ℕ
mode_name rule = unwrap_or rule.mode (codes "DEFAULT_MODE")

-- the place is this one
abbrev pub is_place : ℕ → Option ℕ → Bool
is_place j None = false
is_place j (Some k) = k == j

-- the rule is in mode j of these names
abbrev pub is_in_mode : List (List ℕ) → ℕ → LexerRule → Bool
is_in_mode modes j rule = is_place j (first_place modes (mode_name rule))

-- where a match may begin in mode j with one of these rules, the first of which has this number
abbrev pub starts_in : List (State Reads) → List (List ℕ) → ℕ → ℕ → List LexerRule → List Start
starts_in states modes j number [] = []
starts_in states modes j number (rule ∷ rules) =
    cond (is_in_mode modes j rule) (matched_starts states number rule) [] ++ starts_in states modes j (number + 1) rules

-- where a match may begin in each of the modes of these names: with a literal, or with a rule of the mode
abbrev pub mode_starts : List (State Reads) → List LexerRule → List LexerRule → List (List ℕ) → List (List Start)
mode_starts states literals rules modes =
    map (λ j. starts_from states 0 literals ++ starts_in states modes j (length literals) rules) (range_with_len 0 (length modes))

-- the lists, these starts being added to list k
abbrev pub with_starts : ℕ → List Start → List (List Start) → List (List Start)
with_starts k more [] = []
with_starts zero more (starts ∷ all) = (starts ++ more) ∷ all
with_starts (suc k) more (starts ∷ all) = starts ∷ with_starts k more all

-- the lists of the modes of these names, the starts of a rule being added to that of its mode
abbrev pub with_starts_at : Option ℕ → List Start → List (List Start) → List (List Start)
with_starts_at None more all = all
with_starts_at (Some k) more all = with_starts k more all

abbrev pub with_rule : List (List ℕ) → LexerRule → List Start → List (List Start) → List (List Start)
with_rule modes rule starts all = with_starts_at (first_place modes (mode_name rule)) starts all

-- the same of rules, the first of which has this number
abbrev pub with_rules : List (State Reads) → List (List ℕ) → ℕ → List LexerRule → List (List Start) → List (List Start)
with_rules states modes number [] all = all
with_rules states modes number (rule ∷ rules) all =
    with_rules states modes (number + 1) rules (with_rule modes rule (matched_starts states number rule) all)

-- The rule has an alternative; its decision, where it has several, has no more edges than a network has states.
abbrev pub CanStart : List (State Reads) → ℕ → LexerRule → Type 0
CanStart states number rule = (1 ≤ length rule.alternatives)
    × ((targets : List ℕ) → 2 ≤ length rule.alternatives → slice_get states (start_of number) ≡ Some (Decision targets)
    → length targets ≤ MOST_STATES)

-- the same of rules, the first of which has this number
abbrev pub AllCanStart : List (State Reads) → ℕ → List LexerRule → Type 0
AllCanStart states number [] = Unit {0}
AllCanStart states number (rule ∷ rules) = CanStart states number rule × AllCanStart states (number + 1) rules
