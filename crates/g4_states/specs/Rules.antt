-- The states of rules while they are made.
use Rattle.std.specs.Prelude.{◌≡◌, ◌≢◌, ◌≤◌, ◌<◌, ◌⊎◌, ℕ, zero, suc, ◌+◌, ◌*◌, List, [], ◌∷◌, ◌++◌, length, sum_by, Some, slice_get}
use Rattle.g4_source.specs.Full.{IsSome, EachIsFull}
use Rattle.g4_source.specs.Elements.{Alternatives}
use Rattle.g4_grammar.specs.declared.step.Step.{Step}
use Rattle.g4_net.specs.declared.network.Network.{Network}
use Rattle.g4_net.specs.declared.network.State.{State}
use Rattle.g4_net.specs.declared.network.State.TheVariants.{End}
use Rattle.g4_net.specs.Network.{state_at, start_of, end_of}
use Rattle.g4_layout.specs.Layout.{LiesAsRule, RulesLie}
use Rattle.g4_layout.specs.Size.{states_of_rule}
use Rattle.g4_states.specs.Drafts.{Grows}

-- there is an alternative, and each block has one
abbrev pub TreeIsFull : {A : Type 0} → Alternatives A → Type 0
TreeIsFull xs = IsSome xs × EachIsFull xs

-- the same of each rule
abbrev pub AreFullTrees : {A : Type 0} → List (Alternatives A) → Type 0
AreFullTrees [] = Unit {0}
AreFullTrees (xs ∷ more) = TreeIsFull xs × AreFullTrees more

-- the network has the states at the rule's start and from n on
abbrev pub SharesRule : {L : Type 0} → Network L → List (State L) → ℕ → ℕ → Type 0
SharesRule net states rule n = (p : ℕ) → (p ≡ start_of rule) ⊎ (n ≤ p) → p < length states → state_at net p ≡ slice_get states p

-- the rule is laid out, its other states being new
pub record RuleIsLaid {L : Type 0} (old new : List (State L)) (rule : ℕ) (xs : Alternatives (Step L)) : Type 0 where
  pub size : length new ≡ length old + states_of_rule xs
  pub grown : Grows old new (start_of rule)
  pub lies : (net : Network L) → SharesRule net new rule (length old) → LiesAsRule net rule xs (length old) (length new)

-- a state of a rule's start and end, or from n on, of the rules before this one
abbrev pub IsBefore : ℕ → ℕ → ℕ → Type 0
IsBefore rule n p = (p < start_of rule) ⊎ (n ≤ p)

-- the network has the states of the rules before this one
abbrev pub SharesRules : {L : Type 0} → Network L → List (State L) → ℕ → ℕ → Type 0
SharesRules net states rule n = (p : ℕ) → IsBefore rule n p → p < length states → state_at net p ≡ slice_get states p

-- no rule from the first up to this one starts at the state
abbrev pub StartsNone : ℕ → ℕ → ℕ → Type 0
StartsNone first rule p = (j : ℕ) → first ≤ j → j < rule → p ≢ start_of j

-- each of `count` rules from the first on ends in its end state
abbrev pub HaveEnds : {L : Type 0} → Network L → ℕ → ℕ → Type 0
HaveEnds net first count = (j : ℕ) → first ≤ j → j < first + count → state_at net (end_of j) ≡ Some (End j)

-- The rules from the first up to this one are laid out, the rest being the last of all; their other states are new.
pub record HaveLaid {L : Type 0} (first : ℕ) (old now : List (State L)) (rule : ℕ) (all rest : List (Alternatives (Step L))) : Type 0 where
  pub size : length now + sum_by states_of_rule rest ≡ length old + sum_by states_of_rule all
  pub longer : length old ≤ length now
  pub kept : (p : ℕ) → p < length old → StartsNone first rule p → slice_get now p ≡ slice_get old p
  pub lie : (net : Network L) → SharesRules net now rule (length old) → HaveEnds net first (length all) → (m : ℕ)
      → RulesLie net rule rest (length now) m → RulesLie net first all (length old) m

-- where the states of each rule end, those of the first being the states from n on
abbrev pub ends_from : {A : Type 0} → ℕ → List (Alternatives A) → List ℕ
ends_from n [] = []
ends_from n (xs ∷ more) = (n + states_of_rule xs) ∷ ends_from (n + states_of_rule xs) more

-- the starts and ends of `count` rules, the starts being open
pub record HasHeads {L : Type 0} (count : ℕ) (states : List (State L)) : Type 0 where
  pub size : length states ≡ 2 * count
  pub ends : (j : ℕ) → j < count → slice_get states (end_of j) ≡ Some (End j)

-- the lists, that of the rule having one return state more, if there is one
abbrev pub with_return : ℕ → ℕ → List (List ℕ) → List (List ℕ)
with_return rule back [] = []
with_return zero back (returns ∷ more) = (returns ++ back ∷ []) ∷ more
with_return (suc rule) back (returns ∷ more) = returns ∷ with_return rule back more
