-- Steps: what they read, which rule they call, and the added rule.
use Rattle.std.specs.Prelude.{◌≡◌, ℕ, List, [], ◌∷◌, true, None, Contains}
use Rattle.g4_tokens.specs.Symbols.{end_of_list}
use Rattle.g4_source.specs.declared.element.Repeat.{Repeat}
use Rattle.g4_source.specs.declared.element.Repeat.TheVariants.{Star}
use Rattle.g4_source.specs.Elements.{atom, block, empty, then, Alternatives, only}
use Rattle.g4_grammar.specs.declared.step.Step.{Step}
use Rattle.g4_grammar.specs.declared.step.Step.TheVariants.{Edge, Call, Predicate, Level, Action, Empty}

-- the words of a step, given what labels take: one symbol that its label takes; a call reads nothing of its own, and any other
-- step reads the empty word
abbrev pub ReadsStep : {L : Type 0} → (L → ℕ → Type 0) → Step L → List ℕ → Type 0
ReadsStep Takes (Edge label) w = (a : ℕ) × Takes label a × (w ≡ a ∷ [])
ReadsStep Takes (Call rule level) w = ⊥
ReadsStep Takes (Predicate k) w = w ≡ []
ReadsStep Takes (Level q) w = w ≡ []
ReadsStep Takes Action w = w ≡ []
ReadsStep Takes Empty w = w ≡ []

-- the step calls the rule of this number
abbrev pub CallsRule : {L : Type 0} → Step L → ℕ → Type 0
CallsRule (Edge label) k = ⊥
CallsRule (Call rule level) k = k ≡ rule
CallsRule (Predicate n) k = ⊥
CallsRule (Level q) k = ⊥
CallsRule Action k = ⊥
CallsRule Empty k = ⊥

-- the words of a parser's step, whose labels are sets of symbols
abbrev pub ReadsSymbols : Step (List ℕ) → List ℕ → Type 0
ReadsSymbols = ReadsStep Contains

-- `*`, greedy
abbrev pub any_number : Repeat
any_number = Star (record { greedy = true })

-- the added rule of a start rule S: S x* END, where x is any symbol of the set
abbrev pub added_rule : List ℕ → ℕ → Alternatives (Step (List ℕ))
added_rule set start = only (then (atom (Call start 0))
    (then (block None any_number (only (then (atom (Edge set)) empty))) (then (atom (Edge (end_of_list ∷ []))) empty)))
