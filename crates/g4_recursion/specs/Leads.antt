-- Rules whose atoms are seen by what they do before anything is read.
use Rattle.std.specs.Prelude.{◌≡◌, ℕ, List, [], ◌∷◌, Bool, true, map, Some, slice_get}
use Rattle.g4_source.specs.Elements.{atom, Elements, then, Alternatives, either}
use Rattle.g4_grammar.specs.LeftCalls.{OneNullable}
use Rattle.g4_recursion.specs.declared.lead.Lead.{Lead}
use Rattle.g4_recursion.specs.declared.lead.Lead.TheVariants.{Empty, Symbol, Call}
use Rattle.g4_recursion.specs.declared.lead.LeadRule.{LeadRule}

-- the words of an atom: a symbol represents whatever reads something, and a call reads nothing of its own
abbrev pub ReadsLead : Lead → List ℕ → Type 0
ReadsLead Empty w = w ≡ []
ReadsLead Symbol w = (symbol : ℕ) × (w ≡ symbol ∷ [])
ReadsLead (Call rule) w = ⊥

-- the rules that an atom calls
abbrev pub CallsLead : Lead → ℕ → Type 0
CallsLead Empty k = ⊥
CallsLead Symbol k = ⊥
CallsLead (Call rule) k = k ≡ rule

-- the alternatives of a rule as trees
abbrev pub alternatives_of : LeadRule → Alternatives Lead
alternatives_of rule = either rule.alternatives

-- the same of each rule
abbrev pub trees_of : List LeadRule → List (Alternatives Lead)
trees_of rules = map alternatives_of rules

-- of each rule, whether it may have operators
abbrev pub operators_of : List LeadRule → List Bool
operators_of rules = map (λ rule. rule.may_have_operators) rules

-- an atom with which an operator of rule k may begin: a call of rule k, which by these answers may have operators
abbrev pub OwnLead : List Bool → Lead → ℕ → Type 0
OwnLead operators a k = CallsLead a k × (slice_get operators k ≡ Some true)

-- the elements begin with a plain call of rule k, and the others follow it
abbrev pub FollowsCall : ℕ → Elements Lead → Elements Lead → Type 0
FollowsCall k elements rest = elements ≡ then (atom (Call k)) rest

-- rule k derives the empty word
abbrev pub IsNullableRule : List (Alternatives Lead) → ℕ → Type 0
IsNullableRule rules k = (xs : Alternatives Lead) × (slice_get rules k ≡ Some xs) × OneNullable ReadsLead CallsLead rules xs
