-- What the atoms of rules do before anything is read, by the numbers of rules.
use Rattle.std.specs.Prelude.{◌≡◌, ◌<◌, ℕ, List, [], ◌∷◌, Bool, true, false, map, Option, Some, None, slice_get, codes, cond, length}
use Rattle.std.specs.Str.{bytes_eq}
use Rattle.g4_source.specs.Elements.{Alternatives, Elements}
use Rattle.g4_source.specs.Bind.{in_order_over}
use Rattle.g4_source.specs.declared.atom.AtomKind.{AtomKind}
use Rattle.g4_source.specs.declared.atom.AtomKind.TheVariants.{Rule as Reference, Token, Literal, Action, Predicate}
use Rattle.g4_source.specs.declared.rule.Rule.{Rule}
use Rattle.g4_source.specs.declared.rule.Rule.TheVariants as rule_variants
use Rattle.g4_source.specs.declared.kind.RuleKind.{RuleKind}
use Rattle.g4_source.specs.declared.kind.RuleKind.TheVariants.{Parser, Lexer}
use Rattle.g4_source.specs.Atoms.{AtomIn}
use Rattle.g4_grammar.specs.LeftCalls.{AllNullable}
use Rattle.g4_recursion.specs.declared.lead.Lead.{Lead}
use Rattle.g4_recursion.specs.declared.lead.Lead.TheVariants.{Empty, Symbol, Call}
use Rattle.g4_recursion.specs.Leads.{ReadsLead, CallsLead, FollowsCall}
use Rattle.g4_recursion.specs.Numbers.{rule_number}

-- a reference to the rule of this number. Where there is no such rule, it derives nothing, and in particular not the empty word
abbrev pub reference_lead : Option ℕ → Lead
reference_lead None = Symbol
reference_lead (Some k) = Call k

-- a text that is matched
abbrev pub text_lead : List ℕ → Lead
text_lead [] = Empty
text_lead (c ∷ cs) = Symbol

module _ (number_of : RuleKind → List ℕ → Option ℕ) where
  -- an atom of a rule of this kind, where names have these numbers; in a lexer rule the end of the file is the empty text
  abbrev pub lead_by : RuleKind → AtomKind → Lead
  lead_by Parser (Reference name) = reference_lead (number_of Parser name.text)
  lead_by Parser Action = Empty
  lead_by Parser (Predicate name) = Empty
  lead_by Parser a = Symbol
  lead_by Lexer (Token name) = cond (bytes_eq name.text (codes "EOF")) Empty (reference_lead (number_of Lexer name.text))
  lead_by Lexer (Literal literal) = text_lead literal.characters
  lead_by Lexer Action = Empty
  lead_by Lexer (Predicate name) = Empty
  lead_by Lexer a = Symbol

  -- the alternatives of a rule
  abbrev pub leads_by : Rule → List (Elements Lead)
  leads_by (rule_variants.Parser rule) = map (λ alternative. in_order_over (λ a. lead_by Parser a.kind) alternative.elements)
      rule.alternatives
  leads_by (rule_variants.Lexer rule) = map (λ alternative. in_order_over (λ a. lead_by Lexer a.kind) alternative.elements)
      rule.alternatives

-- an atom of one of the rules
abbrev pub lead_in : List Rule → AtomIn → Lead
lead_in rules a = lead_by (rule_number rules) a.kind a.atom.kind

-- the alternatives of each of the rules
abbrev pub leads_in : List Rule → List (List (Elements Lead))
leads_in rules = map (leads_by (rule_number rules)) rules

-- a parser rule may have operators, a lexer rule has none
abbrev pub may_have_operators : Rule → Bool
may_have_operators (rule_variants.Parser rule) = true
may_have_operators (rule_variants.Lexer rule) = false

-- the same of each of the rules
abbrev pub operators_in : List Rule → List Bool
operators_in rules = map may_have_operators rules

-- there are alternatives, and each begins with a call of rule k
pub record AllBegin (k : ℕ) (alternatives : List (Elements Lead)) : Type 0 where
  pub some : 0 < length alternatives
  pub each : (place : ℕ) (elements : Elements Lead) → slice_get alternatives place ≡ Some elements
      → (rest : Elements Lead) × FollowsCall k elements rest

-- the elements begin with a call of rule k, and what follows derives the empty word
abbrev pub IsEmptyAfterCall : List (Alternatives Lead) → ℕ → Elements Lead → Type 0
IsEmptyAfterCall rules k elements = (rest : Elements Lead) × FollowsCall k elements rest × AllNullable ReadsLead CallsLead rules rest

-- the alternative at this place does
abbrev pub IsEmptyAt : List (Alternatives Lead) → ℕ → List (Elements Lead) → ℕ → Type 0
IsEmptyAt rules k alternatives place = (elements : Elements Lead) × (slice_get alternatives place ≡ Some elements)
    × IsEmptyAfterCall rules k elements
