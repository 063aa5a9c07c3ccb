-- The faults of how rules call each other before anything is read, and of loops that can be empty, in the order in which they
-- are looked for. Rules are numbered from 0 in order, those of both kinds together.
use Rattle.std.specs.Prelude.{◌≡◌, ℕ, ◌+◌, List, map, Some, slice_get}
use Rattle.g4_source.specs.Elements.{Elements, Alternatives}
use Rattle.g4_source.specs.Bind.{in_order_over}
use Rattle.g4_source.specs.declared.atom.Atom.{Atom}
use Rattle.g4_source.specs.declared.rule.ParserRule.{ParserRule}
use Rattle.g4_source.specs.declared.rule.Rule.{Rule}
use Rattle.g4_source.specs.declared.rule.Rule.TheVariants.{Parser}
use Rattle.g4_source.specs.Rules.{rule_name}
use Rattle.g4_source.specs.declared.kind.RuleKind.TheVariants as kinds
use Rattle.g4_source.specs.Atoms.{AtomIn, atom_in, bodies_of}
use Rattle.g4_grammar.specs.LeftCalls.{AllNullable}
use Rattle.g4_grammar.specs.Loops.{SomeHasEmptyLoop}
use Rattle.g4_grammar.specs.OwnCalls.{IsOperator}
use Rattle.g4_grammar.specs.OwnCalls as own_calls
use Rattle.g4_grammar.specs.Written.{CallsIn, HaveNoEmptyLoop, HaveNoLeftCycle, OwnIn, ReadsIn, RuleLeftCalls}
use Rattle.g4_cycles.specs.Cycles.{IsFirstCycle}
use Rattle.g4_recursion.specs.Least.{IsLeast}
use Rattle.g4_recursion.specs.declared.checking.RecursionFault.{RecursionFault}
use Rattle.g4_recursion.specs.declared.checking.RecursionFault.TheVariants.{NoPrimary, EmptyOperator, EmptyLoop, LeftCycle}

-- the alternatives of a parser rule in order
abbrev pub alternatives_in : ParserRule Atom → List (Elements AtomIn)
alternatives_in rule = map (λ alternative. in_order_over (atom_in kinds.Parser) alternative.elements) rule.alternatives

module _ (rules : List Rule) where
  -- the name of rule k
  abbrev pub IsNamed : ℕ → List ℕ → Type 0
  IsNamed k name = slice_get (map rule_name rules) k ≡ Some name

  -- the names of these rules in order
  abbrev pub AreNamed : List ℕ → List (List ℕ) → Type 0
  AreNamed ks names = map (slice_get (map rule_name rules)) ks ≡ map (λ name. Some name) names

  -- rule k is a parser rule, and this is its alternative i, counted from 1
  pub record IsAlternative (k i : ℕ) (elements : Elements AtomIn) : Type 0 where
    pub rule : ParserRule Atom
    pub at : slice_get rules k ≡ Some (Parser rule)
    pub place : ℕ
    pub number : i ≡ place + 1
    pub among : slice_get (alternatives_in rule) place ≡ Some elements

  -- alternative i of parser rule k begins with the rule itself, and these elements follow
  abbrev pub IsDirect : ℕ → ℕ → Elements AtomIn → Type 0
  IsDirect k i rest = (elements : Elements AtomIn) × IsAlternative k i elements × IsOperator (OwnIn rules) k elements rest

  -- some alternative of rule k begins with the rule itself, and so does each one
  abbrev pub LacksPrimary : ℕ → Type 0
  LacksPrimary k = (body : Alternatives AtomIn) × (slice_get (bodies_of rules) k ≡ Some body) × own_calls.LacksPrimary (OwnIn rules) k body

  -- alternative i of parser rule k begins with the rule itself, and what follows derives the empty word
  abbrev pub IsEmptyOperator : ℕ → ℕ → Type 0
  IsEmptyOperator k i = (rest : Elements AtomIn) × IsDirect k i rest × AllNullable ReadsIn (CallsIn rules) (bodies_of rules) rest

  -- parser rule k has such an alternative
  abbrev pub HasEmptyOperator : ℕ → Type 0
  HasEmptyOperator k = (i : ℕ) × IsEmptyOperator k i

  -- rule k has a loop whose body derives the empty word
  abbrev pub HasEmptyLoop : ℕ → Type 0
  HasEmptyLoop k = (body : Alternatives AtomIn) × (slice_get (bodies_of rules) k ≡ Some body)
      × SomeHasEmptyLoop ReadsIn (CallsIn rules) (bodies_of rules) body

  -- no parser rule lacks a primary
  abbrev pub HavePrimaries : Type 0
  HavePrimaries = (k : ℕ) → LacksPrimary k → ⊥

  -- and none has an empty operator
  abbrev pub HaveOperators : Type 0
  HaveOperators = HavePrimaries × ((k : ℕ) → HasEmptyOperator k → ⊥)

  -- and no rule has a loop that can be empty
  abbrev pub HaveLoops : Type 0
  HaveLoops = HaveOperators × HaveNoEmptyLoop rules

  -- and none reaches itself by left calls
  abbrev pub HaveNoFault : Type 0
  HaveNoFault = HaveLoops × HaveNoLeftCycle rules

  -- this is the name of the first rule with the property
  abbrev pub IsFirstRule : (ℕ → Type 0) → List ℕ → Type 0
  IsFirstRule P name = (k : ℕ) × IsLeast P k × IsNamed k name

  -- this is the name of the first rule with an empty operator, and the number of its first alternative that is one
  abbrev pub IsFirstOperator : List ℕ → ℕ → Type 0
  IsFirstOperator name i = (k : ℕ) × IsLeast HasEmptyOperator k × IsLeast (IsEmptyOperator k) i × IsNamed k name

  -- these are the names of the first cycle of left calls
  abbrev pub AreCycle : List (List ℕ) → Type 0
  AreCycle names = (cycle : List ℕ) × IsFirstCycle (RuleLeftCalls rules) cycle × AreNamed cycle names

  -- this is the fault that is reported: the first of the first kind that has one
  abbrev pub IsFault : RecursionFault → Type 0
  IsFault (NoPrimary name) = IsFirstRule LacksPrimary name
  IsFault (EmptyOperator name i) = HavePrimaries × IsFirstOperator name i
  IsFault (EmptyLoop name) = HaveOperators × IsFirstRule HasEmptyLoop name
  IsFault (LeftCycle names) = HaveLoops × AreCycle names
