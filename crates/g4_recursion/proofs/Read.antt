-- What is found of the leads of a grammar is so of its rules.
use Rattle.std.proofs.Common.{◌≡◌, ◌↔◌, ℕ, zero, suc, ◌+◌, ◌<◌, List, [], ◌∷◌, length, map, get_or, Bool, IsTrue, Contains, Option, Some, None, Vec, Global, refl, sym, ap, ◌∙◌, subst, arith}
use Rattle.std.specs.List.{All, slice_get}
use Rattle.std.specs.Option.{IfSome, option_map}
use Rattle.std.proofs.lemmas.List.{length-map}
use Rattle.std.proofs.lemmas.Option.{same_Some, slice_get_read}
use Rattle.g4_source.specs.Elements.{Alternatives, Elements, either}
use Rattle.g4_source.specs.declared.rule.Rule.{Rule}
use Rattle.g4_source.specs.declared.rule.Rule.TheVariants.{Parser, Lexer}
use Rattle.g4_source.specs.declared.rule.ParserRule.{ParserRule}
use Rattle.g4_source.specs.declared.rule.LexerRule.{LexerRule}
use Rattle.g4_source.specs.declared.atom.Atom.{Atom}
use Rattle.g4_source.specs.Rules.{lexer_alternatives_of}
use Rattle.g4_source.specs.Atoms.{AtomIn, body_of}
use Rattle.g4_source.specs.Views.{rule_view}
use Rattle.g4_source.specs.declared.rules.RuleView.{RuleView}
use Rattle.g4_cycles.specs.Cycles.{Answers, IsFirstCycle}
use Rattle.g4_cycles.specs.Edges.{EdgeOf}
use Rattle.g4_cycles.proofs.SameEdges.{answer_carries}
use Rattle.g4_grammar.specs.OwnCalls.{IsOneOf, LeftCallsAsRun}
use Rattle.g4_grammar.specs.Loops.{SomeHasEmptyLoop}
use Rattle.g4_grammar.specs.Written.{HaveNoLeftCycle, RuleLeftCalls}
use Rattle.g4_horn.specs.Follows.{Tells}
use Rattle.g4_recursion.specs.declared.lead.Lead.{Lead}
use Rattle.g4_recursion.specs.declared.lead.LeadRule.{LeadRule}
use Rattle.g4_recursion.specs.Leads.{ReadsLead, CallsLead, IsNullableRule, OwnLead, alternatives_of, operators_of, trees_of}
use Rattle.g4_recursion.specs.Checking.{HasEmptyLoop, IsEmptyOperator, LacksPrimary}
use Rattle.g4_recursion.specs.Grammars.{AreLeads, rules_in}
use Rattle.g4_recursion.specs.AtomLeads.{AllBegin, IsEmptyAt, leads_by}
use Rattle.g4_recursion.specs.Least.{FindsLeast}
use Rattle.g4_recursion.specs.Numbers.{rule_number}
use Rattle.g4_recursion.specs.declared.grammar.Grammar.{Grammar}
use Rattle.g4_recursion.proofs.Bridge.{empty_loop, empty_operator, lacks_primary, least_same, made, no_left_cycle, no_lexer_operator, not_in_lexer, same_calls, first_within, trees}
use Rattle.g4_recursion.proofs.Leading.{parser_leads, trees_over}
use Rattle.g4_recursion.proofs.Over.{mapped_at}

-- an index of a list has an item
there_is : {X : Type 0} (xs : List X) (k : ℕ) → k < length xs → (x : X) × (slice_get xs k ≡ Some x)
there_is [] k within = absurd (omega (arith, within))
there_is (x ∷ xs) zero within = (x, refl)
there_is (x ∷ xs) (suc k) within = there_is xs k (omega (arith, within))

-- the rule at an index
pub rule_at : (g : Grammar) (k : ℕ) (view : RuleView) → k < length (rules_in g) → view ≡ get_or g.rules.items k view
    → slice_get (rules_in g) k ≡ Some (rule_view view)
rule_at g k view within item = mapped_at rule_view g.rules.items k view
    (slice_get_read g.rules.items (length g.rules.items) k view refl (omega (arith, within, length-map g.rules.items rule_view)) item)

module _ (g : Grammar) (leads : AreLeads g) where
  -- there are as many leads as rules
  pub as_many : length g.leads.items ≡ length (rules_in g)
  as_many = sym (length-map g.leads.items (λ (lead : LeadRule). lead.alternatives))
      ∙ (ap length leads.leads ∙ length-map (rules_in g) (leads_by (rule_number (rules_in g))))

  -- the leads of a rule
  lead_at : (k : ℕ) (rule : Rule) (lead : LeadRule) → k < length (rules_in g) → slice_get (rules_in g) k ≡ Some rule
      → lead ≡ get_or g.leads.items k lead → lead.alternatives ≡ leads_by (rule_number (rules_in g)) rule
  lead_at k rule lead within at item =
      let here : slice_get g.leads.items k ≡ Some lead =
      slice_get_read g.leads.items (length g.leads.items) k lead refl (omega (arith, within, as_many)) item in
      let made = mapped_at (λ (l : LeadRule). l.alternatives) g.leads.items k lead here in
      same_Some lead.alternatives (leads_by (rule_number (rules_in g)) rule)
      (sym made ∙ (ap (λ (all : List (List (Elements Lead))). slice_get all k) leads.leads
      ∙ mapped_at (leads_by (rule_number (rules_in g))) (rules_in g) k rule at))

  -- it is known which of the rules over leads derive the empty word
  told : (nullable : List Bool) → nullable ≡ g.nullable.items → Tells nullable (IsNullableRule (trees (rules_in g)))
  told nullable is =
      subst (λ (ts : List (Alternatives Lead)). Tells nullable (IsNullableRule ts)) (trees_over (rules_in g) g.leads.items leads.leads)
      (subst (λ (ns : List Bool). Tells ns (IsNullableRule (trees_of g.leads.items))) (sym is) leads.nullable)

  module _ (k : ℕ) (lead : LeadRule) (within : k < length (rules_in g)) (item : lead ≡ get_or g.leads.items k lead) where
    -- a loop that can be empty
    pub loop_found : (nullable : List Bool) (answer : Bool) → nullable ≡ g.nullable.items →
        ((rules : List (Alternatives Lead)) → Tells nullable (IsNullableRule rules)
        → IsTrue answer ↔ SomeHasEmptyLoop ReadsLead CallsLead rules (alternatives_of lead))
        → IsTrue answer ↔ HasEmptyLoop (rules_in g) k
    loop_found nullable answer is found =
        let (rule, at) = there_is (rules_in g) k within in
        let here = subst (λ (xs : List (Elements Lead)). IsTrue answer
        ↔ SomeHasEmptyLoop ReadsLead CallsLead (trees (rules_in g)) (either xs)) (lead_at k rule lead within at item)
        (found (trees (rules_in g)) (told nullable is)) in
        let both = empty_loop (rules_in g) k rule at in
        (λ h. both.0 (here.0 h), λ h. here.1 (both.1 h))

    module _ (rule : ParserRule Atom) (at : slice_get (rules_in g) k ≡ Some (Parser rule)) (alternatives : List (Elements Lead))
        (whole : alternatives ≡ lead.alternatives) where
      -- the alternatives of the rule over leads
      over_leads : alternatives ≡ made (rules_in g) k rule at
      over_leads = whole ∙ (lead_at k (Parser rule) lead within at item ∙ parser_leads (rules_in g) rule.alternatives)

      -- each alternative begins with the rule itself
      pub primary_found : (answer : Bool) → (IsTrue answer ↔ AllBegin k alternatives) → IsTrue answer ↔ LacksPrimary (rules_in g) k
      primary_found answer found =
          let here = subst (λ (xs : List (Elements Lead)). IsTrue answer ↔ AllBegin k xs) over_leads found in
          let both = lacks_primary (rules_in g) k rule at in
          (λ h. both.0 (here.0 h), λ h. here.1 (both.1 h))

      -- an alternative begins with the rule itself and goes on with what derives the empty word
      pub operator_found : (nullable : List Bool) (answer : Option ℕ) → nullable ≡ g.nullable.items →
          ((rules : List (Alternatives Lead)) → Tells nullable (IsNullableRule rules)
          → FindsLeast (IsEmptyAt rules k alternatives) answer)
          → FindsLeast (λ place. IsEmptyOperator (rules_in g) k (place + 1)) answer
      operator_found nullable answer is found =
          least_same (IsEmptyAt (trees (rules_in g)) k (made (rules_in g) k rule at))
          (λ place. IsEmptyOperator (rules_in g) k (place + 1)) (empty_operator (rules_in g) k rule at) answer
          (subst (λ (xs : List (Elements Lead)). FindsLeast (IsEmptyAt (trees (rules_in g)) k xs) answer) over_leads
          (found (trees (rules_in g)) (told nullable is)))

  -- of a lexer rule neither is looked for
  module _ (k : ℕ) (rule : LexerRule) (at : slice_get (rules_in g) k ≡ Some (Lexer rule)) where
    -- it does not lack a primary
    pub no_primary_sought : LacksPrimary (rules_in g) k → ⊥
    no_primary_sought (body, there, lacks) =
        let same : body ≡ body_of (Lexer rule) = same_Some body (body_of (Lexer rule))
        (sym there ∙ mapped_at body_of (rules_in g) k (Lexer rule) at) in
        no_lexer_operator (rules_in g) k (lexer_alternatives_of rule) lacks.some.0 lacks.some.1
        (subst (λ (ys : Alternatives AtomIn). IsOneOf ys lacks.some.0) same lacks.some.2) lacks.some.3

    -- it has no empty operator
    pub no_operator_sought : (i : ℕ) → IsEmptyOperator (rules_in g) k i → ⊥
    no_operator_sought i (rest, (xs, alternative, begins), null) = not_in_lexer (rules_in g) k i xs rule at alternative

  -- the first cycle of the lists of left calls is that of the rules
  pub cycle_found : (lent : List LeadRule) (graph all : List (Vec ℕ Global)) (answer : Option (List ℕ)) → lent ≡ g.leads.items
      → graph ≡ all → length all ≡ length lent →
      ((k : ℕ) (listed : Vec ℕ Global) → slice_get all k ≡ Some listed → (j : ℕ)
      → Contains listed.items j ↔ LeftCallsAsRun ReadsLead CallsLead (OwnLead (operators_of lent)) (trees_of lent) k j)
      → Answers (EdgeOf graph) answer → Answers (RuleLeftCalls (rules_in g)) answer
  cycle_found lent graph all answer is same count listed found =
      let edges = same_calls (rules_in g) lent all (ap (map (λ (lead : LeadRule). lead.alternatives)) is ∙ leads.leads)
      (ap operators_of is ∙ leads.operators) count listed in
      answer_carries (EdgeOf all) (RuleLeftCalls (rules_in g)) edges answer
      (subst (λ (gr : List (Vec ℕ Global)). Answers (EdgeOf gr) answer) same found)

-- the rules of the first cycle are there
pub answer_within : (rules : List Rule) (found : Option (Vec ℕ Global))
    → Answers (RuleLeftCalls rules) (option_map (λ cycle. cycle.items) found)
    → IfSome found (λ cycle. All (λ rule. rule < length rules) cycle.items)
answer_within rules None h = tt
answer_within rules (Some cycle) h = first_within rules cycle.items h

-- a cycle that is found is the first one
pub cycle_first : (rules : List Rule) (found : Option (Vec ℕ Global)) (cycle : Vec ℕ Global) → found ≡ Some cycle
    → Answers (RuleLeftCalls rules) (option_map (λ c. c.items) found) → IsFirstCycle (RuleLeftCalls rules) cycle.items
cycle_first rules found cycle is h = subst (λ (o : Option (Vec ℕ Global)). Answers (RuleLeftCalls rules) (option_map (λ c. c.items) o)) is h

-- where none is found, no rule reaches itself
pub cycle_none : (rules : List Rule) (found : Option (Vec ℕ Global)) → ((cycle : Vec ℕ Global) → found ≡ Some cycle → ⊥)
    → Answers (RuleLeftCalls rules) (option_map (λ c. c.items) found) → HaveNoLeftCycle rules
cycle_none rules None absent h = no_left_cycle rules h
cycle_none rules (Some cycle) absent h = absurd (absent cycle refl)
