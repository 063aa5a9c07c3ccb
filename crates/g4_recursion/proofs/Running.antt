-- Rules without a fault can be run.
use Rattle.std.proofs.Common.{◌≡◌, ◌+◌, ℕ, List, Some, refl, subst}
use Rattle.std.specs.List.{slice_get}
use Rattle.g4_source.specs.Elements.{Elements, Alternatives}
use Rattle.g4_source.specs.declared.rule.Rule.{Rule}
use Rattle.g4_source.specs.declared.rule.Rule.TheVariants.{Parser, Lexer}
use Rattle.g4_source.specs.Rules.{lexer_alternatives_of}
use Rattle.g4_source.specs.Atoms.{AtomIn, body_of, bodies_of}
use Rattle.g4_grammar.specs.LeftCalls.{AllNullable}
use Rattle.g4_grammar.specs.OwnCalls.{IsOneOf, IsOperator, HasEmptyOperator}
use Rattle.g4_grammar.specs.Written.{CallsIn, OwnIn, ReadsIn, RulesCanRun}
use Rattle.g4_recursion.specs.Checking.{HaveNoFault}
use Rattle.g4_recursion.specs.Checking as checking
use Rattle.g4_recursion.proofs.Bridge.{no_lexer_operator, one_place}
use Rattle.g4_recursion.proofs.Over.{mapped_back}

module _ (rules : List Rule) where
  -- an operator that can be passed without reading is an empty operator by its number
  numbered : (k : ℕ) (rule : Rule) → slice_get rules k ≡ Some rule → (x rest : Elements AtomIn) → IsOneOf (body_of rule) x
      → IsOperator (OwnIn rules) k x rest → AllNullable ReadsIn (CallsIn rules) (bodies_of rules) rest → checking.HasEmptyOperator rules k
  numbered k (Parser rule) at x rest one begins null =
      let (place, among) = one_place rule.alternatives x one in
      (place + 1, (rest, (x, record { rule = rule; at = at; place = place; number = refl; among = among }, begins), null))
  numbered k (Lexer rule) at x rest one begins null = absurd (no_lexer_operator rules k (lexer_alternatives_of rule) x rest one begins)

  -- a rule with such an operator has an empty operator by its number
  empty_operator : (k : ℕ) (xs : Alternatives AtomIn) → slice_get (bodies_of rules) k ≡ Some xs
      → HasEmptyOperator ReadsIn (CallsIn rules) (OwnIn rules) (bodies_of rules) k xs → checking.HasEmptyOperator rules k
  empty_operator k xs at (x, rest, one, begins, null) =
      let (rule, there, is) = mapped_back body_of rules k xs at in
      numbered k rule there x rest (subst (λ (ys : Alternatives AtomIn). IsOneOf ys x) is one) begins null

  -- where nothing is reported, no loop can be empty, each rule with an operator has a primary, no operator can be passed without
  -- reading, and no rule reaches itself by left calls
  pub can_run : HaveNoFault rules → RulesCanRun rules
  can_run none = record {
    loops = none.0.1;
    primaries = λ k xs at lacks. none.0.0.0 k (xs, at, lacks);
    operators = λ k xs at has. none.0.0.1 k (empty_operator k xs at has);
    cycles = none.1;
  }
