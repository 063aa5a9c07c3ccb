use Rattle.std.proofs.Common.{ℕ, List, sym, subst}
use Rattle.g4_source.specs.declared.rule.Rule.{Rule}
use Rattle.g4_recursion.specs.Checking.{AreNamed, HaveNoFault, IsEmptyOperator, IsFault}
use Rattle.g4_recursion.specs.Grammars.{rules_in}
use Rattle.g4_recursion.specs.Least.{IsLeast}
use Rattle.g4_recursion.specs.declared.checking.RecursionFault.TheVariants.{NoPrimary, EmptyOperator, EmptyLoop, LeftCycle}
use Rattle.g4_recursion.proofs.Bridge.{no_empty_loop}
use Rattle.g4_recursion.proofs.Read.{cycle_first, cycle_none}
use Rattle.g4_recursion.proofs.checking.check_recursion.Goals as goal

pub returns-in-Some : goal.returns-in-Some
returns-in-Some c = subst (λ (rules : List Rule). IsFault rules (NoPrimary c.in_ok-name.field-0))
    c.in_ok-grammar.ensures.rules (c.in-Some.rule, c.in-Some.ensures.first, c.in_ok-name.ensures)

pub returns-in-Some-first_empty_operator : goal.returns-in-Some-first_empty_operator
returns-in-Some-first_empty_operator c =
    let found = c.in-Some-first_empty_operator in
    let rules = rules_in c.in_ok-grammar.grammar in
    let least = subst (λ (n : ℕ). IsLeast (IsEmptyOperator rules found.rule) n) (sym c.in_ok-number_at.ensures) found.ensures.first.1 in
    subst (λ (rules : List Rule). IsFault rules (EmptyOperator c.in_ok-name-2.name c.in_ok-number_at.field-0))
    c.in_ok-grammar.ensures.rules (c.in_default.ensures.first, (found.rule, found.ensures.first.0, least, c.in_ok-name-2.ensures))

pub returns-in-Some-first_empty_loop : goal.returns-in-Some-first_empty_loop
returns-in-Some-first_empty_loop c =
    let found = c.in-Some-first_empty_loop in
    subst (λ (rules : List Rule). IsFault rules (EmptyLoop c.in_ok-name-3.field-0)) c.in_ok-grammar.ensures.rules (
      (c.in_default.ensures.first, c.in_default-first_empty_operator.ensures.first),
      (found.rule, found.ensures.first, c.in_ok-name-3.ensures),
    )

pub returns-in-Some-2 : goal.returns-in-Some-2
returns-in-Some-2 c =
    let rules = rules_in c.in_ok-grammar.grammar in
    let cycle = c.in-Some-2.cycle in
    let first = cycle_first rules c.in_ok-cycle.field-0 cycle c.in-Some-2.is c.in_ok-cycle.ensures.first in
    let named = subst (λ (ks : List ℕ). AreNamed rules ks c.in_ok-names.names) c.as_slice.ensures.value c.in_ok-names.ensures in
    subst (λ (rules : List Rule). IsFault rules (LeftCycle c.in_ok-names.names)) c.in_ok-grammar.ensures.rules (
      (
        (c.in_default.ensures.first, c.in_default-first_empty_operator.ensures.first),
        no_empty_loop rules c.in_default-first_empty_loop.ensures.first,
      ),
      (cycle.items, first, named),
    )

pub returns : goal.returns
returns c =
    let rules = rules_in c.in_ok-grammar.grammar in
    subst (λ (rules : List Rule). HaveNoFault rules) c.in_ok-grammar.ensures.rules (
      (
        (c.in_default.ensures.first, c.in_default-first_empty_operator.ensures.first),
        no_empty_loop rules c.in_default-first_empty_loop.ensures.first,
      ),
      cycle_none rules c.in_ok-cycle.field-0 c.in_default-2.not-Some c.in_ok-cycle.ensures.first,
    )
