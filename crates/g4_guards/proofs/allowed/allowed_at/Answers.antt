use Rattle.std.proofs.Common.{rules, IsTrue, List, ℕ, Contains, sym, subst}
use Rattle.g4_guards.specs.Levels.{AreAllowedAt}
use Rattle.g4_guards.specs.Tests.{HasNoPredicate}
use Rattle.g4_guards.proofs.Meeting.{digits_allowed, every_allowed, listed_allowed}
use Rattle.g4_guards.proofs.Testing.{none_begins, some_begins}
use Rattle.g4_guards.proofs.allowed.allowed_at.Goals as goal

pub returns-then-has_predicate : goal.returns-then-has_predicate
returns-then-has_predicate c =
    let some = some_begins c.args.net.now c.args.decision c.firsts-targets.result.now c.firsts-targets.ensures (search rules) in
    subst (λ (xs : List ℕ). AreAllowedAt c.args.net.now c.args.decision c.args.condition (Contains xs)) (sym c.new.ensures)
    (digits_allowed c.args.net.now c.args.decision c.args.condition c.firsts-targets.result.now c.in_ok-found.found.items some.0 some.1
    c.in_ok-found.ensures)

pub returns-then-all_meet : goal.returns-then-all_meet
returns-then-all_meet c =
    let yes : IsTrue c.all_meet.result = search rules in
    let none : HasNoPredicate c.args.net.now c.args.decision =
    none_begins c.args.net.now c.args.decision c.firsts-targets.result.now c.firsts-targets.ensures c.requires (search rules) in
    every_allowed c.args.net.now c.args.decision c.args.condition c.firsts-targets.result.now c.firsts-targets.ensures none
    (c.all_meet.ensures yes)

pub returns : goal.returns
returns c =
    let none : HasNoPredicate c.args.net.now c.args.decision =
    none_begins c.args.net.now c.args.decision c.firsts-targets.result.now c.firsts-targets.ensures c.requires (search rules) in
    subst (λ (xs : List ℕ). AreAllowedAt c.args.net.now c.args.decision c.args.condition (Contains xs)) (sym c.new-2.ensures)
    (listed_allowed c.args.net.now c.args.decision c.args.condition c.firsts-targets.result.now c.in_ok-found-2.found.items
    c.firsts-targets.ensures none c.in_ok-found-2.ensures)
