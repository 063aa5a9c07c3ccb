use Rattle.std.proofs.Common.{List, ℕ, true, false, sym, subst, arith}
use Rattle.g4_source.specs.Elements.{atom}
use Rattle.g4_recursion.specs.declared.lead.Lead.{Lead}
use Rattle.g4_recursion.specs.declared.lead.Lead.TheVariants.{Call}
use Rattle.g4_recursion.specs.Bodies.{AddsNeeds}
use Rattle.g4_recursion.proofs.Growing.{empty_lead, symbol_lead, call_lead, unknown_lead}
use Rattle.g4_recursion.proofs.clauses.add_need_of_lead.Goals as goal

pub returns-in-Empty : goal.returns-in-Empty
returns-in-Empty c = λ all bodies count. subst
    (λ (a : Lead). AddsNeeds all bodies (atom a) c.args.needs.now.items c.args.needs.now.items true) (sym c.in-Empty.is)
    (empty_lead all bodies c.args.needs.now.items)

pub returns-in-Symbol : goal.returns-in-Symbol
returns-in-Symbol c = λ all bodies count. subst
    (λ (a : Lead). AddsNeeds all bodies (atom a) c.args.needs.now.items c.args.needs.now.items false) (sym c.in-Symbol.is)
    (symbol_lead all bodies c.args.needs.now.items)

pub returns-in_ok-push-in-Call : goal.returns-in_ok-push-in-Call
returns-in_ok-push-in-Call c =
    let ns = c.args.needs.now.items in
    λ all bodies count. subst (λ (a : Lead). AddsNeeds all bodies (atom a) ns c.push.new.self.items true) (sym c.in-Call.is)
    (subst (λ (l : List ℕ). AddsNeeds all bodies (atom (Call c.in-Call.rule)) ns l true) (sym c.in_ok-push-in-Call.ensures.items)
    (call_lead all bodies ns c.in-Call.rule (omega (arith, c.if-rule-rules.true, count))))

pub returns-else-rule-rules : goal.returns-else-rule-rules
returns-else-rule-rules c = λ all bodies count.
    subst (λ (a : Lead). AddsNeeds all bodies (atom a) c.args.needs.now.items c.args.needs.now.items false) (sym c.in-Call.is)
    (unknown_lead all bodies c.args.needs.now.items c.in-Call.rule (omega (arith, c.if-rule-rules.false, count)))
