use Rattle.std.proofs.Common.{◌≡◌, ◌+◌, List, length, Some, Vec, ℕ, refl, sym, ap, subst, arith}
use Rattle.std.specs.Global.{Global}
use Rattle.std.specs.List.{slice_get}
use Rattle.std.proofs.lemmas.List.{length-append}
use Rattle.std.proofs.lemmas.Option.{slice_get_read}
use Rattle.g4_recursion.specs.declared.lead.LeadRule.{LeadRule}
use Rattle.g4_recursion.specs.Leads.{alternatives_of, operators_of, trees_of}
use Rattle.g4_recursion.proofs.LeadsRunning.{AreLeftCalls, left_calls_more}
use Rattle.g4_recursion.proofs.Trees.{mapped_at}
use Rattle.g4_recursion.proofs.calls.left_calls.Goals as goal

pub loop-number-preserved : goal.loop-number-preserved
loop-number-preserved c =
    let rules = c.args.rules.now in
    let i = c.loop-number.number in
    let rule = c.index-rules-number.result in
    let item : slice_get rules i ≡ Some rule = slice_get_read rules (length rules) i rule refl c.loop-number-test.true
    c.index-rules-number.is in
    let here : slice_get (trees_of rules) i ≡ Some (alternatives_of rule) = mapped_at alternatives_of rules i rule item in
    let may : slice_get (operators_of rules) i ≡ Some rule.may_have_operators =
    mapped_at (λ (r : LeadRule). r.may_have_operators) rules i rule item in
    let one = c.in_ok-of_rule.ensures (trees_of rules) (operators_of rules) c.requires may in
    let longer : length c.push.new.self.items ≡ i + 1 =
    omega (arith, ap length c.in_ok-push.ensures.items, length-append {A = Vec ℕ Global}, c.loop-number.invariant.0) in (
      longer,
      subst (AreLeftCalls (trees_of rules) (operators_of rules)) (sym {A = List (Vec ℕ Global)} c.in_ok-push.ensures.items)
          (left_calls_more (trees_of rules) (operators_of rules) c.loop-number.all.items c.in_ok-of_rule.field-0 i
          (alternatives_of rule) c.loop-number.invariant.0 here one c.loop-number.invariant.1),
    )
