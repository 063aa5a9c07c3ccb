use Rattle.std.proofs.Common.{◌≡◌, ℕ, ◌+◌, ◌<◌, ◌^◌, List, [], ◌∷◌, ◌++◌, length, take, ◌∙◌, subst, ap, sym, arith}
use Rattle.std.specs.List.{All}
use Rattle.std.proofs.lemmas.List.{take_more, take_all, length-take}
use Rattle.std.proofs.lemmas.List.Elements.{All-push}
use Rattle.g4_grammar.specs.declared.step.Numbering.{Numbering}
use Rattle.g4_grammar.specs.StepRules.{CanBeLaid, CanBeRewritten, StepRule}
use Rattle.g4_leftrec.specs.Rewriting.{formed, numbering_of, numberings, rewritten}
use Rattle.g4_leftrec.proofs.Fit.{made_fit}
use Rattle.g4_leftrec.proofs.Laid.{rewritten_can_be_laid}
use Rattle.g4_leftrec.proofs.Lists.{pushed_more}
use Rattle.g4_leftrec.proofs.rewriting.rewrite.Goals as goal

pub loop-rule-preserved : goal.loop-rule-preserved
loop-rule-preserved c =
    let items : List StepRule = c.as_slice-rule-items.result.now in
    let loop = c.loop-rule in
    let i : ℕ = loop.rule-index in
    let x = c.rule-item.result in
    let j : ℕ = c.in-Some.next in
    let seen : List StepRule = take i items in
    let more : j ≡ length seen + 1 = omega (arith, c.in-Some.ensures, loop.invariant.number, length-take i items, c.loop-rule-test.true) in
    let next : take (i + 1) items ≡ seen ++ x ∷ [] =
    take_more items i x c.loop-rule-test.true ∙ ap (λ (r : StepRule). seen ++ r ∷ []) (sym c.rule-item.is) in
    let made = c.in_ok-made.made in
    let numbers : Numbering → Type 0 = λ numbering. numbering.count + 1 < 2 ^ 32 in
    record {
      number = omega (arith, c.in-Some.ensures, loop.invariant.number);
      rules = pushed_more formed seen x j loop.laid.items c.push.new.self.items made.rule more c.in_ok-push.ensures.items
          (c.in_ok-made.ensures.rule ∙ ap (λ (r : StepRule). formed (j, r)) c.in_ok-rule.ensures) loop.invariant.rules
          ∙ ap rewritten (sym next);
      numberings = pushed_more numbering_of seen x j loop.numberings.items c.push-in-loop-rule.new.self.items made.numbering more
          c.in_ok-push-2.ensures.items (c.in_ok-made.ensures.numbering ∙ ap (λ (r : StepRule). numbering_of (j, r)) c.in_ok-rule.ensures)
          loop.invariant.numberings ∙ ap numberings (sym next);
      small = subst (All numbers) (sym c.in_ok-push-2.ensures.items) (All-push numbers loop.numberings.items made.numbering
          loop.invariant.small c.in_ok-made.ensures.small);
    }

pub new-requires-clause-laid : goal.new-requires-clause-laid
new-requires-clause-laid c =
    let items : List StepRule = c.as_slice-rule-items.result.now in
    subst CanBeLaid (sym (c.loop-rule.invariant.rules ∙ ap rewritten (take_all c.loop-rule.rule-index items c.loop-rule-test.false)))
    (rewritten_can_be_laid items
    (subst CanBeRewritten (sym c.as_slice-rule-items.ensures.rules) c.as_slice-rule-items.ensures.rewritable))

pub new-requires-clause-fit : goal.new-requires-clause-fit
new-requires-clause-fit c =
    let items : List StepRule = c.as_slice-rule-items.result.now in
    let all = take_all c.loop-rule.rule-index items c.loop-rule-test.false in
    made_fit items c.loop-rule.laid.items c.loop-rule.numberings.items
    (subst CanBeRewritten (sym c.as_slice-rule-items.ensures.rules) c.as_slice-rule-items.ensures.rewritable)
    (c.loop-rule.invariant.rules ∙ ap rewritten all) (c.loop-rule.invariant.numberings ∙ ap numberings all) c.loop-rule.invariant.small
