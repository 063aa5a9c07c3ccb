use Rattle.g4_source.specs.Bind.{in_order_over}
use Rattle.g4_source.specs.declared.atom.Atom.{Atom}
use Rattle.g4_source.specs.declared.rule.LexerAlternative.{LexerAlternative}
use Rattle.g4_recursion.specs.AtomLeads.{lead_by}
use Rattle.g4_recursion.specs.Numbers.{number_in}
use Rattle.g4_recursion.proofs.Searching.{image_more}
use Rattle.g4_recursion.proofs.leads.lexer_leads.Goals as goal

pub loop-alternative-preserved : goal.loop-alternative-preserved
loop-alternative-preserved c =
    let stage = c.args.stage.now in
    image_more (λ (alternative : LexerAlternative).
    in_order_over (λ (a : Atom). lead_by (number_in stage.numbers.now) stage.kind a.kind) alternative.elements)
    c.as_slice-alternative-items.result.now c.loop-alternative.alternative-index c.alternative-item.result
    c.in_ok-substituted.field-0 c.loop-alternative.all.items c.push.new.self.items c.loop-alternative-test.true c.alternative-item.is
    c.in_ok-substituted.ensures c.in_ok-push.ensures.items c.loop-alternative.invariant
