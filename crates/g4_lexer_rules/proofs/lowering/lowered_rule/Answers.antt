use Rattle.g4_source.specs.Bind.{in_order_bind}
use Rattle.g4_source.specs.declared.atom.Atom.{Atom}
use Rattle.g4_source.specs.declared.rule.LexerAlternative.{LexerAlternative}
use Rattle.g4_lexer_rules.specs.NetworkRules.{names_of}
use Rattle.g4_lexer_rules.specs.Steps.{element_of_kind}
use Rattle.g4_lexer_rules.proofs.Lists.{image_more}
use Rattle.g4_lexer_rules.proofs.lowering.lowered_rule.Goals as goal

pub loop-alternative-preserved : goal.loop-alternative-preserved
loop-alternative-preserved c =
    image_more (λ (x : LexerAlternative). in_order_bind (λ (a : Atom). element_of_kind (names_of c.args.stage.now.rules.now) a.kind)
    x.elements) c.as_slice-alternative-items.result.now c.loop-alternative.alternative-index c.alternative-item.result
    c.in_ok-substituted.field-0 c.loop-alternative.all.items c.push.new.self.items c.loop-alternative-test.true c.alternative-item.is
    c.in_ok-substituted.ensures c.in_ok-push.ensures.items c.loop-alternative.invariant
