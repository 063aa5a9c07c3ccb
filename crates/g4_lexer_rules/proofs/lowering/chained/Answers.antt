use Rattle.std.proofs.Common.{◌∙◌, ap, map}
use Rattle.std.proofs.lemmas.List.{take_all}
use Rattle.g4_lexer_rules.proofs.Chains.{character_of, character_more, is_chained}
use Rattle.g4_lexer_rules.proofs.lowering.chained.Goals as goal

pub loop-character-preserved : goal.loop-character-preserved
loop-character-preserved c =
    character_more c.args.characters.now c.loop-character.character-index c.character-item.result c.loop-character.elements.items
    c.push.new.self.items c.loop-character-test.true c.character-item.is c.in_ok-push.ensures.items c.loop-character.invariant

pub returns : goal.returns
returns c =
    is_chained c.args.characters.now c.loop-character.elements c.push-2.new.self
    (c.loop-character.invariant ∙ ap (map character_of)
    (take_all c.loop-character.character-index c.args.characters.now c.loop-character-test.false))
    (rw c.new-alternatives.ensures.items at c.in_ok-push-2.ensures.items)
