use Rattle.std.proofs.Common.{map, refl, sym, ◌∙◌}
use Rattle.std.specs.List.{flat_map}
use Rattle.g4_source.proofs.Nodes.{made_all}
use Rattle.g4_vocab.specs.Tables.{reference_of}
use Rattle.g4_vocab.proofs.Nodes.{rule_tokens, rules_tokens}
use Rattle.g4_vocab.proofs.references.references_of.Goals as goal

pub returns : goal.returns
returns c =
    made_all (λ ys. flat_map rule_tokens (map (λ r. r.now) ys)) c.args.rules.now c.loop-rule.rule-index
    (map reference_of c.loop-rule.found.items) _ refl c.loop-rule-test.false c.loop-rule.invariant
    ∙ sym (rules_tokens (map (λ r. r.now) c.args.rules.now))
