use Rattle.std.proofs.Common.{map, refl}
use Rattle.std.specs.List.{flat_map}
use Rattle.g4_source.proofs.Nodes.{made_all}
use Rattle.g4_grammar.specs.Written.{rule_predicates}
use Rattle.g4_resolve.proofs.predicates.texts_of.Goals as goal

pub returns : goal.returns
returns c =
    made_all (λ ys. flat_map rule_predicates (map (λ r. r.now) ys)) c.args.rules.now c.loop-rule.rule-index
    c.loop-rule.found.items _ refl c.loop-rule-test.false c.loop-rule.invariant
