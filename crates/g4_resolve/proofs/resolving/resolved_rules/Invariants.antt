use Rattle.std.proofs.Common.{◌≡◌, map, take}
use Rattle.g4_vocab.specs.Vocabularies.{lexers_in, types_in}
use Rattle.g4_resolve.specs.Resolving.{resolved_rule}
use Rattle.g4_resolve.proofs.resolving.resolved_rules.Given as goal

abbrev pub invariant-loop-rule : goal.invariant-loop-rule
invariant-loop-rule l = l.all.items ≡ map
    (resolved_rule l.stage.names.texts.now l.stage.predicates.texts.now
    (lexers_in l.stage.vocabulary.now) (types_in l.stage.vocabulary.now))
    (map (λ r. r.now) (take l.rule-index l.rules))
