use Rattle.std.proofs.Common.{◌≡◌, map, take}
use Rattle.g4_vocab.specs.Vocabularies.{lexers_in, types_in}
use Rattle.g4_resolve.specs.Resolving.{resolved_alternative}
use Rattle.g4_resolve.proofs.resolving.resolved_rule.Given as goal

abbrev pub invariant-loop-alternative : goal.invariant-loop-alternative
invariant-loop-alternative l = l.all.items ≡ map
    (resolved_alternative l.stage.names.texts.now l.stage.predicates.texts.now
    (lexers_in l.stage.vocabulary.now) (types_in l.stage.vocabulary.now))
    (take l.alternative-index l.alternative-items)
