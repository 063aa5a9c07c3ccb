use Rattle.std.proofs.Common.{◌≡◌, take}
use Rattle.std.specs.List.{flat_map}
use Rattle.std.specs.Option.{option_map}
use Rattle.g4_fetch.specs.Vocabularies.{last_some, setting_vocabulary, settings_in}
use Rattle.g4_fetch.proofs.vocabulary.vocabulary_of.Given as goal

abbrev pub invariant-loop-prequel : goal.invariant-loop-prequel
invariant-loop-prequel l =
    option_map (λ n. n.now) l.last ≡ last_some setting_vocabulary (flat_map settings_in (take l.prequel-index l.source.prequels))
