use Rattle.std.proofs.Common.{◌≡◌, take}
use Rattle.std.specs.Option.{option_map}
use Rattle.g4_fetch.specs.Vocabularies.{last_some, setting_vocabulary}
use Rattle.g4_fetch.proofs.vocabulary.last_vocabulary.Given as goal

abbrev pub invariant-loop-setting : goal.invariant-loop-setting
invariant-loop-setting l = option_map (λ n. n.now) l.last ≡ last_some setting_vocabulary (take l.setting-index l.settings)
