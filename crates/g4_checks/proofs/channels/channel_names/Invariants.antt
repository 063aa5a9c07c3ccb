use Rattle.std.proofs.Common.{[], ◌∷◌, take, codes}
use Rattle.std.specs.List.{flat_map}
use Rattle.g4_checks.specs.Known.{AddsAll}
use Rattle.g4_checks.specs.Names.{declared_channels}
use Rattle.g4_checks.proofs.channels.channel_names.Given as goal

abbrev pub invariant-loop-prequel : goal.invariant-loop-prequel
invariant-loop-prequel l = AddsAll [] (codes "HIDDEN" ∷ codes "DEFAULT_TOKEN_CHANNEL"
    ∷ flat_map declared_channels (take l.prequel-index l.prequel-items)) l.names
