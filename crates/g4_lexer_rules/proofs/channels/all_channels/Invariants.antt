use Rattle.std.proofs.Common.{◌≡◌, ◌∷◌, codes, map, take}
use Rattle.std.specs.List.{flat_map}
use Rattle.g4_checks.specs.Names.{declared_channels}
use Rattle.g4_lexer_rules.proofs.channels.all_channels.Given as goal

abbrev pub invariant-loop-prequel : goal.invariant-loop-prequel
invariant-loop-prequel l = map (λ n. n.now) l.names.items
    ≡ codes "DEFAULT_TOKEN_CHANNEL" ∷ codes "HIDDEN" ∷ flat_map declared_channels (take l.prequel-index l.prequel-items)
