use Rattle.std.proofs.Common.{sym, ◌∷◌, []}
use Rattle.g4_tokens.specs.Symbols.{eof}
use Rattle.g4_build.proofs.builder.build.Goals as goal
use Rattle.g4_derivation.proofs.Derived.{built_spells}

pub returns-clause-spells : goal.returns-clause-spells
returns-clause-spells c = built_spells (eof ∷ []) c.args.laid.now.0 c.args.laid.now.1 c.args.start.now c.in_ok-net.net
    (rw (sym c.rules.ensures.rules, sym c.numberings.ensures.numberings) c.in_ok-net.ensures)
