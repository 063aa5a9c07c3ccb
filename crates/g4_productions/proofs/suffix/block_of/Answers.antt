use Rattle.g4_productions.proofs.Suffixes.{in_block}
use Rattle.g4_productions.proofs.suffix.block_of.Goals as goal

pub returns : goal.returns
returns c = in_block c.args.atom c.args.repeat c.in_ok-elements.elements c.in_ok-alternatives.alternatives
    c.in_ok-elements.ensures.items c.in_ok-alternatives.ensures.items
