use Rattle.g4_vocab.proofs.Nodes.{literal_of_atom, literal_of_block}
use Rattle.g4_vocab.proofs.literal.literal_element.Goals as goal

pub returns-in-Atom : goal.returns-in-Atom
returns-in-Atom c = rw (literal_of_atom c.args.element.now c.in-Atom.atom c.in-Atom.is) c.literal_kind.ensures

pub returns-in-Block : goal.returns-in-Block
returns-in-Block c = literal_of_block c.args.element.now _ _ _ c.in-Block.is
