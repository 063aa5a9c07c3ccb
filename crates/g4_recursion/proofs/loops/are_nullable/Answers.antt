use Rattle.g4_recursion.proofs.loops.are_nullable.Goals as goal

pub returns : goal.returns
returns c = λ rules told. (c.of_elements.ensures rules told).nullable
