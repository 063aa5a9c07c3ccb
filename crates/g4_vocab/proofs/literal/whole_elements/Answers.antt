use Rattle.std.proofs.Common.{arith}
use Rattle.std.proofs.lemmas.Grind.{common_steps}
use Rattle.g4_vocab.proofs.Nodes.{whole_is_none}
use Rattle.g4_vocab.proofs.literal.whole_elements.Goals as goal
use Rattle.g4_vocab.proofs.literal.whole_elements.Goals.{in_default-via-then-elements-lt1, in_default-via-else-elements-lt1+else-elements-lt2}

pub returns-in_default : goal.returns-in_default
returns-in_default c = whole_is_none c.args.elements.now (λ one. elim c.in_default.branch [
  | in_default-via-then-elements-lt1 w ↦ grind (arith, common_steps)
  | in_default-via-else-elements-lt1+else-elements-lt2 w ↦ grind (arith, common_steps)
])
