use Rattle.g4_stacks.proofs.Listing.{lists_exact}
use Rattle.g4_stacks.proofs.laws.lists_are_exact.Goals as goal

pub returns : goal.returns
returns c = λ g n s canon. lists_exact g canon n s
