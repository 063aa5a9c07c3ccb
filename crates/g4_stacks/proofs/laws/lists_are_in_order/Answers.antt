use Rattle.g4_stacks.proofs.Listing.{lists_in_order}
use Rattle.g4_stacks.proofs.laws.lists_are_in_order.Goals as goal

pub returns : goal.returns
returns c = λ g n canon. lists_in_order g canon n
