use Rattle.g4_stacks.proofs.Listing.{lists_canonical}
use Rattle.g4_stacks.proofs.laws.lists_are_canonical.Goals as goal

pub returns : goal.returns
returns c = λ g h n m canon canon'. lists_canonical g h n m canon canon'
