use Rattle.std.proofs.Common.{subst, List}
use Rattle.g4_net.specs.declared.network.State.{State}
use Rattle.g4_ordered.specs.declared.network.Reads.{Reads}
use Rattle.g4_matching.specs.Classes.{TellsStates}
use Rattle.g4_matching.specs.Partitions.{classing}
use Rattle.g4_matching.proofs.Alike.{tells_network}
use Rattle.g4_matching.proofs.classes.CharClasses.of_network.Goals as goal

pub returns : goal.returns
returns c = tells_network c.args.net.now (classing c.in_ok-partition.partition) c.in_ok-partition.ensures.partition
    (subst (λ (l : List (State Reads)). TellsStates l (classing c.in_ok-partition.partition)) c.as_slice.ensures
    c.in_ok-partition.ensures.tells)
