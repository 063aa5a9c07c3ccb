use Rattle.std.proofs.Common.{length}
use Rattle.g4_matching.proofs.classes.+of_states.Given as goal

abbrev pub decreases-of_states : goal.decreases-of_states
decreases-of_states l = length l.states.now
