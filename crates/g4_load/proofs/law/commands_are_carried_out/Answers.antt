use Rattle.g4_load.proofs.CarriedOut.{all_carried_out, each_carried_out}
use Rattle.g4_load.proofs.law.commands_are_carried_out.Goals as goal

pub returns-clause-each : goal.returns-clause-each
returns-clause-each c = λ files library name f g united loaded unifies loads.
    each_carried_out files library name c.known_commands_are_carried_out.ensures.each f g united loaded unifies loads

pub returns-clause-all : goal.returns-clause-all
returns-clause-all c = λ files library name start f g loaded made loads builds.
    all_carried_out files library name c.known_commands_are_carried_out.ensures.all start f g loaded made loads builds
