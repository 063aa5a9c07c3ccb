use Rattle.std.specs.Prelude.{length}
use Rattle.g4_layout.proofs.OneNetwork.{one_network_of}
use Rattle.g4_layout.proofs.law.one_numbered_network.Goals as goal

pub returns : goal.returns
returns g c = λ rules numberings a b x y. one_network_of rules numberings (length rules) a b x.network y.network x.callers y.callers
    x.numbered y.numbered
