use Rattle.g4_fetch.proofs.ByNames.{one_more}
use Rattle.g4_fetch.proofs.by_name.ByName.add.Goals as goal

pub returns : goal.returns
returns g c = one_more c.args.self.now _ c.args.name.now c.in_ok-name.name c.args.value c.in_ok-name.ensures.ok
    c.in_ok-insert.ensures.updates
