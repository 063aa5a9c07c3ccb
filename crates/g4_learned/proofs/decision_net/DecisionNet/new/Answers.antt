use Rattle.g4_learned.proofs.Starting.{are_few, are_starts}
use Rattle.g4_learned.proofs.decision_net.DecisionNet.new.Goals as goal

pub returns-clause-tables : goal.returns-clause-tables
returns-clause-tables c =
    let keys = c.in_ok-starts.ensures in
    record {
      columns = c.in_ok-columns.ensures;
      starts = are_starts c.args.net c.in_ok-starts.starts.first.items c.in_ok-starts.starts.keys.items keys;
      few = are_few c.args.net c.in_ok-starts.starts.first.items c.in_ok-starts.starts.keys.items keys;
    }
