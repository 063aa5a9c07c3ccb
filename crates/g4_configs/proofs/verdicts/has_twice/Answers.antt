use Rattle.std.proofs.Common.{rules}
use Rattle.g4_configs.proofs.Twice.{twice_by}
use Rattle.g4_configs.proofs.verdicts.has_twice.Goals as goal

pub returns : goal.returns
returns c = search (rules, twice_by)
