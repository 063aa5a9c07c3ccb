use Rattle.std.proofs.Common.{[]}
use Rattle.g4_merge.specs.Merging.{all_rules}
use Rattle.g4_merge.proofs.Firsts.{after_differ}
use Rattle.g4_merge.proofs.law.names_differ.Goals as goal

pub returns : goal.returns
returns c = λ main imports. after_differ [] (all_rules main imports)
