use Rattle.g4_token_file.proofs.Maps.{none_numbered}
use Rattle.g4_token_file.proofs.numbers.Numbers.new.Goals as goal

pub returns : goal.returns
returns c = none_numbered _ c.new.ensures.empty c.new-2.ensures.empty
