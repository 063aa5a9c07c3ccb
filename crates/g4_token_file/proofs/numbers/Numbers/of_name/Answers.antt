use Rattle.std.proofs.Common.{◌∙◌}
use Rattle.g4_token_file.specs.Indexed.{numbered}
use Rattle.g4_token_file.proofs.numbers.Numbers.of_name.Goals as goal

pub returns : goal.returns
unfolding numbered
returns c = c.copied.ensures ∙ c.get.ensures.value
