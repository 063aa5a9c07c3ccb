use Rattle.std.proofs.Common.{ℕ, ◌+◌, Option, ap}
use Rattle.std.specs.Option.{unwrap_or}
use Rattle.g4_token_file.specs.Keys.{greatest_number}
use Rattle.g4_vocab.proofs.types.new_number.Goals as goal

pub returns-in-Some : goal.returns-in-Some
returns-in-Some c = (
  ap (λ (o : Option ℕ). unwrap_or o (greatest_number c.args.types.now + 1)) c.in-Some.ensures.value,
  c.in-Some.ensures.within,
)
