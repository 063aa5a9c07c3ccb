use Rattle.std.proofs.Common.{◌≡◌, take}
use Rattle.std.specs.Str.Parse.{digits_value}
use Rattle.g4_token_file.specs.Answers.{capped}
use Rattle.g4_token_file.proofs.line.capped_value.Given as goal

abbrev pub invariant-loop-digit : goal.invariant-loop-digit
invariant-loop-digit l = l.value ≡ capped (digits_value 10 (take l.digit-index l.digits))
