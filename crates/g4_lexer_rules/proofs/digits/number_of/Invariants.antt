use Rattle.std.proofs.Common.{◌≡◌, ◌≤◌, drop}
use Rattle.g4_checks.specs.declared.channels.TheConstants.{MOST_CHANNEL}
use Rattle.g4_lexer_rules.specs.Commands.{number_of}
use Rattle.g4_lexer_rules.proofs.ByDigits.{number_after}
use Rattle.g4_lexer_rules.proofs.digits.number_of.Given as goal

abbrev pub invariant-loop-byte : goal.invariant-loop-byte
invariant-loop-byte l = (l.number ≤ MOST_CHANNEL) × (number_of l.text ≡ number_after l.number (drop l.byte-index l.text))
