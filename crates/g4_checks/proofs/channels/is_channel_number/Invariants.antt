use Rattle.std.proofs.Common.{◌≡◌, ◌≤◌, drop, ◌&&◌}
use Rattle.std.specs.Prelude.{nat_le}
use Rattle.std.specs.Str.{all_ascii_digits}
use Rattle.g4_checks.specs.Commands.{decimal_after}
use Rattle.g4_checks.specs.declared.channels.TheConstants.{MOST_CHANNEL}
use Rattle.g4_checks.proofs.channels.is_channel_number.Given as goal

abbrev pub invariant-loop-byte : goal.invariant-loop-byte
invariant-loop-byte l = (l.number ≤ MOST_CHANNEL)
    × ((all_ascii_digits l.text && nat_le (decimal_after 0 l.text) MOST_CHANNEL)
    ≡ (all_ascii_digits (drop l.byte-index l.text) && nat_le (decimal_after l.number (drop l.byte-index l.text)) MOST_CHANNEL))
