use Rattle.std.proofs.Common.{◌≡◌, ℕ, List, map, take}
use Rattle.g4_checks.specs.Names.{is_one_of}
use Rattle.g4_checks.proofs.Sets.{names_in}
use Rattle.g4_lexer_rules.specs.Tables.{each_once}
use Rattle.g4_lexer_rules.proofs.channels.each_once.Given as goal

abbrev pub invariant-loop-name : goal.invariant-loop-name
invariant-loop-name l =
    (l.made.items ≡ each_once (map (λ n. n.now) (take l.name-index l.names)))
    × ((text : List ℕ) → is_one_of (names_in l.seen) text ≡ is_one_of (map (λ n. n.now) (take l.name-index l.names)) text)
