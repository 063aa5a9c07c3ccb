use Rattle.std.proofs.Common.{◌≡◌, map, take}
use Rattle.g4_words.proofs.reading.copies_of.Given as goal

abbrev pub invariant-loop-text : goal.invariant-loop-text
invariant-loop-text l = l.copies.items ≡ map (λ t. t.now) (take l.text-index l.texts)
