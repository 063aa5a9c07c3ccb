use Rattle.std.proofs.Common.{◌≡◌, ◌==◌, ℕ, take}
use Rattle.std.specs.BTreeSet.{contains}
use Rattle.std.specs.List.{list_any}
use Rattle.std.specs.Ordering.{nat_cmp}
use Rattle.g4_vocab.specs.Numbering.{symbol_of}
use Rattle.g4_vocab.specs.Vocabularies.{lexers_in, types_in}
use Rattle.g4_vocab.proofs.vocabulary.Vocabulary.symbols_of.Given as goal

abbrev pub invariant-loop-token : goal.invariant-loop-token
invariant-loop-token l = (s : ℕ) → contains nat_cmp l.symbols s
    ≡ list_any (λ token. symbol_of (lexers_in l.self) (types_in l.self) token == s)
    (take l.token-index l.tokens)
