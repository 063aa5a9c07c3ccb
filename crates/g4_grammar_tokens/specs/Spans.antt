-- Where tokens are in a text.
use Rattle.std.specs.Prelude.{ℕ, ◌-◌, ◌<◌, ◌≤◌, List, [], ◌∷◌, take, drop}
use Rattle.std.specs.Str.{IsUtf8}
use Rattle.g4_grammar_tokens.specs.declared.token.Token.{Token}

-- from the one index up to the other, the tokens come one after another, and none is empty
abbrev pub AreInOrder : ℕ → ℕ → List Token → Type 0
AreInOrder from until [] = from ≤ until
AreInOrder from until (t ∷ ts) = (from ≤ t.start) × (t.start < t.end) × AreInOrder t.end until ts

-- the bytes of each token are a text
abbrev pub AreTexts : List ℕ → List Token → Type 0
AreTexts bytes [] = Unit {0}
AreTexts bytes (t ∷ ts) = IsUtf8 (take (t.end - t.start) (drop t.start bytes)) × AreTexts bytes ts
