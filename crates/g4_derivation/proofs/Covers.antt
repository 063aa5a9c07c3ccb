-- Letters that are words of symbols: which the edges of a parser's network read, and which part of a word they are.
use Rattle.std.proofs.Common.{◌≡◌, ℕ, List, [], ◌∷◌, ◌++◌, refl, sym, ◌∙◌, ap, append_assoc, Contains}
use Rattle.g4_net.specs.Spelling.{TakesFirst}

-- a label reads the word of one of its symbols
abbrev pub TakesWord : List ℕ → List ℕ → Type 0
TakesWord set c = (a : ℕ) × Contains set a × (c ≡ a ∷ [])

-- the word is what is in w before z
abbrev pub Covers : List ℕ → List ℕ → List ℕ → Type 0
Covers c w z = w ≡ c ++ z

-- two of them, one after the other
pub covers_both : (c d w v z : List ℕ) → Covers c w v → Covers d v z → Covers (c ++ d) w z
covers_both c d w v z e f = e ∙ ap (λ (x : List ℕ). c ++ x) f ∙ sym (append_assoc c d z)

-- each apart
pub covers_apart : (c d w z : List ℕ) → Covers (c ++ d) w z → (v : List ℕ) × Covers c w v × Covers d v z
covers_apart c d w z e = (d ++ z, e ∙ append_assoc c d z, refl)

-- what a label takes, as a word
pub taken_letter : (set w v : List ℕ) → TakesFirst set w v → (c : List ℕ) × TakesWord set c × Covers c w v
taken_letter set w v (a, begins, has) = (a ∷ [], (a, has, refl), begins)

-- and the other way round
pub taken_symbol : (set c w v : List ℕ) → TakesWord set c → Covers c w v → TakesFirst set w v
taken_symbol set c w v (a, has, is) covers = (a, covers ∙ ap (λ (x : List ℕ). x ++ v) is, has)
