-- The letters of a parser's rules: symbols, and rules that are called.
use Rattle.std.specs.Prelude.{◌≡◌, ℕ, List, Contains}

-- a symbol by its index, or a called rule by its number
pub data Letter : Type 0 where
  symbol : ℕ → Letter
  called : ℕ → Letter

-- the letter is a symbol of the set
abbrev pub TakesSymbol : List ℕ → Letter → Type 0
TakesSymbol set (symbol a) = Contains set a
TakesSymbol set (called rule) = ⊥

-- the letter is the rule of this number
abbrev pub NamesRule : ℕ → Letter → Type 0
NamesRule k (symbol a) = ⊥
NamesRule k (called rule) = rule ≡ k
