-- Symbols that no edge of a parser's network distinguishes.
use Rattle.std.specs.Prelude.{◌≡◌, ◌≤◌, ◌⊎◌, ◌↔◌, ℕ, List, Some, Contains}
use Rattle.g4_tokens.specs.declared.symbol.TheConstants.{MOST_TYPES}
use Rattle.g4_tokens.specs.Symbols.{eof, end_of_list}
use Rattle.g4_net.specs.declared.network.State.TheVariants.{Edge}
use Rattle.g4_net.specs.Network.{ParserNetwork, state_at}

-- the number is a symbol: a token type of a grammar, `EOF` or the last symbol of every token list
abbrev pub IsSymbol : ℕ → Type 0
IsSymbol a = ((1 ≤ a) × (a ≤ MOST_TYPES)) ⊎ (a ≡ eof) ⊎ (a ≡ end_of_list)

-- each edge that reads takes both or neither of them
abbrev pub AreAlike : ParserNetwork → ℕ → ℕ → Type 0
AreAlike net a b = (p t : ℕ) (set : List ℕ) → state_at net p ≡ Some (Edge set t) → Contains set a ↔ Contains set b

-- c is the least symbol that is alike to a: the name of the class of a
pub record IsClassOf (net : ParserNetwork) (a c : ℕ) : Type 0 where
  pub symbol : IsSymbol c
  pub alike : AreAlike net a c
  pub least : (b : ℕ) → IsSymbol b → AreAlike net a b → c ≤ b

-- each symbol is given its class, and each other number itself
pub record AreClassesOf (net : ParserNetwork) (classes : ℕ → ℕ) : Type 0 where
  pub of_symbols : (a : ℕ) → IsSymbol a → IsClassOf net a (classes a)
  pub of_others : (a : ℕ) → (IsSymbol a → ⊥) → classes a ≡ a
