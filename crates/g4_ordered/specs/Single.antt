-- The list of one rule alone.
use Rattle.std.specs.Prelude.{◌≡◌, ℕ, List, [], ◌∷◌}
use Rattle.g4_ordered.specs.Configurations.{LexerConfig}

-- the configurations of a rule, in their order
pub data OfRule (rule : ℕ) : List LexerConfig → List LexerConfig → Type 0 where
  no_more : OfRule rule [] []
  own : (c : LexerConfig) (cs ds : List LexerConfig) → c.rule ≡ rule → OfRule rule cs ds → OfRule rule (c ∷ cs) (c ∷ ds)
  other : (c : LexerConfig) (cs ds : List LexerConfig) → (c.rule ≡ rule → ⊥) → OfRule rule cs ds → OfRule rule (c ∷ cs) ds
