-- Which token lists a grammar derives as its text has it.
use Rattle.std.specs.Prelude.{◌≡◌, ℕ, List, [], ◌∷◌, ◌++◌, replicate}
use Rattle.g4_tokens.specs.Symbols.{end_of_list, eof}
use Rattle.g4_resolve.specs.Derivations.{DerivesByName}
use Rattle.g4_vocab.specs.Numbering.{types_of}
use Rattle.g4_load.specs.declared.whole.United.{United}

-- The parser rule of this name derives the token list, by the names and literals of the grammar, with all that it imports and with its
-- lexer grammar: all of the list but EOFs at its end, and END.
pub record DerivesList (united : United) (start list : List ℕ) : Type 0 where
  pub word : List ℕ
  pub ends : ℕ
  pub parts : list ≡ word ++ (replicate ends eof ++ end_of_list ∷ [])
  pub derives : DerivesByName (types_of united.table united.whole.source) united.whole.source.rules start word
