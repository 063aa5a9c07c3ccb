-- What the loop over what was listed keeps.
use Rattle.std.proofs.Common.{List, [], ◌∷◌, ◌++◌}
use Rattle.g4_ordered.specs.Network.{LexerNetwork}
use Rattle.g4_ordered.specs.Configurations.{LexerConfig}
use Rattle.g4_ordered.specs.Lists.{IsKept, Keeps, no_more, keeps, leaves}

-- one more that is kept
pub keeps_more : (net : LexerNetwork) (cs ds : List LexerConfig) (c : LexerConfig) → IsKept net c → Keeps net cs ds
    → Keeps net (cs ++ c ∷ []) (ds ++ c ∷ [])
keeps_more net cs ds c k no_more = keeps c [] [] k no_more
keeps_more net cs ds c k (keeps b bs es q h) = keeps b (bs ++ c ∷ []) (es ++ c ∷ []) q (keeps_more net bs es c k h)
keeps_more net cs ds c k (leaves b bs _ q h) = leaves b (bs ++ c ∷ []) (ds ++ c ∷ []) q (keeps_more net bs ds c k h)

-- one more that is not
pub leaves_more : (net : LexerNetwork) (cs ds : List LexerConfig) (c : LexerConfig) → (IsKept net c → ⊥) → Keeps net cs ds
    → Keeps net (cs ++ c ∷ []) ds
leaves_more net cs ds c k no_more = leaves c [] [] k no_more
leaves_more net cs ds c k (keeps b bs es q h) = keeps b (bs ++ c ∷ []) es q (leaves_more net bs es c k h)
leaves_more net cs ds c k (leaves b bs _ q h) = leaves b (bs ++ c ∷ []) ds q (leaves_more net bs ds c k h)
