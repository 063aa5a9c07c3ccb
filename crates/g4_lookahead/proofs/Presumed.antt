-- Where the least alternative covers the others and some is viable, full stacks choose it.
use Rattle.std.proofs.Common.{◌≡◌, ◌+◌, ◌<◌, ◌⊎◌, inl, inr, ℕ, List, ◌∷◌, drop, length, get_or, subst}
use Rattle.g4_net.specs.Configurations.{Config, IsRow, above_bottom}
use Rattle.g4_net.specs.Lookahead.{IsLeast}
use Rattle.g4_net.specs.Network.{ParserNetwork}
use Rattle.g4_net.specs.Prediction.{Choice, FullFrom, chosen, no_viable}
use Rattle.g4_tokens.specs.declared.token.Token.{Token}
use Rattle.g4_tokens.specs.TokenList.{word_of}
use Rattle.g4_lookahead.proofs.Looking.{IsLooking, left}
use Rattle.g4_lookahead.specs.Covering.{Covers, Takers}
use Rattle.g4_lookahead.proofs.Covered.{covering_chooses}
use Rattle.g4_lookahead.proofs.Choices.{choice_from}

-- the least alternative that covers the others is chosen where some is viable
pub presumed : (net : ParserNetwork) (returns : List ℕ) (tokens : List Token) (k i : ℕ) (t : Token) (C : Config → Type 0)
    (row : List Config) → k < length tokens → IsLooking net (above_bottom returns) tokens k C → IsRow row C
    → Covers net (Takers net C (get_or tokens k t).symbol) i → IsLeast (Takers net C (get_or tokens k t).symbol) i
    → ((m : ℕ) → FullFrom net C (word_of (drop k tokens)) k (no_viable m) → ⊥) → FullFrom net C (word_of (drop k tokens)) k (chosen i)
presumed net returns tokens k i t C row less looking is covers least viable =
    let (c, full) = choice_from net returns tokens k C row looking is in
    let full' : FullFrom net C ((get_or tokens k t).symbol ∷ word_of (drop (k + 1) tokens)) k c =
    subst (λ (w : List ℕ). FullFrom net C w k c) (left tokens k t less) full in
    elim (covering_chooses net C (get_or tokens k t).symbol i (word_of (drop (k + 1) tokens)) k c
    (λ d in_d. (looking.stands d in_d).marked) covers least full') [
      | inl same ↦ subst (FullFrom net C (word_of (drop k tokens)) k) same full
      | inr (m, same) ↦ absurd (viable m (subst (FullFrom net C (word_of (drop k tokens)) k) same full))
    ]
