-- A rule without non-greedy parts is matched where its start spells the prefix.
use Rattle.std.proofs.Common.{inr, ℕ, List, ◌∷◌, refl, sym, ◌∙◌, subst}
use Rattle.g4_ordered.specs.Network.{LexerNetwork}
use Rattle.g4_ordered.specs.Configurations.{LexerConfig}
use Rattle.g4_ordered.specs.Lists.{IsEndBy, IsAtEnd, ListAt, is_last}
use Rattle.g4_ordered.specs.Walks.{Walks, here, leading, reading}
use Rattle.g4_ordered.specs.Matching.{HasEndOf, Spelled, AreFresh, IsGreedyRule}
use Rattle.g4_ordered.proofs.Steps.{lead_follows, read_follows, Alike, alike, alike_on}
use Rattle.g4_ordered.proofs.Walked.{walked, listed}
use Rattle.g4_ordered.proofs.Spelled.{walk_spells, spells_walk}

-- a walk keeps the rule and the alternative
walk_alike : (net : LexerNetwork) (c : LexerConfig) (w : List ℕ) (d : LexerConfig) (v : List ℕ) → Walks net c w d v → Alike c d
walk_alike net c w d v here = alike c
walk_alike net c w d v (leading e _ _ k i) = alike_on c e d (walk_alike net c w e v k) (lead_follows net (is_last v) e d i)
walk_alike net c w d v (reading a e _ _ k i) = alike_on c e d (walk_alike net c w e (a ∷ v) k) (read_follows net a e d i)

-- what the list ends is spelled, of any rule
pub ends_spelled : (net : LexerNetwork) (starts : List LexerConfig) (w v : List ℕ) (list : List LexerConfig) (rule alternative : ℕ)
    → ListAt net starts w v list → AreFresh starts → HasEndOf net list rule alternative → Spelled net starts rule alternative w v
ends_spelled net starts w v list rule alternative at fresh (e, i, r, alt, end) =
    let h = walked net starts w v list at e i in
    let a = walk_alike net h.1.0 w e v h.1.2 in
    (h.1.0, h.1.1, sym a.rule ∙ r, sym a.alternative ∙ alt, walk_spells net h.1.0 w e v (fresh h.1.0 h.1.1).0 end h.1.2)

-- and what is spelled without non-greedy parts is ended
pub spelled_ends : (net : LexerNetwork) (starts : List LexerConfig) (w v : List ℕ) (list : List LexerConfig) (rule alternative : ℕ)
    → ListAt net starts w v list → AreFresh starts → IsGreedyRule net starts rule → Spelled net starts rule alternative w v
    → HasEndOf net list rule alternative
spelled_ends net starts w v list rule alternative at fresh greedy (s, i, r, alt, spells) =
    let h = spells_walk net s.state w v spells (greedy s i r) s refl in
    let end : IsAtEnd net h.d = (subst IsEndBy (sym h.end) tt, h.returns ∙ (fresh s i).0) in
    (h.d, listed net starts w v list at s h.d (h.passed ∙ (fresh s i).1) (inr end) i h.walk, h.rule ∙ r, h.alternative ∙ alt, end)
