-- What full stacks find of their sets is what the definitions say of theirs.
use Rattle.std.proofs.Common.{inl, inr, ℕ, suc, List, ◌∷◌, sym, subst}
use Rattle.g4_net.specs.Network.{ParserNetwork}
use Rattle.g4_net.specs.Configurations.{Config}
use Rattle.g4_net.specs.Lookahead.{Next}
use Rattle.g4_net.specs.Prediction.{Choice, no_viable, Settles, FullFrom}
use Rattle.g4_net.specs.Prediction as prediction
use Rattle.g4_lookahead.specs.EndOfList.{GoesOnFull}
use Rattle.g4_lookahead.proofs.Judging.{AreSame, Within, alike_same, empty_same, full_same, least_same, only_same}
use Rattle.g4_full.specs.declared.full.Settled.{Settled}
use Rattle.g4_full.specs.declared.full.Settled.TheVariants.{Chosen, NoViable}
use Rattle.g4_full.specs.Settled.{choice_of, SettlesWith}

-- full stacks from a set, where they settle at the next set
pub full_settles : (net : ParserNetwork) (C D : Config → Type 0) (a : ℕ) (w : List ℕ) (k : ℕ) (s : Settled) → AreSame D (Next net C a)
    → SettlesWith D k s → FullFrom net C (a ∷ w) k (choice_of s)
full_settles net C D a w k (Chosen i) has (inl h) = prediction.one_left i (only_same D (Next net C a) (λ d. (has d).0) (λ d. (has d).1) i h)
full_settles net C D a w k (Chosen i) has (inr (h, l)) =
    let to : Within D (Next net C a) = λ d. (has d).0 in
    let from : Within (Next net C a) D = λ d. (has d).1 in
    prediction.least i (alike_same D (Next net C a) to from h) (least_same D (Next net C a) to from i l)
full_settles net C D a w k (NoViable j) has (is, e) =
    subst (λ (m : ℕ). Settles (Next net C a) k (FullFrom net (Next net C a) w (suc k)) (no_viable m)) (sym is)
    (prediction.none_left (empty_same D (Next net C a) (λ d. (has d).0) (λ d. (has d).1) e))

-- and where they go on from there
pub full_goes_on : (net : ParserNetwork) (C D : Config → Type 0) (a : ℕ) (w : List ℕ) (k : ℕ) (c : Choice) → AreSame D (Next net C a)
    → GoesOnFull D → FullFrom net D w (suc k) c → FullFrom net C (a ∷ w) k c
full_goes_on net C D a w k c has g h =
    let to : Within D (Next net C a) = λ d. (has d).0 in
    let from : Within (Next net C a) D = λ d. (has d).1 in
    prediction.goes_on c
    (λ e. g.some (empty_same (Next net C a) D from to e))
    (λ i x. g.several i (only_same (Next net C a) D from to i x))
    (λ x. g.unlike (alike_same (Next net C a) D from to x))
    (full_same net D (Next net C a) to from w (suc k) c h)
