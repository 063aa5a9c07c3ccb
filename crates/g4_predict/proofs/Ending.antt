-- What SLL finds of its sets is what the definitions say of theirs.
use Rattle.std.proofs.Common.{◌≡◌, ℕ, suc, List, [], ◌∷◌, refl, sym, subst}
use Rattle.g4_net.specs.Network.{ParserNetwork}
use Rattle.g4_net.specs.Configurations.{Config, IsRow}
use Rattle.g4_net.specs.Lookahead.{Next}
use Rattle.g4_net.specs.Prediction.{Verdict, error_at, sensitive, Looked, led_to, ended, Judges, SllFrom}
use Rattle.g4_net.specs.Prediction as prediction
use Rattle.g4_lookahead.specs.EndOfList.{GoesOn, Matters}
use Rattle.g4_lookahead.proofs.Judging.{AreSame, Within, conflict_same, empty_same, lone_same, only_same, row_of_set, sll_same}
use Rattle.g4_predict.specs.declared.verdict.Verdict as said
use Rattle.g4_predict.specs.declared.verdict.Verdict.TheVariants.{Answer, ErrorAt, Sensitive}
use Rattle.g4_predict.specs.Paths.{verdict_of}
use Rattle.g4_configs.specs.Configs.{Holds, View}
use Rattle.g4_closure.specs.Left.{AreSeveral, IsLeft}
use Rattle.g4_closure.specs.declared.left.Left.{Left}
use Rattle.g4_closure.specs.declared.left.Left.TheVariants.{Several}
use Rattle.g4_predict.specs.declared.sll.Seen.{Seen}
use Rattle.g4_predict.specs.declared.sll.Seen.TheVariants.{Ended, Onward}
use Rattle.g4_predict.specs.Verdicts.{EndsWith, IsOnward, IsSeen}

-- the entry of a symbol with which SLL ends
abbrev pub last_entry : ℕ → Verdict → Looked
last_entry a v = record { symbol = a; led = ended v }

-- SLL from a set, where it ends at the next set
pub sll_ends : (net : ParserNetwork) (C : Config → Type 0) (a : ℕ) (w : List ℕ) (k : ℕ) (v : said.Verdict)
    → EndsWith (Next net C a) k v → SllFrom net C (a ∷ w) k (verdict_of v) (last_entry a (verdict_of v) ∷ [])
sll_ends net C a w k (Answer i) h = prediction.one_left i h
sll_ends net C a w k (ErrorAt j) (is, e) =
    subst (λ (m : ℕ). Judges (Next net C a) k a (SllFrom net (Next net C a) w (suc k)) (error_at m) (last_entry a (error_at m) ∷ []))
    (sym is) (prediction.nothing_left e)
sll_ends net C a w k (Sensitive j) (is, n, m) =
    subst (λ (m : ℕ). Judges (Next net C a) k a (SllFrom net (Next net C a) w (suc k)) (sensitive m)
    (last_entry a (sensitive m) ∷ [])) (sym is) (prediction.gives_up n m.conflict m.none_lone)

-- the entry of a symbol after which SLL goes on from the set of this row
abbrev pub next_entry : ℕ → List Config → Looked
next_entry a row = record { symbol = a; led = led_to row }

-- and where it goes on from there
pub sll_goes_on : (net : ParserNetwork) (C D : Config → Type 0) (a : ℕ) (w : List ℕ) (k : ℕ) (v : Verdict) (looked : List Looked)
    (row : List Config) → AreSame D (Next net C a) → IsRow row D → GoesOn D → SllFrom net D w (suc k) v looked
    → SllFrom net C (a ∷ w) k v (next_entry a row ∷ looked)
sll_goes_on net C D a w k v looked row has is g h =
    let to : Within D (Next net C a) = λ d. (has d).0 in
    let from : Within (Next net C a) D = λ d. (has d).1 in
    prediction.goes_on v looked row
    (λ e. g.some (empty_same (Next net C a) D from to e))
    (λ i x. g.several i (only_same (Next net C a) D from to i x))
    (λ c x. g.clear (record {
      conflict = conflict_same (Next net C a) D from to c;
      none_lone = λ y. x (lone_same D (Next net C a) to from y);
    }))
    (row_of_set row D (Next net C a) has is)
    (sll_same net D (Next net C a) to from w (suc k) v looked h)

-- several alternatives are left in a set where they are in one with the same members, and the stack matters after it
pub several_matter : (net : ParserNetwork) (D H : Config → Type 0) (k : ℕ) → AreSeveral net D H → Matters H → EndsWith D k (Sensitive k)
several_matter net D H k several m =
    let to : Within H D = λ d. (several.members d).0 in
    let from : Within D H = λ d. (several.members d).1 in (
      refl,
      (λ i h. several.several i (only_same D H from to i h)),
      record { conflict = conflict_same H D to from m.conflict; none_lone = λ h. m.none_lone (lone_same D H from to h) },
    )

-- what is seen, where SLL ends
pub seen_ended : (net : ParserNetwork) (D : Config → Type 0) (k : ℕ) (seen : Seen) (v : said.Verdict) → seen ≡ Ended v
    → IsSeen net D k seen → EndsWith D k v
seen_ended net D k seen v is h = let e : IsSeen net D k (Ended v) = subst (IsSeen net D k) is h in e

-- and where it goes on
pub seen_onward : (net : ParserNetwork) (D : Config → Type 0) (k : ℕ) (seen : Seen) (set : View) → seen ≡ Onward set
    → IsSeen net D k seen → IsOnward net D (Holds set)
seen_onward net D k seen set is h = let e : IsSeen net D k (Onward set) = subst (IsSeen net D k) is h in e

-- what is left, where it is several alternatives
pub left_several : (net : ParserNetwork) (D : Config → Type 0) (left : Left) (set : View) → left ≡ Several set → IsLeft net D left
    → AreSeveral net D (Holds set)
left_several net D left set is h = let e : IsLeft net D (Several set) = subst (IsLeft net D) is h in e
