-- The same runs have one tally.
use Rattle.std.proofs.Common.{◌≡◌, ◌↔◌, ℕ, List, Contains, ap, refl, sym, ◌∙◌}
use Rattle.g4_net.specs.Configurations.{Config}
use Rattle.g4_net.specs.Network.{ParserNetwork}
use Rattle.g4_net.specs.Prediction.{Path}
use Rattle.g4_run.specs.Running.{RunOver}
use Rattle.g4_tally.specs.declared.counts.Counts.{Counts}
use Rattle.g4_tally.specs.declared.tally.Tally.{Tally}
use Rattle.g4_tally.specs.declared.tally.Tally.TheVariants.{Full, Learned}
use Rattle.g4_tally.specs.Passing.{AreOneEdge, IsPassedEdge, IsPassedPath, IsPassedRow}
use Rattle.g4_tally.specs.Tallies.{AreCounts, IsTally}
use Rattle.g4_tally.proofs.Sizes.{never_more, one_classes, one_size, same_size}

module _ (net : ParserNetwork) (runs others : List RunOver) (all : (over : RunOver) → Contains runs over → Contains others over) where
  path_too : (path : Path) → IsPassedPath net runs path → IsPassedPath net others path
  path_too path is = record {
    over = is.over;
    among = all is.over is.among;
    moment = is.moment;
    reached = is.reached;
    is = is.is;
  }

  row_too : (y : List Config) → IsPassedRow net runs y → IsPassedRow net others y
  row_too y (path, passed, at) = (path, path_too path passed, at)

  edge_too : (edge : List Config × ℕ) → IsPassedEdge net runs edge → IsPassedEdge net others edge
  edge_too edge (path, passed, at) = (path, path_too path passed, at)

-- edges that count as one
one_back : (net : ParserNetwork) (x y : List Config × ℕ) → AreOneEdge net x y → AreOneEdge net y x
one_back net x y one = (sym one.0, λ p t set at. let alike = one.1 p t set at in (alike.1, alike.0))

one_on : (net : ParserNetwork) (x y z : List Config × ℕ) → AreOneEdge net x y → AreOneEdge net y z → AreOneEdge net x z
one_on net x y z one other = (
  one.0 ∙ other.0,
  λ p t set at.
      let a = one.1 p t set at in let b = other.1 p t set at in (λ h. b.0 (a.0 h), λ h. a.1 (b.1 h)),
)

module _ (rows : ℕ) (net : ParserNetwork) (runs others : List RunOver)
    (same : (over : RunOver) → Contains runs over ↔ Contains others over) where
  same_rows : (y : List Config) → IsPassedRow net runs y ↔ IsPassedRow net others y
  same_rows y = (row_too net runs others (λ over. (same over).0) y, row_too net others runs (λ over. (same over).1) y)

  same_edges : (edge : List Config × ℕ) → IsPassedEdge net runs edge ↔ IsPassedEdge net others edge
  same_edges edge = (edge_too net runs others (λ over. (same over).0) edge, edge_too net others runs (λ over. (same over).1) edge)

  one_counts : (a b : Counts) → AreCounts rows net runs a → AreCounts rows net others b → a ≡ b
  one_counts a b one other =
      let sets = one_size (IsPassedRow net others) a.rows b.rows
      (same_size (IsPassedRow net runs) (IsPassedRow net others) a.rows same_rows one.sets) other.sets in
      let edges = one_classes (IsPassedEdge net runs) (IsPassedEdge net others) (AreOneEdge net) (one_back net) (one_on net) a.edges
      b.edges same_edges one.edges other.edges in
      λ i. record { rows = sets i; edges = edges i }

  pub one_of_both : (a b : Tally) → IsTally rows net runs a → IsTally rows net others b → a ≡ b
  one_of_both (Learned a) (Learned b) one other = ap Learned (one_counts a b one other)
  one_of_both (Learned a) Full one other = absurd (never_more (IsPassedRow net others) (IsPassedRow net runs) rows a.rows
      (λ y. (same_rows y).1) other one.sets one.fits)
  one_of_both Full (Learned b) one other = absurd (never_more (IsPassedRow net runs) (IsPassedRow net others) rows b.rows
      (λ y. (same_rows y).0) one other.sets other.fits)
  one_of_both Full Full one other = refl
