-- What a run has learned, as it is reported.
use Rattle.std.specs.Prelude.{◌≤◌, ℕ, List, ◌++◌, codes, decimal}
use Rattle.g4_net.specs.Network.{ParserNetwork}
use Rattle.g4_run.specs.Running.{RunOver}
use Rattle.g4_tally.specs.Passing.{AreOneEdge, IsPassedEdge, IsPassedRow}
use Rattle.g4_tally.specs.Sizes.{HasClasses, HasMore, HasSize}
use Rattle.g4_tally.specs.declared.counts.Counts.{Counts}
use Rattle.g4_tally.specs.declared.tally.Tally.{Tally}
use Rattle.g4_tally.specs.declared.tally.Tally.TheVariants.{Learned, Full}

-- So many rows and edges are passed by these runs, and there is room for the rows.
pub record AreCounts (rows : ℕ) (net : ParserNetwork) (runs : List RunOver) (counts : Counts) : Type 0 where
  pub sets : HasSize (IsPassedRow net runs) counts.rows
  pub edges : HasClasses (IsPassedEdge net runs) (AreOneEdge net) counts.edges
  pub fits : counts.rows ≤ rows

-- The tally of runs, with room for so many rows: how many rows and edges they pass, or that they pass more rows than that.
abbrev pub IsTally : ℕ → ParserNetwork → List RunOver → Tally → Type 0
IsTally rows net runs (Learned counts) = AreCounts rows net runs counts
IsTally rows net runs Full = HasMore (IsPassedRow net runs) rows

-- the line of a tally
abbrev pub tally_line : Tally → List ℕ
tally_line (Learned counts) =
    codes "learned " ++ (decimal counts.rows ++ (codes " rows " ++ (decimal counts.edges ++ codes " edges\n")))
tally_line Full = codes "learned full\n"
