-- What the outputs have taken of the lines of a report, and why writing ended.
use Rattle.std.specs.Prelude.{◌≡◌, ℕ, List, [], ◌∷◌, ◌++◌, Option, Result, Ok, Err, ◌⊎◌}
use Rattle.g4_ports.specs.Ports.{Rose, with_more, TakesFront}
use Rattle.g4_outcome.specs.declared.line.Line.{Line}
use Rattle.g4_outcome.specs.declared.line.Line.TheVariants.{ToOut, ToErr}

-- the bytes of the lines for out
abbrev pub out_of : List Line → List ℕ
out_of [] = []
out_of ((ToOut text) ∷ lines) = text ++ out_of lines
out_of ((ToErr text) ∷ lines) = out_of lines

-- the bytes of the lines for err
abbrev pub err_of : List Line → List ℕ
err_of [] = []
err_of ((ToOut text) ∷ lines) = err_of lines
err_of ((ToErr text) ∷ lines) = text ++ err_of lines

-- both outputs have taken these lines
pub record Wrote (lines : List Line) (out_before out_now err_before err_now : Option (List ℕ)) : Type 0 where
  pub out : out_now ≡ with_more out_before (out_of lines)
  pub err : err_now ≡ with_more err_before (err_of lines)

-- one output has taken a front part of the first of these lines, where there is one, and the other nothing
abbrev pub WrotePiece : List Line → Option (List ℕ) → Option (List ℕ) → Option (List ℕ) → Option (List ℕ) → Type 0
WrotePiece [] out_before out_now err_before err_now = (out_now ≡ out_before) × (err_now ≡ err_before)
WrotePiece ((ToOut text) ∷ lines) out_before out_now err_before err_now = TakesFront text out_before out_now × (err_now ≡ err_before)
WrotePiece ((ToErr text) ∷ lines) out_before out_now err_before err_now = (out_now ≡ out_before) × TakesFront text err_before err_now

-- The outputs have taken the first of the lines, up to some place, a front part of the next line, and nothing after it.
pub record WroteFront (lines : List Line) (out_before out_now err_before err_now : Option (List ℕ)) : Type 0 where
  pub whole : List Line
  pub rest : List Line
  pub parts : lines ≡ whole ++ rest
  pub out : Option (List ℕ)
  pub err : Option (List ℕ)
  pub first : Wrote whole out_before out err_before err
  pub piece : WrotePiece rest out out_now err err_now

-- the count of faults of one output has risen, and the other's is the same
abbrev pub OneRose : ℕ → ℕ → ℕ → ℕ → Type 0
OneRose out_before out_now err_before err_now = (Rose out_before out_now × (err_now ≡ err_before))
    ⊎ ((out_now ≡ out_before) × Rose err_before err_now)

-- the counts of faults of both outputs are the same
abbrev pub NoneRose : ℕ → ℕ → ℕ → ℕ → Type 0
NoneRose out_before out_now err_before err_now = (out_now ≡ out_before) × (err_now ≡ err_before)

-- the counts of faults are the same, unless an output failed
abbrev pub CountsWriting : {X Y : Type 0} → ℕ → ℕ → ℕ → ℕ → Result X Y → Type 0
CountsWriting out_before out_now err_before err_now (Ok x) = NoneRose out_before out_now err_before err_now
CountsWriting out_before out_now err_before err_now (Err e) = OneRose out_before out_now err_before err_now
