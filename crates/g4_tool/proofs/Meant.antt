-- What the outcomes of files mean.
use Rattle.std.proofs.Common.{ℕ, List, [], ◌∷◌, ◌++◌, All}
use Rattle.std.proofs.lemmas.List.Elements.{All-append, All-cons, All-nil, All-weaker}
use Rattle.g4_load.specs.Usable.{IsNetworkFrom}
use Rattle.g4_load.specs.declared.interpreter.Interpreter.{Interpreter}
use Rattle.g4_outcome.specs.Meaning.{IsMeant, IsMeantAnywhere}
use Rattle.g4_outcome.specs.declared.outcome.Outcome.{Outcome}

-- no outcome
pub none_meant : (interpreter : Interpreter) → All (IsMeantAnywhere interpreter) []
none_meant interpreter = All-nil (IsMeantAnywhere interpreter)

-- all outcomes and one more
pub one_more_meant : (interpreter : Interpreter) (os : List Outcome) (outcome : Outcome) → All (IsMeantAnywhere interpreter) os →
    IsMeantAnywhere interpreter outcome → All (IsMeantAnywhere interpreter) (os ++ outcome ∷ [])
one_more_meant interpreter os outcome each one = All-append (IsMeantAnywhere interpreter) os (outcome ∷ []) each
    (All-cons (IsMeantAnywhere interpreter) outcome [] one (All-nil (IsMeantAnywhere interpreter)))

-- all of them from the start rule of the network
pub meant_from : (interpreter : Interpreter) (start : List ℕ) (os : List Outcome) → IsNetworkFrom interpreter start →
    All (IsMeantAnywhere interpreter) os → All (IsMeant interpreter start) os
meant_from interpreter start os network each = All-weaker (IsMeantAnywhere interpreter) (IsMeant interpreter start)
    (λ o h. h start network) os each
