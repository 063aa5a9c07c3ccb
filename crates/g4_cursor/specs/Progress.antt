-- How far a cursor has come, and what a call that moves it answers. This serves only contracts of calls that read parts of a
-- text: what a grammar text is does not rest on it.
use Rattle.std.specs.Prelude.{◌≡◌, ℕ, List, Bool, false, Option, Some, None, Result, IfOk}
use Rattle.g4_grammar_tokens.specs.declared.token.Kind.{Kind}
use Rattle.g4_syntax.specs.Notation.{Spelled, Terminal, Expression}
use Rattle.g4_syntax.specs.Trees.{Tree, begins_there, Reads, Stops}
use Rattle.g4_cursor.specs.Sets.{bytes_at, BeginsBad, HasNoBad, HasFirstBad}
use Rattle.g4_cursor.specs.declared.cursor.Halt.{Halt}
use Rattle.g4_cursor.specs.declared.cursor.Halt.TheVariants.{Fault, BadSet}

-- these tokens are left to read, or reading has stopped before the first of them, or at the end
pub data Progress : Type 0 where
  reading : List Spelled → Progress
  stopped : Halt → List Spelled → Progress

-- the same by why reading has stopped
abbrev pub progress : Option Halt → List Spelled → Progress
progress None rest = reading rest
progress (Some halt) rest = stopped halt rest

-- reading stops here for this, if it has not stopped before
abbrev pub halted : Halt → Progress → Progress
halted halt (reading rest) = stopped halt rest
halted halt (stopped before rest) = stopped before rest

-- what is left, from the token on before which reading stopped
abbrev pub rest_of : Progress → List Spelled
rest_of (reading rest) = rest
rest_of (stopped halt rest) = rest

-- why reading has stopped, if it has
abbrev pub halt_of : Progress → Option Halt
halt_of (reading rest) = None
halt_of (stopped halt rest) = Some halt

-- the bytes of the token that comes so many tokens after the next one, if it is of this kind
abbrev pub bytes_ahead : ℕ → Kind → Progress → Option (List ℕ)
bytes_ahead many kind (reading rest) = bytes_at many kind rest
bytes_ahead many kind (stopped halt rest) = None

-- if reading asks for the terminal here, a bad set begins with the next token
abbrev pub BadNext : Terminal → Progress → Type 0
BadNext t (reading rest) = BeginsBad t rest
BadNext t (stopped halt rest) = ⊥

-- whether the expression can begin with the next token
unfoldable pub is_next : Expression → Progress → Bool
is_next x (reading rest) = begins_there x rest
is_next x (stopped halt rest) = false

-- reading the expression from the tokens `from` on stops before the tokens `rest`: the first of them cannot come there, or a bad
-- set begins with it; there is no bad set before
pub data Halts : Halt → Expression → List Spelled → List Spelled → Type 0 where
  at_fault : {x : Expression} {from rest : List Spelled} → Stops x from rest → HasNoBad x from → Halts Fault x from rest
  at_bad_set : {x : Expression} {from rest : List Spelled} → HasFirstBad x from rest → Halts BadSet x from rest

-- The expression is read, with no bad set in it, and this holds of its tree; or reading stops in it; or it had stopped before.
pub data Moves {x : Expression} (Says : Tree x → Type 0) : Progress → Progress → Type 0 where
  reads : (from to : List Spelled) (tree : Tree x) → Reads tree from to → HasNoBad x from → Says tree
      → Moves Says (reading from) (reading to)
  stops : (from rest : List Spelled) (halt : Halt) → Halts halt x from rest → Moves Says (reading from) (stopped halt rest)
  stays : (halt : Halt) (rest : List Spelled) → Moves Says (stopped halt rest) (stopped halt rest)

-- the cursor moves past the expression, unless reading stops
abbrev pub Passes : Expression → Progress → Progress → Type 0
Passes x old new = Moves {x = x} (λ tree. Unit {0}) old new

-- the cursor moves past the expression, and the call gives what is seen as the value of its tree, unless reading stops
abbrev pub GivesAs : {V W E : Type 0} {x : Expression} → (V → W) → (Tree x → W) → Progress → Progress → Result V E → Type 0
GivesAs view value old new result = IfOk result (λ v. Moves (λ tree. view v ≡ value tree) old new)

-- the cursor moves past the expression, and the call gives the value of its tree, unless reading stops
abbrev pub Gives : {V E : Type 0} {x : Expression} → (Tree x → V) → Progress → Progress → Result V E → Type 0
Gives value old new result = GivesAs (λ v. v) value old new result
