-- Reading the test that tokens begin with, for the contracts of the functions that do.
use Rattle.std.specs.Prelude.{◌≡◌, ℕ, true, false, List, [], ◌∷◌, Option, Some, None, Result, Ok, Err, codes, option_map, if◌then◌else◌}
use Rattle.std.specs.Str.{bytes_eq}
use Rattle.g4_preds.specs.declared.fault.Fault.{Fault}
use Rattle.g4_preds.specs.declared.fault.Fault.TheVariants.{Unknown, NoMemory}
use Rattle.g4_preds.specs.declared.node.Test.{Test}
use Rattle.g4_preds.specs.declared.node.Test.TheVariants.{Constant, Flag, Inside, TextIs}
use Rattle.g4_preds.specs.declared.test_reader.Keyword.{Keyword}
use Rattle.g4_preds.specs.declared.test_reader.Keyword.TheVariants as keywords
use Rattle.g4_preds.specs.declared.test_reader.Found.{Found}
use Rattle.g4_preds.specs.declared.token.Token.{Token}
use Rattle.g4_preds.specs.declared.token.Token.TheVariants.{Name, Digit, Literal, LeftParenthesis, RightParenthesis, DoubleEquals}

-- the call answers with this value, or that there is none, unless memory runs out
abbrev pub Gives : {T : Type 0} → Option T → Result T Fault → Type 0
Gives wanted (Ok found) = wanted ≡ Some found
Gives wanted (Err Unknown) = wanted ≡ None
Gives wanted (Err NoMemory) = Unit {0}

-- the keyword that a name is where a test begins
abbrev pub keyword : List ℕ → Option Keyword
keyword name =
    if bytes_eq name (codes "true") then Some keywords.True
    else (if bytes_eq name (codes "false") then Some keywords.False
    else (if bytes_eq name (codes "flag") then Some keywords.Flag
    else (if bytes_eq name (codes "inside") then Some keywords.Inside
    else (if bytes_eq name (codes "text") then Some keywords.Text else None))))

-- the name of `( NAME )`
abbrev pub argument : List Token → Option (List ℕ)
argument (LeftParenthesis ∷ Name name ∷ RightParenthesis ∷ rest) = Some name
argument tokens = None

-- the test of `( k ) == LITERAL`
abbrev pub comparison : List Token → Option Test
comparison (LeftParenthesis ∷ Digit nth ∷ RightParenthesis ∷ DoubleEquals ∷ Literal text ∷ rest) = Some (TextIs nth text)
comparison tokens = None

-- the test that a keyword begins, with the number of its tokens after the keyword
abbrev pub test_after : Keyword → List Token → Option Found
test_after keywords.True rest = Some (record { test = Constant true; more = 0 })
test_after keywords.False rest = Some (record { test = Constant false; more = 0 })
test_after keywords.Flag rest = option_map (λ name. record { test = Flag name; more = 3 }) (argument rest)
test_after keywords.Inside rest = option_map (λ rule. record { test = Inside rule; more = 3 }) (argument rest)
test_after keywords.Text rest = option_map (λ t. record { test = t; more = 5 }) (comparison rest)

-- the test that a name begins
abbrev pub named_test : List ℕ → List Token → Option Found
named_test name rest = elim (keyword name) [ Some k ↦ test_after k rest | None ↦ None ]

-- the test that begins with the token, before those after it
abbrev pub test_at : Token → List Token → Option Found
test_at (Name name) rest = named_test name rest
test_at token rest = None

-- the test that the tokens begin with
abbrev pub first_test : List Token → Option Found
first_test [] = None
first_test (token ∷ rest) = test_at token rest
