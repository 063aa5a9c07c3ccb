-- Worked examples: alternatives of rule 1, which is e, as they are laid, and the numbers with which the rule starts.
use Rattle.std.proofs.Common.{◌≡◌, ℕ, List, [], ◌∷◌, map, true, false, None, refl}
use Rattle.g4_source.specs.declared.element.Repeat.TheVariants.{Once}
use Rattle.g4_source.specs.Elements.{Element, atom, block, only, either}
use Rattle.g4_source.specs.Trees.{in_order}
use Rattle.g4_grammar.specs.declared.step.Step.TheVariants.{Edge, Call, Predicate, Level, Action, Empty}
use Rattle.g4_grammar.specs.Steps.{any_number}
use Rattle.g4_leftrec.specs.OwnCalls.{is_left_recursive}
use Rattle.g4_leftrec.specs.OwnSteps.{calls}
use Rattle.g4_leftrec.specs.Rewriting.{StepIn, Written, loop_of, starts_of}

-- a token
abbrev token : ℕ → Element StepIn
token symbol = atom (Edge (symbol ∷ []))

-- e at a level
abbrev e : ℕ → Element StepIn
e level = atom (Call 1 level)

-- the test of a level
abbrev level : ℕ → Element StepIn
level p = atom (Level p)

-- an action
abbrev action : Element StepIn
action = atom Action

-- the empty step
abbrev nothing : Element StepIn
nothing = atom Empty

-- an alternative as it is written
abbrev written : List (Element StepIn) → Written
written xs = record { right = false; elements = in_order xs; label = None }

-- a right associative one
abbrev right : List (Element StepIn) → Written
right xs = record { right = true; elements = in_order xs; label = None }

-- one of these alternatives
abbrev one_of : List (List (Element StepIn)) → Element StepIn
one_of xs = block None Once (either (map in_order xs))

-- any number of these operators
abbrev turns : List (List (Element StepIn)) → Element StepIn
turns xs = block None any_number (either (map in_order xs))

abbrev times : Element StepIn
times = token 1

abbrev plus : Element StepIn
plus = token 2

abbrev minus : Element StepIn
minus = token 3

abbrev open_bracket : Element StepIn
open_bracket = token 4

abbrev close_bracket : Element StepIn
close_bracket = token 5

abbrev integer : Element StepIn
integer = token 6

-- e : e '*' e | e '+' e | '(' e ')' | INT
abbrev arithmetic : List Written
arithmetic = written (e 0 ∷ times ∷ e 0 ∷ []) ∷ written (e 0 ∷ plus ∷ e 0 ∷ []) ∷ written (open_bracket ∷ e 0 ∷ close_bracket ∷ [])
    ∷ written (integer ∷ []) ∷ []

arithmetic_laid : loop_of 1 arithmetic ≡ in_order
    (one_of ((open_bracket ∷ e 0 ∷ close_bracket ∷ []) ∷ (integer ∷ []) ∷ [])
    ∷ turns ((level 4 ∷ times ∷ e 5 ∷ []) ∷ (level 3 ∷ plus ∷ e 4 ∷ []) ∷ []) ∷ [])
arithmetic_laid = refl

arithmetic_starts : starts_of 1 arithmetic ≡ 3 ∷ 4 ∷ []
arithmetic_starts = refl

-- e : <assoc=right> e '^' e | INT
abbrev power : List Written
power = right (e 0 ∷ token 7 ∷ e 0 ∷ []) ∷ written (integer ∷ []) ∷ []

power_laid : loop_of 1 power ≡ in_order (integer ∷ nothing ∷ turns ((level 2 ∷ token 7 ∷ e 2 ∷ []) ∷ []) ∷ [])
power_laid = refl

power_starts : starts_of 1 power ≡ 2 ∷ []
power_starts = refl

-- e : e '*' e | '-' e | e '+' e | INT
prefix : loop_of 1 (written (e 0 ∷ times ∷ e 0 ∷ []) ∷ written (minus ∷ e 0 ∷ []) ∷ written (e 0 ∷ plus ∷ e 0 ∷ [])
    ∷ written (integer ∷ []) ∷ [])
    ≡ in_order (one_of ((minus ∷ e 3 ∷ []) ∷ (integer ∷ []) ∷ [])
    ∷ turns ((level 4 ∷ times ∷ e 5 ∷ []) ∷ (level 2 ∷ plus ∷ e 3 ∷ []) ∷ []) ∷ [])
prefix = refl

-- e : e '!' | e | INT, where nothing follows the second e
suffix : loop_of 1 (written (e 0 ∷ token 8 ∷ []) ∷ written (e 0 ∷ []) ∷ written (integer ∷ []) ∷ [])
    ≡ in_order (integer ∷ nothing ∷ turns ((level 3 ∷ token 8 ∷ []) ∷ (level 2 ∷ []) ∷ []) ∷ [])
suffix = refl

-- e : e '?' e ':' e | INT
ternary : loop_of 1 (written (e 0 ∷ token 9 ∷ e 0 ∷ token 10 ∷ e 0 ∷ []) ∷ written (integer ∷ []) ∷ [])
    ≡ in_order (integer ∷ nothing ∷ turns ((level 2 ∷ token 9 ∷ e 0 ∷ token 10 ∷ e 3 ∷ []) ∷ []) ∷ [])
ternary = refl

-- e : e e | INT
application : loop_of 1 (written (e 0 ∷ e 0 ∷ []) ∷ written (integer ∷ []) ∷ [])
    ≡ in_order (integer ∷ nothing ∷ turns ((level 2 ∷ e 3 ∷ []) ∷ []) ∷ [])
application = refl

-- e : e '+' e {..} {..}? | '-' e {..} | INT {..}
trailing : loop_of 1 (written (e 0 ∷ plus ∷ e 0 ∷ action ∷ atom (Predicate 0) ∷ []) ∷ written (minus ∷ e 0 ∷ action ∷ [])
    ∷ written (integer ∷ action ∷ []) ∷ [])
    ≡ in_order (one_of ((minus ∷ e 2 ∷ action ∷ []) ∷ (integer ∷ action ∷ []) ∷ [])
    ∷ turns ((level 3 ∷ plus ∷ e 4 ∷ action ∷ atom (Predicate 0) ∷ []) ∷ []) ∷ [])
trailing = refl

-- e : (e) '+' e | INT, which does not begin with a plain e
abbrev bracketed : List Written
bracketed = written (block None Once (only (in_order (e 0 ∷ []))) ∷ plus ∷ e 0 ∷ []) ∷ written (integer ∷ []) ∷ []

bracketed_stays : is_left_recursive (calls 1) bracketed ≡ false
bracketed_stays = refl

bracketed_starts : starts_of 1 bracketed ≡ 1 ∷ 2 ∷ []
bracketed_starts = refl
