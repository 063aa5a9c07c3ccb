-- The rewritten rules. Of n alternatives of a left-recursive rule e, alternative i has the precedence p = n - i + 1, and
--
--   e x e   becomes the operator   level p, x, e at level p + 1, or at level p where it is right associative
--   e x     becomes the operator   level p, x
--   x e     becomes the primary    x, e at level p
--   x       stays a primary
--
-- where actions and predicates that follow the last e stay after it. The rule has one alternative then: the primaries in order as a
-- block, or the only one and an empty step, and after that the operators in order, any number of times.
use Rattle.std.specs.Prelude.{ℕ, ◌+◌, ◌-◌, List, [], ◌∷◌, map, Bool, false, cond, Option, Some, None, length}
use Rattle.std.specs.List.{enumerate_from}
use Rattle.g4_source.specs.declared.element.Repeat.TheVariants.{Once}
use Rattle.g4_source.specs.Elements.{atom, block, Elements, empty, then, none, either}
use Rattle.g4_source.specs.Marks.{onto}
use Rattle.g4_source.specs.declared.rule.RuleAlternative.{RuleAlternative}
use Rattle.g4_grammar.specs.declared.step.Numbering.{Numbering}
use Rattle.g4_grammar.specs.declared.step.Step.{Step}
use Rattle.g4_grammar.specs.declared.step.Step.TheVariants.{Call, Level, Empty}
use Rattle.g4_grammar.specs.Steps.{any_number}
use Rattle.g4_grammar.specs.StepRules.{StepRule}
use Rattle.g4_leftrec.specs.OwnCalls.{LastSelf, Part, before_self, is_left_recursive, operators, primaries}
use Rattle.g4_leftrec.specs.OwnSteps.{calls, is_silent}

-- the atoms of a rule of a parser
abbrev pub StepIn : Type 0
StepIn = Step (List ℕ)

-- an alternative of the rule, as it is written
abbrev pub Written : Type 0
Written = RuleAlternative StepIn

-- the precedence of alternative i of n: the first has the highest, and the last has 1
abbrev pub precedence : ℕ → ℕ → ℕ
precedence n i = n + 1 - i

-- the level of the right operand of an operator of this precedence: operators of the same precedence can be in it where it is right
-- associative
abbrev pub operand_level : ℕ → Bool → ℕ
operand_level p right = cond right p (p + 1)

-- rule k at this level, in its place among the elements
abbrev pub last_at : ℕ → ℕ → Elements StepIn → Option (LastSelf StepIn) → Elements StepIn
last_at k level xs None = xs
last_at k level xs (Some last) = onto last.before (then (atom (Call k level)) last.trailing)

-- the elements with rule k at this level, where it is the last of them
abbrev pub with_last_at : ℕ → ℕ → Elements StepIn → Elements StepIn
with_last_at k level xs = last_at k level xs (before_self (calls k) is_silent xs)

-- the elements of an operator of rule k of this precedence, given what follows the rule itself
abbrev pub operator_elements : ℕ → ℕ → Bool → Elements StepIn → Elements StepIn
operator_elements k p right rest = then (atom (Level p)) (with_last_at k (operand_level p right) rest)

-- an operator of rule k, which has n alternatives
abbrev pub operator_form : ℕ → ℕ → Part StepIn → Elements StepIn
operator_form k n x = operator_elements k (precedence n x.number) x.right x.elements

-- a primary
abbrev pub primary_form : ℕ → ℕ → Part StepIn → Elements StepIn
primary_form k n x = with_last_at k (precedence n x.number) x.elements

-- the operators of rule k of these alternatives, and the primaries
abbrev pub operator_forms : ℕ → List Written → List (Elements StepIn)
operator_forms k alternatives = map (operator_form k (length alternatives)) (operators (calls k) alternatives)

abbrev pub primary_forms : ℕ → List Written → List (Elements StepIn)
primary_forms k alternatives = map (primary_form k (length alternatives)) (primaries (calls k) alternatives)

-- the elements of one of the primaries, and then these
abbrev pub after_primary : List (Elements StepIn) → Elements StepIn → Elements StepIn
after_primary [] more = then (block None Once none) more
after_primary (x ∷ []) more = onto x (then (atom Empty) more)
after_primary (x ∷ y ∷ others) more = then (block None Once (either (x ∷ y ∷ others))) more

-- operators, any number of times
abbrev pub turns_of : List (Elements StepIn) → Elements StepIn
turns_of operators = then (block None any_number (either operators)) empty

-- the one alternative of rule k of these alternatives, where it is left-recursive
abbrev pub loop_of : ℕ → List Written → Elements StepIn
loop_of k alternatives = after_primary (primary_forms k alternatives) (turns_of (operator_forms k alternatives))

-- an alternative without a flag and a label
abbrev pub plain_alternative : Elements StepIn → Written
plain_alternative x = record { right = false; elements = x; label = None }

-- a rule with its number in the form in which it is laid
abbrev pub formed : ℕ × StepRule → StepRule
formed x = record {
  name = x.1.name;
  alternatives =
      cond (is_left_recursive (calls x.0) x.1.alternatives) (plain_alternative (loop_of x.0 x.1.alternatives) ∷ []) x.1.alternatives;
}

-- the rules, which count from 1, in the forms in which they are laid
abbrev pub rewritten : List StepRule → List StepRule
rewritten rules = map formed (enumerate_from 1 rules)

-- the numbers of the alternatives with which rule k starts: all of them, or the primaries
abbrev pub starts_of : ℕ → List Written → List ℕ
starts_of k alternatives = cond (is_left_recursive (calls k) alternatives) (map (λ x. x.number) (primaries (calls k) alternatives))
    (map (λ x. x.0) (enumerate_from 1 alternatives))

-- what is written of the states of a rule with its number
abbrev pub numbering_of : ℕ × StepRule → Numbering
numbering_of x = record { starts = starts_of x.0 x.1.alternatives; count = length x.1.alternatives }

-- the same of each rule
abbrev pub numberings : List StepRule → List Numbering
numberings rules = map numbering_of (enumerate_from 1 rules)
