-- Levels put into elements.
use Rattle.std.proofs.Common.{◌≡◌, ℕ, ◌+◌, ◌<◌, List, [], ◌∷◌, Bool, true, false, cond, Option, Some, None, length, drop, map, set, take, refl, sym, ap, ◌∙◌}
use Rattle.g4_source.specs.Elements.{Element, atom, Elements, then}
use Rattle.g4_source.specs.Marks.{onto}
use Rattle.g4_source.specs.Trees.{element_of, in_order}
use Rattle.g4_source.specs.declared.element.Element.{Element as Node}
use Rattle.g4_source.specs.declared.element.Element.TheVariants as nodes
use Rattle.g4_source.proofs.Trees.{of_atom}
use Rattle.g4_grammar.specs.declared.step.Step.TheVariants.{Call, Level}
use Rattle.g4_leftrec.specs.OwnCalls.{LastSelf, after_self, are_silent, before_self, is_atom, with_first}
use Rattle.g4_leftrec.specs.OwnSteps.{calls, is_silent}
use Rattle.g4_leftrec.specs.Rewriting.{StepIn, last_at, with_last_at}
use Rattle.g4_leftrec.proofs.LastCalls.{around_other, silent_none}
use Rattle.g4_leftrec.proofs.Steps.{silent_calls_none}

module _ (k level p : ℕ) (xs : Elements StepIn) where
  by_last : (w : Option (LastSelf StepIn)) → last_at k level (then (atom (Level p)) xs) (with_first (atom (Level p)) w) ≡
      then (atom (Level p)) (last_at k level xs w)
  by_last None = refl
  by_last (Some last) = refl

  by_silent : (b : Bool) (w : Option (LastSelf StepIn)) → (b ≡ true → w ≡ None)
      → last_at k level (then (atom (Level p)) xs) (cond b None (with_first (atom (Level p)) w)) ≡
      then (atom (Level p)) (last_at k level xs w)
  by_silent false w h = by_last w
  by_silent true w h = ap (λ (v : Option (LastSelf StepIn)). then (atom (Level p)) (last_at k level xs v)) (sym (h refl))

  -- the test of a level in front is not the rule itself
  pub after_level : with_last_at k level (then (atom (Level p)) xs) ≡ then (atom (Level p)) (with_last_at k level xs)
  after_level = by_silent (are_silent is_silent xs) (before_self (calls k) is_silent xs)
      (silent_none (calls k) is_silent (silent_calls_none k) xs)

-- what follows the rule itself
after_first : (b : Bool) (xs rest : Elements StepIn) → cond b (Some xs) None ≡ Some rest → xs ≡ rest
after_first true xs rest h = cc
after_first false xs rest h = absurd (cc)

-- the elements with the test of a level in place of the first of them
pub level_first : (k level p : ℕ) (xs : List (Node StepIn)) (rest : Elements StepIn)
    → after_self (calls k) (in_order (map element_of xs)) ≡ Some rest →
    with_last_at k level (in_order (map element_of (set xs 0 (nodes.Atom (Level p))))) ≡ then (atom (Level p)) (with_last_at k level rest)
level_first k level p [] rest h = absurd (cc)
level_first k level p (x ∷ xs) rest h =
    let same : in_order (map element_of xs) ≡ rest = after_first (is_atom (calls k) (element_of x)) (in_order (map element_of xs)) rest h in
    ap (λ (y : Element StepIn). with_last_at k level (then y (in_order (map element_of xs)))) (of_atom (Level p))
    ∙ (ap (λ (ys : Elements StepIn). with_last_at k level (then (atom (Level p)) ys)) same ∙ after_level k level p rest)

-- rule k at a level in place of the last element
put_at : (k level : ℕ) (xs : List (Node StepIn)) (place : ℕ) → place < length xs →
    before_self (calls k) is_silent (in_order (map element_of xs))
    ≡ Some (record { before = in_order (map element_of (take place xs)); trailing = in_order (map element_of (drop (place + 1) xs)) }) →
    in_order (map element_of (set xs place (nodes.Atom (Call k level)))) ≡ with_last_at k level (in_order (map element_of xs))
put_at k level xs place within last =
    let front : Elements StepIn = in_order (map element_of (take place xs)) in
    let back : Elements StepIn = in_order (map element_of (drop (place + 1) xs)) in
    around_other xs place (nodes.Atom (Call k level)) within
    ∙ (ap (λ (y : Element StepIn). onto front (then y back)) (of_atom (Call k level))
    ∙ sym (ap (λ (w : Option (LastSelf StepIn)). last_at k level (in_order (map element_of xs)) w) last))

-- the same of elements that are also given as others
pub put_last : (k level : ℕ) (xs ys : List (Node StepIn)) (place : ℕ) → ys ≡ xs → place < length ys →
    before_self (calls k) is_silent (in_order (map element_of ys))
    ≡ Some (record { before = in_order (map element_of (take place ys)); trailing = in_order (map element_of (drop (place + 1) ys)) }) →
    in_order (map element_of (set xs place (nodes.Atom (Call k level)))) ≡ with_last_at k level (in_order (map element_of xs))
put_last k level xs ys place same within last =
    ap (λ (zs : List (Node StepIn)). in_order (map element_of (set zs place (nodes.Atom (Call k level))))) (sym same)
    ∙ (put_at k level ys place within last ∙ ap (λ (zs : List (Node StepIn)). with_last_at k level (in_order (map element_of zs))) same)
