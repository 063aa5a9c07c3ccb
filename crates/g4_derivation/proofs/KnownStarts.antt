-- With which alternatives a rule starts as it is laid, and which alternatives these are as they are written.
use Rattle.std.proofs.Common.{◌≡◌, ℕ, zero, suc, ◌+◌, List, [], ◌∷◌, Bool, true, false, cond, Some, length, map, refl, sym, ◌∙◌, ap, subst, arith, slice_get}
use Rattle.std.specs.List.{enumerate_from}
use Rattle.std.proofs.lemmas.List.{length-map}
use Rattle.std.proofs.lemmas.List.FromFn.{length-enumerate_from}
use Rattle.g4_source.specs.Elements.{Elements, either}
use Rattle.g4_net.specs.Network.{ParserNetwork, end_of}
use Rattle.g4_layout.specs.Layout.{LiesAsRule}
use Rattle.g4_leftrec.specs.OwnCalls.{Part, is_left_recursive, operators, primaries}
use Rattle.g4_leftrec.specs.OwnSteps.{calls}
use Rattle.g4_leftrec.specs.Rewriting.{StepIn, Written, loop_of, operator_forms, plain_alternative, precedence, primary_form, primary_forms, starts_of}
use Rattle.g4_derivation.specs.Alternatives.{IsAlternative}
use Rattle.g4_derivation.proofs.Beginnings.{alternative_of_list}
use Rattle.g4_derivation.proofs.Items.{map_item, item_map, item_numbered, operator_item, primary_item, begins_with_call}
use Rattle.g4_derivation.proofs.LastCall.{AreAlike, the_same, alike_level_free, with_last_alike}
use Rattle.g4_derivation.proofs.LevelFree.{AreLevelFree, EachIsLevelFree}
use Rattle.g4_derivation.proofs.Shapes.{Shape, plain_shape, loop_shape, PartsAreLevelFree}
use Rattle.g4_derivation.proofs.Starting.{StartsLie, LoopLies, loop_lies, rule_starts}

-- the alternatives of a rule as it is written
abbrev pub written_bodies : List Written → List (Elements StepIn)
written_bodies alternatives = map (λ a. a.elements) alternatives

-- each alternative of a list is free of levels where each of its items is
items_free : (xs : List (Elements StepIn)) → ((i : ℕ) (x : Elements StepIn) → slice_get xs i ≡ Some x → AreLevelFree x)
    → EachIsLevelFree (either xs)
items_free [] each = tt
items_free (x ∷ xs) each = (each 0 x refl, items_free xs (λ i y is. each (suc i) y is))

-- and only there
item_free : (xs : List (Elements StepIn)) → EachIsLevelFree (either xs) → (i : ℕ) (x : Elements StepIn) → slice_get xs i ≡ Some x
    → AreLevelFree x
item_free [] free i x is = absurd (let n : ⊥ = cc in n)
item_free (y ∷ xs) free zero x is = let same : y ≡ x = cc in subst AreLevelFree same free.0
item_free (y ∷ xs) free (suc i) x is = item_free xs free.1 i x is

-- alternative j of a rule, by its number
pub alternative_by_number : (alternatives : List Written) (j : ℕ) (a : Written) (x : Elements StepIn) (number : ℕ)
    → slice_get alternatives j ≡ Some a → x ≡ a.elements → number ≡ j + 1 →
    IsAlternative (either (written_bodies alternatives)) number x
alternative_by_number alternatives j a x number is same counted =
    subst (λ (q : ℕ). IsAlternative (either (written_bodies alternatives)) q x) (sym counted)
    (alternative_of_list (written_bodies alternatives) j x
    (item_map (λ (b : Written). b.elements) alternatives j a is ∙ ap Some (sym same)))

-- The alternative y, which is at place i of those with which a rule starts, is this one as it is written, which has the number at
-- this place of the numbers.
pub record IsStart (alternatives : List Written) (numbers : List ℕ) (i : ℕ) (y : Elements StepIn) : Type 0 where
  pub written : Elements StepIn
  pub number : ℕ
  pub at : slice_get numbers i ≡ Some number
  pub is : IsAlternative (either (written_bodies alternatives)) number written
  pub alike : AreAlike written y

-- the alternatives with which rule k starts as it is laid out, and their numbers
pub record StartsAreKnown (net : ParserNetwork) (k n m : ℕ) (alternatives : List Written) (numbers : List ℕ) : Type 0 where
  pub forms : List (Elements StepIn)
  pub shape : Shape net k (length alternatives) n m forms (operators (calls k) alternatives)
  pub free : EachIsLevelFree (either forms)
  pub long : length forms ≡ length numbers
  pub each : (i : ℕ) (y : Elements StepIn) → slice_get forms i ≡ Some y → IsStart alternatives numbers i y

module _ (net : ParserNetwork) (k n m : ℕ) (alternatives : List Written)
    (free : EachIsLevelFree (either (written_bodies alternatives))) where
  -- an alternative as it is written has no level
  written_free : (j : ℕ) (a : Written) (xs : Elements StepIn) → slice_get alternatives j ≡ Some a → xs ≡ a.elements → AreLevelFree xs
  written_free j a xs is same = item_free (written_bodies alternatives) free j xs
      (item_map (λ (b : Written). b.elements) alternatives j a is ∙ ap Some (sym same))

  -- an operator has none
  operators_free : PartsAreLevelFree (operators (calls k) alternatives)
  operators_free i x is =
      let o = operator_item k alternatives i x is in
      let b = begins_with_call k o.1.elements x.elements o.4 in
      (subst AreLevelFree b.1 (written_free o.0 o.1 o.1.elements o.2 refl)).1

  -- a rule that is laid as it is written
  as_written : StartsLie net k (end_of k) n m (written_bodies alternatives)
      → StartsAreKnown net k n m alternatives (map (λ x. x.0) (enumerate_from 1 alternatives))
  as_written l = record {
    forms = written_bodies alternatives;
    shape = plain_shape l;
    free = free;
    long = length-map alternatives (λ (a : Written). a.elements)
        ∙ sym (length-map (enumerate_from 1 alternatives) (λ (x : ℕ × Written). x.0) ∙ length-enumerate_from 1 alternatives);
    each = λ i y is. let a = map_item (λ (b : Written). b.elements) alternatives i y is in record {
      written = y;
      number = 1 + i;
      at = item_map (λ (x : ℕ × Written). x.0) (enumerate_from 1 alternatives) i (1 + i, a.0) (item_numbered 1 alternatives i a.0 a.1);
      is = alternative_by_number alternatives i a.0 y (1 + i) a.1 a.2 (omega arith);
      alike = the_same y;
    };
  }

  -- a primary as it is laid
  laid_primary : (i : ℕ) (y : Elements StepIn) → slice_get (primary_forms k alternatives) i ≡ Some y →
      (x : Part StepIn) × (slice_get (primaries (calls k) alternatives) i ≡ Some x) × (y ≡ primary_form k (length alternatives) x)
  laid_primary i y is = map_item (primary_form k (length alternatives)) (primaries (calls k) alternatives) i y is

  -- a rule that is laid as a loop
  as_loop : LoopLies net k n m (primary_forms k alternatives) (operator_forms k alternatives)
      → StartsAreKnown net k n m alternatives (map (λ x. x.number) (primaries (calls k) alternatives))
  as_loop l = record {
    forms = primary_forms k alternatives;
    shape = loop_shape l.turning l.front operators_free l.turns;
    free = items_free (primary_forms k alternatives) (λ i y is.
        let x = laid_primary i y is in let a = primary_item k alternatives i x.0 x.1 in
        subst AreLevelFree (sym x.2) (alike_level_free (with_last_alike k (precedence (length alternatives) x.0.number) x.0.elements)
        (written_free a.0 a.1 x.0.elements a.2 a.4)));
    long = length-map (primaries (calls k) alternatives) (primary_form k (length alternatives))
        ∙ sym (length-map (primaries (calls k) alternatives) (λ (x : Part StepIn). x.number));
    each = λ i y is. let x = laid_primary i y is in let a = primary_item k alternatives i x.0 x.1 in record {
      written = x.0.elements;
      number = x.0.number;
      at = item_map (λ (z : Part StepIn). z.number) (primaries (calls k) alternatives) i x.0 x.1;
      is = alternative_by_number alternatives a.0 a.1 x.0.elements x.0.number a.2 a.4 a.3;
      alike = subst (AreAlike x.0.elements) (sym x.2) (with_last_alike k (precedence (length alternatives) x.0.number) x.0.elements);
    };
  }

  -- a rule in the form in which it is laid
  by_form : (b : Bool) → LiesAsRule net k (either
      (written_bodies (cond b (plain_alternative (loop_of k alternatives) ∷ []) alternatives))) n m →
      StartsAreKnown net k n m alternatives (cond b (map (λ x. x.number) (primaries (calls k) alternatives))
      (map (λ x. x.0) (enumerate_from 1 alternatives)))
  by_form true l = as_loop (loop_lies k (primary_forms k alternatives) l)
  by_form false l = as_written (rule_starts (written_bodies alternatives) l)

  -- the same of any rule
  pub starts_known : LiesAsRule net k (either (written_bodies
      (cond (is_left_recursive (calls k) alternatives) (plain_alternative (loop_of k alternatives) ∷ []) alternatives))) n m
      → StartsAreKnown net k n m alternatives (starts_of k alternatives)
  starts_known l = by_form (is_left_recursive (calls k) alternatives) l
