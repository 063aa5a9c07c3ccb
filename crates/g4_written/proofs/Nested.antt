-- A rule derives exactly the words of a primary and then operators.
use Rattle.std.proofs.Common.{◌≡◌, ◌⊎◌, ◌↔◌, ℕ, List, [], ◌∷◌, ◌++◌, Some, inl, inr, refl, sym, ◌∙◌, ap, subst, append-nil, append_assoc, slice_get, arith}
use Rattle.std.specs.List.{All, concat}
use Rattle.std.proofs.lemmas.List.Elements.{All-nil, All-cons, All-append, All-head, All-tail}
use Rattle.std.proofs.lemmas.Option.{same_Some}
use Rattle.g4_source.specs.Elements.{atom, block, Elements, empty, then, Alternatives, none, or}
use Rattle.g4_grammar.specs.declared.step.Step.TheVariants.{Edge, Call, Predicate, Level, Action, Empty}
use Rattle.g4_grammar.specs.Derives.{an_atom, a_call, nothing, one_more, this, another}
use Rattle.g4_grammar.specs.OwnCalls.{IsOneOf, IsOperator}
use Rattle.g4_grammar.specs.StepRules.{StepRule, by_number}
use Rattle.g4_grammar.specs.Steps.{CallsRule, ReadsSymbols}
use Rattle.g4_leftrec.specs.Rewriting.{StepIn}
use Rattle.g4_written.specs.Nests.{HasNest, IsNest, IsOfOperator, IsOfPrimary}
use Rattle.g4_written.specs.Written.{RuleDerives}
use Rattle.g4_written.proofs.Parts.{ByOne, ByAll, ByEither}

-- numbers are the same, or not
same_or_not : (j k : ℕ) → (j ≡ k) ⊎ (j ≡ k → ⊥)
same_or_not j k = grind arith

-- a step calls the rule, or not
calls_or_not : (k : ℕ) (a : StepIn) → CallsRule a k ⊎ (CallsRule a k → ⊥)
calls_or_not k (Edge set) = inr (λ c. c)
calls_or_not k (Call rule level) = same_or_not k rule
calls_or_not k (Predicate n) = inr (λ c. c)
calls_or_not k (Level q) = inr (λ c. c)
calls_or_not k Action = inr (λ c. c)
calls_or_not k Empty = inr (λ c. c)

-- one that calls reads nothing itself
reads_or_calls : (k : ℕ) (a : StepIn) (w : List ℕ) → ReadsSymbols a w → CallsRule a k → ⊥
reads_or_calls k (Edge set) w r c = c
reads_or_calls k (Call rule level) w r c = r
reads_or_calls k (Predicate n) w r c = c
reads_or_calls k (Level q) w r c = c
reads_or_calls k Action w r c = c
reads_or_calls k Empty w r c = c

-- one calls one rule
one_called : (j k : ℕ) (a : StepIn) → CallsRule a j → CallsRule a k → j ≡ k
one_called j k (Edge set) c d = absurd c
one_called j k (Call rule level) c d = c ∙ sym d
one_called j k (Predicate n) c d = absurd c
one_called j k (Level q) c d = absurd c
one_called j k Action c d = absurd c
one_called j k Empty c d = absurd c

-- one word more at the end
concat_more : (us : List (List ℕ)) (v : List ℕ) → concat (us ++ v ∷ []) ≡ concat us ++ v
concat_more [] v = append-nil v
concat_more (u ∷ us) v = ap (λ (x : List ℕ). u ++ x) (concat_more us v) ∙ sym (append_assoc u (concat us) v)

module _ (rules : List (Alternatives StepIn)) (k : ℕ) (xs : Alternatives StepIn) (at : slice_get rules k ≡ Some xs) where
  -- a primary alone
  alone : (w : List ℕ) → IsOfPrimary rules k xs w → IsNest rules k xs w
  alone w p = record { first = w; turns = []; primary = p; operators = All-nil (IsOfOperator rules k xs); is = sym (append-nil w) }

  -- one operator more
  one_turn_more : (u v w : List ℕ) → IsNest rules k xs u → IsOfOperator rules k xs v → w ≡ u ++ v → IsNest rules k xs w
  one_turn_more u v w n o e = record {
    first = n.first;
    turns = n.turns ++ v ∷ [];
    primary = n.primary;
    operators = All-append (IsOfOperator rules k xs) n.turns (v ∷ []) n.operators
        (All-cons (IsOfOperator rules k xs) v [] o (All-nil (IsOfOperator rules k xs)));
    is = e ∙ (ap (λ (x : List ℕ). x ++ v) n.is ∙ (append_assoc n.first (concat n.turns) v
        ∙ ap (λ (x : List ℕ). n.first ++ x) (sym (concat_more n.turns v))));
  }

  mutual
    -- what one of some alternatives derives, which are all of the rule's
    nest_of : {ys : Alternatives StepIn} {w : List ℕ} → ByEither rules ys w → ((x : Elements StepIn) → IsOneOf ys x → IsOneOf xs x)
        → IsNest rules k xs w
    nest_of (this x ys w d) own = all_nest d (own x (inl refl))
    nest_of (another x ys w d) own = nest_of d (λ z among. own z (inr among))

    -- what one of the alternatives derives
    all_nest : {x : Elements StepIn} {w : List ℕ} → ByAll rules x w → IsOneOf xs x → IsNest rules k xs w
    all_nest nothing among = alone [] (empty, among, λ rest o. o, nothing)
    all_nest (one_more (block label repeat ys) rest u v w d ds is) among =
        alone w (then (block label repeat ys) rest, among, λ others o. o, one_more (block label repeat ys) rest u v w d ds is)
    all_nest (one_more (atom a) rest u v w d ds is) among = elim (calls_or_not k a) [
      | inl own ↦ one_turn_more u v w (called_nest d own) (then (atom a) rest, rest, among, (own, refl), ds) is
      | inr other ↦ alone w (then (atom a) rest, among, λ others o. other o.0, one_more (atom a) rest u v w d ds is)
    ]

    -- what the rule itself derives, where it is called
    called_nest : {a : StepIn} {w : List ℕ} → ByOne rules (atom a) w → CallsRule a k → IsNest rules k xs w
    called_nest (an_atom a w r) own = absurd (reads_or_calls k a w r own)
    called_nest (a_call a j ys w c there d) own =
        let same : j ≡ k = one_called j k a c own in
        let all : ys ≡ xs = same_Some ys xs (sym there ∙ (ap (slice_get rules) same ∙ at)) in
        nest_of d (λ x among. subst (λ (zs : Alternatives StepIn). IsOneOf zs x) all among)

  -- one of the alternatives derives what it derives
  one_derives : (ys : Alternatives StepIn) (x : Elements StepIn) (w : List ℕ) → IsOneOf ys x → ByAll rules x w → ByEither rules ys w
  one_derives none x w among d = absurd among
  one_derives (or y ys) x w (inl same) d = this y ys w (subst (λ (z : Elements StepIn). ByAll rules z w) same d)
  one_derives (or y ys) x w (inr among) d = another y ys w (one_derives ys x w among d)

  -- the rule itself, and then an operator
  operator_derives : (x rest : Elements StepIn) (u v w : List ℕ) → IsOperator CallsRule k x rest → ByEither rules xs u → ByAll rules rest v
      → w ≡ u ++ v → ByAll rules x w
  operator_derives empty rest u v w o d ds is = absurd o
  operator_derives (then (block label repeat ys) others) rest u v w o d ds is = absurd o
  operator_derives (then (atom a) others) rest u v w o d ds is =
      one_more (atom a) others u v w (a_call a k xs u o.0 at d) (subst (λ (z : Elements StepIn). ByAll rules z v) o.1 ds) is

  -- after a word of the rule, operators in order
  turns_derive : (turns : List (List ℕ)) (u w : List ℕ) → All (IsOfOperator rules k xs) turns → ByEither rules xs u
      → w ≡ u ++ concat turns → ByEither rules xs w
  turns_derive [] u w each d is = subst (ByEither rules xs) (sym (is ∙ append-nil u)) d
  turns_derive (v ∷ turns) u w each d is =
      let o : IsOfOperator rules k xs v = All-head (IsOfOperator rules k xs) v turns each in
      turns_derive turns (u ++ v) w (All-tail (IsOfOperator rules k xs) v turns each)
      (one_derives xs o.0 (u ++ v) o.2 (operator_derives o.0 o.1 u v (u ++ v) o.3 d o.4 refl))
      (is ∙ sym (append_assoc u v (concat turns)))

  -- such a word is derived
  nest_derives : (w : List ℕ) → IsNest rules k xs w → ByEither rules xs w
  nest_derives w n = turns_derive n.turns n.first w n.operators (one_derives xs n.primary.0 n.first n.primary.1 n.primary.3) n.is

-- a rule derives exactly such words
pub rule_nests : (rules : List StepRule) (k : ℕ) (word : List ℕ) → RuleDerives rules k word ↔ HasNest rules k word
rule_nests rules k word = (
  λ d. (d.0, d.1, nest_of (by_number rules) k d.0 d.1 d.2 (λ x among. among)),
  λ n. (n.0, n.1, nest_derives (by_number rules) k n.0 n.1 word n.2),
)
