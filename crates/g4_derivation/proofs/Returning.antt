-- Each call of a left-recursive rule at a level above 0 returns to the decision of the rule's turns.
use Rattle.std.proofs.Common.{◌≡◌, ◌<◌, ◌≤◌, ◌⊎◌, inl, inr, ℕ, zero, suc, ◌+◌, List, [], ◌∷◌, Bool, true, false, cond, length, Option, Some, refl, sym, ◌∙◌, ap, subst, arith, slice_get, All}
use Rattle.std.proofs.lemmas.List.Elements.{All-weaker}
use native.Mathlib.Decide.{dec_lt}
use Rattle.std.specs.List.{enumerate_from}
use Rattle.g4_source.specs.Elements.{Alternatives, atom, then, either, Element, Elements, empty, block, or, none, atoms_of_either}
use Rattle.g4_source.specs.Rules.{alternatives_of}
use Rattle.g4_grammar.specs.StepRules.{CanBeRewritten, IsPlain, StepRule}
use Rattle.g4_grammar.specs.Steps.{added_rule}
use Rattle.g4_grammar.specs.declared.step.Step.TheVariants as steps
use Rattle.g4_layout.specs.Built.{IsBuilt}
use Rattle.g4_layout.specs.Layout.{LiesAsRule}
use Rattle.g4_layout.specs.Rules.{rule_number, rules_of}
use Rattle.g4_layout.proofs.Spans.{side_by_side_up}
use Rattle.g4_grammar.specs.Steps.{CallsRule}
use Rattle.g4_layout.proofs.Laying.{full_each, of_each}
use Rattle.g4_layout.proofs.Trees.{IsSound, AreSound, EachIsSound, CallsKnown, each_sound}
use Rattle.g4_net.specs.Loops.{HasLoops}
use Rattle.g4_net.specs.Loops.{LeadsSilently}
use Rattle.g4_leftrec.specs.OwnCalls.{operators, primaries, is_left_recursive}
use Rattle.g4_leftrec.specs.OwnSteps.{calls}
use Rattle.g4_leftrec.specs.Rewriting.{StepIn, Written, formed, loop_of, numberings, operand_level, operator_form, operator_forms, plain_alternative, precedence, primary_form, primary_forms, rewritten}
use Rattle.g4_net.specs.Leads.{IsTarget}
use Rattle.g4_net.specs.Network.{ParserNetwork, state_at, start_of, end_of}
use Rattle.g4_net.specs.Proper.{IsOf}
use Rattle.g4_net.specs.declared.network.State.{State}
use Rattle.g4_net.specs.declared.network.State.TheVariants.{Call, Decision, End, Level}
use Rattle.g4_derivation.specs.Alternatives.{each_of}
use Rattle.g4_derivation.proofs.Items.{map_item, item_map, numbered_item, operator_item, primary_item, begins_with_call}
use Rattle.g4_derivation.proofs.KnownStarts.{written_bodies}
use Rattle.g4_derivation.proofs.OfRules.{RuleHere, facts, rule_at, state_here}
use Rattle.g4_derivation.proofs.Placed.{IsHere, at_start, at_end, inside}
use Rattle.g4_derivation.proofs.RuleEdges.{here_inside, states_of_here}
use Rattle.g4_derivation.proofs.Starting.{LoopLies, TurnsLie, loop_lies, rule_starts}
use Rattle.g4_derivation.proofs.Turning.{end_free, shape_start_free}
use Rattle.g4_derivation.proofs.BuiltLoops as built_loops
use Rattle.g4_derivation.proofs.LastCalls.{IsZero, plain_is_zero, LastLevelled, all_zero, later_on, with_last, EachLastLevelled, starts_levelled, turns_levelled}

-- what holds of all alternatives holds of each
item_zero : (xs : List (Elements StepIn)) → EachIsSound IsZero (either xs) → (i : ℕ) (x : Elements StepIn) → slice_get xs i ≡ Some x →
    AreSound IsZero x
item_zero [] z i x is = absurd (let n : ⊥ = cc in n)
item_zero (y ∷ xs) z zero x is = let same : y ≡ x = cc in subst (AreSound IsZero) same z.0
item_zero (y ∷ xs) z (suc i) x is = item_zero xs z.1 i x is

module _ (net : ParserNetwork) (c called level back : ℕ) (is : state_at net c ≡ Some (Call called level back)) (above : 1 ≤ level) where
  -- and the other way round
  each_item : (k : ℕ) (xs : List (Elements StepIn)) → ((i : ℕ) (x : Elements StepIn) → slice_get xs i ≡ Some x → LastLevelled k x) →
      EachLastLevelled net c called level back is above k xs
  each_item k [] each = tt
  each_item k (x ∷ xs) each = (each 0 x refl, each_item k xs (λ i y at. each (suc i) y at))

  -- what the call leads to in a left-recursive rule
  record Returns (k m : ℕ) (forms : List (Elements StepIn)) : Type 0 where
    own : called ≡ k
    turning : ℕ
    turns : TurnsLie net k turning (turning + 1) m forms
    silently : LeadsSilently net back turning

  module _ (k n m : ℕ) (alternatives : List Written) (z : EachIsSound IsZero (either (written_bodies alternatives)))
      (place : (c ≡ start_of k) ⊎ ((n ≤ c) × (c < m))) where
    -- an alternative as it is written is at level 0
    written_zero : (j : ℕ) (a : Written) (xs : Elements StepIn) → slice_get alternatives j ≡ Some a → xs ≡ a.elements → AreSound IsZero xs
    written_zero j a xs at same = item_zero (written_bodies alternatives) z j xs
        (item_map (λ (b : Written). b.elements) alternatives j a at ∙ ap Some (sym same))

    primaries_levelled : EachLastLevelled net c called level back is above k (primary_forms k alternatives)
    primaries_levelled = each_item k (primary_forms k alternatives) (λ i y at.
        let x = map_item (primary_form k (length alternatives)) (primaries (calls k) alternatives) i y at in
        let a = primary_item k alternatives i x.0 x.1 in
        subst (LastLevelled k) (sym x.2) (with_last k (precedence (length alternatives) x.0.number) x.0.elements
        (written_zero a.0 a.1 x.0.elements a.2 a.4)))

    operators_levelled : EachLastLevelled net c called level back is above k (operator_forms k alternatives)
    operators_levelled = each_item k (operator_forms k alternatives) (λ i y at.
        let x = map_item (operator_form k (length alternatives)) (operators (calls k) alternatives) i y at in
        let a = operator_item k alternatives i x.0 x.1 in
        let b = begins_with_call k a.1.elements x.0.elements a.4 in
        let p = precedence (length alternatives) x.0.number in
        let rest : AreSound IsZero x.0.elements = (subst (AreSound IsZero) b.1 (written_zero a.0 a.1 a.1.elements a.2 refl)).1 in
        subst (LastLevelled k) (sym x.2) (later_on (atom (steps.Level p)) _ tt (with_last k (operand_level p x.0.right) x.0.elements rest)))

    -- a rule that is laid as a loop
    in_loop : LoopLies net k n m (primary_forms k alternatives) (operator_forms k alternatives) →
        Returns k m (operator_forms k alternatives)
    in_loop l = by (found place)
      where
        found : (c ≡ start_of k) ⊎ ((n ≤ c) × (c < m)) → (called ≡ k) × LeadsSilently net back l.turning
        found (inl same) = starts_levelled net c called level back is above primaries_levelled l.front (inl same)
        found (inr (from, below)) = elim (dec_lt c l.turning) [
          | yes before ↦ starts_levelled net c called level back is above primaries_levelled l.front (inr (from, before))
          | no after ↦ turns_levelled net c called level back is above (operator_forms k alternatives) operators_levelled l.turns
              (omega arith) below
        ]

        by : (called ≡ k) × LeadsSilently net back l.turning → Returns k m (operator_forms k alternatives)
        by (own, silently) = record { own = own; turning = l.turning; turns = l.turns; silently = silently }

    -- a rule as it is written has no such call
    not_plain : (xs : List (Elements StepIn)) → ((i : ℕ) (x : Elements StepIn) → slice_get xs i ≡ Some x → AreSound IsZero x) →
        LiesAsRule net k (either xs) n m → ⊥
    not_plain xs zeros l =
        let h = starts_levelled net c called level back is above (each_item (suc called) xs (λ i x at. all_zero x (zeros i x at)))
        (rule_starts xs l) place in
        omega (arith, h.0)

    -- a rule in the form in which it is laid
    by_form : (b : Bool) → LiesAsRule net k (either (written_bodies
        (cond b (plain_alternative (loop_of k alternatives) ∷ []) alternatives))) n m → Returns k m (operator_forms k alternatives)
    by_form true l = in_loop (loop_lies k (primary_forms k alternatives) l)
    by_form false l = absurd (not_plain (written_bodies alternatives) (item_zero (written_bodies alternatives) z) l)

-- there is one rule at a place
same_item : (o : Option StepRule) (x y : StepRule) → o ≡ Some x → o ≡ Some y → x ≡ y
same_item o x y e f = cc

-- two decisions of turns that end at the same state are one
one_turning : (net : ParserNetwork) (k p u m : ℕ) (xs ys : List (Elements StepIn)) → state_at net (end_of k) ≡ Some (End k) →
    TurnsLie net k p (p + 1) m xs → TurnsLie net k u (u + 1) m ys → u ≡ p
one_turning net k p u m xs ys last a b = elim (split p u) [
  | inl before ↦ (let h = inner p u xs ys a b before in absurd h)
  | inr (inl after) ↦ (let h = inner u p ys xs b a after in absurd h)
  | inr (inr same) ↦ same
]
  where
    split : (x y : ℕ) → (x < y) ⊎ ((y < x) ⊎ (y ≡ x))
    split x y = grind arith

    inner : (x y : ℕ) (vs ws : List (Elements StepIn)) → TurnsLie net k x (x + 1) m vs → TurnsLie net k y (y + 1) m ws → x < y → ⊥
    inner x y vs ws f g less =
        let first = built_loops.loop_of net k x m vs f last in
        let second = built_loops.loop_of net k y m ws g last in
        let up = side_by_side_up g.bodies in
        let h = first.stays y g.exit (Decision second.targets) less (omega (arith, f.after, g.after)) second.decides second.leaves in
        omega (arith, h.1, f.after, g.after)

module _ (set : List ℕ) (rules : List StepRule) (name : List ℕ) (net : ParserNetwork) (can : CanBeRewritten rules)
    (built : IsBuilt set (rewritten rules) (numberings rules) name net)
    (zeros : (j : ℕ) (rule : StepRule) → slice_get rules j ≡ Some rule → EachIsSound IsZero (alternatives_of rule)) where
  -- rule k as it is laid out
  abbrev Here : ℕ → Type 0
  Here = RuleHere set rules name net can built

  -- the form in which a rule is laid
  laid : (k j : ℕ) (rule : StepRule) → k ≡ suc j → slice_get rules j ≡ Some rule → (r : Here k) →
      r.alternatives ≡ alternatives_of (formed (k, rule))
  laid k j rule next at r =
      let found = map_item (λ (x : StepRule). alternatives_of x) (rewritten rules) j r.alternatives
      (subst (λ (q : ℕ). slice_get (rules_of set (rewritten rules) name) q ≡ Some r.alternatives) next r.is) in
      let form = map_item formed (enumerate_from 1 rules) j found.0 found.1 in
      let item = numbered_item 1 rules j form.0 form.1 in
      let this : form.0.1 ≡ rule = same_item (slice_get rules j) form.0.1 rule item.0 at in
      let first : form.0.0 ≡ k = omega (arith, item.1, next) in
      found.2 ∙ (ap (λ (x : StepRule). alternatives_of x) form.2
      ∙ (ap (λ (q : ℕ). alternatives_of (formed (q, form.0.1))) first ∙ ap (λ (x : StepRule). alternatives_of (formed (k, x))) this))

  -- a call is at the start of its rule or inside
  placed : (k c called level back : ℕ) (r : Here k) → IsHere r c → state_at net c ≡ Some (Call called level back) →
      (c ≡ start_of k) ⊎ ((r.from ≤ c) × (c < r.upto))
  placed k _ called level back r at_start is = inl refl
  placed k _ called level back r at_end is = absurd (let last = r.last in let no : ⊥ = cc in no)
  placed k c called level back r (inside _ from below) is = inr (from, below)

  -- what a call at a level above 0 leads to
  returns : (k c called level back : ℕ) (r : Here k) (is : state_at net c ≡ Some (Call called level back)) (above : 1 ≤ level) →
      (c ≡ start_of k) ⊎ ((r.from ≤ c) × (c < r.upto)) → (forms : List (Elements StepIn)) ×
      Returns net c called level back is above k r.upto forms
  returns zero c called level back r is above place =
      let first = added_rule set (rule_number (rewritten rules) name) in
      let same : r.alternatives ≡ first = (let at = r.is in cc) in
      absurd (not_plain net c called level back is above 0 r.from r.upto [] tt place (each_of first)
      (item_zero (each_of first) ((refl, ((tt, ((tt, tt), tt)), (tt, tt))), tt))
      (subst (λ (xs : Alternatives StepIn). LiesAsRule net 0 xs r.from r.upto) same r.lies))
  returns (suc j) c called level back r is above place =
      let rule = rule_at set rules name net can built (suc j) j refl r in (
        operator_forms (suc j) rule.0.alternatives,
        by_form net c called level back is above (suc j) r.from r.upto rule.0.alternatives (zeros j rule.0 rule.1) place
            (is_left_recursive (calls (suc j)) rule.0.alternatives)
            (subst (λ (xs : Alternatives StepIn). LiesAsRule net (suc j) xs r.from r.upto) (laid (suc j) j rule.0 refl rule.1 r) r.lies),
      )

  -- the turns at a decision that leads to a level
  turns_at : (k p t q v : ℕ) (s : State (List ℕ)) (r : Here k) → IsHere r p → state_at net p ≡ Some s → IsTarget s t →
      state_at net t ≡ Some (Level q v) → (forms : List (Elements StepIn)) × TurnsLie net k p (p + 1) r.upto forms
  turns_at k _ t q v s r at_start is to level = let f = facts set rules name net can built k r in
      absurd ((shape_start_free net k r.last f.shape f.free).1 t s is to q v level)
  turns_at k _ t q v s r at_end is to level = absurd ((end_free net k r.last).1 t s is to q v level)
  turns_at k p t q v s r (inside _ from below) is to level = elim (here_inside set rules name net can built k r p from below).avoids [
    | inl avoids ↦ absurd (avoids t s is to q v level)
    | inr turns ↦ (_, turns)
  ]

  -- each call of the rule at a level above 0 returns there
  pub calls_return : (k p t q v : ℕ) (s : State (List ℕ)) → IsOf net k p → state_at net p ≡ Some s → IsTarget s t →
      state_at net t ≡ Some (Level q v) → (c level back : ℕ) → state_at net c ≡ Some (Call k level back) → 1 ≤ level →
      LeadsSilently net back p
  calls_return k p t q v s of is to at c level back call above =
      let w = state_here set rules name net can built c (Call k level back) call in
      let h = returns w.number c k level back w.rule call above (placed w.number c k level back w.rule w.here call) in
      let of_it : IsOf net w.number p = subst (λ (j : ℕ). IsOf net j p) h.1.own of in
      let a = turns_at w.number p t q v s w.rule (states_of_here set rules name net can built w.number w.rule of_it) is to at in
      let same : h.1.turning ≡ p = one_turning net w.number p h.1.turning w.rule.upto a.0 h.0 w.rule.last a.1 h.1.turns in
      subst (LeadsSilently net back) same h.1.silently

mutual
  -- what is sound of more is sound of less
  element_less : (x : Element StepIn) → IsSound (CallsKnown IsZero CallsRule (λ j. Unit {0})) x → IsSound IsZero x
  element_less (atom a) h = h.0
  element_less (block label repeat xs) h = (h.0, either_less xs h.1)

  in_order_less : (xs : Elements StepIn) → AreSound (CallsKnown IsZero CallsRule (λ j. Unit {0})) xs → AreSound IsZero xs
  in_order_less empty h = tt
  in_order_less (then x xs) h = (element_less x h.0, in_order_less xs h.1)

  either_less : (xs : Alternatives StepIn) → EachIsSound (CallsKnown IsZero CallsRule (λ j. Unit {0})) xs → EachIsSound IsZero xs
  either_less none h = tt
  either_less (or x xs) h = (in_order_less x h.0, either_less xs h.1)

-- every network of rewritten rules has its levels at loops
pub has_loops : (set : List ℕ) (rules : List StepRule) (name : List ℕ) (net : ParserNetwork) → CanBeRewritten rules →
    IsBuilt set (rewritten rules) (numberings rules) name net → HasLoops net
has_loops set rules name net can built = record {
  decided = built_loops.decided set rules name net can built;
  starts = built_loops.starts set rules name net can built;
  loops = λ k p t q v s below of is to at. let l = built_loops.loops set rules name net can built k p t q v s below of is to at in (
    l.0,
    l.1,
    λ c level back call above. calls_return set rules name net can built zeros k p t q v s of is to at c level back call
        above,
  );
}
  where
    zeros : (j : ℕ) (rule : StepRule) → slice_get rules j ≡ Some rule → EachIsSound IsZero (alternatives_of rule)
    zeros j rule at =
        let found = item_map (λ (r : StepRule). alternatives_of r) rules j rule at in
        either_less (alternatives_of rule) (each_sound IsZero CallsRule (λ j. Unit {0}) (alternatives_of rule)
        (full_each rules can.full j (alternatives_of rule) found)
        (All-weaker IsPlain IsZero plain_is_zero (atoms_of_either (alternatives_of rule))
        (of_each (λ ys. All IsPlain (atoms_of_either ys)) rules can.plain j (alternatives_of rule) found)) (λ i c. tt))
