-- Where the alternatives of left-recursive rules begin: which alternative it is, and what each then owes.
use Rattle.std.proofs.Common.{◌≡◌, ◌<◌, ◌≤◌, ◌⊎◌, inl, inr, ℕ, zero, suc, ◌+◌, ◌-◌, List, [], ◌∷◌, Bool, true, length, map, Option, Some, None, refl, sym, ◌∙◌, ap, subst, arith, slice_get, All, Contains}
use Rattle.std.proofs.lemmas.Bool.{cases_Bool}
use Rattle.std.proofs.lemmas.List.{length-map}
use Rattle.std.proofs.lemmas.List.Elements.{All-weaker}
use Rattle.std.proofs.lemmas.Option.{none-some, same_Some, slice_get_within}
use Rattle.std.specs.List.{enumerate_from}
use Rattle.g4_source.specs.Elements.{Alternatives, Elements, only, either, atoms_of_either}
use Rattle.g4_source.specs.Rules.{alternatives_of}
use Rattle.g4_grammar.specs.StepRules.{CanBeRewritten, IsPlain, StepRule}
use Rattle.g4_grammar.specs.Steps.{CallsRule}
use Rattle.g4_grammar.specs.declared.step.Numbering.{Numbering}
use Rattle.g4_layout.specs.Built.{IsBuilt}
use Rattle.g4_layout.specs.Layout.{LiesAsRule, LieSideBySide, no_other, another, one_more, a_level, with_exit}
use Rattle.g4_layout.specs.Numbers.{IsNumbered, StartsAreWritten, number_by}
use Rattle.g4_layout.specs.Rules.{rules_of}
use Rattle.g4_layout.proofs.Ends.{with_exit_cases}
use Rattle.g4_layout.proofs.Laying.{full_each, of_each}
use Rattle.g4_layout.proofs.Spans.{member_cases}
use Rattle.g4_layout.proofs.Trees.{AreSound, EachIsSound, each_sound}
use Rattle.g4_leftrec.specs.OwnCalls.{Part, after_self, before_self, is_left_recursive, operator_of, operator_with, operators, primaries, primary_of, primary_with}
use Rattle.g4_leftrec.specs.OwnSteps.{calls, is_silent}
use Rattle.g4_leftrec.specs.Rewriting.{StepIn, Written, formed, loop_of, numbering_of, numberings, operand_level, operator_form, operator_forms, precedence, primary_form, primary_forms, rewritten, starts_of, with_last_at}
use Rattle.g4_net.specs.Network.{ParserNetwork, IsFirst, state_at, start_of, written_at}
use Rattle.g4_net.specs.Proper.{IsOf}
use Rattle.g4_net.specs.declared.network.State.{State}
use Rattle.g4_net.specs.declared.network.State.TheVariants.{Decision, Level}
use Rattle.g4_derivation.specs.Alternatives.{IsOuterStart, all_numberings}
use Rattle.g4_derivation.proofs.Beginnings.{LiesTo, body_at, each_of_either}
use Rattle.g4_derivation.proofs.Items.{begins_with_call, item_map, kept_item, map_item, numbered_item}
use Rattle.g4_derivation.proofs.OfRules.{RuleHere, count_numberings, count_rules, facts, rule_here, rule_written}
use Rattle.g4_derivation.proofs.Placed.{IsHere, at_start, at_end, inside}
use Rattle.g4_derivation.proofs.RuleEdges.{later_number, later_target, not_at_start, states_of_here}
use Rattle.g4_derivation.proofs.Starting.{LoopLies, StartsLie, one_start, several_starts, TurnsLie, loop_lies}
use Rattle.g4_derivation.proofs.Turning.{end_free, shape_start_free, shape_states}
use Rattle.g4_written.specs.Precedence.{HasOperand, of_operator, of_prefix, IsAlternativeOf, IsLeftRecursive, IsOperatorOf}
use Rattle.g4_written.proofs.Operands.{IsFree, IsNotLevel, IsTurning, Owes, owes, plain_is_not_level}

-- what is kept of an alternative is a primary where it does not begin with the rule itself
primary_is : (k number : ℕ) (right : Bool) (xs : Elements StepIn) (o : Option (Elements StepIn)) (x : Part StepIn)
    → primary_with (calls k) number right xs o ≡ Some x → (o ≡ None) × (x.number ≡ number) × (x.elements ≡ xs)
primary_is k number right xs (Some rest) x e = absurd (none-some x e)
primary_is k number right xs None x e =
    let same : record { number = number; right = right; elements = xs } ≡ x = cc in
    (refl, sym (ap (λ (y : Part StepIn). y.number) same), sym (ap (λ (y : Part StepIn). y.elements) same))

-- and an operator where it does
operator_is : (k number : ℕ) (right : Bool) (o : Option (Elements StepIn)) (x : Part StepIn)
    → operator_with (calls k) number right o ≡ Some x → (o ≡ Some x.elements) × (x.number ≡ number) × (x.right ≡ right)
operator_is k number right None x e = absurd (none-some x e)
operator_is k number right (Some rest) x e =
    let same : record { number = number; right = right; elements = rest } ≡ x = cc in (
      ap (λ (y : Part StepIn). Some y.elements) same,
      sym (ap (λ (y : Part StepIn). y.number) same),
      sym (ap (λ (y : Part StepIn). y.right) same),
    )

-- what is sound of alternatives is sound of each
item_sound : (xs : List Written) → EachIsSound IsFree (either (map (λ (b : Written). b.elements) xs)) → (i : ℕ) (a : Written)
    → slice_get xs i ≡ Some a → AreSound IsFree a.elements
item_sound [] all i a is = absurd (none-some a is)
item_sound (b ∷ xs) all zero a is = subst (λ (c : Written). AreSound IsFree c.elements) (same_Some b a is) all.0
item_sound (b ∷ xs) all (suc i) a is = item_sound xs all.1 i a is

module _ (rules : List StepRule) where
  -- rule k is left-recursive
  abbrev pub LeftRecursive : ℕ → Type 0
  LeftRecursive k = (rule : StepRule) × IsLeftRecursive rules k rule

  -- there is one rule of a number
  one_rule : (k : ℕ) (a b : StepRule) → IsLeftRecursive rules k a → (place : ℕ) → k ≡ place + 1 → slice_get rules place ≡ Some b → a ≡ b
  one_rule k a b h place number is =
      let same : h.place ≡ place = omega (arith, h.number, number) in
      same_Some a b (sym (subst (λ (q : ℕ). slice_get rules q ≡ Some a) same h.is) ∙ is)

  -- a rule is left-recursive, or not
  by_rule : (k j : ℕ) → k ≡ j + 1 → (o : Option StepRule) → slice_get rules j ≡ o → (LeftRecursive k → ⊥) ⊎ LeftRecursive k
  by_rule k j number None is = inl (λ h.
      let same : h.1.place ≡ j = omega (arith, h.1.number, number) in
      none-some h.0 (sym is ∙ subst (λ (q : ℕ). slice_get rules q ≡ Some h.0) same h.1.is))
  by_rule k j number (Some rule) is = elim (cases_Bool (is_left_recursive (calls k) rule.alternatives)) [
    | inl recursive ↦ inr (rule, record { place = j; is = is; number = number; recursive = recursive })
    | inr plain ↦ inl (λ h.
        let same = one_rule k h.0 rule h.1 j number is in
        let other : is_left_recursive (calls k) rule.alternatives ≡ true =
        subst (λ (r : StepRule). is_left_recursive (calls k) r.alternatives ≡ true) same h.1.recursive in
        let no : ⊥ = cc in no)
  ]

  -- the same by its number
  pub recursive_or_not : (k : ℕ) → (LeftRecursive k → ⊥) ⊎ LeftRecursive k
  recursive_or_not zero = inl (λ h. absurd (omega (arith, h.1.number)))
  recursive_or_not (suc j) = by_rule (suc j) j (omega arith) (slice_get rules j) refl

  -- there is one alternative of a number
  one_alternative : (j index : ℕ) {k i n : ℕ} {a b : Written} {rule : StepRule} → IsAlternativeOf rules k i n a → k ≡ j + 1
      → slice_get rules j ≡ Some rule → slice_get rule.alternatives index ≡ Some b → i ≡ index + 1 → a ≡ b
  one_alternative j index {k} {a = a} {b = b} {rule = rule} h number is at counted =
      let same : h.index ≡ index = omega (arith, h.number, counted) in
      let found : slice_get rule.alternatives index ≡ Some a =
      subst (λ (q : ℕ). slice_get rule.alternatives q ≡ Some a) same
      (subst (λ (r : StepRule). slice_get r.alternatives h.index ≡ Some a) (one_rule k h.rule rule h.rule_is j number is) h.is) in
      same_Some a b (sym found ∙ at)

  -- and one count of alternatives
  one_count : (j : ℕ) {k i n : ℕ} {a : Written} {rule : StepRule} → IsAlternativeOf rules k i n a → k ≡ j + 1
      → slice_get rules j ≡ Some rule → n ≡ length rule.alternatives
  one_count j {k} {rule = rule} h number is =
      h.count ∙ ap (λ (r : StepRule). length r.alternatives) (one_rule k h.rule rule h.rule_is j number is)

  -- An alternative of rule k that is no operator begins at the state p: it owes what its operand asks for.
  pub record BeginsPrimary (net : ParserNetwork) (k i p : ℕ) : Type 0 where
    pub no_operator : (q : ℕ) → IsOperatorOf rules k i q → ⊥
    pub operand : (q : ℕ) → HasOperand rules k i q → Owes net k q p

  -- An operator of precedence q goes on at the state p.
  pub record BeginsOperator (net : ParserNetwork) (k i q p : ℕ) : Type 0 where
    pub operator : IsOperatorOf rules k i q
    pub operand : (level : ℕ) → HasOperand rules k i level → Owes net k level p

  module _ (set start : List ℕ) (net : ParserNetwork) (can : CanBeRewritten rules)
      (built : IsBuilt set (rewritten rules) (numberings rules) start net) where
    -- rule k as it is laid out
    abbrev pub Here : ℕ → Type 0
    Here = RuleHere set rules start net can built

    -- as they are written, rules have no levels
    written_free : (j : ℕ) (rule : StepRule) → slice_get rules j ≡ Some rule → EachIsSound IsFree (alternatives_of rule)
    written_free j rule is =
        let found = item_map (λ (r : StepRule). alternatives_of r) rules j rule is in
        each_sound IsNotLevel CallsRule (λ i. Unit {0}) (alternatives_of rule)
        (full_each rules can.full j (alternatives_of rule) found)
        (All-weaker IsPlain IsNotLevel plain_is_not_level (atoms_of_either (alternatives_of rule))
        (of_each (λ ys. All IsPlain (atoms_of_either ys)) rules can.plain j (alternatives_of rule) found)) (λ i c. tt)

    -- the form in which a rule is laid
    laid : (k j : ℕ) (rule : StepRule) → k ≡ suc j → slice_get rules j ≡ Some rule → (r : Here k)
        → r.alternatives ≡ alternatives_of (formed (k, rule))
    laid k j rule next is r =
        let found = map_item (λ (x : StepRule). alternatives_of x) (rewritten rules) j r.alternatives
        (subst (λ (q : ℕ). slice_get (rules_of set (rewritten rules) start) q ≡ Some r.alternatives) next r.is) in
        let form = map_item formed (enumerate_from 1 rules) j found.0 found.1 in
        let item = numbered_item 1 rules j form.0 form.1 in
        let this : form.0.1 ≡ rule = same_Some form.0.1 rule (sym item.0 ∙ is) in
        let first : form.0.0 ≡ k = omega (arith, item.1, next) in
        found.2 ∙ (ap (λ (x : StepRule). alternatives_of x) form.2
        ∙ (ap (λ (q : ℕ). alternatives_of (formed (q, form.0.1))) first ∙ ap (λ (x : StepRule). alternatives_of (formed (k, x))) this))

    -- where a rule is left-recursive it is laid as a loop
    formed_loop : (k : ℕ) (rule : StepRule) → is_left_recursive (calls k) rule.alternatives ≡ true
        → alternatives_of (formed (k, rule)) ≡ only (loop_of k rule.alternatives)
    formed_loop k rule recursive = rw recursive

    -- and starts with its primaries
    starts_loop : (k : ℕ) (rule : StepRule) → is_left_recursive (calls k) rule.alternatives ≡ true
        → starts_of k rule.alternatives ≡ map (λ x. x.number) (primaries (calls k) rule.alternatives)
    starts_loop k rule recursive = rw recursive

    module _ (k : ℕ) (rule : StepRule) (left : IsLeftRecursive rules k rule) where
      -- its number is that after its place
      next : k ≡ suc left.place
      next = omega (arith, left.number)

      -- the rule as it is laid out
      pub placed : Here k
      placed =
          let many = count_rules set rules start net can built in
          let below = slice_get_within rules left.place rule left.is in
          rule_here set rules start net can built k (omega (arith, left.number, many, below))

      -- the loop as which it is laid out
      loop_here : LoopLies net k placed.from placed.upto (primary_forms k rule.alternatives) (operator_forms k rule.alternatives)
      loop_here = loop_lies k (primary_forms k rule.alternatives)
          (subst (λ (xs : Alternatives StepIn). LiesAsRule net k xs placed.from placed.upto)
          (laid k left.place rule next left.is placed ∙ formed_loop k rule left.recursive) placed.lies)

      -- the first states of the turns are levels
      level_first : (count : ℕ) (parts : List (Part StepIn)) {firsts lasts : List ℕ} {n m : ℕ}
          → LieSideBySide net (either (map (operator_form k count) parts)) firsts lasts n m → (t : ℕ) → Contains firsts t
          → (q v : ℕ) × (state_at net t ≡ Some (Level q v))
      level_first count [] (no_other n) t c = absurd (omega (arith, c.1))
      level_first count (x ∷ parts)
          (another _ _ last n j m firsts lasts (one_more _ _ _ _ _ _ _ _ (a_level q _ _ is) l) ls) t c =
          elim (member_cases n firsts t c) [
            | inl same ↦ (q, n + 1, subst (λ (x : ℕ). state_at net x ≡ Some (Level q (n + 1))) (sym same) is)
            | inr more ↦ level_first count parts ls t more
          ]

      -- the decision of the turns
      turning_of : (count u m : ℕ) (parts : List (Part StepIn)) → TurnsLie net k u (u + 1) m (map (operator_form k count) parts)
          → IsTurning net k u
      turning_of count u m parts turns = record {
        targets = with_exit true turns.firsts turns.exit;
        exit = turns.exit;
        decides = turns.decides;
        ways = λ t c. elim (with_exit_cases true turns.firsts turns.exit t c) [
          | inl same ↦ inl same
          | inr old ↦ inr (level_first count parts turns.bodies t old)
        ];
        leaves = turns.leaves;
        end = placed.last;
      }

      -- a primary begins at the state
      primary_begins : (i : ℕ) (x : Part StepIn) (p : ℕ) → slice_get (primaries (calls k) rule.alternatives) i ≡ Some x
          → LiesTo net (primary_form k (length rule.alternatives) x) p loop_here.turning
          → ((j : ℕ) × (x.number ≡ j + 1)) × BeginsPrimary net k x.number p
      primary_begins i x p item lies =
          let kept = kept_item (primary_of (calls k)) (enumerate_from 1 rule.alternatives) i x item in
          let z = kept.1 in
          let at = numbered_item 1 rule.alternatives kept.0 z kept.2 in
          let parts = primary_is k z.0 z.1.right z.1.elements (after_self (calls k) z.1.elements) x kept.3 in
          let number : x.number ≡ kept.0 + 1 = omega (arith, parts.1, at.1) in (
            (kept.0, number),
            record {
              no_operator = not_operator z.1 kept.0 number at.0 parts.0;
              operand = owing z.1 kept.0 number at.0 parts.0 parts.2;
            },
          )
        where
          not_operator : (a : Written) (index : ℕ) → x.number ≡ index + 1 → slice_get rule.alternatives index ≡ Some a
              → after_self (calls k) a.elements ≡ None → (q : ℕ) → IsOperatorOf rules k x.number q → ⊥
          not_operator a index number at plain q (n, b, rest, h, begins, is) =
              let same : b ≡ a = one_alternative left.place index h left.number left.is at number in
              none-some rest (sym plain ∙ subst (λ (c : Written). after_self (calls k) c.elements ≡ Some rest) same begins)

          owing : (a : Written) (index : ℕ) → x.number ≡ index + 1 → slice_get rule.alternatives index ≡ Some a
              → after_self (calls k) a.elements ≡ None → x.elements ≡ a.elements → (q : ℕ) → HasOperand rules k x.number q → Owes net k q p
          owing a index number at plain elements _ (of_operator n b rest last h begins ends) =
              let same : b ≡ a = one_alternative left.place index h left.number left.is at number in
              absurd (none-some rest (sym plain ∙ subst (λ (c : Written). after_self (calls k) c.elements ≡ Some rest) same begins))
          owing a index number at plain elements _ (of_prefix n b last h begins ends) =
              let same : b ≡ a = one_alternative left.place index h left.number left.is at number in
              let count : n ≡ length rule.alternatives = one_count left.place h left.number left.is in
              let free : AreSound IsFree x.elements = subst (AreSound IsFree) (sym elements)
              (item_sound rule.alternatives (written_free left.place rule left.is) index a at) in
              let ends_so : before_self (calls k) is_silent x.elements ≡ Some last =
              subst (λ (ys : Elements StepIn). before_self (calls k) is_silent ys ≡ Some last) (sym elements)
              (subst (λ (c : Written). before_self (calls k) is_silent c.elements ≡ Some last) same ends) in
              let turns = turning_of (length rule.alternatives) loop_here.turning placed.upto
              (operators (calls k) rule.alternatives) loop_here.turns in
              subst (λ (m : ℕ). Owes net k (precedence m x.number) p) (sym count)
              (owes net k (precedence (length rule.alternatives) x.number) x.elements last turns lies.lies lies.leads free ends_so)

      -- an operator goes on at the state
      operator_goes_on : (u i q p : ℕ) (x : Part StepIn) → slice_get (operators (calls k) rule.alternatives) i ≡ Some x → IsTurning net k u
          → q ≡ precedence (length rule.alternatives) x.number
          → LiesTo net (with_last_at k (operand_level (precedence (length rule.alternatives) x.number) x.right) x.elements) p u
          → ((j : ℕ) × (x.number ≡ j + 1) × (j < length rule.alternatives)) × BeginsOperator net k x.number q p
      operator_goes_on u i q p x item turns level lies =
          let kept = kept_item (operator_of (calls k)) (enumerate_from 1 rule.alternatives) i x item in
          let z = kept.1 in
          let at = numbered_item 1 rule.alternatives kept.0 z kept.2 in
          let parts = operator_is k z.0 z.1.right (after_self (calls k) z.1.elements) x kept.3 in
          let number : x.number ≡ kept.0 + 1 = omega (arith, parts.1, at.1) in (
            (kept.0, number, slice_get_within rule.alternatives kept.0 z.1 at.0),
            record {
              operator = (
                length rule.alternatives,
                z.1,
                x.elements,
                record { rule = rule; rule_is = left; index = kept.0; is = at.0; number = number; count = refl },
                parts.0,
                level,
              );
              operand = owing z.1 kept.0 number at.0 parts.0 parts.2;
            },
          )
        where
          owing : (a : Written) (index : ℕ) → x.number ≡ index + 1 → slice_get rule.alternatives index ≡ Some a
              → after_self (calls k) a.elements ≡ Some x.elements → x.right ≡ a.right → (n : ℕ) → HasOperand rules k x.number n
              → Owes net k n p
          owing a index number at begun right _ (of_prefix n b last h begins ends) =
              let same : b ≡ a = one_alternative left.place index h left.number left.is at number in
              absurd (none-some x.elements (sym (subst (λ (c : Written). after_self (calls k) c.elements ≡ None) same begins) ∙ begun))
          owing a index number at begun right _ (of_operator n b rest last h begins ends) =
              let same : b ≡ a = one_alternative left.place index h left.number left.is at number in
              let count : n ≡ length rule.alternatives = one_count left.place h left.number left.is in
              let begins_so : after_self (calls k) a.elements ≡ Some rest =
              subst (λ (c : Written). after_self (calls k) c.elements ≡ Some rest) same begins in
              let rests : rest ≡ x.elements = same_Some rest x.elements (sym begins_so ∙ begun) in
              let ends_so : before_self (calls k) is_silent x.elements ≡ Some last =
              subst (λ (ys : Elements StepIn). before_self (calls k) is_silent ys ≡ Some last) rests ends in
              let call = begins_with_call k a.elements x.elements begun in
              let free : AreSound IsFree x.elements = (subst (AreSound IsFree) call.1
              (item_sound rule.alternatives (written_free left.place rule left.is) index a at)).1 in
              let rights : x.right ≡ b.right = right ∙ ap (λ (c : Written). c.right) (sym same) in
              subst (λ (m : ℕ). Owes net k (operand_level (precedence m x.number) b.right) p) (sym count)
              (subst (λ (r : Bool). Owes net k (operand_level (precedence (length rule.alternatives) x.number) r) p) rights
              (owes net k (operand_level (precedence (length rule.alternatives) x.number) x.right) x.elements last turns lies.lies
              lies.leads free ends_so))

      -- the rule with its numbers, as it is written
      numbered : IsNumbered net k (numbering_of (k, rule)) placed.from placed.upto
      numbered =
          let w = rule_written set rules start net can built k left.place rule next left.is placed in
          subst (λ (x : Numbering). IsNumbered net k x placed.from placed.upto) w.numbering placed.numbered

      -- a level and the state after it
      same_level : (o : Option (State (List ℕ))) (q v r w : ℕ) → o ≡ Some (Level q v) → o ≡ Some (Level r w) → (q ≡ r) × (v ≡ w)
      same_level o q v r w a b = (cc, cc)

      -- the number that is written at a level
      level_number : (p q v : ℕ) → placed.from ≤ p → p < placed.upto → state_at net p ≡ Some (Level q v)
          → written_at net p ≡ length rule.alternatives + 1 - q
      level_number p q v from below is =
          let w = rule_written set rules start net can built k left.place rule next left.is placed in
          let starts = shape_start_free net k placed.last w.known.shape w.known.free in
          let many = count_rules set rules start net can built in
          let place = slice_get_within rules left.place rule left.is in
          let low = placed.low in
          let apart = not_at_start net k p (starts_of k rule.alternatives)
          (λ same. omega (arith, same, from, low, many, place, left.number)) (λ two d. starts.1 p (Decision d.0) d.1 d.2 q v is) in
          numbered.others p from below apart ∙ ap (number_by (length rule.alternatives)) is

      -- at a level an operator goes on
      level_inside : (p q v : ℕ) → IsHere placed p → state_at net p ≡ Some (Level q v) → BeginsOperator net k (written_at net p) q v
      level_inside _ q v at_start is =
          let f = facts set rules start net can built k placed in
          absurd ((shape_start_free net k placed.last f.shape f.free).0 q v is)
      level_inside _ q v at_end is = absurd ((end_free net k placed.last).0 q v is)
      level_inside p q v (inside _ from below) is =
          let w = rule_written set rules start net can built k left.place rule next left.is placed in
          let count : ℕ = length rule.alternatives in
          let parts = operators (calls k) rule.alternatives in
          elim (shape_states net k placed.last count placed.from placed.upto parts w.known.shape w.known.free p from below).level [
            | inl none ↦ absurd (none q v is)
            | inr o ↦ (
                let b = o.begins in
                let same = same_level (state_at net p) q v (precedence count b.part.number) (p + 1) is b.level in
                let turns = turning_of count o.turning placed.upto parts o.lies in
                let h = operator_goes_on o.turning b.index q (p + 1) b.part b.at turns same.0 b.lies in
                let number : written_at net p ≡ b.part.number =
                level_number p q v from below is ∙ omega (arith, same.0, h.0.1, h.0.2) in
                subst (λ (i : ℕ). BeginsOperator net k i q v) (sym number)
                (subst (BeginsOperator net k b.part.number q) (sym same.1) h.1))
          ]

      -- the same of any state of the rule
      pub level_begins : (p q v : ℕ) → IsOf net k p → state_at net p ≡ Some (Level q v) → BeginsOperator net k (written_at net p) q v
      level_begins p q v of is = level_inside p q v (states_of_here set rules start net can built k placed of) is

      -- an alternative with no number
      none_begins : (p : ℕ) → BeginsPrimary net k 0 p
      none_begins p = record { no_operator = λ q o. none o.3; operand = λ q h. absurd (no_operand h) }
        where
          none : {n : ℕ} {a : Written} → IsAlternativeOf rules k 0 n a → ⊥
          none h = omega (arith, h.number)

          no_operand : {q : ℕ} → HasOperand rules k 0 q → ⊥
          no_operand (of_operator n a rest last h begins ends) = none h
          no_operand (of_prefix n a last h begins ends) = none h

      -- there are as many first states as alternatives
      as_many : (xs : List (Elements StepIn)) {firsts lasts : List ℕ} {n m : ℕ} → LieSideBySide net (either xs) firsts lasts n m
          → length xs ≡ length firsts
      as_many [] (no_other n) = refl
      as_many (x ∷ xs) (another _ _ last n j m firsts lasts l ls) = let more = as_many xs ls in omega (arith, more)

      -- one number is written at the start
      number_of_one : (i : ℕ) (numbers : List ℕ) → length numbers ≡ 1 → slice_get numbers 0 ≡ Some i → StartsAreWritten net k numbers
          → written_at net (start_of k) ≡ i
      number_of_one i [] few at w = absurd (none-some i at)
      number_of_one i (j ∷ []) few at w = w ∙ same_Some j i at
      number_of_one i (j ∷ h ∷ more) few at w = absurd (omega (arith, few))

      -- or several at the first states of a decision there
      numbers_of_several : (numbers : List ℕ) → 2 ≤ length numbers → StartsAreWritten net k numbers → (firsts : List ℕ)
          × (state_at net (start_of k) ≡ Some (Decision firsts)) × (map (written_at net) firsts ≡ numbers)
          × (written_at net (start_of k) ≡ 0)
      numbers_of_several [] two w = absurd (omega (arith, two))
      numbers_of_several (i ∷ []) two w = absurd (omega (arith, two))
      numbers_of_several (i ∷ j ∷ more) two w = w

      -- the numbers of the primaries are written
      abbrev primary_numbers : List ℕ
      primary_numbers = map (λ x. x.number) (primaries (calls k) rule.alternatives)

      numbers_written : StartsAreWritten net k primary_numbers
      numbers_written = subst (StartsAreWritten net k) (starts_loop k rule left.recursive) numbered.starts

      -- as many as there are primaries
      count_forms : length (primary_forms k rule.alternatives) ≡ length primary_numbers
      count_forms = length-map (primaries (calls k) rule.alternatives) (primary_form k (length rule.alternatives))
          ∙ sym (length-map (primaries (calls k) rule.alternatives) (λ (x : Part StepIn). x.number))

      -- the one primary, or one of several
      form_begins : (i p : ℕ) (x : Elements StepIn) → slice_get (primary_forms k rule.alternatives) i ≡ Some x
          → LiesTo net x p loop_here.turning → (y : Part StepIn) × (slice_get (primaries (calls k) rule.alternatives) i ≡ Some y)
          × ((j : ℕ) × (y.number ≡ j + 1)) × BeginsPrimary net k y.number p
      form_begins i p x item lies =
          let y = map_item (primary_form k (length rule.alternatives)) (primaries (calls k) rule.alternatives) i x item in
          let b = primary_begins i y.0 p y.1 (subst (λ (z : Elements StepIn). LiesTo net z p loop_here.turning) y.2 lies) in
          (y.0, y.1, b.0, b.1)

      -- where the rule starts
      starts : (forms : List (Elements StepIn)) → forms ≡ primary_forms k rule.alternatives
          → StartsLie net k loop_here.turning placed.from loop_here.turning forms
          → BeginsPrimary net k (written_at net (start_of k)) (start_of k)
      starts _ same (one_start x last l leads) =
          let item : slice_get (primary_forms k rule.alternatives) 0 ≡ Some x =
          subst (λ (xs : List (Elements StepIn)). slice_get xs 0 ≡ Some x) same refl in
          let h = form_begins 0 (start_of k) x item (record {
            last = last;
            from = placed.from;
            upto = loop_here.turning;
            lies = l;
            leads = leads;
          }) in
          let few = ap (λ (xs : List (Elements StepIn)). length xs) same in
          let number = number_of_one h.0.number primary_numbers (omega (arith, few, count_forms))
          (item_map (λ (y : Part StepIn). y.number) (primaries (calls k) rule.alternatives) 0 h.0 h.1) numbers_written in
          subst (λ (i : ℕ). BeginsPrimary net k i (start_of k)) (sym number) h.3
      starts forms same (several_starts _ firsts lasts two is l leads) =
          let many = as_many forms l in
          let long = ap (λ (xs : List (Elements StepIn)). length xs) same in
          let w = numbers_of_several primary_numbers (omega (arith, many, long, two, count_forms)) numbers_written in
          subst (λ (i : ℕ). BeginsPrimary net k i (start_of k)) (sym w.3) (none_begins (start_of k))

      -- so it is with the rule
      pub rule_starts : BeginsPrimary net k (written_at net (start_of k)) (start_of k)
      rule_starts = starts (primary_forms k rule.alternatives) refl loop_here.front

      -- what a decision leads to: a state without a number, a level, or where a primary begins
      pub data IsChosen (t : ℕ) : Type 0 where
        unnumbered : written_at net t ≡ 0 → IsChosen t
        level_there : (q v : ℕ) → state_at net t ≡ Some (Level q v) → IsChosen t
        primary_there : (j : ℕ) → written_at net t ≡ j + 1 → BeginsPrimary net k (j + 1) t → IsChosen t

      -- a decision that is not between primaries
      later : (p t : ℕ) (targets : List ℕ) → IsHere placed p → state_at net p ≡ Some (Decision targets)
          → (IsOuterStart (all_numberings rules) p → ⊥) → Contains targets t → IsChosen t
      later p t targets here is apart target = elim (later_number set rules start net can built k placed t
          (later_target set rules start net can built k placed p t targets here is apart target)) [
            | inl none ↦ unnumbered none
            | inr level ↦ level_there level.0 level.1 level.2
          ]

      -- a rule with one primary does not start with several alternatives
      one_primary : {x : Elements StepIn} → x ∷ [] ≡ primary_forms k rule.alternatives
          → IsOuterStart (all_numberings rules) (start_of k) → ⊥
      one_primary same (j, y, is, two, at) =
          let here : j ≡ k = omega (arith, at) in
          let own : y ≡ placed.numbering =
          same_Some y placed.numbering (sym (subst (λ (q : ℕ). slice_get (all_numberings rules) q ≡ Some y) here is) ∙ placed.has) in
          let w = rule_written set rules start net can built k left.place rule next left.is placed in
          let numbers : y.starts ≡ primary_numbers =
          ap (λ (z : Numbering). z.starts) (own ∙ w.numbering) ∙ starts_loop k rule left.recursive in
          let few = ap (λ (xs : List (Elements StepIn)). length xs) same in
          let long = ap (λ (xs : List ℕ). length xs) numbers in
          omega (arith, few, long, two, count_forms)

      -- where several primaries begin, each has its number
      primary_chosen : (place t : ℕ) (firsts : List ℕ) → 2 ≤ length primary_numbers → state_at net (start_of k) ≡ Some (Decision firsts)
          → slice_get firsts place ≡ Some t → (y : Part StepIn) → slice_get (primaries (calls k) rule.alternatives) place ≡ Some y
          → written_at net t ≡ y.number
      primary_chosen place t firsts two is at y item =
          let w = numbers_of_several primary_numbers two numbers_written in
          let same : firsts ≡ w.0 = (let other = w.1 in cc) in
          let shown : slice_get (map (written_at net) w.0) place ≡ Some (written_at net t) =
          item_map (written_at net) w.0 place t (subst (λ (xs : List ℕ). slice_get xs place ≡ Some t) same at) in
          let own : slice_get primary_numbers place ≡ Some y.number =
          item_map (λ (x : Part StepIn). x.number) (primaries (calls k) rule.alternatives) place y item in
          same_Some (written_at net t) y.number
          (sym (subst (λ (ns : List ℕ). slice_get ns place ≡ Some (written_at net t)) w.2 shown) ∙ own)

      -- the decision at the start
      chosen_first : (i t : ℕ) (targets : List ℕ) (forms : List (Elements StepIn)) → IsFirst net (start_of k) i t
          → state_at net (start_of k) ≡ Some (Decision targets) → Contains targets t → forms ≡ primary_forms k rule.alternatives
          → StartsLie net k loop_here.turning placed.from loop_here.turning forms → IsChosen t
      chosen_first i t targets _ first at target same (one_start x last l leads) =
          later (start_of k) t targets at_start at (one_primary same) target
      chosen_first i t targets forms (us, place, found, has, number) at target same (several_starts _ firsts lasts two is l leads) =
          let listed : us ≡ firsts = cc in
          let here : slice_get firsts place ≡ Some t = subst (λ (xs : List ℕ). slice_get xs place ≡ Some t) listed has in
          let b = body_at l loop_here.turning leads place t here in
          let item : slice_get (primary_forms k rule.alternatives) place ≡ Some b.0 =
          subst (λ (xs : List (Elements StepIn)). slice_get xs place ≡ Some b.0) (each_of_either forms ∙ same) b.1 in
          let h = form_begins place t b.0 item b.2 in
          let many = as_many forms l in
          let long = ap (λ (xs : List (Elements StepIn)). length xs) same in
          let several : 2 ≤ length primary_numbers = omega (arith, many, long, two, count_forms) in
          primary_there h.2.0 (primary_chosen place t firsts several is here h.0 h.1 ∙ h.2.1)
          (subst (λ (n : ℕ). BeginsPrimary net k n t) h.2.1 h.3)

      -- a decision at any state of the rule
      chosen_here : (p i t : ℕ) (targets : List ℕ) → IsHere placed p → IsFirst net p i t → state_at net p ≡ Some (Decision targets)
          → Contains targets t → IsChosen t
      chosen_here _ i t targets at_start first is target =
          chosen_first i t targets (primary_forms k rule.alternatives) first is target refl loop_here.front
      chosen_here _ i t targets at_end first is target = absurd (let last = placed.last in let no : ⊥ = cc in no)
      chosen_here p i t targets (inside _ from below) first is target = later p t targets (inside p from below) is apart target
        where
          apart : IsOuterStart (all_numberings rules) p → ⊥
          apart (j, y, has, two, same) =
              let many = count_numberings set rules start net can built in
              let under = slice_get_within (all_numberings rules) j y has in
              let low = placed.low in omega (arith, many, under, low, from, same)

      -- so it is with the rule's decisions
      pub chosen : (p i t : ℕ) (targets : List ℕ) → IsOf net k p → IsFirst net p i t → state_at net p ≡ Some (Decision targets)
          → Contains targets t → IsChosen t
      chosen p i t targets of first is target =
          chosen_here p i t targets (states_of_here set rules start net can built k placed of) first is target
