-- How the rules of a network that is built of rewritten rules are laid out, and which rules these are as they are written.
use Rattle.std.proofs.Common.{◌≡◌, ℕ, zero, suc, ◌+◌, ◌*◌, ◌<◌, List, [], ◌∷◌, Some, All, length, map, refl, sym, ◌∙◌, ap, subst, arith, slice_get}
use Rattle.std.specs.List.{enumerate_from}
use Rattle.std.proofs.lemmas.List.{length-map}
use Rattle.std.proofs.lemmas.List.Elements.{All-head, All-tail}
use Rattle.std.proofs.lemmas.List.FromFn.{length-enumerate_from}
use Rattle.g4_source.specs.Elements.{Elements, Alternatives, either}
use Rattle.g4_source.specs.Blocks.{ParserRuleIsFull, ParserRulesAreFull}
use Rattle.g4_source.specs.Rules.{alternatives_of}
use Rattle.g4_grammar.specs.declared.step.Numbering.{Numbering}
use Rattle.g4_grammar.specs.StepRules.{StepRule, RuleIsPlain, CanBeRewritten}
use Rattle.g4_grammar.specs.Steps.{added_rule}
use Rattle.g4_net.specs.declared.network.State.{State}
use Rattle.g4_net.specs.Network.{ParserNetwork, state_at}
use Rattle.g4_layout.specs.Built.{IsBuilt}
use Rattle.g4_layout.specs.Layout.{LiesAsRule}
use Rattle.g4_layout.specs.Numbers.{AreNumbered, added_numbering}
use Rattle.g4_layout.specs.Rules.{rule_number, rules_of}
use Rattle.g4_leftrec.specs.OwnCalls.{Part, operators}
use Rattle.g4_leftrec.specs.OwnSteps.{calls}
use Rattle.g4_leftrec.specs.Rewriting.{StepIn, formed, rewritten, numbering_of, numberings, starts_of}
use Rattle.g4_derivation.specs.Alternatives.{each_of, all_numberings}
use Rattle.g4_derivation.proofs.Items.{map_item, numbered_item}
use Rattle.g4_derivation.proofs.KnownStarts.{StartsAreKnown, starts_known}
use Rattle.g4_derivation.proofs.LevelFree.{EachIsLevelFree, plain_alternatives}
use Rattle.g4_derivation.proofs.Placed.{Placed, Somewhere, rule_placed, state_placed}
use Rattle.g4_derivation.proofs.Shapes.{Shape, plain_shape}
use Rattle.g4_derivation.proofs.Starting.{rule_starts}

-- what holds of each rule
all_at : {X : Type 0} (P : X → Type 0) (xs : List X) → All P xs → (j : ℕ) (x : X) → slice_get xs j ≡ Some x → P x
all_at P [] every j x is = absurd (let n : ⊥ = cc in n)
all_at P (y ∷ xs) every zero x is = let same : y ≡ x = cc in subst P same (All-head P y xs every)
all_at P (y ∷ xs) every (suc j) x is = all_at P xs (All-tail P y xs every) j x is

-- each of full rules is full
full_at : (rules : List StepRule) → ParserRulesAreFull rules → (j : ℕ) (rule : StepRule) → slice_get rules j ≡ Some rule
    → ParserRuleIsFull rule
full_at [] full j rule is = absurd (let n : ⊥ = cc in n)
full_at (r ∷ rules) full zero rule is = let same : r ≡ rule = cc in subst (λ (x : StepRule). ParserRuleIsFull x) same full.0
full_at (r ∷ rules) full (suc j) rule is = full_at rules full.1 j rule is

-- rule k of `count` alternatives as it is laid out, and the alternatives with which it starts, which have these numbers
pub record RuleFacts (net : ParserNetwork) (k count n m : ℕ) (numbers : List ℕ) : Type 0 where
  pub forms : List (Elements StepIn)
  pub parts : List (Part StepIn)
  pub shape : Shape net k count n m forms parts
  pub free : EachIsLevelFree (either forms)
  pub long : length forms ≡ length numbers

module _ (set : List ℕ) (rules : List StepRule) (start : List ℕ) (net : ParserNetwork) (can : CanBeRewritten rules)
    (built : IsBuilt set (rewritten rules) (numberings rules) start net) where
  -- the alternatives of all rules as they are laid
  abbrev pub all_rules : List (Alternatives StepIn)
  all_rules = rules_of set (rewritten rules) start

  -- there is the added rule and one for each that is written
  pub count_rules : length all_rules ≡ length rules + 1
  count_rules =
      let laid : length (map alternatives_of (rewritten rules)) ≡ length (rewritten rules) =
      length-map (rewritten rules) (λ (r : StepRule). alternatives_of r) in
      let forms : length (rewritten rules) ≡ length rules = length-map (enumerate_from 1 rules) formed ∙ length-enumerate_from 1 rules in
      omega (arith, laid, forms)

  -- as many numberings are there
  pub count_numberings : length (all_numberings rules) ≡ length all_rules
  count_numberings =
      let given : length (numberings rules) ≡ length rules =
      length-map (enumerate_from 1 rules) numbering_of ∙ length-enumerate_from 1 rules in
      omega (arith, given, count_rules)

  -- the numbers are those of these numberings
  numbered : AreNumbered net 0 (2 * length all_rules) all_rules (all_numberings rules)
  numbered =
      let laid : length (map alternatives_of (rewritten rules)) ≡ length (rewritten rules) =
      length-map (rewritten rules) (λ (r : StepRule). alternatives_of r) in
      let same : 2 * length (rewritten rules) + 2 ≡ 2 * length all_rules = omega (arith, laid) in
      subst (λ (q : ℕ). AreNumbered net 0 q all_rules (all_numberings rules)) same built.numbered

  -- rule k as it is laid out
  abbrev pub RuleHere : ℕ → Type 0
  RuleHere k = Placed net all_rules (all_numberings rules) (2 * length all_rules) k

  -- each rule is laid out
  pub rule_here : (k : ℕ) → k < length all_rules → RuleHere k
  rule_here k below = rule_placed net all_rules (all_numberings rules) built.network numbered k below

  -- each state is one of a rule
  pub state_here : (p : ℕ) (s : State (List ℕ)) → state_at net p ≡ Some s
      → Somewhere net all_rules (all_numberings rules) (2 * length all_rules) p
  state_here p s is = state_placed net all_rules (all_numberings rules) built.network numbered p s is

  -- the rule as it is written, and the alternatives with which it starts as it is laid out
  pub record IsWrittenRule (k : ℕ) (r : RuleHere k) (rule : StepRule) : Type 0 where
    pub numbering : r.numbering ≡ numbering_of (k, rule)
    pub known : StartsAreKnown net k r.from r.upto rule.alternatives (starts_of k rule.alternatives)

  -- as it is written, a rule has no levels
  written_rule_free : (j : ℕ) (rule : StepRule) → slice_get rules j ≡ Some rule → EachIsLevelFree (alternatives_of rule)
  written_rule_free j rule at = plain_alternatives (alternatives_of rule) (full_at rules can.full j rule at).1
      (all_at (λ (r : StepRule). RuleIsPlain r) rules can.plain j rule at)

  -- rule k is one of those that are written, but for the added rule
  pub rule_written : (k j : ℕ) (rule : StepRule) → k ≡ suc j → slice_get rules j ≡ Some rule → (r : RuleHere k) → IsWrittenRule k r rule
  rule_written k j rule next at r =
      let found = map_item (λ (x : StepRule). alternatives_of x) (rewritten rules) j r.alternatives
      (subst (λ (q : ℕ). slice_get all_rules q ≡ Some r.alternatives) next r.is) in
      let form = map_item formed (enumerate_from 1 rules) j found.0 found.1 in
      let item = numbered_item 1 rules j form.0 form.1 in
      let given = map_item numbering_of (enumerate_from 1 rules) j r.numbering
      (subst (λ (q : ℕ). slice_get (all_numberings rules) q ≡ Some r.numbering) next r.has) in
      let other = numbered_item 1 rules j given.0 given.1 in
      let this : form.0.1 ≡ rule = same_item item.0 at in
      let that : given.0.1 ≡ rule = same_item other.0 at in
      let first : form.0.0 ≡ k = omega (arith, item.1, next) in
      let second : given.0.0 ≡ k = omega (arith, other.1, next) in
      let laid : r.alternatives ≡ alternatives_of (formed (k, rule)) =
      found.2 ∙ (ap (λ (x : StepRule). alternatives_of x) form.2
      ∙ (ap (λ (q : ℕ). alternatives_of (formed (q, form.0.1))) first ∙ ap (λ (x : StepRule). alternatives_of (formed (k, x))) this)) in
      record {
        numbering = given.2 ∙ (ap (λ (q : ℕ). numbering_of (q, given.0.1)) second ∙ ap (λ (x : StepRule). numbering_of (k, x)) that);
        known = starts_known net k r.from r.upto rule.alternatives (written_rule_free j rule at)
            (subst (λ (xs : Alternatives StepIn). LiesAsRule net k xs r.from r.upto) laid r.lies);
      }
    where
      -- there is one rule at a place
      same_item : {x y : StepRule} → slice_get rules j ≡ Some x → slice_get rules j ≡ Some y → x ≡ y
      same_item e f = cc

  -- each rule but the added one is one of those that are written
  pub rule_at : (k j : ℕ) → k ≡ suc j → RuleHere k → (rule : StepRule) × (slice_get rules j ≡ Some rule)
  rule_at k j next r =
      let found = map_item (λ (x : StepRule). alternatives_of x) (rewritten rules) j r.alternatives
      (subst (λ (q : ℕ). slice_get all_rules q ≡ Some r.alternatives) next r.is) in
      let form = map_item formed (enumerate_from 1 rules) j found.0 found.1 in
      let item = numbered_item 1 rules j form.0 form.1 in
      (form.0.1, item.0)

  -- the added rule as it is laid out
  added_facts : (k : ℕ) → k ≡ 0 → (r : RuleHere k) → RuleFacts net k r.numbering.count r.from r.upto r.numbering.starts
  added_facts k first r =
      let found = subst (λ (q : ℕ). slice_get all_rules q ≡ Some r.alternatives) first r.is in
      let given = subst (λ (q : ℕ). slice_get (all_numberings rules) q ≡ Some r.numbering) first r.has in
      let laid : r.alternatives ≡ added_rule set (rule_number (rewritten rules) start) = cc in
      let numbering : r.numbering ≡ added_numbering = cc in
      record {
        forms = each_of (added_rule set (rule_number (rewritten rules) start));
        parts = [];
        shape = plain_shape (rule_starts (each_of (added_rule set (rule_number (rewritten rules) start)))
            (subst (λ (xs : Alternatives StepIn). LiesAsRule net k xs r.from r.upto) laid r.lies));
        free = ((tt, ((tt, ((tt, tt), tt)), (tt, tt))), tt);
        long = ap (λ (x : Numbering). length x.starts) (sym numbering);
      }

  -- any rule as it is laid out
  pub facts : (k : ℕ) (r : RuleHere k) → RuleFacts net k r.numbering.count r.from r.upto r.numbering.starts
  facts zero r = added_facts zero refl r
  facts (suc j) r =
      let rule = rule_at (suc j) j refl r in
      let w = rule_written (suc j) j rule.0 refl rule.1 r in
      let given = w.numbering in
      record {
        forms = w.known.forms;
        parts = operators (calls (suc j)) rule.0.alternatives;
        shape = subst (λ (x : Numbering). Shape net (suc j) x.count r.from r.upto w.known.forms
            (operators (calls (suc j)) rule.0.alternatives)) (sym given) w.known.shape;
        free = w.known.free;
        long = w.known.long ∙ ap (λ (x : Numbering). length x.starts) (sym given);
      }
