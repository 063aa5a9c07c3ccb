-- The layout of a rule that is run as a loop, and of the alternatives with which any rule starts.
use Rattle.std.proofs.Common.{◌≡◌, ℕ, ◌+◌, ◌≤◌, List, [], ◌∷◌, length, true, None, Some, refl, subst, arith}
use Rattle.g4_source.specs.declared.element.Repeat.TheVariants.{Once}
use Rattle.g4_source.specs.Elements.{atom, block, Elements, empty, then, none, or, either}
use Rattle.g4_source.specs.Marks.{onto}
use Rattle.g4_grammar.specs.declared.step.Step.TheVariants as steps
use Rattle.g4_net.specs.declared.network.State.TheVariants.{Decision, Empty}
use Rattle.g4_net.specs.Network.{ParserNetwork, state_at, start_of, end_of}
use Rattle.g4_layout.specs.Layout.{with_exit, AllLeadTo, an_empty, a_block, a_star, LieInOrder, no_more, one_more, LieSideBySide, no_other, LiesAsRule, of_one, of_several}
use Rattle.g4_layout.proofs.Spans.{one_first}
use Rattle.g4_leftrec.specs.Rewriting.{StepIn, after_primary, turns_of}

-- The alternatives with which rule k starts are laid out from its start to the state g, the states other than the start being
-- those from n up to m: one begins at the start, and several at the first states of the decision there.
pub data StartsLie (net : ParserNetwork) (k g n m : ℕ) : List (Elements StepIn) → Type 0 where
  one_start : (x : Elements StepIn) (last : ℕ) → LieInOrder net x (start_of k) last n m → state_at net last ≡ Some (Empty g)
      → StartsLie net k g n m (x ∷ [])
  several_starts : (xs : List (Elements StepIn)) (firsts lasts : List ℕ) → 2 ≤ length firsts
      → state_at net (start_of k) ≡ Some (Decision firsts) → LieSideBySide net (either xs) firsts lasts n m → AllLeadTo net lasts g →
      StartsLie net k g n m xs

-- The operators of rule k are laid out as turns: from the decision u, by the exit branch state, to the rule's end, the states
-- other than u being those from n up to m.
pub record TurnsLie (net : ParserNetwork) (k u n m : ℕ) (operators : List (Elements StepIn)) : Type 0 where
  pub exit : ℕ
  pub firsts : List ℕ
  pub lasts : List ℕ
  pub decides : state_at net u ≡ Some (Decision (with_exit true firsts exit))
  pub bodies : LieSideBySide net (either operators) firsts lasts n exit
  pub back : AllLeadTo net lasts u
  pub leaves : state_at net exit ≡ Some (Empty (end_of k))
  pub after : m ≡ exit + 1

-- a left-recursive rule is laid out: its primaries up to the state u, and then the turns
pub record LoopLies (net : ParserNetwork) (k n m : ℕ) (primaries operators : List (Elements StepIn)) : Type 0 where
  pub turning : ℕ
  pub front : StartsLie net k turning n turning primaries
  pub turns : TurnsLie net k turning (turning + 1) m operators

-- two runs of elements one after another
record Halves (net : ParserNetwork) (x y : Elements StepIn) (s t n m : ℕ) : Type 0 where
  mid : ℕ
  upto : ℕ
  front : LieInOrder net x s mid n upto
  rest : LieInOrder net y mid t upto m

module _ {net : ParserNetwork} where
  -- what is laid out as both is laid out as one and then the other
  halves : (x y : Elements StepIn) {s t n m : ℕ} → LieInOrder net (onto x y) s t n m → Halves net x y s t n m
  halves empty y {s} {n = n} l = record { mid = s; upto = n; front = no_more s n; rest = l }
  halves (then e x) y (one_more _ _ s mid t n k m l ls) =
      let h = halves x y ls in record { mid = h.mid; upto = h.upto; front = one_more e x s mid h.mid n k h.upto l h.front; rest = h.rest }

  -- where there is no alternative there is no first state
  none_begin : {firsts lasts : List ℕ} {n m : ℕ} → LieSideBySide net none firsts lasts n m → firsts ≡ []
  none_begin (no_other n) = refl

  -- the turns
  turns_lie : (k : ℕ) {operators : List (Elements StepIn)} {u last n m : ℕ} → LieInOrder net (turns_of operators) u last n m
      → state_at net last ≡ Some (Empty (end_of k)) → TurnsLie net k u n m operators
  turns_lie k (one_more _ _ _ _ _ _ _ _ (a_star _ _ _ firsts lasts _ _ exit decides bodies back) (no_more _ _)) leaves =
      record { exit = exit; firsts = firsts; lasts = lasts; decides = decides; bodies = bodies; back = back; leaves = leaves; after = refl }

  -- one primary and then the turns
  after_one : (k : ℕ) {x : Elements StepIn} {operators : List (Elements StepIn)} {s last n upto m : ℕ} → s ≡ start_of k → {mid : ℕ}
      → LieInOrder net x s mid n upto →
      LieInOrder net (then (atom steps.Empty) (turns_of operators)) mid last upto m → state_at net last ≡ Some (Empty (end_of k))
      → LoopLies net k n m (x ∷ []) operators
  after_one k {x} {n = n} {upto = upto} start {mid} front (one_more _ _ _ _ _ _ _ _ (an_empty _ _ is) ls) leaves = record {
    turning = upto;
    front = one_start x mid (subst (λ (q : ℕ). LieInOrder net x q mid n upto) start front) is;
    turns = turns_lie k ls leaves;
  }

  -- several primaries and then the turns
  after_several : (k : ℕ) {x y : Elements StepIn} {others operators : List (Elements StepIn)} {s last n m : ℕ} → s ≡ start_of k →
      LieInOrder net (then (block None Once (either (x ∷ y ∷ others))) (turns_of operators)) s last n m
      → state_at net last ≡ Some (Empty (end_of k)) → LoopLies net k n m (x ∷ y ∷ others) operators
  after_several k {x} {y} {others} start (one_more _ _ _ _ _ _ _ _ (a_block _ _ firsts lasts _ _ u two is l leads) ls) leaves = record {
    turning = u;
    front = several_starts (x ∷ y ∷ others) firsts lasts two (subst (λ (q : ℕ). state_at net q ≡ Some (Decision firsts)) start is) l leads;
    turns = turns_lie k ls leaves;
  }

  -- no primary is not laid
  after_none : (operators : List (Elements StepIn)) {s last n m : ℕ}
      → LieInOrder net (then (block None Once none) (turns_of operators)) s last n m → ⊥
  after_none operators (one_more _ _ _ _ _ _ _ _ (a_block _ _ firsts lasts _ _ u two is l leads) ls) = let few = none_begin l in
      let short = subst (λ (fs : List ℕ). 2 ≤ length fs) few two in omega arith

  -- the primaries and then the turns
  loop_in_order : (k : ℕ) (primaries : List (Elements StepIn)) {operators : List (Elements StepIn)} {last n m : ℕ}
      → LieInOrder net (after_primary primaries (turns_of operators)) (start_of k) last n m →
      state_at net last ≡ Some (Empty (end_of k)) → LoopLies net k n m primaries operators
  loop_in_order k [] {operators} l leaves = absurd (after_none operators l)
  loop_in_order k (x ∷ []) {operators} l leaves = let h = halves x (then (atom steps.Empty) (turns_of operators)) l in
      after_one k refl h.front h.rest leaves
  loop_in_order k (x ∷ y ∷ others) l leaves = after_several k refl l leaves

  -- a rule of one alternative
  of_only : {k n m : ℕ} {x : Elements StepIn} → LiesAsRule net k (or x none) n m
      → (last : ℕ) × LieInOrder net x (start_of k) last n m × (state_at net last ≡ Some (Empty (end_of k)))
  of_only (of_one rule last n m x l leads) = (last, l, leads)
  of_only (of_several rule n m xs firsts lasts two is l leads) = let one = one_first l in absurd (omega arith)

  -- a left-recursive rule as it is laid out
  pub loop_lies : (k : ℕ) (primaries : List (Elements StepIn)) {operators : List (Elements StepIn)} {n m : ℕ}
      → LiesAsRule net k (or (after_primary primaries (turns_of operators)) none) n m → LoopLies net k n m primaries operators
  loop_lies k primaries l = let o = of_only l in loop_in_order k primaries o.1 o.2

  -- a rule of several alternatives
  of_more : {k n m : ℕ} {x y : Elements StepIn} {others : List (Elements StepIn)} → LiesAsRule net k (or x (or y (either others))) n m
      → StartsLie net k (end_of k) n m (x ∷ y ∷ others)
  of_more {x = x} {y = y} {others = others} (of_several rule n m xs firsts lasts two is l leads) =
      several_starts (x ∷ y ∷ others) firsts lasts two is l leads

  -- of none
  of_none : {k n m : ℕ} → LiesAsRule net k none n m → ⊥
  of_none (of_several rule n m xs firsts lasts two is l leads) = let few = none_begin l in
      let short = subst (λ (fs : List ℕ). 2 ≤ length fs) few two in omega arith

  -- any rule of these alternatives
  pub rule_starts : {k n m : ℕ} (xs : List (Elements StepIn)) → LiesAsRule net k (either xs) n m → StartsLie net k (end_of k) n m xs
  rule_starts [] l = absurd (of_none l)
  rule_starts (x ∷ []) l = let o = of_only l in one_start x o.0 o.1 o.2
  rule_starts (x ∷ y ∷ others) l = of_more l
