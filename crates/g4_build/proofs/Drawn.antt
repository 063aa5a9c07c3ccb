-- The parts of a network of rules.
use Rattle.std.proofs.Common.{◌≡◌, ℕ, suc, ◌+◌, ◌*◌, ◌<◌, ◌≤◌, List, [], ◌∷◌, ◌++◌, length, map, true, refl, sym, ◌∙◌, ap, subst, arith, slice_get, Some, None, sum_by}
use Rattle.std.proofs.Math.ListN.{set as put}
use Rattle.std.proofs.lemmas.List.{length-append, length-set, length-map}
use Rattle.std.proofs.lemmas.List.Sums.{sum_by-cons}
use Rattle.g4_tokens.specs.Symbols.{end_of_list}
use Rattle.g4_source.specs.declared.element.Suffix.{Suffix}
use Rattle.g4_source.specs.Elements.{atom, block, Alternatives, empty, then, none, only}
use Rattle.g4_source.specs.Blocks.{ParserRulesAreFull}
use Rattle.g4_source.specs.Rules.{alternatives_of}
use Rattle.g4_grammar.specs.declared.step.Numbering.{Numbering}
use Rattle.g4_grammar.specs.declared.step.Step.{Step}
use Rattle.g4_grammar.specs.declared.step.Step.TheVariants as steps
use Rattle.g4_grammar.specs.Steps.{any_number, added_rule}
use Rattle.g4_grammar.specs.StepRules.{StepRule}
use Rattle.g4_net.specs.declared.network.State.{State}
use Rattle.g4_net.specs.declared.network.State.TheVariants.{Decision, End, Edge, Call, Empty}
use Rattle.g4_net.specs.Network.{ParserNetwork, state_at, end_of}
use Rattle.g4_layout.specs.Callers.{callers_of}
use Rattle.g4_layout.specs.Layout as lay
use Rattle.g4_layout.specs.Layout.{Lies, LieInOrder, LieSideBySide, LiesAsRule, RulesLie}
use Rattle.g4_layout.specs.Numbers.{NumberingsFit, added_numbering}
use Rattle.g4_layout.specs.Rules.{state_count}
use Rattle.g4_layout.specs.Size.{states_of_rule}
use Rattle.g4_states.specs.Rules.{AreFullTrees, HasHeads, HaveLaid, ends_from}
use Rattle.g4_states.specs.Numberings.{CanAllBeNumbered, HaveNumbers}
use Rattle.g4_states.proofs.Lists.{get_set_same, get_set_other, get_left, get_right}
use Rattle.g4_states.proofs.Numbered.{same_ends}
use Rattle.g4_states.proofs.Starts.{can_all}
use Rattle.g4_build.specs.Numberings.{AllAreWritten}
use Rattle.g4_build.specs.Rules.{IsDrawn, added_states}

-- `*` of the added rule
abbrev greedy : Suffix
greedy = record { greedy = true }

-- the added rule is laid out from its loop on
added_lies : (net : ParserNetwork) (set : List ℕ) (start n : ℕ) → state_at net 0 ≡ Some (Call start 0 n)
    → state_at net n ≡ Some (Decision ((n + 1) ∷ (n + 3) ∷ [])) → state_at net (n + 1) ≡ Some (Edge set (n + 2)) →
    state_at net (n + 2) ≡ Some (Empty n) → state_at net (n + 3) ≡ Some (Edge (end_of_list ∷ []) (n + 4))
    → state_at net (n + 4) ≡ Some (Empty 1) → LiesAsRule net 0 (added_rule set start) n (n + 5)
added_lies net set start n calls turns takes again leaves last =
    let two : n + 2 ≡ n + 1 + 1 = omega arith in
    let three : n + 3 ≡ n + 1 + 1 + 1 = omega arith in
    let four : n + 4 ≡ n + 1 + 1 + 1 + 1 = omega arith in
    let five : n + 1 + 1 + 1 + 1 + 1 ≡ n + 5 = omega arith in
    let called : Lies net (atom (steps.Call start 0)) 0 n n (n + 1) = lay.a_call start 0 0 n calls in
    let turn : Lies net (atom (steps.Edge set)) (n + 1) (n + 1 + 1) (n + 1 + 1) (n + 1 + 1 + 1) =
    lay.an_edge set (n + 1) (n + 1 + 1) (subst (λ (t : ℕ). state_at net (n + 1) ≡ Some (Edge set t)) two takes) in
    let body : LieInOrder net (then (atom (steps.Edge set)) empty) (n + 1) (n + 1 + 1) (n + 1 + 1) (n + 1 + 1 + 1) =
    lay.one_more (atom (steps.Edge set)) empty (n + 1) (n + 1 + 1) (n + 1 + 1) (n + 1 + 1) (n + 1 + 1 + 1) (n + 1 + 1 + 1) turn
    (lay.no_more (n + 1 + 1) (n + 1 + 1 + 1)) in
    let sides : LieSideBySide net (only (then (atom (steps.Edge set)) empty)) ((n + 1) ∷ []) ((n + 1 + 1) ∷ []) (n + 1) (n + 1 + 1 + 1) =
    lay.another (then (atom (steps.Edge set)) empty) none (n + 1 + 1) (n + 1) (n + 1 + 1 + 1) (n + 1 + 1 + 1) [] [] body
    (lay.no_other (n + 1 + 1 + 1)) in
    let loop : Lies net (block None any_number (only (then (atom (steps.Edge set)) empty))) n (n + 1 + 1 + 1) (n + 1) (n + 1 + 1 + 1 + 1) =
    lay.a_star None greedy (only (then (atom (steps.Edge set)) empty)) ((n + 1) ∷ []) ((n + 1 + 1) ∷ []) n (n + 1) (n + 1 + 1 + 1)
    (subst (λ (t : ℕ). state_at net n ≡ Some (Decision ((n + 1) ∷ t ∷ []))) three turns) sides
    (subst (λ (t : ℕ). state_at net t ≡ Some (Empty n)) two again, tt) in
    let exit : Lies net (atom (steps.Edge (end_of_list ∷ []))) (n + 1 + 1 + 1) (n + 1 + 1 + 1 + 1) (n + 1 + 1 + 1 + 1)
    (n + 1 + 1 + 1 + 1 + 1) =
    lay.an_edge (end_of_list ∷ []) (n + 1 + 1 + 1) (n + 1 + 1 + 1 + 1)
    (subst (λ (t : ℕ). state_at net t ≡ Some (Edge (end_of_list ∷ []) (n + 1 + 1 + 1 + 1))) three
    (subst (λ (t : ℕ). state_at net (n + 3) ≡ Some (Edge (end_of_list ∷ []) t)) four leaves)) in
    let all : LieInOrder net (then (atom (steps.Call start 0))
    (then (block None any_number (only (then (atom (steps.Edge set)) empty)))
    (then (atom (steps.Edge (end_of_list ∷ []))) empty))) 0 (n + 1 + 1 + 1 + 1) n (n + 1 + 1 + 1 + 1 + 1) =
    lay.one_more _ _ 0 n (n + 1 + 1 + 1 + 1) n (n + 1) (n + 1 + 1 + 1 + 1 + 1) called
    (lay.one_more _ _ n (n + 1 + 1 + 1) (n + 1 + 1 + 1 + 1) (n + 1) (n + 1 + 1 + 1 + 1) (n + 1 + 1 + 1 + 1 + 1) loop
    (lay.one_more _ _ (n + 1 + 1 + 1) (n + 1 + 1 + 1 + 1) (n + 1 + 1 + 1 + 1) (n + 1 + 1 + 1 + 1) (n + 1 + 1 + 1 + 1 + 1)
    (n + 1 + 1 + 1 + 1 + 1) exit
    (lay.no_more (n + 1 + 1 + 1 + 1) (n + 1 + 1 + 1 + 1 + 1)))) in
    subst (λ (m : ℕ). LiesAsRule net 0 (added_rule set start) n m) five
    (lay.of_one 0 (n + 1 + 1 + 1 + 1) n (n + 1 + 1 + 1 + 1 + 1) _ all (subst (λ (t : ℕ). state_at net t ≡ Some (Empty 1)) four last))

-- what the code has made of the rules
record HasMade (set : List ℕ) (rules : List StepRule) (start : ℕ) (s0 s1 s2 : List (State (List ℕ))) : Type 0 where
  heads : HasHeads (length rules + 1) s0
  added : s1 ≡ put s0 0 (Call start 0 (length s0)) ++ added_states set (length s0)
  laid : HaveLaid 1 s1 s2 (1 + length rules) (map alternatives_of rules) []

-- how many states there are before the rules are laid
made_size : (set : List ℕ) (rules : List StepRule) (start : ℕ) (s0 s1 s2 : List (State (List ℕ))) → HasMade set rules start s0 s1 s2
    → (length s0 ≡ 2 * length rules + 2) × (length s1 ≡ length s0 + 5)
made_size set rules start s0 s1 s2 made =
    let a = made.heads.size in
    let b : length s1 ≡ length (put s0 0 (Call start 0 (length s0))) + 5 =
    ap length made.added ∙ length-append (put s0 0 (Call start 0 (length s0))) (added_states set (length s0)) in
    let c = length-set s0 0 (Call start 0 (length s0)) in
    (omega arith, omega arith)

-- a state of the added rule after its call
at_added : (set : List ℕ) (rules : List StepRule) (start : ℕ) (s0 s1 s2 : List (State (List ℕ))) → HasMade set rules start s0 s1 s2
    → (p j : ℕ) → p ≡ length s0 + j → j < 5 → slice_get s2 p ≡ slice_get (added_states set (length s0)) j
at_added set rules start s0 s1 s2 made p j is less =
    let size = made_size set rules start s0 s1 s2 made in
    let c = length-set s0 0 (Call start 0 (length s0)) in
    made.laid.kept p (omega (arith, size.1)) (λ i low high. omega (arith, size.0))
    ∙ (ap (λ (xs : List (State (List ℕ))). slice_get xs p) made.added
    ∙ get_right (put s0 0 (Call start 0 (length s0))) (added_states set (length s0)) p j (omega arith))

-- a state before them but for the first
at_heads : (set : List ℕ) (rules : List StepRule) (start : ℕ) (s0 s1 s2 : List (State (List ℕ))) → HasMade set rules start s0 s1 s2
    → (j : ℕ) → j ≤ length rules → slice_get s2 (end_of j) ≡ Some (End j)
at_heads set rules start s0 s1 s2 made j high =
    let size = made_size set rules start s0 s1 s2 made in
    let c = length-set s0 0 (Call start 0 (length s0)) in
    made.laid.kept (end_of j) (omega (arith, size.0, size.1)) (λ i low below. omega arith) ∙
    (ap (λ (xs : List (State (List ℕ))). slice_get xs (end_of j)) made.added ∙
    (get_left (put s0 0 (Call start 0 (length s0))) (added_states set (length s0)) (end_of j) (omega (arith, size.0)) ∙
    (get_set_other s0 0 (end_of j) (Call start 0 (length s0)) (λ e. omega arith) ∙ made.heads.ends j (omega arith))))

-- the first state calls the start rule
at_call : (set : List ℕ) (rules : List StepRule) (start : ℕ) (s0 s1 s2 : List (State (List ℕ))) → HasMade set rules start s0 s1 s2
    → slice_get s2 0 ≡ Some (Call start 0 (length s0))
at_call set rules start s0 s1 s2 made =
    let size = made_size set rules start s0 s1 s2 made in
    let c = length-set s0 0 (Call start 0 (length s0)) in
    made.laid.kept 0 (omega (arith, size.0, size.1)) (λ i low below e. omega arith) ∙
    (ap (λ (xs : List (State (List ℕ))). slice_get xs 0) made.added ∙
    (get_left (put s0 0 (Call start 0 (length s0))) (added_states set (length s0)) 0 (omega (arith, size.0))
    ∙ get_set_same s0 0 (Call start 0 (length s0)) (omega (arith, size.0))))

-- how many states there are once the added rule is made
pub started_size : (set : List ℕ) (start : ℕ) (s0 s1 : List (State (List ℕ)))
    → s1 ≡ put s0 0 (Call start 0 (length s0)) ++ added_states set (length s0) → length s1 ≡ length s0 + 5
started_size set start s0 s1 e =
    let b : length s1 ≡ length (put s0 0 (Call start 0 (length s0))) + 5 =
    ap length e ∙ length-append (put s0 0 (Call start 0 (length s0))) (added_states set (length s0)) in
    let c = length-set s0 0 (Call start 0 (length s0)) in
    omega arith

-- rules with alternatives, by their trees
pub full_trees : (rules : List StepRule) → ParserRulesAreFull rules → AreFullTrees (map alternatives_of rules)
full_trees [] h = tt
full_trees (r ∷ rules) h = (h.0, full_trees rules h.1)

-- the states of rules, by their trees
pub sum_of_map : (rules : List StepRule) → sum_by states_of_rule (map alternatives_of rules)
    ≡ sum_by (λ rule. states_of_rule (alternatives_of rule)) rules
sum_of_map [] = refl
sum_of_map (r ∷ rules) =
    let a = sum_by-cons states_of_rule (alternatives_of r) (map alternatives_of rules) in
    let b = sum_by-cons (λ (rule : StepRule). states_of_rule (alternatives_of rule)) r rules in
    omega (arith, sum_of_map rules)

module _ (set : List ℕ) (rules : List StepRule) (numberings : List Numbering) (start : ℕ) (s0 s1 s2 : List (State (List ℕ)))
    (heads : HasHeads (length rules + 1) s0)
    (added : s1 ≡ put s0 0 (Call start 0 (length s0)) ++ added_states set (length s0))
    (laid : HaveLaid 1 s1 s2 (1 + length rules) (map alternatives_of rules) [])
    (fit : NumberingsFit (map alternatives_of rules) numberings) where
  -- what is made
  made : HasMade set rules start s0 s1 s2
  made = record { heads = heads; added = added; laid = laid }

  -- how many states there are before the rules are laid
  sizes : (length s0 ≡ 2 * length rules + 2) × (length s1 ≡ length s0 + 5)
  sizes = made_size set rules start s0 s1 s2 made

  -- all rules
  abbrev all_trees : List (Alternatives (Step (List ℕ)))
  all_trees = added_rule set start ∷ map alternatives_of rules

  -- the rules are laid out in each network of these states
  pub rules_lie : (net : ParserNetwork) → net.states ≡ s2 → RulesLie net 0 all_trees (2 * length rules + 2) (length s2)
  rules_lie net same =
      let n : ℕ = length s0 in
      let from : n ≡ 2 * length rules + 2 = sizes.0 in
      let many : length (map alternatives_of rules) ≡ length rules = length-map rules alternatives_of in
      let first : LiesAsRule net 0 (added_rule set start) n (n + 5) =
      added_lies net set start n (there 0 ∙ at_call set rules start s0 s1 s2 made) (there n ∙ at n 0 (omega arith) (omega arith))
      (there (n + 1) ∙ at (n + 1) 1 refl (omega arith))
      (there (n + 2) ∙ at (n + 2) 2 refl (omega arith)) (there (n + 3) ∙ at (n + 3) 3 refl (omega arith))
      (there (n + 4) ∙ at (n + 4) 4 refl (omega arith)) in
      let rest : RulesLie net 1 (map alternatives_of rules) (length s1) (length s2) =
      laid.lie net (λ p place less. there p) (λ j low high. there (end_of j) ∙ at_heads set rules start s0 s1 s2 made j (omega arith))
      (length s2) (lay.no_rule (1 + length rules) (length s2)) in
      let all : RulesLie net 0 all_trees n (length s2) =
      lay.a_rule 0 n (n + 5) (length s2) (added_rule set start) (map alternatives_of rules) first
      (there 1 ∙ at_heads set rules start s0 s1 s2 made 0 (omega arith))
      (subst (λ (m : ℕ). RulesLie net 1 (map alternatives_of rules) m (length s2)) sizes.1 rest) in
      subst (λ (m : ℕ). RulesLie net 0 all_trees m (length s2)) from all
    where
      there : (p : ℕ) → state_at net p ≡ slice_get s2 p
      there p = ap (λ (xs : List (State (List ℕ))). slice_get xs p) same

      at : (p j : ℕ) → p ≡ length s0 + j → j < 5 → slice_get s2 p ≡ slice_get (added_states set (length s0)) j
      at = at_added set rules start s0 s1 s2 made

  -- there is a numbering for each rule
  many_numberings : length numberings ≡ length rules
  many_numberings = as_many (map alternatives_of rules) numberings fit ∙ length-map rules alternatives_of
    where
      as_many : (trees : List (Alternatives (Step (List ℕ)))) (ns : List Numbering) → NumberingsFit trees ns → length ns ≡ length trees
      as_many [] [] h = refl
      as_many [] (n ∷ ns) h = absurd h
      as_many (x ∷ xs) [] h = absurd h
      as_many (x ∷ xs) (n ∷ ns) h = ap suc (as_many xs ns h.1)

  -- where the rules end
  ends_same : (ends : List ℕ) → ends ≡ ends_from (length s1) (map alternatives_of rules)
      → (2 * length numberings + 7) ∷ ends ≡ ends_from (2 * length rules + 2) all_trees
  ends_same ends is =
      let first : 2 * length numberings + 7 ≡ 2 * length rules + 2 + 5 = omega (arith, many_numberings) in
      let from : length s1 ≡ 2 * length rules + 2 + 5 = omega (arith, sizes.0, sizes.1) in
      ap (λ (m : ℕ). m ∷ ends) first ∙ ap (λ (ms : List ℕ). (2 * length rules + 2 + 5) ∷ ms)
      (is ∙ ap (λ (m : ℕ). ends_from m (map alternatives_of rules)) from)

  -- the numbers can be written
  pub can_number : (ends : List ℕ) → ends ≡ ends_from (length s1) (map alternatives_of rules)
      → CanAllBeNumbered s2 0 (2 * length numberings + 2) ((2 * length numberings + 7) ∷ ends) (added_numbering ∷ numberings)
  can_number ends is =
      let from : 2 * length rules + 2 ≡ 2 * length numberings + 2 = omega (arith, many_numberings) in
      let net : ParserNetwork = record { states = s2; callers = []; written = [] } in
      subst (λ (n : ℕ). CanAllBeNumbered s2 0 n ((2 * length numberings + 7) ∷ ends) (added_numbering ∷ numberings)) from
      (subst (λ (ms : List ℕ). CanAllBeNumbered s2 0 (2 * length rules + 2) ms (added_numbering ∷ numberings)) (sym (ends_same ends is))
      (can_all net 0 (2 * length rules + 2) (length s2) all_trees (added_numbering ∷ numberings) (rules_lie net refl)
      ((tt, omega arith), fit) refl))

  -- how many states there are
  pub all_states : length s2 ≡ state_count rules
  all_states = omega (arith, laid.size, sum_of_map rules, sizes.0, sizes.1)

  -- the network is drawn
  pub drawn : (written ends : List ℕ) (callers : List (List ℕ)) → ends ≡ ends_from (length s1) (map alternatives_of rules)
      → callers ≡ callers_of s2 (length rules + 1) →
      AllAreWritten s2 written (2 * length numberings + 2) ((2 * length numberings + 7) ∷ ends) (added_numbering ∷ numberings)
      → IsDrawn set rules numberings start (record { states = s2; callers = callers; written = written })
  drawn written ends callers is listed numbers =
      let net : ParserNetwork = record { states = s2; callers = callers; written = written } in
      let many : length (map alternatives_of rules) ≡ length rules = length-map rules alternatives_of in
      let whole : 2 * length rules + 2 ≡ 2 * length all_trees = omega arith in
      let from : 2 * length numberings + 2 ≡ 2 * length rules + 2 = omega (arith, many_numberings) in
      record {
        network = record {
          lie = subst (λ (m : ℕ). RulesLie net 0 all_trees m (length s2)) whole (rules_lie net refl);
          written = numbers.size;
        };
        size = all_states;
        callers = listed;
        numbered = same_ends net 0 (2 * length rules + 2) ((2 * length numberings + 7) ∷ ends) all_trees
            (added_numbering ∷ numberings) (ends_same ends is)
            (subst (λ (n : ℕ). HaveNumbers net 0 n ((2 * length numberings + 7) ∷ ends) (added_numbering ∷ numberings)) from
            (numbers.numbered net refl refl));
      }
