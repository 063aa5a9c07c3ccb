-- The network whose edges that ask that no character is left are empty ones: that of the rules with empty steps in their place.
use Rattle.std.proofs.Common.{◌≡◌, ℕ, zero, suc, ◌+◌, ◌*◌, List, [], ◌∷◌, length, map, Option, Some, refl, sym, ◌∙◌, ap, subst, slice_get}
use Rattle.std.specs.List.{cons_option, range_with_len}
use Rattle.std.proofs.lemmas.List.{length-map}
use Rattle.g4_source.specs.Elements.{Element, atom, Elements, Alternatives}
use Rattle.g4_source.specs.Bind.{over, in_order_over, either_over}
use Rattle.g4_grammar.specs.declared.step.Step.{Step}
use Rattle.g4_grammar.specs.declared.step.Step.TheVariants as steps
use Rattle.g4_net.specs.declared.network.State.{State}
use Rattle.g4_net.specs.declared.network.State.TheVariants.{Decision, End, Edge, Call, Predicate, Level, Action, Empty}
use Rattle.g4_net.specs.Network.{state_at}
use Rattle.g4_layout.specs.Callers.{return_of, returns_of, callers_of}
use Rattle.g4_layout.specs.Layout as lay
use Rattle.g4_layout.specs.Layout.{AllLeadTo, Lies, LieInOrder, LieSideBySide, LiesAsRule, RulesLie, IsNetworkOf}
use Rattle.g4_ordered.specs.declared.network.Reads.{Reads}
use Rattle.g4_ordered.specs.declared.network.Reads.TheVariants.{Characters, EndOfText}
use Rattle.g4_ordered.specs.Network.{LexerNetwork, all_emptied, emptied}

-- the step, one at the end of the text being empty
abbrev pub bare : Step Reads → Step Reads
bare (steps.Edge (Characters set)) = steps.Edge (Characters set)
bare (steps.Edge EndOfText) = steps.Empty
bare (steps.Call rule level) = steps.Call rule level
bare (steps.Predicate k) = steps.Predicate k
bare (steps.Level q) = steps.Level q
bare steps.Action = steps.Action
bare steps.Empty = steps.Empty

-- an item of a list that is mapped
at_image : {X Y : Type 0} (f : X → Y) (xs : List X) (p : ℕ) (x : X) → slice_get xs p ≡ Some x → slice_get (map f xs) p ≡ Some (f x)
at_image f [] p x is = absurd (let n : ⊥ = cc in n)
at_image f (y ∷ xs) zero x is = let same : y ≡ x = cc in ap (λ z. Some (f z)) same
at_image f (y ∷ xs) (suc p) x is = at_image f xs p x is

module _ (net : LexerNetwork) where
  -- a state
  there : (p : ℕ) (s : State Reads) → state_at net p ≡ Some s → state_at (all_emptied net) p ≡ Some (emptied s)
  there p s is = at_image emptied net.states p s is

  -- what leads on
  leads_bare : (bs : List ℕ) (t : ℕ) → AllLeadTo net bs t → AllLeadTo (all_emptied net) bs t
  leads_bare [] t a = tt
  leads_bare (b ∷ bs) t a = (there b (Empty t) a.0, leads_bare bs t a.1)

  -- an edge
  edge_bare : (label : Reads) (s n : ℕ) → state_at net s ≡ Some (Edge label n)
      → Lies (all_emptied net) (over bare (atom (steps.Edge label))) s n n (n + 1)
  edge_bare (Characters set) s n is = lay.an_edge (Characters set) s n (there s (Edge (Characters set) n) is)
  edge_bare EndOfText s n is = lay.an_empty s n (there s (Edge EndOfText n) is)

  mutual
    -- an element
    lies_bare : {x : Element (Step Reads)} {s t n m : ℕ} → Lies net x s t n m → Lies (all_emptied net) (over bare x) s t n m
    lies_bare (lay.an_edge label s n is) = edge_bare label s n is
    lies_bare (lay.a_call rule level s n is) = lay.a_call rule level s n (there s (Call rule level n) is)
    lies_bare (lay.a_predicate k s n is) = lay.a_predicate k s n (there s (Predicate k n) is)
    lies_bare (lay.a_level q s n is) = lay.a_level q s n (there s (Level q n) is)
    lies_bare (lay.an_action s n is) = lay.an_action s n (there s (Action n) is)
    lies_bare (lay.an_empty s n is) = lay.an_empty s n (there s (Empty n) is)
    lies_bare (lay.one_alternative name x s t n m l) = lay.one_alternative name (in_order_over bare x) s t n m (in_order_bare l)
    lies_bare (lay.a_block name xs firsts lasts s n m two is l a) =
        lay.a_block name (either_over bare xs) firsts lasts s n m two (there s (Decision firsts) is) (sides_bare l) (leads_bare lasts m a)
    lies_bare (lay.an_optional name sign xs firsts lasts s n m is l a exit) =
        lay.an_optional name sign (either_over bare xs) firsts lasts s n m
        (there s (Decision (lay.with_exit sign.greedy firsts m)) is) (sides_bare l) (leads_bare lasts (m + 1) a)
        (there m (Empty (m + 1)) exit)
    lies_bare (lay.a_star name sign xs firsts lasts s n m is l a) =
        lay.a_star name sign (either_over bare xs) firsts lasts s n m (there s (Decision (lay.with_exit sign.greedy firsts m)) is)
        (sides_bare l) (leads_bare lasts s a)
    lies_bare (lay.a_plus_of_one name sign xs first lasts s n m is l a again) =
        lay.a_plus_of_one name sign (either_over bare xs) first lasts s n m (there s (Empty first) is) (sides_bare l)
        (leads_bare lasts m a) (there m (Decision (lay.with_exit sign.greedy (first ∷ []) (m + 1))) again)
    lies_bare (lay.a_plus name sign xs firsts lasts s n m two is l a again) =
        lay.a_plus name sign (either_over bare xs) firsts lasts s n m two (there s (Decision firsts) is) (sides_bare l)
        (leads_bare lasts m a) (there m (Decision (lay.with_exit sign.greedy firsts (m + 1))) again)

    in_order_bare : {xs : Elements (Step Reads)} {s t n m : ℕ} → LieInOrder net xs s t n m
        → LieInOrder (all_emptied net) (in_order_over bare xs) s t n m
    in_order_bare (lay.no_more s n) = lay.no_more s n
    in_order_bare (lay.one_more x xs s mid t n k m l ls) =
        lay.one_more (over bare x) (in_order_over bare xs) s mid t n k m (lies_bare l) (in_order_bare ls)

    sides_bare : {xs : Alternatives (Step Reads)} {firsts lasts : List ℕ} {n m : ℕ} → LieSideBySide net xs firsts lasts n m
        → LieSideBySide (all_emptied net) (either_over bare xs) firsts lasts n m
    sides_bare (lay.no_other n) = lay.no_other n
    sides_bare (lay.another x xs last n k m firsts lasts l ls) =
        lay.another (in_order_over bare x) (either_over bare xs) last n k m firsts lasts (in_order_bare l) (sides_bare ls)

  -- a rule
  rule_bare : {rule n m : ℕ} {xs : Alternatives (Step Reads)} → LiesAsRule net rule xs n m
      → LiesAsRule (all_emptied net) rule (either_over bare xs) n m
  rule_bare (lay.of_one rule last n m x l leads) = lay.of_one rule last n m (in_order_over bare x) (in_order_bare l) (there last _ leads)
  rule_bare (lay.of_several rule n m xs firsts lasts two is l a) =
      lay.of_several rule n m (either_over bare xs) firsts lasts two (there _ (Decision firsts) is) (sides_bare l) (leads_bare lasts _ a)

  -- rules
  rules_bare : {rule n m : ℕ} {rules : List (Alternatives (Step Reads))} → RulesLie net rule rules n m
      → RulesLie (all_emptied net) rule (map (either_over bare) rules) n m
  rules_bare (lay.no_rule rule n) = lay.no_rule rule n
  rules_bare (lay.a_rule rule n k m xs more l end rest) =
      lay.a_rule rule n k m (either_over bare xs) (map (either_over bare) more) (rule_bare l) (there _ (End rule) end) (rules_bare rest)

  -- the network of rules
  pub network_bare : (rules : List (Alternatives (Step Reads))) → IsNetworkOf rules net
      → IsNetworkOf (map (either_over bare) rules) (all_emptied net)
  network_bare rules network =
      let many = length-map rules (either_over bare) in
      let size = length-map net.states emptied in
      record {
        lie = subst (λ (n : ℕ). RulesLie (all_emptied net) 0 (map (either_over bare) rules) (2 * n) (length (map emptied net.states)))
            (sym many)
            (subst (λ (n : ℕ). RulesLie (all_emptied net) 0 (map (either_over bare) rules) (2 * length rules) n) (sym size)
            (rules_bare network.lie));
        written = network.written ∙ sym size;
      }

-- where a state returns
return_bare : (rule : ℕ) (s : State Reads) → return_of rule (emptied s) ≡ return_of rule s
return_bare rule (Decision targets) = refl
return_bare rule (End ended) = refl
return_bare rule (Edge (Characters set) t) = refl
return_bare rule (Edge EndOfText t) = refl
return_bare rule (Call called level back) = refl
return_bare rule (Predicate k t) = refl
return_bare rule (Level q t) = refl
return_bare rule (Action t) = refl
return_bare rule (Empty t) = refl

returns_bare : (states : List (State Reads)) (rule : ℕ) → returns_of (map emptied states) rule ≡ returns_of states rule
returns_bare [] rule = refl
returns_bare (s ∷ states) rule =
    ap (λ (o : Option ℕ). cons_option o (returns_of (map emptied states) rule)) (return_bare rule s)
    ∙ ap (cons_option (return_of rule s)) (returns_bare states rule)

-- who calls rules
pub callers_bare : (states : List (State Reads)) (count : ℕ) → callers_of (map emptied states) count ≡ callers_of states count
callers_bare states count = by (range_with_len 0 count)
  where
    by : (ks : List ℕ) → map (returns_of (map emptied states)) ks ≡ map (returns_of states) ks
    by [] = refl
    by (k ∷ ks) = ap (λ (xs : List ℕ). xs ∷ map (returns_of (map emptied states)) ks) (returns_bare states k)
        ∙ ap (λ (xs : List (List ℕ)). returns_of states k ∷ xs) (by ks)
