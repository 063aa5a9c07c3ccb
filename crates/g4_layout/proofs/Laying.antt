-- The rules of a parser's network, the added rule among them, are such that the network is well formed.
use Rattle.std.proofs.Common.{◌≡◌, ℕ, zero, suc, ◌+◌, ◌≤◌, inl, inr, List, [], ◌∷◌, length, map, Some, refl, subst, arith, slice_get, All}
use Rattle.std.proofs.lemmas.List.{length-map}
use Rattle.std.proofs.lemmas.List.Elements.{All-head, All-tail}
use Rattle.g4_source.specs.Elements.{atom, empty, then, Alternatives, none, only, atoms_of_either}
use Rattle.g4_source.specs.Full.{EachIsFull}
use Rattle.g4_source.specs.Rules.{alternatives_of}
use Rattle.g4_source.specs.Blocks.{ParserRulesAreFull}
use Rattle.g4_grammar.specs.declared.step.Step.{Step}
use Rattle.g4_grammar.specs.declared.step.Step.TheVariants.{Edge}
use Rattle.g4_grammar.specs.LeftCalls.{OneNullable, this, another, one_more, an_atom, a_call, SomeHasCall, CallsAreInRange, NoLeftCycle}
use Rattle.g4_grammar.specs.Loops.{SomeHasEmptyLoop, NoEmptyLoop}
use Rattle.g4_grammar.specs.StepRules.{StepRule, IsPlainLaid, CanBeLaid}
use Rattle.g4_grammar.specs.Steps.{CallsRule, ReadsSymbols, added_rule}
use Rattle.g4_grammar.proofs.Empty.{one_is_nullable}
use Rattle.g4_layout.proofs.FirstRule.{no_loop_over, no_cycle_over}
use Rattle.g4_layout.proofs.Trees.{EachIsSound, CallsKnown, each_sound}

-- what holds of the alternatives of each rule holds of each of them
pub of_each : (P : Alternatives (Step (List ℕ)) → Type 0) (rules : List StepRule) → All (λ rule. P (alternatives_of rule)) rules →
    (k : ℕ) (xs : Alternatives (Step (List ℕ))) → slice_get (map alternatives_of rules) k ≡ Some xs → P xs
of_each P [] every k xs is = absurd (let n : ⊥ = cc in n)
of_each P (rule ∷ rules) every zero xs is = let same : alternatives_of rule ≡ xs = cc in
    subst P same (All-head (λ r. P (alternatives_of r)) rule rules every)
of_each P (rule ∷ rules) every (suc k) xs is = of_each P rules (All-tail (λ r. P (alternatives_of r)) rule rules every) k xs is

-- rules whose blocks have alternatives
pub full_each : (rules : List StepRule) → ParserRulesAreFull rules → (k : ℕ) (xs : Alternatives (Step (List ℕ)))
    → slice_get (map alternatives_of rules) k ≡ Some xs → EachIsFull xs
full_each [] full k xs is = absurd (let n : ⊥ = cc in n)
full_each (rule ∷ rules) full zero xs is = let same : alternatives_of rule ≡ xs = cc in subst EachIsFull same full.0.1
full_each (rule ∷ rules) full (suc k) xs is = full_each rules full.1 k xs is

-- the added rule calls the start rule alone
added_calls : (set : List ℕ) (start j : ℕ) → SomeHasCall CallsRule (added_rule set start) j → j ≡ start
added_calls set start j (inl (inl h)) = h
added_calls set start j (inl (inr (inl (inl (inl h))))) = absurd h
added_calls set start j (inl (inr (inl (inl (inr h))))) = absurd h
added_calls set start j (inl (inr (inl (inr h)))) = absurd h
added_calls set start j (inl (inr (inr (inl h)))) = absurd h
added_calls set start j (inl (inr (inr (inr h)))) = absurd h
added_calls set start j (inr h) = absurd h

-- its loop's body reads a symbol
one_symbol : (rules : List (Alternatives (Step (List ℕ)))) (set : List ℕ)
    → OneNullable ReadsSymbols CallsRule rules (only (then (atom (Edge set)) empty)) → ⊥
one_symbol rules set (this _ _ (one_more _ _ (an_atom _ (a, taken, is)) rest)) = (let n : ⊥ = cc in n)
one_symbol rules set (this _ _ (one_more _ _ (a_call _ rule xs calls is h) rest)) = calls
one_symbol rules set (another _ _ more) = elim more [ ]

-- no loop of it has a body that derives the empty word
added_loops : (rules : List (Alternatives (Step (List ℕ)))) (set : List ℕ) (start : ℕ)
    → SomeHasEmptyLoop ReadsSymbols CallsRule rules (added_rule set start) → ⊥
added_loops rules set start (inl (inl h)) = h
added_loops rules set start (inl (inr (inl (inl h)))) = one_symbol rules set (one_is_nullable ReadsSymbols CallsRule rules h refl)
added_loops rules set start (inl (inr (inl (inr (inl (inl h)))))) = h
added_loops rules set start (inl (inr (inl (inr (inl (inr h)))))) = h
added_loops rules set start (inl (inr (inl (inr (inr h))))) = h
added_loops rules set start (inl (inr (inr (inl h)))) = h
added_loops rules set start (inl (inr (inr (inr h)))) = h
added_loops rules set start (inr h) = h

-- each block of it has an alternative
added_full : (set : List ℕ) (start : ℕ) → EachIsFull (added_rule set start)
added_full set start = ((tt, ((tt, ((tt, tt), tt)), (tt, tt))), tt)

module _ (set : List ℕ) (start : ℕ) (rules : List StepRule) (can : CanBeLaid rules) (from : 1 ≤ start) (within : start ≤ length rules) where
  -- the alternatives of all rules of the network
  abbrev pub all_rules : List (Alternatives (Step (List ℕ)))
  all_rules = added_rule set start ∷ map alternatives_of rules

  -- there is one more than of the rules
  pub all_length : length all_rules ≡ length rules + 1
  all_length = let long = length-map rules alternatives_of in omega arith

  -- the calls of a rule other than the added one
  pub calls_within : (k j : ℕ) (xs : Alternatives (Step (List ℕ))) → slice_get (map alternatives_of rules) k ≡ Some xs
      → SomeHasCall CallsRule xs j → (1 ≤ j) × (j ≤ length rules)
  calls_within k j xs is h = of_each (λ ys. (q : ℕ) → SomeHasCall CallsRule ys q → (1 ≤ q) × (q ≤ length rules)) rules can.within k xs
      is j h

  -- each call is of a rule of the network
  pub all_in_range : CallsAreInRange CallsRule all_rules
  all_in_range zero j xs is h =
      let same : xs ≡ added_rule set start = cc in
      let called = added_calls set start j (subst (λ (ys : Alternatives (Step (List ℕ))). SomeHasCall CallsRule ys j) same h) in
      omega (arith, all_length)
  all_in_range (suc k) j xs is h = omega (arith, all_length, (calls_within k j xs is h).1)

  -- no loop has a body that derives the empty word
  pub all_loops : NoEmptyLoop ReadsSymbols CallsRule all_rules
  all_loops = no_loop_over ReadsSymbols CallsRule (added_rule set start) none (map alternatives_of rules)
      (λ k j xs is h. (calls_within k j xs is h).0) can.loops (added_loops all_rules set start)

  -- no rule reaches itself by left calls
  pub all_cycles : NoLeftCycle ReadsSymbols CallsRule all_rules
  all_cycles = no_cycle_over ReadsSymbols CallsRule (added_rule set start) none (map alternatives_of rules)
      (λ k j xs is h. (calls_within k j xs is h).0)
      (λ j h. let called = added_calls set start j h in omega arith) can.cycles

  -- each block has an alternative
  pub all_full : (k : ℕ) (xs : Alternatives (Step (List ℕ))) → slice_get all_rules k ≡ Some xs → EachIsFull xs
  all_full zero xs is = let same : added_rule set start ≡ xs = cc in subst EachIsFull same (added_full set start)
  all_full (suc k) xs is = full_each rules can.full k xs is

  -- the steps of a rule other than the added one are plain, and they call such rules
  pub plain_trees : (k : ℕ) (xs : Alternatives (Step (List ℕ))) → slice_get (map alternatives_of rules) k ≡ Some xs
      → EachIsSound (CallsKnown IsPlainLaid CallsRule (λ j. (1 ≤ j) × (j ≤ length rules))) xs
  plain_trees k xs is = each_sound IsPlainLaid CallsRule (λ j. (1 ≤ j) × (j ≤ length rules)) xs (full_each rules can.full k xs is)
      (of_each (λ ys. All IsPlainLaid (atoms_of_either ys)) rules can.plain k xs is) (λ j h. calls_within k j xs is h)
