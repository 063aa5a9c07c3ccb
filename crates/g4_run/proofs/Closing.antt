-- Once the start rule is closed, a run that ends with its tree reads symbols of the loop's set and then END, and nothing is left.
use Rattle.std.proofs.Common.{◌≡◌, ◌⊎◌, inl, inr, ℕ, List, [], ◌∷◌, ◌++◌, Some, take, drop, take-append-drop, refl, sym, ◌∙◌, ap, subst, append_assoc, Contains}
use Rattle.std.proofs.lemmas.List.Elements.{Contains-append_cases}
use Rattle.g4_fits.specs.Fitting.{SpellsEach}
use Rattle.g4_lookahead.proofs.Apart.{split, not_both}
use Rattle.g4_lookahead.proofs.Proper.{Inside, at_call, at_last, at_loop, at_turn, after_turn, at_end, after_end, inside_cases, stack_for}
use Rattle.g4_net.specs.AddedRule.{IsApart}
use Rattle.g4_net.specs.Network.{ParserNetwork, state_at}
use Rattle.g4_net.specs.Proper.{IsProper, called}
use Rattle.g4_net.specs.Spelling.{SpellsWord}
use Rattle.g4_net.specs.declared.network.State.TheVariants.{Call}
use Rattle.g4_run.specs.Running.{Frame, Run, Values, backs, parsed, Runs}
use Rattle.g4_run.proofs.LastSymbol.{Closes, loop_closes, nothing_left, only_symbol}
use Rattle.g4_run.proofs.Spelled.{run_spells}
use Rattle.g4_tokens.specs.Symbols.{end_of_list}
use Rattle.g4_tokens.specs.TokenList.{EndsInEnd}
use Rattle.g4_trees.specs.Trees.{Tree}

module _ {looped : List ℕ} (net : ParserNetwork) (rule loop : ℕ) (apart : IsApart net rule loop looped) where
  -- only one state of the added rule calls, and it returns to the loop
  call_inside : (q callee level back : ℕ) → Inside net rule loop apart q → state_at net q ≡ Some (Call callee level back) → back ≡ loop
  call_inside q callee level back (at_call e at) is = cc
  call_inside q callee level back (at_last e at) is = cc
  call_inside q callee level back (at_loop e at) is = cc
  call_inside q callee level back (at_turn e at) is = cc
  call_inside q callee level back (after_turn e at) is = cc
  call_inside q callee level back (at_end e at) is = cc
  call_inside q callee level back (after_end e at) is = cc

  -- so the oldest open rule returns to it
  pub returns_to_loop : (p back : ℕ) → IsProper net p (back ∷ []) → back ≡ loop
  returns_to_loop p back (called r _ _ _ of (q, level, is) proper) = elim (split loop q apart.loop_from) [
    | inl inside ↦ call_inside q r level back (inside_cases net rule loop apart q inside) is
    | inr outside ↦ absurd (not_both loop back apart.loop_from (stack_for net rule loop apart back [] proper)
        (apart.targets q back (Call r level back) outside is refl))
  ]

  -- where a run that ends with its tree is at the loop with no rule open, each symbol that is left is one of the loop's set or END
  pub closing_left : (values : Values) (word : List ℕ) (limit : ℕ) (r : Run) (tree : Tree) → EndsInEnd word → r.state ≡ loop →
      r.frames ≡ [] → Runs net values word limit r (parsed tree) → (a : ℕ) → Contains (drop r.place word) a →
      Contains looped a ⊎ (a ≡ end_of_list)
  closing_left values word limit r tree once at none run =
      let rest = run_spells net values word limit r (parsed tree) tree run refl in
      let here : SpellsEach net (loop ∷ []) (drop r.place word) rest.0 =
      subst (λ (p : ℕ). SpellsEach net (p ∷ []) (drop r.place word) rest.0) at
      (subst (λ (fs : List Frame). SpellsEach net (r.state ∷ backs fs) (drop r.place word) rest.0) none rest.1) in
      let spelled : SpellsWord net loop (drop r.place word) rest.0 =
      subst (λ (z : List ℕ). SpellsWord net loop (drop r.place word) z) here.2 here.1 in
      by rest.0 (loop_closes net rule loop apart (drop r.place word) rest.0 spelled)
    where
      by : (z : List ℕ) → Closes net rule loop apart (drop r.place word) z → (a : ℕ) → Contains (drop r.place word) a →
          Contains looped a ⊎ (a ≡ end_of_list)
      by z (front, is, all) a has =
          let whole : word ≡ (take r.place word ++ front) ++ end_of_list ∷ z =
          sym (take-append-drop r.place word) ∙ ap (λ (w : List ℕ). take r.place word ++ w) is
          ∙ sym (append_assoc (take r.place word) front (end_of_list ∷ z)) in
          let nothing : z ≡ [] = nothing_left word z once (take r.place word ++ front, whole) in
          elim (Contains-append_cases front (end_of_list ∷ []) a (subst (λ (w : List ℕ). Contains w a)
          (is ∙ ap (λ (x : List ℕ). front ++ end_of_list ∷ x) nothing) has)) [
            | inl before ↦ inl (all a before)
            | inr last ↦ inr (only_symbol end_of_list a last)
          ]
