-- From where a rule starts exactly what the rule derives is spelled.
use Rattle.std.proofs.Common.{◌≡◌, ℕ, ◌+◌, ◌<◌, inl, inr, List, [], ◌∷◌, ◌++◌, length, Some, refl, sym, ◌∙◌, ap, subst, arith, append-nil, slice_get, get_or}
use Rattle.std.proofs.lemmas.List.{length-map}
use Rattle.std.proofs.lemmas.Option.{slice_get-get_or}
use Rattle.g4_source.specs.Elements.{atom, Alternatives, none}
use Rattle.g4_source.specs.Rules.{alternatives_of}
use Rattle.g4_grammar.specs.declared.step.Numbering.{Numbering}
use Rattle.g4_grammar.specs.declared.step.Step.{Step}
use Rattle.g4_grammar.specs.declared.step.Step.TheVariants as steps
use Rattle.g4_grammar.specs.Derives.{NoCalls, Derives, an_atom, a_call, DerivesOne}
use Rattle.g4_grammar.specs.StepRules.{StepRule}
use Rattle.g4_grammar.specs.Steps.{CallsRule, ReadsSymbols}
use Rattle.g4_net.specs.declared.network.State.TheVariants.{End, Call}
use Rattle.g4_net.specs.Network.{ParserNetwork, state_at, start_of, end_of}
use Rattle.g4_net.specs.Spelling.{SpellsWord, TakesFirst}
use Rattle.g4_layout.specs.Built.{IsBuilt}
use Rattle.g4_layout.specs.Layout.{IsNetworkOf}
use Rattle.g4_layout.specs.Rules.{rules_of}
use Rattle.g4_layout.proofs.Callers.{callers_length}
use Rattle.g4_derivation.specs.Walks.{AnyLevel, ReadsLetter, WalksTo}
use Rattle.g4_derivation.proofs.Beginnings.{laid_as, ends_at}
use Rattle.g4_derivation.proofs.Joining.{decide}
use Rattle.g4_derivation.proofs.Words as words
use Rattle.g4_derivation.proofs.Firsts.{rule_leads}
use Rattle.g4_derivation.proofs.Joined.{joined}
use Rattle.g4_derivation.proofs.Spelt as walks
use Rattle.g4_derivation.proofs.Covers.{TakesWord, Covers, covers_both, covers_apart, taken_letter, taken_symbol}
use Rattle.g4_derivation.proofs.Substituted.{one_back, one_on}
use Rattle.g4_derivation.specs.Spelling.{SpellsRules}

module _ (rules : List (Alternatives (Step (List ℕ)))) (net : ParserNetwork) (network : IsNetworkOf rules net)
    (in_range : (p rule level back : ℕ) → state_at net p ≡ Some (Call rule level back) → rule < length rules) where
  -- the rule of this number derives the word
  abbrev Derived : ℕ → List ℕ → Type 0
  Derived k c = (xs : Alternatives (Step (List ℕ))) × (slice_get rules k ≡ Some xs) × DerivesOne ReadsSymbols CallsRule rules xs c

  -- what a step reads as letters, where a called rule has the words that it derives
  atom_back : (a : Step (List ℕ)) (us : List (List ℕ)) → ReadsLetter TakesWord Derived AnyLevel a us →
      Derives ReadsSymbols CallsRule rules (atom a) (joined us)
  atom_back (steps.Edge set) us (c, (b, has, c_is), one) =
      an_atom (steps.Edge set) (joined us) (b, has, ap joined one ∙ append-nil c ∙ c_is)
  atom_back (steps.Call rule level) us (c, (xs, at, d), one) =
      a_call (steps.Call rule level) rule xs (joined us) refl at
      (subst (DerivesOne ReadsSymbols CallsRule rules xs) (sym (ap joined one ∙ append-nil c)) d)
  atom_back (steps.Predicate k) us e = an_atom (steps.Predicate k) (joined us) (ap joined e)
  atom_back (steps.Level q) us (any, e) = an_atom (steps.Level q) (joined us) (ap joined e)
  atom_back steps.Action us e = an_atom steps.Action (joined us) (ap joined e)
  atom_back steps.Empty us e = an_atom steps.Empty (joined us) (ap joined e)

  -- what a walk from a rule's start to the end of a rule reads, the rule derives
  walked : (k : ℕ) (xs : Alternatives (Step (List ℕ))) → slice_get rules k ≡ Some xs → (e ended : ℕ) (us : List (List ℕ)) →
      state_at net e ≡ Some (End ended) → WalksTo TakesWord Derived AnyLevel net (start_of k) e us →
      DerivesOne ReadsSymbols CallsRule rules xs (joined us)
  walked k xs at e ended us end walk =
      one_back ReadsSymbols CallsRule rules (ReadsLetter TakesWord Derived AnyLevel) atom_back xs us
      (walks.start_derives net TakesFirst TakesWord Derived Covers (λ w. refl)
      (λ w z e. e) covers_both covers_apart taken_letter taken_symbol rules network k xs at e ended us end walk)

  -- so does one that is called
  called : (p rule level back : ℕ) → state_at net p ≡ Some (Call rule level back) → (e ended : ℕ) (us : List (List ℕ)) →
      state_at net e ≡ Some (End ended) → WalksTo TakesWord Derived AnyLevel net (start_of rule) e us → Derived rule (joined us)
  called p rule level back is e ended us end walk =
      let xs = get_or rules rule none in
      let at : slice_get rules rule ≡ Some xs = slice_get-get_or rules rule none (in_range p rule level back is) in
      (xs, at, walked rule xs at e ended us end walk)

  -- what is spelled is derived
  pub spelled_derives : (k : ℕ) (xs : Alternatives (Step (List ℕ))) → slice_get rules k ≡ Some xs → (w z : List ℕ) →
      SpellsWord net (start_of k) w z → (u : List ℕ) × (w ≡ u ++ z) × DerivesOne ReadsSymbols CallsRule rules xs u
  spelled_derives k xs at w z h =
      let s = walks.spelt net TakesFirst TakesWord Derived Covers (λ w. refl)
      (λ w z e. e) covers_both covers_apart taken_letter taken_symbol called (start_of k) w z h in
      (joined s.letters, s.covers, walked k xs at s.end s.ended s.letters s.is s.walk)

  -- the word is spelled from the start of the rule, before whatever follows
  abbrev Named : ℕ → List ℕ → Type 0
  Named k c = (w z : List ℕ) → w ≡ c ++ z → SpellsWord net (start_of k) w z

  -- what a step reads, as letters
  atom_on : (a : Step (List ℕ)) (w : List ℕ) → ReadsSymbols a w → (us : List (List ℕ)) × ReadsLetter TakesWord Named AnyLevel a us ×
      (w ≡ joined us)
  atom_on (steps.Edge set) w (b, has, is) = ((b ∷ []) ∷ [], (b ∷ [], (b, has, refl), refl), is)
  atom_on (steps.Call rule level) w r = absurd r
  atom_on (steps.Predicate k) w r = ([], refl, r)
  atom_on (steps.Level q) w r = ([], (tt, refl), r)
  atom_on steps.Action w r = ([], refl, r)
  atom_on steps.Empty w r = ([], refl, r)

  -- a call reads one letter
  atom_calls : (a : Step (List ℕ)) (k : ℕ) (w : List ℕ) → CallsRule a k → Named k w → ReadsLetter TakesWord Named AnyLevel a (w ∷ [])
  atom_calls (steps.Edge set) k w c n = absurd c
  atom_calls (steps.Call rule level) k w c n = (w, subst (λ (j : ℕ). Named j w) c n, refl)
  atom_calls (steps.Predicate j) k w c n = absurd c
  atom_calls (steps.Level q) k w c n = absurd c
  atom_calls steps.Action k w c n = absurd c
  atom_calls steps.Empty k w c n = absurd c

  -- what a rule derives of letters its start spells
  named : (k : ℕ) (xs : Alternatives (Step (List ℕ))) (us : List (List ℕ)) → slice_get rules k ≡ Some xs →
      DerivesOne (ReadsLetter TakesWord Named AnyLevel) NoCalls [] xs us → Named k (joined us)
  named k xs us at d w z covers =
      let h = rule_leads (laid_as rules net network k xs at).2 d in
      let walk = words.derived_walks TakesWord Named AnyLevel rules net network k xs at h.2.number h.2.state h.0 h.2.alternative
      h.2.begins us h.1 in
      let from_start : WalksTo TakesWord Named AnyLevel net (start_of k) (end_of k) us = elim h.2.to [
        | inl same ↦ subst (λ (q : ℕ). WalksTo TakesWord Named AnyLevel net q (end_of k) us) same walk
        | inr t ↦ decide TakesWord Named AnyLevel net t.0 t.1 t.2 walk
      ] in
      walks.walk_spells net TakesFirst TakesWord Named Covers (λ v. refl) (λ v x e. e) covers_both covers_apart taken_letter taken_symbol
      (λ j c n. n)
      from_start.0 (start_of k) (end_of k) k us (ends_at rules net network k xs at) from_start.1 w z covers

  -- what is derived is spelled
  pub derived_spells : (k : ℕ) (xs : Alternatives (Step (List ℕ))) → slice_get rules k ≡ Some xs → (u w z : List ℕ) → w ≡ u ++ z →
      DerivesOne ReadsSymbols CallsRule rules xs u → SpellsWord net (start_of k) w z
  derived_spells k xs at u w z parts d =
      let h = one_on ReadsSymbols CallsRule rules (ReadsLetter TakesWord Named AnyLevel) Named atom_on atom_calls named xs u d in
      named k xs h.0 at h.1 w z (parts ∙ ap (λ (x : List ℕ). x ++ z) h.2)

-- the calls of a network that is built are of its rules
pub built_in_range : (set : List ℕ) (rules : List StepRule) (numberings : List Numbering) (name : List ℕ) (net : ParserNetwork) →
    IsBuilt set rules numberings name net → (p rule level back : ℕ) → state_at net p ≡ Some (Call rule level back) →
    rule < length (rules_of set rules name)
built_in_range set rules numberings name net built p rule level back is =
    let listed = built.runnable.well_formed.calls p rule level back is in
    let counted = ap length built.callers ∙ callers_length net.states (length rules + 1) in
    let long = length-map rules alternatives_of in
    omega (arith, listed, counted, long)

-- so a network that is built spells what its rules derive
pub built_spells : (set : List ℕ) (rules : List StepRule) (numberings : List Numbering) (name : List ℕ) (net : ParserNetwork) →
    IsBuilt set rules numberings name net → SpellsRules (rules_of set rules name) net
built_spells set rules numberings name net built k xs at w =
    let all = rules_of set rules name in
    let in_range = built_in_range set rules numberings name net built in (
      λ h. (let d = spelled_derives all net built.network in_range k xs at w [] h in
          subst (λ v. DerivesOne ReadsSymbols CallsRule all xs v) (sym (d.1 ∙ append-nil d.0)) d.2),
      λ d. derived_spells all net built.network in_range k xs at w w [] (sym (append-nil w)) d,
    )
