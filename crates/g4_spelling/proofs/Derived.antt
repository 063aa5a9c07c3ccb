-- From where an alternative begins exactly what the alternative matches by derivation is spelled.
use Rattle.std.proofs.Common.{◌≡◌, ℕ, zero, suc, List, [], ◌∷◌, ◌++◌, map, inl, inr, All, Some, refl, sym, ◌∙◌, ap, subst, Contains, slice_get}
use Rattle.std.specs.List.{repeat}
use Rattle.g4_source.specs.Elements.{Elements, Alternatives, atoms_in_order, atoms_of_either, either}
use Rattle.g4_source.specs.declared.atom.Atom.{Atom}
use Rattle.g4_source.specs.declared.rule.LexerAlternative.{LexerAlternative}
use Rattle.g4_source.specs.declared.rule.LexerRule.{LexerRule}
use Rattle.g4_source.specs.Rules.{lexer_alternatives_of}
use Rattle.g4_source.proofs.Parts.{All-front, All-rest}
use Rattle.g4_grammar.specs.declared.step.Step.{Step}
use Rattle.g4_grammar.specs.Derives.{NoCalls, DerivesAll, DerivesOne}
use Rattle.g4_net.specs.declared.network.State.TheVariants.{End, Call}
use Rattle.g4_net.specs.Network.{state_at, start_of, end_of}
use Rattle.g4_layout.specs.Layout.{IsNetworkOf}
use Rattle.g4_ordered.specs.declared.network.Reads.{Reads}
use Rattle.g4_ordered.specs.Network.{LexerNetwork}
use Rattle.g4_ordered.specs.Spelling.{SpellsText, TakesText}
use Rattle.g4_derivation.specs.Alternatives as walks
use Rattle.g4_derivation.specs.Walks.{AnyLevel, WalksTo}
use Rattle.g4_derivation.proofs.Beginnings.{laid_as, ends_at}
use Rattle.g4_derivation.proofs.Joining.{decide}
use Rattle.g4_derivation.proofs.Words as words
use Rattle.g4_derivation.proofs.Firsts.{Leads, rule_leads}
use Rattle.g4_derivation.proofs.Items.{item_map, map_item}
use Rattle.g4_derivation.proofs.Joined.{joined}
use Rattle.g4_derivation.proofs.Spelt as spelling
use Rattle.g4_lexer_rules.specs.declared.lex_net.LexNet.{LexNet}
use Rattle.g4_lexer_rules.specs.Lexable.{CallsNamed, CanBeLexed}
use Rattle.g4_lexer_rules.specs.LexNets.{IsLexNet}
use Rattle.g4_lexer_rules.specs.NetworkRules.{all_rules, names_of, trees_of}
use Rattle.g4_lexer_rules.specs.Starts.{rule_starts}
use Rattle.g4_lexer_rules.specs.Steps.{step_of}
use Rattle.g4_spelling.specs.Canonical.{SetsAreCanonical}
use Rattle.g4_spelling.specs.Fronts.{IsLexStart, DerivesMarks, IsAlternativeOf, DerivesFront}
use Rattle.g4_spelling.specs.Marks.{Mark, character, end_of_file, ReadsMarks}
use Rattle.g4_spelling.proofs.Atoms.{HasCanonical, IsDerived, Letters, atom_back, atom_calls, atom_on, kind_of}
use Rattle.g4_spelling.proofs.Covers.{Covers, TakesMarks, covers_apart, covers_both, covers_front, covers_is_front, taken_marks, taken_text}
use Rattle.g4_spelling.proofs.Placed.{all_laid, alternative_laid, begins_laid, call_known, given, good_at, laid, tree_of}
use Rattle.g4_spelling.proofs.Substituted.{all_back, all_on, one_back}

-- what holds of the atoms of a rule does of those of each alternative
in_alternative : (P : Atom → Type 0) (xs : List LexerAlternative) (j : ℕ) (x : LexerAlternative) → slice_get xs j ≡ Some x
    → All P (atoms_of_either (either (map (λ y. y.elements) xs))) → All P (atoms_in_order x.elements)
in_alternative P [] j x is every = absurd (let n : ⊥ = cc in n)
in_alternative P (y ∷ xs) zero x is every =
    let same : y ≡ x = cc in
    subst (λ (z : LexerAlternative). All P (atoms_in_order z.elements)) same
    (All-front P (atoms_in_order y.elements) (atoms_of_either (either (map (λ (z : LexerAlternative). z.elements) xs))) every)
in_alternative P (y ∷ xs) (suc j) x is every =
    in_alternative P xs j x is (All-rest P (atoms_in_order y.elements)
    (atoms_of_either (either (map (λ (z : LexerAlternative). z.elements) xs))) every)

module _ (literals others : List LexerRule) (modes : List (List ℕ)) (made : LexNet) (lex : IsLexNet literals others modes made)
    (can : CanBeLexed (all_rules literals others)) (canonical : SetsAreCanonical (all_rules literals others)) where
  -- all rules, their names and the network
  abbrev rules : List LexerRule
  rules = all_rules literals others

  abbrev names : List (List ℕ)
  names = names_of rules

  abbrev net : LexerNetwork
  net = made.net

  network : IsNetworkOf (trees_of rules) net
  network = lex.network.network

  good : (k : ℕ) (xs : Alternatives Atom) → slice_get (given rules) k ≡ Some xs → All (HasCanonical names) (atoms_of_either xs)
  good k xs is = good_at rules canonical k xs is

  -- the marks of a rule that is called are those that it derives
  abbrev Derived : ℕ → List Mark → Type 0
  Derived = IsDerived names (given rules)

  -- what a walk from a rule's start reads, the rule derives
  called : (p rule level back : ℕ) → state_at net p ≡ Some (Call rule level back) → (e ended : ℕ) (us : List (List Mark))
      → state_at net e ≡ Some (End ended) → WalksTo TakesMarks Derived AnyLevel net (start_of rule) e us →
      Derived rule (joined us)
  called p rule level back is e ended us end walk =
      let known = call_known literals others modes made lex can p rule level back is in
      let tree = tree_of rules rule known.0 known.1 in
      let xs = lexer_alternatives_of known.0 in
      let here = item_map lexer_alternatives_of rules rule known.0 known.1 in
      let d = spelling.start_derives net TakesText TakesMarks Derived Covers (λ w. refl) (λ w z e. e) covers_both covers_apart
      taken_marks taken_text (trees_of rules) network rule (all_laid rules xs) tree e ended us end walk in (
        xs,
        here,
        one_back step_of (kind_of names) (HasCanonical names) ReadsMarks (CallsNamed names) (given rules) (Letters Derived)
            (atom_back names (given rules)) (all_laid rules xs) us d xs (good rule xs here) refl,
      )

  -- a text is spelled from the start of a rule, where it has these marks
  abbrev Named : ℕ → List Mark → Type 0
  Named k c = (w z : List ℕ) → Covers c w z → SpellsText net (start_of k) w z

  -- from where an alternative begins, and from the start of its rule
  from_start : (k : ℕ) (ys : Alternatives (Step Reads)) (y : Elements (Step Reads)) (us : List (List Mark))
      → slice_get (trees_of rules) k ≡ Some ys → DerivesAll (Letters Named) NoCalls [] y us → Leads net k ys y →
      WalksTo TakesMarks Named AnyLevel net (start_of k) (end_of k) us
  from_start k ys y us tree d leads =
      let walk = words.derived_walks TakesMarks Named AnyLevel (trees_of rules) net network k ys tree leads.number leads.state y
      leads.alternative leads.begins us d in
      elim leads.to [
        | inl same ↦ subst (λ (q : ℕ). WalksTo TakesMarks Named AnyLevel net q (end_of k) us) same walk
        | inr h ↦ decide TakesMarks Named AnyLevel net h.0 h.1 h.2 walk
      ]

  -- a walk to the end of its rule spells
  to_end : (k : ℕ) (ys : Alternatives (Step Reads)) (p : ℕ) (us : List (List Mark)) → slice_get (trees_of rules) k ≡ Some ys
      → WalksTo TakesMarks Named AnyLevel net p (end_of k) us → (w z : List ℕ) → Covers (joined us) w z → SpellsText net p w z
  to_end k ys p us tree walk w z covers = spelling.walk_spells net TakesText TakesMarks Named Covers (λ v. refl) (λ v x e. e)
      covers_both covers_apart taken_marks taken_text (λ j c n. n) walk.0 p (end_of k) k us
      (ends_at (trees_of rules) net network k ys tree) walk.1 w z covers

  -- what a rule spells of letters its start spells
  named : (k : ℕ) (xs : Alternatives Atom) (us : List (List Mark)) → slice_get (given rules) k ≡ Some xs
      → DerivesOne (Letters Named) NoCalls [] (all_laid rules xs) us → Named k (joined us)
  named k xs us is d =
      let h = map_item lexer_alternatives_of rules k xs is in
      let tree : slice_get (trees_of rules) k ≡ Some (all_laid rules xs) =
      tree_of rules k h.0 h.1 ∙ ap (λ (zs : Alternatives Atom). Some (all_laid rules zs)) (sym h.2) in
      let lies = laid_as (trees_of rules) net network k (all_laid rules xs) tree in
      let r = rule_leads lies.2 d in
      λ w z covers. to_end k (all_laid rules xs) (start_of k) us tree (from_start k (all_laid rules xs) r.0 us tree r.1 r.2) w z covers

  module _ (r i a : ℕ) (x : LexerAlternative) (alternative : IsAlternativeOf rules r i x) (begins : IsLexStart net.states rules r i a) where
    -- the rule, and its tree
    abbrev rule : LexerRule
    rule = alternative.0

    abbrev own : Alternatives Atom
    own = lexer_alternatives_of rule

    tree : slice_get (trees_of rules) r ≡ Some (all_laid rules own)
    tree = tree_of rules r rule alternative.2

    own_good : All (HasCanonical names) (atoms_in_order x.elements)
    own_good = in_alternative (HasCanonical names) rule.alternatives alternative.1 x alternative.3 (canonical r rule alternative.2)

    -- the alternative in the network, and where it begins
    is_alternative : walks.IsAlternative (all_laid rules own) i (laid rules x.elements)
    is_alternative = subst (λ (q : ℕ). walks.IsAlternative (all_laid rules own) q (laid rules x.elements)) (sym alternative.4)
        (alternative_laid rules rule alternative.1 x alternative.3)

    begins_here : walks.BeginsAt net r (all_laid rules own) i a
    begins_here =
        let same : begins.0 ≡ rule = (let e : Some begins.0 ≡ Some rule = sym begins.1 ∙ alternative.2 in cc) in
        begins_laid rules net r i a rule.alternatives
        (subst (λ (y : LexerRule). Contains (rule_starts net.states r y.alternatives)
        (record { rule = r; alternative = i; state = a })) same begins.2) alternative.1 x alternative.3

    -- what is spelled is derived
    pub spelled_derives : (w z : List ℕ) → SpellsText net a w z → DerivesFront rules x.elements w z
    spelled_derives w z spells =
        let s = spelling.spelt net TakesText TakesMarks Derived Covers (λ v. refl) (λ v x e. e) covers_both covers_apart taken_marks
        taken_text called a w z spells in
        let d = words.walk_ends TakesMarks Derived AnyLevel (trees_of rules) net network r (all_laid rules own) tree i a
        (laid rules x.elements) is_alternative begins_here s.end s.ended s.walk.0 s.letters s.is s.walk.1 in
        let marks = all_back step_of (kind_of names) (HasCanonical names) ReadsMarks (CallsNamed names) (given rules)
        (Letters Derived) (atom_back names (given rules)) (laid rules x.elements) s.letters d.2 x.elements own_good refl in
        let f = covers_is_front (joined s.letters) w z s.covers in
        record {
          text = f.text;
          ends = f.ends;
          parts = f.parts;
          at_end = f.at_end;
          derives = subst (DerivesMarks rules x.elements) f.marks marks;
        }

    -- and what is derived is spelled
    pub derived_spells : (w z : List ℕ) → DerivesFront rules x.elements w z → SpellsText net a w z
    derived_spells w z m =
        let marks = map character m.text ++ repeat m.ends (end_of_file ∷ []) in
        let h = all_on step_of (kind_of names) (HasCanonical names) ReadsMarks (CallsNamed names) (given rules) (Letters Named) Named
        good (atom_on names Named) (atom_calls names Named) named x.elements marks own_good m.derives in
        let walk = words.derived_walks TakesMarks Named AnyLevel (trees_of rules) net network r (all_laid rules own) tree i a
        (laid rules x.elements) is_alternative begins_here h.0 h.1 in
        let covers : Covers marks w z = covers_front m.text m.ends w z m.parts m.at_end in
        to_end r (all_laid rules own) a h.0 tree walk w z (subst (λ (ms : List Mark). Covers ms w z) h.2 covers)
