-- The rules of a lexer's network by their numbers, and where their alternatives begin.
use Rattle.std.proofs.Common.{◌≡◌, ℕ, zero, suc, ◌+◌, ◌<◌, ◌⊎◌, inl, inr, List, [], ◌∷◌, length, map, All, Option, Some, None, refl, sym, ◌∙◌, ap, subst, arith, Contains, slice_get}
use Rattle.std.proofs.lemmas.List.{length-map}
use Rattle.std.proofs.lemmas.List.FromFn.{length-map-range_with_len}
use Rattle.g4_source.specs.Bind.{in_order_bind, either_bind, in_order_over, either_over}
use Rattle.g4_source.specs.Elements.{Elements, Alternatives, either, atoms_of_either}
use Rattle.g4_source.specs.declared.atom.Atom.{Atom}
use Rattle.g4_source.specs.declared.rule.LexerAlternative.{LexerAlternative}
use Rattle.g4_source.specs.declared.rule.LexerRule.{LexerRule}
use Rattle.g4_source.specs.Rules.{lexer_alternatives_of}
use Rattle.g4_grammar.specs.declared.step.Step.{Step}
use Rattle.g4_net.specs.declared.network.Network.{Network}
use Rattle.g4_net.specs.declared.network.State.{State}
use Rattle.g4_net.specs.declared.network.State.TheVariants.{Decision, End, Edge, Call, Predicate, Level, Action, Empty}
use Rattle.g4_net.specs.Network.{state_at, start_of}
use Rattle.g4_layout.specs.Callers.{callers_of, returns_of}
use Rattle.g4_ordered.specs.declared.network.Reads.{Reads}
use Rattle.g4_ordered.specs.Network.{emptied}
use Rattle.g4_derivation.specs.Alternatives.{IsAlternative}
use Rattle.g4_derivation.specs.Alternatives as walks
use Rattle.g4_derivation.proofs.Beginnings.{alternative_of_list}
use Rattle.g4_derivation.proofs.Items.{map_item, item_map}
use Rattle.g4_lexer_rules.specs.declared.lex_net.LexNet.{LexNet}
use Rattle.g4_ordered.specs.declared.start.Start.{Start}
use Rattle.g4_lexer_rules.specs.Lexable.{CanBeLexed}
use Rattle.g4_lexer_rules.specs.LexNets.{IsLexNet}
use Rattle.g4_lexer_rules.specs.NetworkRules.{all_rules, lowered, names_of, trees_of}
use Rattle.g4_lexer_rules.specs.Starts.{decided_starts, numbered_starts, rule_starts}
use Rattle.g4_lexer_rules.specs.Steps.{step_of}
use Rattle.g4_lexer_rules.proofs.Lexed.{is_lexable}
use Rattle.g4_lexer_rules.proofs.Trees.{one_by_one, tree}
use Rattle.g4_spelling.specs.Canonical.{SetsAreCanonical}
use Rattle.g4_spelling.proofs.Atoms.{HasCanonical, kind_of}

-- there is an item at each place
pub item_below : {X : Type 0} (xs : List X) (k : ℕ) → k < length xs → (x : X) × (slice_get xs k ≡ Some x)
item_below [] k below = absurd (omega (arith, below))
item_below (x ∷ xs) zero below = (x, refl)
item_below (x ∷ xs) (suc k) below = item_below xs k (omega (arith, below))

-- a member is at a place
pub member_at : (x y : Start) (xs : List Start) → Contains (x ∷ xs) y → (x ≡ y) ⊎ Contains xs y
member_at x y xs (zero, below, is) = inl is
member_at x y xs (suc k, below, is) = inr (k, omega (arith, below), is)

-- alternatives that are numbered begin where their list says
pub numbered_at : (r n : ℕ) (ps : List ℕ) (i a : ℕ)
    → Contains (numbered_starts r n ps) (record { rule = r; alternative = i; state = a })
    → (k : ℕ) × (slice_get ps k ≡ Some a) × (i ≡ n + k)
numbered_at r n [] i a c = absurd (omega (arith, c.1))
numbered_at r n (p ∷ ps) i a c = elim (member_at (record { rule = r; alternative = n; state = p })
    (record { rule = r; alternative = i; state = a }) (numbered_starts r (n + 1) ps) c) [
      | inl same ↦ (0, ap (λ (s : Start). Some s.state) same, let e = ap (λ (s : Start). s.alternative) same in omega (arith, e))
      | inr more ↦ (let h = numbered_at r (n + 1) ps i a more in (suc h.0, h.1, omega (arith, h.2)))
    ]

-- and those of a decision do
pub decided_at : (r : ℕ) (o : Option (State Reads)) (i a : ℕ)
    → Contains (decided_starts r o) (record { rule = r; alternative = i; state = a }) →
    (targets : List ℕ) × (k : ℕ) × (o ≡ Some (Decision targets)) × (slice_get targets k ≡ Some a) × (i ≡ k + 1)
decided_at r None i a c = absurd (omega (arith, c.1))
decided_at r (Some (Decision targets)) i a c = let h = numbered_at r 1 targets i a c in (targets, h.0, refl, h.1, omega (arith, h.2))
decided_at r (Some (End ended)) i a c = absurd (omega (arith, c.1))
decided_at r (Some (Edge label t)) i a c = absurd (omega (arith, c.1))
decided_at r (Some (Call called level back)) i a c = absurd (omega (arith, c.1))
decided_at r (Some (Predicate k t)) i a c = absurd (omega (arith, c.1))
decided_at r (Some (Level q t)) i a c = absurd (omega (arith, c.1))
decided_at r (Some (Action t)) i a c = absurd (omega (arith, c.1))
decided_at r (Some (Empty t)) i a c = absurd (omega (arith, c.1))

module _ (all : List LexerRule) where
  -- an alternative in the network
  abbrev pub laid : Elements Atom → Elements (Step Reads)
  laid x = in_order_over step_of (in_order_bind (kind_of (names_of all)) x)

  -- all alternatives of a rule
  abbrev pub all_laid : Alternatives Atom → Alternatives (Step Reads)
  all_laid xs = either_over step_of (either_bind (kind_of (names_of all)) xs)

  -- the tree of a rule is that
  pub tree_is : (rule : LexerRule) → tree all rule ≡ all_laid (lexer_alternatives_of rule)
  tree_is rule = one_by_one (names_of all) rule.alternatives

  -- of which rule a tree is
  pub tree_at : (k : ℕ) (ys : Alternatives (Step Reads)) → slice_get (trees_of all) k ≡ Some ys
      → (rule : LexerRule) × (slice_get all k ≡ Some rule) × (ys ≡ all_laid (lexer_alternatives_of rule))
  tree_at k ys is = let h = map_item (tree all) all k ys is in (h.0, h.1, h.2 ∙ tree_is h.0)

  -- the tree of a rule
  pub tree_of : (k : ℕ) (rule : LexerRule) → slice_get all k ≡ Some rule
      → slice_get (trees_of all) k ≡ Some (all_laid (lexer_alternatives_of rule))
  tree_of k rule is = item_map (tree all) all k rule is ∙ ap (λ (ys : Alternatives (Step Reads)). Some ys) (tree_is rule)

  -- the rules' own alternatives
  abbrev pub given : List (Alternatives Atom)
  given = map lexer_alternatives_of all

  -- their sets
  pub good_at : SetsAreCanonical all → (k : ℕ) (xs : Alternatives Atom) → slice_get given k ≡ Some xs
      → All (HasCanonical (names_of all)) (atoms_of_either xs)
  good_at canonical k xs is =
      let h = map_item lexer_alternatives_of all k xs is in
      subst (λ (ys : Alternatives Atom). All (HasCanonical (names_of all)) (atoms_of_either ys)) (sym h.2) (canonical k h.0 h.1)

  -- an alternative of a rule is one of its tree
  pub alternative_laid : (rule : LexerRule) (j : ℕ) (x : LexerAlternative) → slice_get rule.alternatives j ≡ Some x
      → IsAlternative (all_laid (lexer_alternatives_of rule)) (j + 1) (laid x.elements)
  alternative_laid rule j x is =
      subst (λ (ys : Alternatives (Step Reads)). IsAlternative ys (j + 1) (laid x.elements)) (tree_is rule)
      (alternative_of_list (map (in_order_over step_of) (lowered all rule)) j (laid x.elements)
      (item_map (in_order_over step_of) (lowered all rule) j (in_order_bind (kind_of (names_of all)) x.elements)
      (item_map (λ (y : LexerAlternative). in_order_bind (kind_of (names_of all)) y.elements) rule.alternatives j x is)))

  -- it begins where the starts say
  pub begins_laid : (net : Network Reads) (r i a : ℕ) (xs : List LexerAlternative)
      → Contains (rule_starts net.states r xs) (record { rule = r; alternative = i; state = a }) → (j : ℕ) (x : LexerAlternative)
      → slice_get xs j ≡ Some x →
      walks.BeginsAt net r (all_laid (either (map (λ y. y.elements) xs))) i a
  begins_laid net r i a [] c j x is = absurd (let n : ⊥ = cc in n)
  begins_laid net r i a (y ∷ []) c j x is = elim
      (member_at (record { rule = r; alternative = 1; state = start_of r }) (record { rule = r; alternative = i; state = a }) [] c) [
        | inl same ↦ (sym (ap (λ (s : Start). s.alternative) same), sym (ap (λ (s : Start). s.state) same))
        | inr more ↦ absurd (omega (arith, more.1))
      ]
  begins_laid net r i a (y ∷ z ∷ more) c j x is = decided_at r (slice_get net.states (start_of r)) i a c

-- as many callers are listed as there are rules
callers_counted : (states : List (State Reads)) (count : ℕ) → length (callers_of states count) ≡ count
callers_counted states count = length-map-range_with_len (returns_of states) 0 count

-- each call in a network that can be lexed with is of one of the rules
pub call_known : (literals others : List LexerRule) (modes : List (List ℕ)) (made : LexNet) → IsLexNet literals others modes made
    → CanBeLexed (all_rules literals others) →
    (p rule level back : ℕ) → state_at made.net p ≡ Some (Call rule level back)
    → (xs : LexerRule) × (slice_get (all_rules literals others) rule ≡ Some xs)
call_known literals others modes made x can p rule level back is =
    let rules = all_rules literals others in
    let well = is_lexable literals others modes made x can in
    let below : rule < length made.net.callers =
    well.calls p rule level back (item_map emptied made.net.states p (Call rule level back) is) in
    let many : length made.net.callers ≡ length (trees_of rules) =
    ap length x.network.callers ∙ callers_counted made.net.states (length (trees_of rules)) in
    item_below rules rule (omega (arith, below, many, length-map rules (tree rules)))
