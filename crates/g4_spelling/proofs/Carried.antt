-- What the rules in the network have of the rules as they are written: their calls, and their signs.
use Rattle.std.proofs.Common.{◌≡◌, ℕ, inl, inr, List, [], ◌∷◌, Bool, true, false, cond, codes, refl}
use Rattle.std.specs.List.{position_or_len}
use Rattle.std.specs.Str.{bytes_eq}
use Rattle.g4_source.specs.Bind.{bind, in_order_bind, either_bind, over, in_order_over, either_over}
use Rattle.g4_source.specs.Elements.{Element, atom, block, Elements, empty, then, Alternatives, none, or}
use Rattle.g4_source.specs.declared.atom.Atom.{Atom}
use Rattle.g4_source.specs.declared.atom.AtomKind.{AtomKind}
use Rattle.g4_source.specs.declared.atom.AtomKind.TheVariants as kinds
use Rattle.g4_grammar.specs.LeftCalls.{HasCall, OneHasCall, SomeHasCall}
use Rattle.g4_grammar.specs.Steps.{CallsRule}
use Rattle.g4_lexer_rules.specs.declared.step.LexerStep.TheVariants.{AtEnd, Call}
use Rattle.g4_lexer_rules.specs.Lexable.{CallsNamed, KindCallsNamed}
use Rattle.g4_lexer_rules.specs.Steps.{characters_in_order, element_of_kind, step_of}
use Rattle.g4_spelling.specs.Greedy.{IsGreedyElement, AreGreedy, EachIsGreedy}
use Rattle.g4_spelling.proofs.Atoms.{kind_of}

-- characters call nothing
chain_calls : (cs : List ℕ) (j : ℕ) → OneHasCall CallsRule (in_order_over step_of (characters_in_order cs)) j → ⊥
chain_calls [] j h = h
chain_calls (c ∷ cs) j (inl h) = h
chain_calls (c ∷ cs) j (inr h) = chain_calls cs j h

-- and have no sign
chain_greedy : (cs : List ℕ) → AreGreedy (in_order_over step_of (characters_in_order cs))
chain_greedy [] = tt
chain_greedy (c ∷ cs) = (tt, chain_greedy cs)

-- a reference that is not the end of the file calls
reference_calls : (is_end : Bool) (k j : ℕ) → HasCall CallsRule (over step_of (atom (cond is_end AtEnd (Call k)))) j
    → (is_end ≡ false) × (j ≡ k)
reference_calls true k j h = absurd h
reference_calls false k j h = (refl, h)

reference_greedy : (is_end : Bool) (k : ℕ) → IsGreedyElement (over step_of (atom (cond is_end AtEnd (Call k))))
reference_greedy true k = tt
reference_greedy false k = tt

module _ (names : List (List ℕ)) where
  -- what an atom calls in the network, it calls as it is written
  kind_calls : (kind : AtomKind) (j : ℕ) → HasCall CallsRule (over step_of (element_of_kind names kind)) j → KindCallsNamed names kind j
  kind_calls (kinds.Rule name) j h = absurd h
  kind_calls (kinds.Token name) j h = reference_calls (bytes_eq name.text (codes "EOF")) _ j h
  kind_calls (kinds.Literal literal) j (inl h) = absurd (chain_calls literal.characters j h)
  kind_calls (kinds.Literal literal) j (inr h) = absurd h
  kind_calls (kinds.Range first last) j h = absurd h
  kind_calls (kinds.Set set) j h = absurd h
  kind_calls kinds.Any j h = absurd h
  kind_calls (kinds.NotTokens tokens) j h = absurd h
  kind_calls (kinds.NotCharacters set) j h = absurd h
  kind_calls kinds.Action j h = absurd h
  kind_calls (kinds.Predicate name) j h = absurd h

  -- it has no sign
  kind_greedy : (kind : AtomKind) → IsGreedyElement (over step_of (element_of_kind names kind))
  kind_greedy (kinds.Rule name) = tt
  kind_greedy (kinds.Token name) = reference_greedy (bytes_eq name.text (codes "EOF"))
      (position_or_len (λ other. bytes_eq other name.text) names)
  kind_greedy (kinds.Literal literal) = (tt, (chain_greedy literal.characters, tt))
  kind_greedy (kinds.Range first last) = tt
  kind_greedy (kinds.Set set) = tt
  kind_greedy kinds.Any = tt
  kind_greedy (kinds.NotTokens tokens) = tt
  kind_greedy (kinds.NotCharacters set) = tt
  kind_greedy kinds.Action = tt
  kind_greedy (kinds.Predicate name) = tt

  mutual
    -- an element
    element_calls : (x : Element Atom) (j : ℕ) → HasCall CallsRule (over step_of (bind (kind_of names) x)) j
        → HasCall (CallsNamed names) x j
    element_calls (atom a) j h = kind_calls a.kind j h
    element_calls (block label repeat xs) j h = either_calls xs j h

    -- elements one after another
    in_order_calls : (xs : Elements Atom) (j : ℕ) → OneHasCall CallsRule (in_order_over step_of (in_order_bind (kind_of names) xs)) j
        → OneHasCall (CallsNamed names) xs j
    in_order_calls empty j h = h
    in_order_calls (then x xs) j (inl h) = inl (element_calls x j h)
    in_order_calls (then x xs) j (inr h) = inr (in_order_calls xs j h)

    -- alternatives
    pub either_calls : (xs : Alternatives Atom) (j : ℕ)
        → SomeHasCall CallsRule (either_over step_of (either_bind (kind_of names) xs)) j → SomeHasCall (CallsNamed names) xs j
    either_calls none j h = h
    either_calls (or x xs) j (inl h) = inl (in_order_calls x j h)
    either_calls (or x xs) j (inr h) = inr (either_calls xs j h)

  mutual
    -- the signs of an element are those that are written
    element_greedy : (x : Element Atom) → IsGreedyElement x → IsGreedyElement (over step_of (bind (kind_of names) x))
    element_greedy (atom a) g = kind_greedy a.kind
    element_greedy (block label repeat xs) g = (g.0, either_greedy xs g.1)

    -- of elements
    in_order_greedy : (xs : Elements Atom) → AreGreedy xs → AreGreedy (in_order_over step_of (in_order_bind (kind_of names) xs))
    in_order_greedy empty g = tt
    in_order_greedy (then x xs) g = (element_greedy x g.0, in_order_greedy xs g.1)

    -- of alternatives
    pub either_greedy : (xs : Alternatives Atom) → EachIsGreedy xs → EachIsGreedy (either_over step_of (either_bind (kind_of names) xs))
    either_greedy none g = tt
    either_greedy (or x xs) g = (in_order_greedy x g.0, either_greedy xs g.1)
