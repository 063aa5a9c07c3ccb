-- The network of rules that can be lexed with can be lexed with.
use Rattle.std.proofs.Common.{◌≡◌, ℕ, zero, suc, List, [], ◌∷◌, inl, inr, length, map, Bool, true, false, cond, codes, Option, Some, None, refl, sym, ◌∙◌, ap, subst, slice_get}
use Rattle.std.specs.List.{position_or_len}
use Rattle.std.specs.Str.{bytes_eq}
use Rattle.std.proofs.lemmas.List.{length-map}
use Rattle.g4_source.specs.declared.name.Label.{Label}
use Rattle.g4_source.specs.declared.element.Repeat.{Repeat}
use Rattle.g4_source.specs.declared.element.Repeat.TheVariants.{Once}
use Rattle.g4_source.specs.Bind.{over, in_order_over, either_over, either_bind}
use Rattle.g4_source.specs.Full.{IsSome, IsFull, AreFull, EachIsFull}
use Rattle.g4_source.specs.Elements.{Element, atom, block, Elements, empty, then, Alternatives, none, or, only}
use Rattle.g4_source.specs.declared.atom.Atom.{Atom}
use Rattle.g4_source.specs.declared.atom.AtomKind.{AtomKind}
use Rattle.g4_source.specs.declared.atom.AtomKind.TheVariants as kinds
use Rattle.g4_source.specs.declared.rule.LexerRule.{LexerRule}
use Rattle.g4_source.specs.Rules.{lexer_alternatives_of}
use Rattle.g4_chars.specs.declared.range.Range.{Range}
use Rattle.g4_grammar.specs.declared.step.Step.{Step}
use Rattle.g4_grammar.specs.declared.step.Step.TheVariants as steps
use Rattle.g4_grammar.specs.LeftCalls.{Nullable, an_atom, a_call, a_block, AllNullable, one_more, this, another, IsLeftOf, IsLeftOfAll, HasCall, OneHasCall, CallsAreInRange, NoLeftCycle}
use Rattle.g4_grammar.specs.Loops.{HasEmptyLoop, OneHasEmptyLoop, NoEmptyLoop}
use Rattle.g4_grammar.specs.Steps.{CallsRule, ReadsStep}
use Rattle.g4_layout.specs.Callers.{callers_of}
use Rattle.g4_layout.proofs.Formed as formed
use Rattle.g4_states.specs.Rules.{AreFullTrees}
use Rattle.g4_ordered.specs.declared.network.Reads.{Reads}
use Rattle.g4_ordered.specs.declared.network.Reads.TheVariants.{Characters}
use Rattle.g4_ordered.specs.Network.{IsLexable, all_emptied}
use Rattle.g4_lexer_rules.specs.declared.lex_net.LexNet.{LexNet}
use Rattle.g4_lexer_rules.specs.declared.step.LexerStep.TheVariants.{AtEnd, Call}
use Rattle.g4_lexer_rules.specs.LexNets.{IsLexNet}
use Rattle.g4_lexer_rules.specs.Lexable.{CanBeLexed, CallsNamed, KindCallsNamed, ReadsAtom, ReadsKind}
use Rattle.g4_lexer_rules.specs.NetworkRules.{all_rules, names_of, trees_of}
use Rattle.g4_lexer_rules.specs.Steps.{characters_in_order, element_of_kind, step_of}
use Rattle.g4_lexer_rules.proofs.Carry.{either_over_bound, no_loop_over, no_cycle_over, calls_within}
use Rattle.g4_lexer_rules.proofs.Emptied.{bare, callers_bare, network_bare}
use Rattle.g4_lexer_rules.proofs.Trees.{image, one_by_one, tree, trees_full}

-- any character may be taken
abbrev Takes : Reads → ℕ → Type 0
Takes label a = Unit {0}

-- what a step reads and calls
abbrev ReadsBare : Step Reads → List ℕ → Type 0
ReadsBare = ReadsStep Takes

-- an edge does not read the empty word
edge_reads : (label : Reads) → ReadsBare (steps.Edge label) [] → ⊥
edge_reads label (a, takes, is) = let n : ⊥ = cc in n

-- the step of an atom that is an edge
not_edge : (b : Step Reads) (set : List Range) → atom b ≡ atom (steps.Edge (Characters set)) → ReadsBare b [] → ⊥
not_edge b set e r = let same : b ≡ steps.Edge (Characters set) = cc in
    edge_reads (Characters set) (subst (λ (z : Step Reads). ReadsBare z []) same r)

no_call : (b : Step Reads) (set : List Range) (k : ℕ) → atom b ≡ atom (steps.Edge (Characters set)) → CallsRule b k → ⊥
no_call b set k e c = let same : b ≡ steps.Edge (Characters set) = cc in subst (λ (z : Step Reads). CallsRule z k) same c

no_empty_call : (b : Step Reads) (k : ℕ) → atom b ≡ atom steps.Empty → CallsRule b k → ⊥
no_empty_call b k e c = let same : b ≡ steps.Empty = cc in subst (λ (z : Step Reads). CallsRule z k) same c

-- characters, one after another
abbrev chain : List ℕ → Elements (Step Reads)
chain cs = in_order_over bare (in_order_over step_of (characters_in_order cs))

module _ (made : List (Alternatives (Step Reads))) where
  -- an edge derives no empty word
  lone_null : (label : Reads) → Nullable ReadsBare CallsRule made (atom (steps.Edge label)) → ⊥
  lone_null label (an_atom _ r) = edge_reads label r
  lone_null label (a_call _ k ys c is h) = c

  -- characters do where there are none
  chain_null : (cs : List ℕ) → AllNullable ReadsBare CallsRule made (chain cs) → [] ≡ cs
  chain_null [] h = refl
  chain_null (c ∷ cs) (one_more _ _ h hs) = absurd (lone_null _ h)

  block_null : (xs : Elements (Step Reads)) → Nullable ReadsBare CallsRule made (block None Once (only xs))
      → AllNullable ReadsBare CallsRule made xs
  block_null xs (a_block _ _ (this _ _ h)) = h
  block_null xs (a_block _ _ (another _ _ h)) = elim h [ ]

  -- characters have no loop
  chain_loop : (cs : List ℕ) → OneHasEmptyLoop ReadsBare CallsRule made (chain cs) → ⊥
  chain_loop [] h = h
  chain_loop (c ∷ cs) (inl h) = h
  chain_loop (c ∷ cs) (inr h) = chain_loop cs h

  -- and call nothing
  chain_left : (j : ℕ) (cs : List ℕ) → IsLeftOfAll ReadsBare CallsRule made (chain cs) j → ⊥
  chain_left j [] h = h
  chain_left j (c ∷ cs) (inl h) = h
  chain_left j (c ∷ cs) (inr h) = chain_left j cs h.1

chain_call : (j : ℕ) (cs : List ℕ) → OneHasCall CallsRule (chain cs) j → ⊥
chain_call j [] h = h
chain_call j (c ∷ cs) (inl h) = h
chain_call j (c ∷ cs) (inr h) = chain_call j cs h

module _ (names : List (List ℕ)) where
  -- what an atom is, the end of the text being an empty step
  abbrev kind_image : AtomKind → Element (Step Reads)
  kind_image a = over bare (over step_of (element_of_kind names a))

  abbrev atom_image : Atom → Element (Step Reads)
  atom_image a = kind_image a.kind

  -- a reference that is the end of the file, or not
  token_reads : (t is_end : Bool) (k : ℕ) → is_end ≡ t → (b : Step Reads)
      → atom b ≡ over bare (over step_of (atom (cond t AtEnd (Call k)))) → ReadsBare b [] → is_end ≡ true
  token_reads true is_end k is b e r = is
  token_reads false is_end k is b e r = absurd (let same : b ≡ steps.Call k 0 = cc in subst (λ (z : Step Reads). ReadsBare z []) same r)

  token_calls : (t is_end : Bool) (k j : ℕ) → is_end ≡ t → (b : Step Reads)
      → atom b ≡ over bare (over step_of (atom (cond t AtEnd (Call k)))) → CallsRule b j → (is_end ≡ false) × (j ≡ k)
  token_calls true is_end k j is b e c = absurd (no_empty_call b j e c)
  token_calls false is_end k j is b e c = (is, let same : b ≡ steps.Call k 0 = cc in subst (λ (z : Step Reads). CallsRule z j) same c)

  -- what an atom reads
  reads : (a : AtomKind) (b : Step Reads) → atom b ≡ kind_image a → ReadsBare b [] → ReadsKind a []
  reads (kinds.Rule name) b e r = absurd (not_edge b _ e r)
  reads (kinds.Token name) b e r = inr (
    token_reads (bytes_eq name.text (codes "EOF")) (bytes_eq name.text (codes "EOF")) _ refl b e
        r,
    refl,
  )
  reads (kinds.Literal literal) b e r = absurd (let n : ⊥ = cc in n)
  reads (kinds.Range first last) b e r = absurd (not_edge b _ e r)
  reads (kinds.Set set) b e r = absurd (not_edge b _ e r)
  reads kinds.Any b e r = absurd (not_edge b _ e r)
  reads (kinds.NotTokens tokens) b e r = absurd (not_edge b _ e r)
  reads (kinds.NotCharacters set) b e r = absurd (not_edge b _ e r)
  reads kinds.Action b e r = inl refl
  reads (kinds.Predicate name) b e r = inl refl

  -- what it calls
  calls : (a : AtomKind) (b : Step Reads) (k : ℕ) → atom b ≡ kind_image a → CallsRule b k → KindCallsNamed names a k
  calls (kinds.Rule name) b k e c = no_call b _ k e c
  calls (kinds.Token name) b k e c = token_calls (bytes_eq name.text (codes "EOF")) (bytes_eq name.text (codes "EOF")) _ k refl b e c
  calls (kinds.Literal literal) b k e c = absurd (let n : ⊥ = cc in n)
  calls (kinds.Range first last) b k e c = no_call b _ k e c
  calls (kinds.Set set) b k e c = no_call b _ k e c
  calls kinds.Any b k e c = no_call b _ k e c
  calls (kinds.NotTokens tokens) b k e c = no_call b _ k e c
  calls (kinds.NotCharacters set) b k e c = no_call b _ k e c
  calls kinds.Action b k e c = no_empty_call b k e c
  calls (kinds.Predicate name) b k e c = no_empty_call b k e c

  module _ (made : List (Alternatives (Step Reads))) where
    -- a literal that derives the empty word has no character
    blocks : (a : AtomKind) (label : Option Label) (repeat : Repeat) (ys : Alternatives (Step Reads))
        → block label repeat ys ≡ kind_image a → Nullable ReadsBare CallsRule made (block label repeat ys) → ReadsKind a []
    blocks (kinds.Rule name) label repeat ys e h = absurd (let n : ⊥ = cc in n)
    blocks (kinds.Token name) label repeat ys e h = absurd (let n : ⊥ = cc in n)
    blocks (kinds.Literal literal) label repeat ys e h =
        inl (chain_null made literal.characters (block_null made (chain literal.characters)
        (subst (Nullable ReadsBare CallsRule made) e h)))
    blocks (kinds.Range first last) label repeat ys e h = absurd (let n : ⊥ = cc in n)
    blocks (kinds.Set set) label repeat ys e h = absurd (let n : ⊥ = cc in n)
    blocks kinds.Any label repeat ys e h = absurd (let n : ⊥ = cc in n)
    blocks (kinds.NotTokens tokens) label repeat ys e h = absurd (let n : ⊥ = cc in n)
    blocks (kinds.NotCharacters set) label repeat ys e h = absurd (let n : ⊥ = cc in n)
    blocks kinds.Action label repeat ys e h = absurd (let n : ⊥ = cc in n)
    blocks (kinds.Predicate name) label repeat ys e h = absurd (let n : ⊥ = cc in n)

    -- an atom has no loop
    no_loop : (a : AtomKind) → HasEmptyLoop ReadsBare CallsRule made (kind_image a) → ⊥
    no_loop (kinds.Rule name) h = h
    no_loop (kinds.Token name) h = h
    no_loop (kinds.Literal literal) (inl h) = chain_loop made literal.characters h
    no_loop (kinds.Literal literal) (inr h) = h
    no_loop (kinds.Range first last) h = h
    no_loop (kinds.Set set) h = h
    no_loop kinds.Any h = h
    no_loop (kinds.NotTokens tokens) h = h
    no_loop (kinds.NotCharacters set) h = h
    no_loop kinds.Action h = h
    no_loop (kinds.Predicate name) h = h

    -- its left calls are its calls
    lefts : (a : AtomKind) (j : ℕ) → IsLeftOf ReadsBare CallsRule made (kind_image a) j → KindCallsNamed names a j
    lefts (kinds.Rule name) j h = h
    lefts (kinds.Token name) j h = calls (kinds.Token name)
        (bare (step_of (cond (bytes_eq name.text (codes "EOF")) AtEnd
        (Call (position_or_len (λ other. bytes_eq other name.text) names))))) j refl h
    lefts (kinds.Literal literal) j (inl h) = chain_left made j literal.characters h
    lefts (kinds.Literal literal) j (inr h) = h
    lefts (kinds.Range first last) j h = h
    lefts (kinds.Set set) j h = h
    lefts kinds.Any j h = h
    lefts (kinds.NotTokens tokens) j h = h
    lefts (kinds.NotCharacters set) j h = h
    lefts kinds.Action j h = h
    lefts (kinds.Predicate name) j h = h

  -- and so are all
  has : (a : AtomKind) (j : ℕ) → HasCall CallsRule (kind_image a) j → KindCallsNamed names a j
  has (kinds.Rule name) j h = h
  has (kinds.Token name) j h = calls (kinds.Token name)
      (bare (step_of (cond (bytes_eq name.text (codes "EOF")) AtEnd
      (Call (position_or_len (λ other. bytes_eq other name.text) names))))) j refl h
  has (kinds.Literal literal) j (inl h) = chain_call j literal.characters h
  has (kinds.Literal literal) j (inr h) = h
  has (kinds.Range first last) j h = h
  has (kinds.Set set) j h = h
  has kinds.Any j h = h
  has (kinds.NotTokens tokens) j h = h
  has (kinds.NotCharacters set) j h = h
  has kinds.Action j h = h
  has (kinds.Predicate name) j h = h

-- elements over other atoms
mutual
  full_over : {A B : Type 0} (f : A → B) (x : Element A) → IsFull x → IsFull (over f x)
  full_over f (atom a) full = tt
  full_over f (block label repeat xs) full = (some_over f xs full.0, each_over f xs full.1)

  all_over : {A B : Type 0} (f : A → B) (xs : Elements A) → AreFull xs → AreFull (in_order_over f xs)
  all_over f empty full = tt
  all_over f (then x xs) full = (full_over f x full.0, all_over f xs full.1)

  each_over : {A B : Type 0} (f : A → B) (xs : Alternatives A) → EachIsFull xs → EachIsFull (either_over f xs)
  each_over f none full = tt
  each_over f (or x xs) full = (all_over f x full.0, each_over f xs full.1)

  some_over : {A B : Type 0} (f : A → B) (xs : Alternatives A) → IsSome xs → IsSome (either_over f xs)
  some_over f none some = some
  some_over f (or x xs) some = tt

-- the alternatives of one of several rules
full_at : (trees : List (Alternatives (Step Reads))) → AreFullTrees trees → (k : ℕ) (xs : Alternatives (Step Reads))
    → slice_get (map (either_over bare) trees) k ≡ Some xs → EachIsFull xs
full_at [] full k xs is = absurd (let n : ⊥ = cc in n)
full_at (x ∷ trees) full zero xs is = let same : either_over bare x ≡ xs = cc in subst EachIsFull same (each_over bare x full.0.1)
full_at (x ∷ trees) full (suc k) xs is = full_at trees full.1 k xs is

module _ (all : List LexerRule) where
  -- a rule as it is bare
  same_tree : (rule : LexerRule) → either_over bare (tree all rule) ≡ either_bind (atom_image (names_of all)) (lexer_alternatives_of rule)
  same_tree rule =
      ap (either_over bare) (one_by_one (names_of all) rule.alternatives
      ∙ either_over_bound step_of (image (names_of all)) (lexer_alternatives_of rule)) ∙
      either_over_bound bare (λ (a : Atom). over step_of (image (names_of all) a)) (lexer_alternatives_of rule)

  -- of which rule one is made
  same_at : (rules : List LexerRule) (k : ℕ) (ys : Alternatives (Step Reads))
      → slice_get (map (either_over bare) (map (tree all) rules)) k ≡ Some ys →
      (xs : Alternatives Atom) × (slice_get (map lexer_alternatives_of rules) k ≡ Some xs)
      × (ys ≡ either_bind (atom_image (names_of all)) xs)
  same_at [] k ys is = absurd (let n : ⊥ = cc in n)
  same_at (rule ∷ rules) zero ys is = (
    lexer_alternatives_of rule,
    refl,
    (let same : either_over bare (tree all rule) ≡ ys = cc in sym same) ∙ same_tree rule,
  )
  same_at (rule ∷ rules) (suc k) ys is = same_at rules k ys is

-- the network can be lexed with
pub is_lexable : (literals others : List LexerRule) (modes : List (List ℕ)) (made : LexNet)
    → IsLexNet literals others modes made → CanBeLexed (all_rules literals others) → IsLexable made.net
is_lexable literals others modes made x can =
    let rules = all_rules literals others in
    let names = names_of rules in
    let bared = map (either_over bare) (trees_of rules) in
    let given = map lexer_alternatives_of rules in
    let reads_here : (a : Atom) (b : Step Reads) → atom b ≡ atom_image names a → ReadsBare b []
    → ReadsAtom a [] = λ a b e r. reads names a.kind b e r in
    let calls_named : (a : Atom) (b : Step Reads) (k : ℕ) → atom b ≡ atom_image names a → CallsRule b k
    → CallsNamed names a k = λ a b k e c. calls names a.kind b k e c in
    let blocks_here : (a : Atom) (label : Option Label) (repeat : Repeat) (ys : Alternatives (Step Reads))
    → block label repeat ys ≡ atom_image names a → Nullable ReadsBare CallsRule bared (block label repeat ys) → ReadsAtom a [] =
    λ a label repeat ys e h. blocks names bared a.kind label repeat ys e h in
    let many : length given ≡ length bared = length-map rules lexer_alternatives_of
    ∙ (sym (length-map rules (tree rules)) ∙ sym (length-map (trees_of rules) (either_over bare))) in
    let within : CallsAreInRange CallsRule bared =
    calls_within (atom_image names) ReadsAtom ReadsBare (CallsNamed names) CallsRule given bared reads_here calls_named blocks_here
    (same_at rules rules) (λ a j h. has names a.kind j h) many can.within in
    let loops : NoEmptyLoop ReadsBare CallsRule bared =
    no_loop_over (atom_image names) ReadsAtom ReadsBare (CallsNamed names) CallsRule given bared reads_here calls_named blocks_here
    (same_at rules rules) (λ a h. no_loop names bared a.kind h) can.loops in
    let cycles : NoLeftCycle ReadsBare CallsRule bared =
    no_cycle_over (atom_image names) ReadsAtom ReadsBare (CallsNamed names) CallsRule given bared reads_here calls_named blocks_here
    (same_at rules rules) (λ a j h. lefts names bared a.kind j h) can.cycles in
    formed.well_formed Takes bared (all_emptied made.net) (network_bare made.net (trees_of rules) x.network.network) within
    (full_at (trees_of rules) (trees_full rules can.full)) loops cycles
    (x.network.callers ∙ (sym (callers_bare made.net.states (length (trees_of rules)))
    ∙ ap (callers_of (all_emptied made.net).states) (sym (length-map (trees_of rules) (either_over bare)))))
