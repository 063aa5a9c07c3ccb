-- What the atoms of lexer rules read, and what they are in a network.
use Rattle.std.proofs.Common.{◌≡◌, ℕ, ◌+◌, List, [], ◌∷◌, ◌++◌, map, inl, inr, All, Bool, true, false, cond, codes, Some, None, refl, sym, ◌∙◌, ap, subst, append-nil, arith, slice_get}
use Rattle.std.specs.Str.{bytes_eq}
use Rattle.std.proofs.lemmas.List.Elements.{All-nil, All-cons, All-head, All-tail}
use Rattle.g4_chars.specs.Building.{scalars, gaps}
use Rattle.g4_chars.specs.CharSets.{Has, IsScalar}
use Rattle.g4_chars.specs.declared.range.Range.{Range}
use Rattle.g4_chars.proofs.Ranges.{scalars_has}
use Rattle.g4_source.specs.declared.element.Repeat.TheVariants.{Once}
use Rattle.g4_source.specs.Bind.{over, in_order_over}
use Rattle.g4_source.specs.Elements.{Element, atom, block, Elements, Alternatives, none, only}
use Rattle.g4_source.specs.declared.atom.Atom.{Atom}
use Rattle.g4_source.specs.declared.atom.AtomKind.{AtomKind}
use Rattle.g4_source.specs.declared.atom.AtomKind.TheVariants as kinds
use Rattle.g4_grammar.specs.declared.step.Step.{Step}
use Rattle.g4_grammar.specs.declared.step.Step.TheVariants as steps
use Rattle.g4_grammar.specs.Derives.{NoCalls, Derives, an_atom, a_call, a_block, DerivesAll, nothing, one_more, DerivesOne, this, another}
use Rattle.g4_grammar.specs.Written.{IsEndOfFile, MatchesKind}
use Rattle.g4_ordered.specs.declared.network.Reads.{Reads}
use Rattle.g4_ordered.specs.declared.network.Reads.TheVariants.{Characters, EndOfText}
use Rattle.g4_derivation.specs.Walks.{AnyLevel, ReadsLetter}
use Rattle.g4_lexer_rules.specs.declared.step.LexerStep.{LexerStep}
use Rattle.g4_lexer_rules.specs.declared.step.LexerStep.TheVariants.{Set, AtEnd, Call}
use Rattle.g4_lexer_rules.specs.Lexable.{CallsNamed, KindCallsNamed}
use Rattle.g4_lexer_rules.specs.Steps.{characters_in_order, element_of_kind, spanned, step_of, SetIsCanonical}
use Rattle.g4_lexer_rules.proofs.Matches.{sets_match}
use Rattle.g4_spelling.specs.Marks.{Mark, character, end_of_file, ReadsMarks}
use Rattle.g4_spelling.proofs.Covers.{TakesMarks}
use Rattle.g4_derivation.proofs.Joined.{joined}

-- a letter of a step: the marks that its label takes, or a word that is named by the rule that it calls
abbrev pub Letters : (ℕ → List Mark → Type 0) → Step Reads → List (List Mark) → Type 0
Letters Names = ReadsLetter TakesMarks Names AnyLevel

-- what an element over steps spells of letters
abbrev pub Spells : (ℕ → List Mark → Type 0) → Element (Step Reads) → List (List Mark) → Type 0
Spells Names = Derives (Letters Names) NoCalls []

-- the same of elements one after another
abbrev pub SpellsAll : (ℕ → List Mark → Type 0) → Elements (Step Reads) → List (List Mark) → Type 0
SpellsAll Names = DerivesAll (Letters Names) NoCalls []

-- characters, one after another
abbrev chain : List ℕ → Elements (Step Reads)
chain cs = in_order_over step_of (characters_in_order cs)

-- the one character of a letter alone
one_character : (us : List (List Mark)) (c : List Mark) (a : ℕ) → us ≡ c ∷ [] → c ≡ character a ∷ [] → joined us ≡ character a ∷ []
one_character us c a alone is = ap joined alone ∙ (append-nil c ∙ is)

-- the one range of a character has this one alone
own_character : (c a : ℕ) → Has (scalars c (c + 1)) a → (c ≡ a) × IsScalar a
own_character c a has = let w = (scalars_has c (c + 1) a).0 has in (omega (arith, w.0, w.1), w.2)

module _ (names : List (List ℕ)) where
  -- what an atom is, before its label is made
  abbrev pub kind_of : Atom → Element LexerStep
  kind_of a = element_of_kind names a.kind

  -- and in the network
  abbrev pub image : Atom → Element (Step Reads)
  image a = over step_of (kind_of a)

  -- its set is in its one form
  abbrev pub HasCanonical : Atom → Type 0
  HasCanonical a = SetIsCanonical a.kind

  module _ (given : List (Alternatives Atom)) where
    -- what the definitions of derivation take here
    abbrev pub DerivesHere : Element Atom → List Mark → Type 0
    DerivesHere = Derives ReadsMarks (CallsNamed names) given

    -- the word is one that rule k derives
    abbrev pub IsDerived : ℕ → List Mark → Type 0
    IsDerived k w = (xs : Alternatives Atom) × (slice_get given k ≡ Some xs) × DerivesOne ReadsMarks (CallsNamed names) given xs w

    -- a set
    set_back : (a : Atom) (set : List Range) (us : List (List Mark)) → SetIsCanonical a.kind
        → element_of_kind names a.kind ≡ atom (Set set) → Spells IsDerived (atom (steps.Edge (Characters set))) us
        → DerivesHere (atom a) (joined us)
    set_back a set us canonical is (a_call _ k xs _ c at d) = absurd c
    set_back a set us canonical is (an_atom _ _ (c, (x, has, one), alone)) =
        let m = (sets_match names a.kind set canonical is x).0 has in
        an_atom a (joined us) (inl (x ∷ [], one_character us c x alone one, All-cons IsScalar x [] m.0 (All-nil IsScalar), m.1))

    -- an empty step
    empty_back : (a : Atom) (us : List (List Mark)) → MatchesKind a.kind [] → Spells IsDerived (atom steps.Empty) us
        → DerivesHere (atom a) (joined us)
    empty_back a us m (a_call _ k xs _ c at d) = absurd c
    empty_back a us m (an_atom _ _ e) = an_atom a (joined us) (inl ([], ap joined e, All-nil IsScalar, m))

    -- the characters of a literal
    chain_back : (cs : List ℕ) (us : List (List Mark)) → SpellsAll IsDerived (chain cs) us
        → (joined us ≡ map character cs) × All IsScalar cs
    chain_back [] _ nothing = (refl, All-nil IsScalar)
    chain_back (c ∷ cs) us (one_more _ _ u v _ (a_call _ k xs _ n at d) ds parts) = absurd n
    chain_back (c ∷ cs) us (one_more _ _ u v _ (an_atom _ _ (w, (x, has, one), alone)) ds parts) =
        let h = chain_back cs v ds in
        let own = own_character c x has in
        let first : joined us ≡ character x ∷ joined v =
        ap joined parts ∙ (ap (λ (y : List (List Mark)). joined (y ++ v)) alone ∙ ap (λ (y : List Mark). y ++ joined v) one) in (
          first ∙ (ap (λ (y : ℕ). character y ∷ joined v) (sym own.0) ∙ ap (λ (y : List Mark). character c ∷ y) h.0),
          All-cons IsScalar c cs (subst IsScalar (sym own.0) own.1) h.1,
        )

    literal_back : (a : Atom) (cs : List ℕ) (us : List (List Mark)) → MatchesKind a.kind cs
        → Spells IsDerived (block None Once (only (chain cs))) us → DerivesHere (atom a) (joined us)
    literal_back a cs us m (a_block _ _ _ (another _ _ _ d)) = absurd (elim d [ ])
    literal_back a cs us m (a_block _ _ _ (this _ _ _ d)) = let h = chain_back cs us d in an_atom a (joined us) (inl (cs, h.0, h.1, m))

    -- a reference, which is the end of the file or not
    token_back : (a : Atom) (t is_end : Bool) (k : ℕ) (us : List (List Mark)) → is_end ≡ t
        → (is_end ≡ true → (w : List Mark) → w ≡ end_of_file ∷ [] → ReadsMarks a w) → (is_end ≡ false → CallsNamed names a k) →
        Spells IsDerived (over step_of (atom (cond t AtEnd (Call k)))) us → DerivesHere (atom a) (joined us)
    token_back a true is_end k us is ended called (a_call _ j xs _ c at d) = absurd c
    token_back a true is_end k us is ended called (an_atom _ _ (c, one, alone)) =
        an_atom a (joined us) (ended is (joined us) (ap joined alone ∙ (append-nil c ∙ one)))
    token_back a false is_end k us is ended called (a_call _ j xs _ c at d) = absurd c
    token_back a false is_end k us is ended called (an_atom _ _ (c, (xs, at, d), alone)) =
        subst (DerivesHere (atom a)) (sym (ap joined alone ∙ append-nil c)) (a_call a k xs c (called is) at d)

    -- what an atom spells of letters it derives
    kind_back : (a : Atom) (kind : AtomKind) (us : List (List Mark)) → a.kind ≡ kind → SetIsCanonical kind
        → Spells IsDerived (over step_of (element_of_kind names kind)) us → DerivesHere (atom a) (joined us)
    kind_back a (kinds.Rule name) us e canonical d =
        set_back a [] us (subst SetIsCanonical (sym e) canonical) (ap (element_of_kind names) e) d
    kind_back a (kinds.Token name) us e canonical d =
        token_back a (bytes_eq name.text (codes "EOF")) (bytes_eq name.text (codes "EOF")) _ us refl
        (λ is w one. inr (rw e (is), one))
        (λ is. rw e ((is, refl))) d
    kind_back a (kinds.Literal literal) us e canonical d = literal_back a literal.characters us (rw e refl) d
    kind_back a (kinds.Range first last) us e canonical d =
        set_back a (spanned first.characters last.characters) us (subst SetIsCanonical (sym e) canonical) (ap (element_of_kind names) e) d
    kind_back a (kinds.Set set) us e canonical d =
        set_back a set us (subst SetIsCanonical (sym e) canonical) (ap (element_of_kind names) e) d
    kind_back a kinds.Any us e canonical d =
        set_back a (scalars 0 0x110000) us (subst SetIsCanonical (sym e) canonical) (ap (element_of_kind names) e) d
    kind_back a (kinds.NotTokens tokens) us e canonical d =
        set_back a [] us (subst SetIsCanonical (sym e) canonical) (ap (element_of_kind names) e) d
    kind_back a (kinds.NotCharacters set) us e canonical d =
        set_back a (gaps 0 set) us (subst SetIsCanonical (sym e) canonical) (ap (element_of_kind names) e) d
    kind_back a kinds.Action us e canonical d = empty_back a us (rw e refl) d
    kind_back a (kinds.Predicate name) us e canonical d = empty_back a us (rw e refl) d

    pub atom_back : (a : Atom) (us : List (List Mark)) → HasCanonical a → Spells IsDerived (image a) us → DerivesHere (atom a) (joined us)
    atom_back a us canonical d = kind_back a a.kind us refl canonical d

  module _ (Names : ℕ → List Mark → Type 0) where
    -- letters that an atom spells, which are the word
    abbrev Parts : AtomKind → List Mark → Type 0
    Parts kind w = (us : List (List Mark)) × Spells Names (over step_of (element_of_kind names kind)) us × (w ≡ joined us)

    -- a set
    set_on : (kind : AtomKind) (set : List Range) (text : List ℕ) (x : ℕ) → SetIsCanonical kind
        → element_of_kind names kind ≡ atom (Set set) → text ≡ x ∷ [] → All IsScalar text → MatchesKind kind text
        → Parts kind (map character text)
    set_on kind set text x canonical is one scalar m =
        let has = (sets_match names kind set canonical is x).1
        (All-head IsScalar x [] (subst (All IsScalar) one scalar), subst (MatchesKind kind) one m) in
        let d : Spells Names (atom (steps.Edge (Characters set))) ((character x ∷ []) ∷ []) =
        an_atom (steps.Edge (Characters set)) ((character x ∷ []) ∷ []) (character x ∷ [], (x, has, refl), refl) in (
          (character x ∷ []) ∷ [],
          subst (λ (y : Element LexerStep). Spells Names (over step_of y) ((character x ∷ []) ∷ [])) (sym is)
              d,
          ap (map character) one,
        )

    -- the characters of a literal
    chain_on : (cs : List ℕ) → All IsScalar cs → (us : List (List Mark)) × SpellsAll Names (chain cs) us × (map character cs ≡ joined us)
    chain_on [] scalar = ([], nothing, refl)
    chain_on (c ∷ cs) scalar =
        let h = chain_on cs (All-tail IsScalar c cs scalar) in
        let has = (scalars_has c (c + 1) c).1 (omega arith, omega arith, All-head IsScalar c cs scalar) in
        let d : Spells Names (atom (steps.Edge (Characters (scalars c (c + 1))))) ((character c ∷ []) ∷ []) =
        an_atom (steps.Edge (Characters (scalars c (c + 1)))) ((character c ∷ []) ∷ []) (character c ∷ [], (c, has, refl), refl) in (
          (character c ∷ []) ∷ h.0,
          one_more (atom (steps.Edge (Characters (scalars c (c + 1))))) (chain cs) ((character c ∷ []) ∷ [])
              h.0 ((character c ∷ []) ∷ h.0) d h.1 refl,
          ap (λ (y : List Mark). character c ∷ y) h.2,
        )

    literal_on : (cs : List ℕ) → All IsScalar cs
        → (us : List (List Mark)) × Spells Names (block None Once (only (chain cs))) us × (map character cs ≡ joined us)
    literal_on cs scalar = let h = chain_on cs scalar in (h.0, a_block None (only (chain cs)) h.0 (this (chain cs) none h.0 h.1), h.2)

    -- the end of the file
    end_on : (is_end : Bool) (k : ℕ) → is_end ≡ true
        → Spells Names (over step_of (atom (cond is_end AtEnd (Call k)))) ((end_of_file ∷ []) ∷ [])
    end_on true k e = an_atom (steps.Edge EndOfText) ((end_of_file ∷ []) ∷ []) (end_of_file ∷ [], refl, refl)
    end_on false k e = absurd (let n : ⊥ = cc in n)

    -- a call
    call_on : (is_end : Bool) (j k : ℕ) (w : List Mark) → is_end ≡ false → j ≡ k → Names j w
        → Spells Names (over step_of (atom (cond is_end AtEnd (Call k)))) (w ∷ [])
    call_on true j k w e same n = absurd (let x : ⊥ = cc in x)
    call_on false j k w e same n = an_atom (steps.Call k 0) (w ∷ []) (w, subst (λ (q : ℕ). Names q w) same n, refl)

    -- what an atom matches is spelled of letters
    match_on : (kind : AtomKind) (text : List ℕ) → SetIsCanonical kind → All IsScalar text → MatchesKind kind text
        → Parts kind (map character text)
    match_on (kinds.Rule name) text canonical scalar m = absurd m
    match_on (kinds.Token name) text canonical scalar m = absurd m
    match_on (kinds.Literal literal) text canonical scalar m =
        let h = literal_on literal.characters (subst (All IsScalar) m scalar) in (h.0, h.1, ap (map character) m ∙ h.2)
    match_on (kinds.Range first last) text canonical scalar m =
        set_on (kinds.Range first last) (spanned first.characters last.characters) text m.0 canonical refl m.1 scalar m
    match_on (kinds.Set set) text canonical scalar m = set_on (kinds.Set set) set text m.0 canonical refl m.1 scalar m
    match_on kinds.Any text canonical scalar m = set_on kinds.Any (scalars 0 0x110000) text m.0 canonical refl m.1 scalar m
    match_on (kinds.NotTokens tokens) text canonical scalar m = absurd m
    match_on (kinds.NotCharacters set) text canonical scalar m =
        set_on (kinds.NotCharacters set) (gaps 0 set) text m.0 canonical refl m.1 scalar m
    match_on kinds.Action text canonical scalar m = ([], an_atom steps.Empty [] refl, ap (map character) m)
    match_on (kinds.Predicate name) text canonical scalar m = ([], an_atom steps.Empty [] refl, ap (map character) m)

    ends_on : (kind : AtomKind) → IsEndOfFile kind → (w : List Mark) → w ≡ end_of_file ∷ [] → Parts kind w
    ends_on (kinds.Token name) is w e = ((end_of_file ∷ []) ∷ [], end_on (bytes_eq name.text (codes "EOF")) _ is, e)
    ends_on (kinds.Rule name) is w e = absurd is
    ends_on (kinds.Literal literal) is w e = absurd is
    ends_on (kinds.Range first last) is w e = absurd is
    ends_on (kinds.Set set) is w e = absurd is
    ends_on kinds.Any is w e = absurd is
    ends_on (kinds.NotTokens tokens) is w e = absurd is
    ends_on (kinds.NotCharacters set) is w e = absurd is
    ends_on kinds.Action is w e = absurd is
    ends_on (kinds.Predicate name) is w e = absurd is

    -- what an atom reads is spelled of letters
    pub atom_on : (a : Atom) (w : List Mark) → HasCanonical a → ReadsMarks a w
        → (us : List (List Mark)) × Spells Names (image a) us × (w ≡ joined us)
    atom_on a w canonical (inl (text, is, scalar, m)) = let h = match_on a.kind text canonical scalar m in (h.0, h.1, is ∙ h.2)
    atom_on a w canonical (inr (ended, is)) = ends_on a.kind ended w is

    -- what it calls is one letter
    kind_calls : (kind : AtomKind) (k : ℕ) (w : List Mark) → KindCallsNamed names kind k → Names k w
        → Spells Names (over step_of (element_of_kind names kind)) (w ∷ [])
    kind_calls (kinds.Rule name) k w c n = absurd c
    kind_calls (kinds.Token name) k w c n = call_on (bytes_eq name.text (codes "EOF")) k _ w c.0 c.1 n
    kind_calls (kinds.Literal literal) k w c n = absurd c
    kind_calls (kinds.Range first last) k w c n = absurd c
    kind_calls (kinds.Set set) k w c n = absurd c
    kind_calls kinds.Any k w c n = absurd c
    kind_calls (kinds.NotTokens tokens) k w c n = absurd c
    kind_calls (kinds.NotCharacters set) k w c n = absurd c
    kind_calls kinds.Action k w c n = absurd c
    kind_calls (kinds.Predicate name) k w c n = absurd c

    pub atom_calls : (a : Atom) (k : ℕ) (w : List Mark) → CallsNamed names a k → Names k w → Spells Names (image a) (w ∷ [])
    atom_calls a k w c n = kind_calls a.kind k w c n
