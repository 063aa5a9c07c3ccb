-- `EOF` alone takes no character, and matches only where nothing is left.
use Rattle.std.proofs.Common.{◌≡◌, ℕ, inl, inr, List, [], ◌∷◌, ◌++◌, map, true, false, refl, sym, ◌∙◌, subst, append-nil}
use Rattle.std.specs.List.{repeat}
use Rattle.g4_source.specs.Elements.{atom, empty, then}
use Rattle.g4_source.specs.declared.atom.Atom.{Atom}
use Rattle.g4_source.specs.declared.atom.AtomKind.{AtomKind}
use Rattle.g4_source.specs.declared.atom.AtomKind.TheVariants as kinds
use Rattle.g4_source.specs.declared.rule.LexerRule.{LexerRule}
use Rattle.g4_source.specs.Rules.{lexer_alternatives_of}
use Rattle.g4_grammar.specs.Derives.{Derives, an_atom, a_call, nothing, one_more}
use Rattle.g4_grammar.specs.Written.{IsEndOfFile, MatchesKind}
use Rattle.g4_lexer_rules.specs.Lexable.{CallsNamed, KindCallsNamed}
use Rattle.g4_lexer_rules.specs.NetworkRules.{names_of}
use Rattle.g4_spelling.specs.Fronts.{DerivesMarks, DerivesFront}
use Rattle.g4_spelling.specs.Marks.{Mark, character, end_of_file, ReadsMarks}
use Rattle.g4_spelling.proofs.Covers.{Covers, covers_front}

-- it matches no text, and calls nothing
no_text : (kind : AtomKind) → IsEndOfFile kind → (text : List ℕ) → MatchesKind kind text → ⊥
no_text (kinds.Rule name) is text m = is
no_text (kinds.Token name) is text m = m
no_text (kinds.Literal literal) is text m = is
no_text (kinds.Range first last) is text m = is
no_text (kinds.Set set) is text m = is
no_text kinds.Any is text m = is
no_text (kinds.NotTokens tokens) is text m = is
no_text (kinds.NotCharacters set) is text m = is
no_text kinds.Action is text m = is
no_text (kinds.Predicate name) is text m = is

no_call : (names : List (List ℕ)) (kind : AtomKind) → IsEndOfFile kind → (k : ℕ) → KindCallsNamed names kind k → ⊥
no_call names (kinds.Rule name) is k c = is
no_call names (kinds.Token name) is k c = let e : true ≡ false = sym is ∙ c.0 in let n : ⊥ = cc in n
no_call names (kinds.Literal literal) is k c = is
no_call names (kinds.Range first last) is k c = is
no_call names (kinds.Set set) is k c = is
no_call names kinds.Any is k c = is
no_call names (kinds.NotTokens tokens) is k c = is
no_call names (kinds.NotCharacters set) is k c = is
no_call names kinds.Action is k c = is
no_call names (kinds.Predicate name) is k c = is

module _ (rules : List LexerRule) (a : Atom) (is : IsEndOfFile a.kind) where
  -- it derives the one mark
  one_mark : (u : List Mark) → Derives ReadsMarks (CallsNamed (names_of rules)) (map lexer_alternatives_of rules) (atom a) u
      → u ≡ end_of_file ∷ []
  one_mark u (an_atom _ _ (inl (text, e, scalar, m))) = absurd (no_text a.kind is text m)
  one_mark u (an_atom _ _ (inr (ended, e))) = e
  one_mark u (a_call _ k xs _ c at d) = absurd (no_call (names_of rules) a.kind is k c)

  -- and no more where it is alone
  alone : (ms : List Mark) → DerivesMarks rules (then (atom a) empty) ms → ms ≡ end_of_file ∷ []
  alone ms (one_more _ _ u _ _ d nothing parts) = parts ∙ (append-nil u ∙ one_mark u d)

  pub takes_nothing : (w z : List ℕ) → DerivesFront rules (then (atom a) empty) w z → (w ≡ []) × (z ≡ [])
  takes_nothing w z m =
      let marks = map character m.text ++ repeat m.ends (end_of_file ∷ []) in
      let covers : Covers (end_of_file ∷ []) w z =
      subst (λ (ms : List Mark). Covers ms w z) (alone marks m.derives) (covers_front m.text m.ends w z m.parts m.at_end) in
      (covers.0, sym covers.1 ∙ covers.0)

  pub matches_at_end : (w z : List ℕ) → (w ≡ []) × (z ≡ []) → DerivesFront rules (then (atom a) empty) w z
  matches_at_end w z (e, h) = record {
    text = [];
    ends = 1;
    parts = e ∙ sym h;
    at_end = λ some. h;
    derives = one_more (atom a) empty (end_of_file ∷ []) [] (end_of_file ∷ []) (an_atom a (end_of_file ∷ []) (inr (is, refl))) nothing refl;
  }
