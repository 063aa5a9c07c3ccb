-- Parser rules derive over steps exactly what they derive by the names and literals of the text.
use Rattle.std.proofs.Common.{◌≡◌, ◌<◌, ◌↔◌, ℕ, zero, suc, ◌+◌, List, [], ◌∷◌, length, map, Option, Some, option_map, refl, sym, ap, ◌∙◌, subst, slice_get, arith}
use Rattle.std.specs.List.{All}
use Rattle.std.proofs.lemmas.Option.{slice_get-map}
use Rattle.g4_source.specs.Elements.{Alternatives}
use Rattle.g4_source.specs.Bind.{either_over}
use Rattle.g4_source.specs.Rules.{alternatives_of, parser_rules}
use Rattle.g4_source.specs.declared.atom.Atom.{Atom}
use Rattle.g4_source.specs.declared.atom.AtomKind.{AtomKind}
use Rattle.g4_source.specs.declared.atom.AtomKind.TheVariants as kinds
use Rattle.g4_source.specs.declared.atom.TokenReference.TheVariants as refs
use Rattle.g4_source.specs.declared.rule.LexerRule.{LexerRule}
use Rattle.g4_source.specs.declared.rule.ParserRule.{ParserRule}
use Rattle.g4_source.specs.declared.rule.Rule.{Rule}
use Rattle.g4_source.specs.declared.source.Source.{Source}
use Rattle.g4_grammar.specs.Derives.{DerivesOne}
use Rattle.g4_grammar.specs.Steps.{CallsRule, ReadsSymbols}
use Rattle.g4_grammar.specs.Written.{predicate_texts}
use Rattle.g4_grammar.specs.declared.step.Step.{Step}
use Rattle.g4_token_file.specs.declared.entry.TokenEntry.{TokenEntry}
use Rattle.g4_vocab.specs.Numbering.{symbol_of, token_lexers}
use Rattle.g4_resolve.specs.Derivations.{CallsByName, DerivesByName, DerivesByNumber, IsFirstNamed, IsTokenType, ReadsByName}
use Rattle.g4_resolve.specs.Resolving.{parser_names, place_named, resolved, resolved_rule, step_of}
use Rattle.g4_resolve.proofs.Carrying.{becomes, rule_back, tree_of}
use Rattle.g4_resolve.proofs.FirstNamed.{first_at_place, place_of_first}
use Rattle.g4_resolve.proofs.Members.{itself, no_item, only_item, types_have, types_only, without_have, without_only}
use Rattle.g4_resolve.proofs.Over.{one_back, one_on}

module _ (names predicates : List (List ℕ)) (lexers : List LexerRule) (types : List TokenEntry) where
  -- a word of one symbol
  one_symbol : (s a : ℕ) (w : List ℕ) → s ≡ a → w ≡ a ∷ [] → w ≡ s ∷ []
  one_symbol s a w same is = is ∙ ap (λ (x : ℕ). x ∷ []) (sym same)

  -- what the step of an atom reads, the atom reads
  reads_back : (kind : AtomKind) (w : List ℕ) → ReadsSymbols (step_of names predicates lexers types kind) w
      → ReadsByName lexers types kind w
  reads_back (kinds.Rule name) w r = r
  reads_back (kinds.Token name) w (a, has, is) =
      let s = symbol_of lexers types (refs.Token name.text) in one_symbol s a w (only_item s a has) is
  reads_back (kinds.Literal literal) w (a, has, is) =
      let s = symbol_of lexers types (refs.Literal literal) in one_symbol s a w (only_item s a has) is
  reads_back (kinds.Range first last) w (a, has, is) = no_item a has
  reads_back (kinds.Set set) w (a, has, is) = no_item a has
  reads_back kinds.Any w (a, has, is) = (a, types_only types a has, is)
  reads_back (kinds.NotTokens tokens) w (a, has, is) = let h = without_only lexers types a tokens has in (a, h.0, h.1, is)
  reads_back (kinds.NotCharacters set) w (a, has, is) = no_item a has
  reads_back kinds.Action w r = r
  reads_back (kinds.Predicate name) w r = r

  -- and what the atom reads, its step reads
  reads_on : (kind : AtomKind) (w : List ℕ) → ReadsByName lexers types kind w
      → ReadsSymbols (step_of names predicates lexers types kind) w
  reads_on (kinds.Rule name) w r = r
  reads_on (kinds.Token name) w r = let s = symbol_of lexers types (refs.Token name.text) in (s, itself s s refl, r)
  reads_on (kinds.Literal literal) w r = let s = symbol_of lexers types (refs.Literal literal) in (s, itself s s refl, r)
  reads_on (kinds.Range first last) w r = absurd r
  reads_on (kinds.Set set) w r = absurd r
  reads_on kinds.Any w (s, type, is) = (s, types_have types s type, is)
  reads_on (kinds.NotTokens tokens) w (s, type, others, is) = (s, without_have lexers types s tokens type others, is)
  reads_on (kinds.NotCharacters set) w r = absurd r
  reads_on kinds.Action w r = r
  reads_on (kinds.Predicate name) w r = r

module _ (all : List Rule) (types : List TokenEntry) (added : Alternatives (Step (List ℕ))) where
  -- the lexer rules, the names of the parser rules and the texts of their predicates
  abbrev lexers : List LexerRule
  lexers = token_lexers all

  abbrev names : List (List ℕ)
  names = parser_names all

  abbrev predicates : List (List ℕ)
  predicates = predicate_texts all

  -- the step of an atom
  abbrev step : Atom → Step (List ℕ)
  step = becomes names predicates lexers types

  -- the alternatives of the parser rules, and those of the rules over steps, after the added rule
  abbrev trees : List (Alternatives Atom)
  trees = map alternatives_of (parser_rules all)

  abbrev made : List (Alternatives (Step (List ℕ)))
  made = added ∷ map alternatives_of (map (resolved_rule names predicates lexers types) (parser_rules all))

  -- a rule over steps is made of the parser rule before its number
  rule_on : (k : ℕ) (rule : ParserRule Atom) → slice_get (parser_rules all) k ≡ Some rule
      → slice_get made (suc k) ≡ Some (either_over step (alternatives_of rule))
  rule_on k rule is =
      slice_get-map alternatives_of (map (resolved_rule names predicates lexers types) (parser_rules all)) k
      ∙ (ap (option_map alternatives_of) (slice_get-map (resolved_rule names predicates lexers types) (parser_rules all) k)
      ∙ (ap (λ (o : Option (ParserRule Atom)). option_map alternatives_of
      (option_map (resolved_rule names predicates lexers types) o)) is
      ∙ ap (λ (ys : Alternatives (Step (List ℕ))). Some ys) (tree_of names predicates lexers types rule)))

  tree_at : (k : ℕ) (rule : ParserRule Atom) → slice_get (parser_rules all) k ≡ Some rule
      → slice_get trees k ≡ Some (alternatives_of rule)
  tree_at k rule is = slice_get-map alternatives_of (parser_rules all) k ∙ ap (option_map alternatives_of) is

  -- the number that a name is
  abbrev number : List ℕ → ℕ
  number name = place_named names name + 1

  -- the rule of this number is made of the first parser rule of the name
  abbrev IsMade : List ℕ → Alternatives (Step (List ℕ)) → Type 0
  IsMade name ys = (k : ℕ) × (h : IsFirstNamed (parser_rules all) name k) × (ys ≡ either_over step (alternatives_of h.rule))

  number_back : (name : List ℕ) (j : ℕ) (ys : Alternatives (Step (List ℕ))) → j ≡ number name → slice_get made j ≡ Some ys
      → IsMade name ys
  number_back name zero ys same is = absurd (omega (arith, same))
  number_back name (suc k) ys same is =
      let here : place_named names name ≡ k = omega (arith, same) in
      let made_of = rule_back all lexers types k ys is in
      let h = first_at_place (parser_rules all) name k made_of.0 made_of.1 here in
      let one : Some h.rule ≡ Some made_of.0 = sym h.placed ∙ made_of.1 in
      let rule : made_of.0 ≡ h.rule = cc in
      (k, h, made_of.2 ∙ ap (λ (r : ParserRule Atom). either_over step (alternatives_of r)) rule)

  number_on : (name : List ℕ) (k : ℕ) (h : IsFirstNamed (parser_rules all) name k)
      → slice_get made (number name) ≡ Some (either_over step (alternatives_of h.rule))
  number_on name k h =
      let here : place_named names name ≡ k = place_of_first (parser_rules all) name k h in
      let next : suc k ≡ number name = omega (arith, here) in
      subst (λ (n : ℕ). slice_get made n ≡ Some (either_over step (alternatives_of h.rule))) next (rule_on k h.rule h.placed)

  -- what an atom calls, its step calls
  abbrev CallsOn : AtomKind → Alternatives Atom → Type 0
  CallsOn kind xs = (j : ℕ) × CallsRule (step_of names predicates lexers types kind) j × (slice_get made j ≡ Some (either_over step xs))

  calls_on : (kind : AtomKind) (k : ℕ) (xs : Alternatives Atom) → CallsByName (parser_rules all) kind k → slice_get trees k ≡ Some xs
      → CallsOn kind xs
  calls_on (kinds.Rule name) k xs c is =
      let one : Some (alternatives_of c.rule) ≡ Some xs = sym (tree_at k c.rule c.placed) ∙ is in
      let same : alternatives_of c.rule ≡ xs = cc in
      (number name.text, refl, number_on name.text k c ∙ ap (λ (zs : Alternatives Atom). Some (either_over step zs)) same)
  calls_on (kinds.Token name) k xs c is = absurd c
  calls_on (kinds.Literal literal) k xs c is = absurd c
  calls_on (kinds.Range first last) k xs c is = absurd c
  calls_on (kinds.Set set) k xs c is = absurd c
  calls_on kinds.Any k xs c is = absurd c
  calls_on (kinds.NotTokens tokens) k xs c is = absurd c
  calls_on (kinds.NotCharacters set) k xs c is = absurd c
  calls_on kinds.Action k xs c is = absurd c
  calls_on (kinds.Predicate name) k xs c is = absurd c

  -- and what its step calls, the atom calls
  abbrev CallsBack : AtomKind → Alternatives (Step (List ℕ)) → Type 0
  CallsBack kind ys = (k : ℕ) × CallsByName (parser_rules all) kind k
      × ((xs : Alternatives Atom) × (slice_get trees k ≡ Some xs) × (ys ≡ either_over step xs))

  calls_back : (kind : AtomKind) (j : ℕ) (ys : Alternatives (Step (List ℕ))) → CallsRule (step_of names predicates lexers types kind) j
      → slice_get made j ≡ Some ys → CallsBack kind ys
  calls_back (kinds.Rule name) j ys c is =
      let h = number_back name.text j ys c is in
      (h.0, h.1, (alternatives_of h.1.rule, tree_at h.0 h.1.rule h.1.placed, h.2))
  calls_back (kinds.Token name) j ys c is = absurd c
  calls_back (kinds.Literal literal) j ys c is = absurd c
  calls_back (kinds.Range first last) j ys c is = absurd c
  calls_back (kinds.Set set) j ys c is = absurd c
  calls_back kinds.Any j ys c is = absurd c
  calls_back (kinds.NotTokens tokens) j ys c is = absurd c
  calls_back (kinds.NotCharacters set) j ys c is = absurd c
  calls_back kinds.Action j ys c is = absurd c
  calls_back (kinds.Predicate name) j ys c is = absurd c

  -- words of an atom, and rules that it calls
  abbrev Reads : Atom → List ℕ → Type 0
  Reads a w = ReadsByName lexers types a.kind w

  abbrev Calls : Atom → ℕ → Type 0
  Calls a k = CallsByName (parser_rules all) a.kind k

  -- what some alternatives derive by name, they derive over steps
  over_steps : (xs : Alternatives Atom) (w : List ℕ) → DerivesOne Reads Calls trees xs w
      → DerivesOne ReadsSymbols CallsRule made (either_over step xs) w
  over_steps xs w d =
      one_on step Reads ReadsSymbols Calls CallsRule trees made
      (λ a v. (reads_back names predicates lexers types a.kind v, reads_on names predicates lexers types a.kind v))
      (λ a k ys c is. calls_on a.kind k ys c is) (λ a j ys c is. calls_back a.kind j ys c is) d

  by_name : (xs : Alternatives Atom) (ys : Alternatives (Step (List ℕ))) (w : List ℕ) → ys ≡ either_over step xs
      → DerivesOne ReadsSymbols CallsRule made ys w → DerivesOne Reads Calls trees xs w
  by_name xs ys w is d =
      one_back step Reads ReadsSymbols Calls CallsRule trees made
      (λ a v. (reads_back names predicates lexers types a.kind v, reads_on names predicates lexers types a.kind v))
      (λ a k zs c at_k. calls_on a.kind k zs c at_k) (λ a j zs c at_j. calls_back a.kind j zs c at_j) ys w d xs is

  -- the rule of the number of a name derives what the rule of the name does
  pub called : (name word : List ℕ) → DerivesByNumber made (number name) word ↔ DerivesByName types all name word
  called name word = (
    λ (ys, is, d).
        let h = number_back name (number name) ys refl is in
        record { place = h.0; named = h.1; derives = by_name (alternatives_of h.1.rule) ys word h.2 d },
    λ h. (
      either_over step (alternatives_of h.named.rule),
      number_on name h.place h.named,
      over_steps (alternatives_of h.named.rule) word h.derives,
    ),
  )

  pub numbered : (name : List ℕ) (k : ℕ) (word : List ℕ) → IsFirstNamed (parser_rules all) name k
      → DerivesByNumber made (k + 1) word ↔ DerivesByName types all name word
  numbered name k word h =
      let here : place_named names name ≡ k = place_of_first (parser_rules all) name k h in
      subst (λ (n : ℕ). DerivesByNumber made (n + 1) word ↔ DerivesByName types all name word) here (called name word)
