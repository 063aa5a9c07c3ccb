-- The predicates of parser rules, one after another.
use Rattle.std.proofs.Common.{◌≡◌, ◌+◌, ◌<◌, ◌≤◌, ℕ, List, [], ◌∷◌, ◌++◌, All, length, map, take, get_or, Option, Some, None, refl, sym, ap, ◌∙◌, subst}
use Rattle.std.specs.List.{cons_option, flat_map}
use Rattle.std.specs.Str.{chars}
use Rattle.std.proofs.lemmas.Grind.{flat_map-append}
use Rattle.std.proofs.lemmas.List.{append-nil, get_or-map, length-map, take_all, take_more}
use Rattle.std.proofs.lemmas.List.Elements.{All-get_or, All-head, All-tail}
use Rattle.g4_base.specs.declared.place.Place.{Place}
use Rattle.g4_source.proofs.Lists.{parts-map}
use Rattle.g4_source.specs.Atoms.{AtomIn, all_atoms, atom_in, rule_atoms}
use Rattle.g4_source.specs.Elements.{atoms_of_either}
use Rattle.g4_source.specs.First.{Finds, IsNone}
use Rattle.g4_source.specs.Rules.{alternatives_of, lexer_alternatives_of, parser_rules}
use Rattle.g4_source.specs.declared.atom.Atom.{Atom}
use Rattle.g4_source.specs.declared.atom.AtomKind.{AtomKind}
use Rattle.g4_source.specs.declared.atom.AtomKind.TheVariants.{Predicate}
use Rattle.g4_source.specs.declared.kind.RuleKind.TheVariants as sides
use Rattle.g4_source.specs.declared.name.Name.{Name}
use Rattle.g4_source.specs.declared.rule.ParserRule.{ParserRule}
use Rattle.g4_source.specs.declared.rule.Rule.{Rule}
use Rattle.g4_source.specs.declared.rule.Rule.TheVariants.{Parser, Lexer}
use Rattle.g4_grammar.specs.Written.{ParserKindIsUntested, ParserRuleIsUntested, predicate_text, predicate_texts, rule_predicates}
use Rattle.g4_preds.specs.Trees.{Tree}
use Rattle.g4_preds.proofs.OneReading.{one_reading}
use Rattle.g4_checks.specs.Predicates.{ArePredicates, Reads, text_of_predicate}
use Rattle.g4_checks.specs.Uses.{IsUnknownAt, IsUnknownPredicate, parser_predicate_text}
use Rattle.g4_checks.specs.Views.{use_view}
use Rattle.g4_checks.specs.declared.atoms.AtomUse.{AtomUse}

-- predicates after predicates
append_predicates : (actions more : List (List ℕ)) (trees others : List Tree) → ArePredicates actions trees → ArePredicates more others
    → ArePredicates (actions ++ more) (trees ++ others)
append_predicates [] more [] others h k = k
append_predicates [] more (tree ∷ trees) others h k = absurd h
append_predicates (action ∷ actions) more [] others h k = absurd h
append_predicates (action ∷ actions) more (tree ∷ trees) others h k = (h.0, append_predicates actions more trees others h.1 k)

-- some actions are one list of trees
pub one_predicates : (actions : List (List ℕ)) (a b : List Tree) → ArePredicates actions a → ArePredicates actions b → a ≡ b
one_predicates [] [] [] h k = refl
one_predicates [] [] (tree ∷ trees) h k = absurd k
one_predicates [] (tree ∷ trees) b h k = absurd h
one_predicates (action ∷ actions) [] b h k = absurd h
one_predicates (action ∷ actions) (tree ∷ trees) [] h k = absurd k
one_predicates (action ∷ actions) (tree ∷ trees) (other ∷ others) h k =
    ap (λ (t : Tree). t ∷ trees) (one_reading (chars (text_of_predicate action)) tree other h.0 k.0)
    ∙ ap (λ (ts : List Tree). other ∷ ts) (one_predicates actions trees others h.1 k.1)

-- an atom that tests nothing has no text of a predicate
no_text : (kind : AtomKind) → ParserKindIsUntested kind → predicate_text kind ≡ []
no_text (Predicate name) h = absurd h
no_text kind h = refl

no_texts : (atoms : List Atom) → All (λ a. ParserKindIsUntested a.kind) atoms → flat_map (λ a. predicate_text a.kind) atoms ≡ []
no_texts [] h = refl
no_texts (a ∷ atoms) h =
    ap (λ (texts : List (List ℕ)). texts ++ flat_map (λ (b : Atom). predicate_text b.kind) atoms)
    (no_text a.kind (All-head (λ (b : Atom). ParserKindIsUntested b.kind) a atoms h))
    ∙ no_texts atoms (All-tail (λ (b : Atom). ParserKindIsUntested b.kind) a atoms h)

no_rule_texts : (rules : List (ParserRule Atom)) → All ParserRuleIsUntested rules → flat_map rule_predicates rules ≡ []
no_rule_texts [] h = refl
no_rule_texts (rule ∷ rules) h =
    ap (λ (texts : List (List ℕ)). texts ++ flat_map rule_predicates rules)
    (no_texts (atoms_of_either (alternatives_of rule)) (All-head ParserRuleIsUntested rule rules h))
    ∙ no_rule_texts rules (All-tail ParserRuleIsUntested rule rules h)

none_of_none : (trees : List Tree) → ArePredicates [] trees → trees ≡ []
none_of_none [] h = refl
none_of_none (tree ∷ trees) h = absurd h

-- where no parser rule tests anything, there are no predicates
pub no_predicates : (rules : List Rule) (trees : List Tree) → All ParserRuleIsUntested (parser_rules rules)
    → ArePredicates (predicate_texts rules) trees → trees ≡ []
no_predicates rules trees none h =
    none_of_none trees (subst (λ (texts : List (List ℕ)). ArePredicates texts trees) (no_rule_texts (parser_rules rules) none) h)

-- atoms of lexer rules give no texts
lexer_texts : (atoms : List Atom) → flat_map parser_predicate_text (map (atom_in sides.Lexer) atoms) ≡ []
lexer_texts [] = refl
lexer_texts (a ∷ atoms) = lexer_texts atoms

-- the texts of a grammar's predicates are those of its atoms
pub texts_are : (rules : List Rule) → flat_map parser_predicate_text (all_atoms rules) ≡ predicate_texts rules
texts_are [] = refl
texts_are (Parser rule ∷ rules) =
    flat_map-append parser_predicate_text (rule_atoms (Parser rule)) (all_atoms rules)
    ∙ (ap (λ (texts : List (List ℕ)). texts ++ flat_map parser_predicate_text (all_atoms rules))
    (parts-map parser_predicate_text (atom_in sides.Parser) (atoms_of_either (alternatives_of rule)))
    ∙ ap (λ (texts : List (List ℕ)). rule_predicates rule ++ texts) (texts_are rules))
texts_are (Lexer rule ∷ rules) =
    flat_map-append parser_predicate_text (rule_atoms (Lexer rule)) (all_atoms rules)
    ∙ (ap (λ (texts : List (List ℕ)). texts ++ flat_map parser_predicate_text (all_atoms rules))
    (lexer_texts (atoms_of_either (lexer_alternatives_of rule))) ∙ texts_are rules)

-- an atom that is a predicate with a known text
pub atom_read : (kind : AtomKind) (written : Name) (found : Option Tree) → kind ≡ Predicate written
    → ((place : Place) → IsUnknownAt kind place → ⊥) → Finds Reads written found
    → ArePredicates (predicate_text kind) (cons_option found [])
atom_read kind written None same known none =
    absurd (known written.place (subst (λ (k : AtomKind). IsUnknownAt k written.place) (sym same) (refl, none)))
atom_read kind written (Some tree) same known reads =
    subst (λ (k : AtomKind). ArePredicates (predicate_text k) (tree ∷ [])) (sym same) (reads, tt)

-- an atom of known atoms
pub atom_known : (atoms : List AtomUse) (i : ℕ) (x : AtomUse) → i < length atoms → x ≡ get_or atoms i x
    → IsNone IsUnknownPredicate (map use_view atoms) → (place : Place) → IsUnknownPredicate (use_view x) place → ⊥
atom_known atoms i x within item none =
    let Known : AtomIn → Type 0 = λ a. (place : Place) → IsUnknownPredicate a place → ⊥ in
    let same : get_or (map use_view atoms) i (use_view x) ≡ use_view x =
    get_or-map use_view atoms i x (use_view x) within ∙ ap use_view (sym item) in
    subst Known same
    (All-get_or Known (map use_view atoms) i (use_view x) (subst (λ (n : ℕ). i < n) (sym (length-map atoms use_view)) within) none)

-- what is kept of an item, one tree or none
pub kept_one : (found : Option Tree) (tree : Tree) (old new : List Tree) → found ≡ Some tree → new ≡ old ++ tree ∷ []
    → new ≡ old ++ cons_option found []
kept_one found tree old new is made = made ∙ ap (λ (o : Option Tree). old ++ cons_option o []) (sym is)

pub kept_none : (found : Option Tree) (old new : List Tree) → found ≡ None → new ≡ old → new ≡ old ++ cons_option found []
kept_none found old new is made = made ∙ (sym (append-nil old) ∙ ap (λ (o : Option Tree). old ++ cons_option o []) (sym is))

module _ {X : Type 0} (F : X → List (List ℕ)) (xs : List X) (i : ℕ) (trees : List Tree) where
  -- the trees are those of the first items
  abbrev pub AreReadUpTo : Type 0
  AreReadUpTo = ArePredicates (flat_map F (take i xs)) trees

  -- those of one more item
  pub one_more : (x : X) (found : Option Tree) (new : List Tree) → i < length xs → x ≡ get_or xs i x
      → ArePredicates (F x) (cons_option found []) → new ≡ trees ++ cons_option found [] → AreReadUpTo
      → ArePredicates (flat_map F (take (i + 1) xs)) new
  one_more x found new within item is made before =
      let texts : flat_map F (take (i + 1) xs) ≡ flat_map F (take i xs) ++ F x =
      ap (flat_map F) (take_more xs i x within ∙ ap (λ (z : X). take i xs ++ z ∷ []) (sym item))
      ∙ (flat_map-append F (take i xs) (x ∷ []) ∙ ap (λ (zs : List (List ℕ)). flat_map F (take i xs) ++ zs) (append-nil (F x))) in
      subst (λ (zs : List (List ℕ)). ArePredicates zs new) (sym texts)
      (subst (ArePredicates (flat_map F (take i xs) ++ F x)) (sym made)
      (append_predicates (flat_map F (take i xs)) (F x) trees (cons_option found []) before is))

  -- those of all items
  pub all_read : length xs ≤ i → AreReadUpTo → ArePredicates (flat_map F xs) trees
  all_read past before = subst (λ (ys : List X). ArePredicates (flat_map F ys) trees) (take_all i xs past) before
