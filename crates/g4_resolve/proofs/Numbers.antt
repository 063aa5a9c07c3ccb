-- The numbers of predicates: each is the place of the first predicate with the same text.
use Rattle.std.proofs.Common.{◌≡◌, ◌<◌, ◌≤◌, ◌⊎◌, inl, inr, ℕ, zero, suc, List, [], ◌∷◌, length, get_or, Bool, true, false, Some, refl, sym, ap, ◌∙◌, subst, slice_get, Contains, arith}
use Rattle.std.specs.List.{flat_map, position_or_len}
use Rattle.std.specs.Str.{bytes_eq}
use Rattle.std.proofs.lemmas.List.Elements.{Contains-append_left, Contains-append_right}
use Rattle.std.proofs.lemmas.List.Sums.{fails_before_first, passes_at_first}
use Rattle.std.proofs.lemmas.Option.{same_Some, slice_get_read}
use Rattle.std.proofs.lemmas.Slice.Eq.{bytes_eq-Decides}
use Rattle.g4_source.specs.Elements.{atoms_of_either}
use Rattle.g4_source.specs.Rules.{alternatives_of, parser_rules}
use Rattle.g4_source.specs.declared.atom.Atom.{Atom}
use Rattle.g4_source.specs.declared.atom.AtomKind.{AtomKind}
use Rattle.g4_source.specs.declared.name.Name.{Name}
use Rattle.g4_source.specs.declared.rule.ParserRule.{ParserRule}
use Rattle.g4_source.specs.declared.rule.Rule.{Rule}
use Rattle.g4_source.specs.declared.rule.Rule.TheVariants.{Parser, Lexer}
use Rattle.g4_grammar.specs.Written.{predicate_text, predicate_texts, rule_predicates}
use Rattle.g4_resolve.specs.Resolving.{IsPredicateOf, place_named}

-- an item of a list is its first or one of the others
pub first_or_other : {X : Type 0} (first : X) (xs : List X) (x : X) → Contains (first ∷ xs) x → (first ≡ x) ⊎ Contains xs x
first_or_other first xs x (zero, less, is) = inl is
first_or_other first xs x (suc k, less, is) = inr (k, omega (arith, less), is)

-- what an item gives is among what all items give
given : {X Y : Type 0} (f : X → List Y) (xs : List X) (x : X) (y : Y) → Contains xs x → Contains (f x) y → Contains (flat_map f xs) y
given f [] x y (k, less, is) has = absurd (omega (arith, less))
given {X} {Y} f (first ∷ xs) x y among has = elim (first_or_other first xs x among) [
  | inl same ↦ Contains-append_left (f first) (flat_map f xs) y (subst (λ (z : X). Contains (f z) y) (sym same) has)
  | inr other ↦ Contains-append_right (f first) (flat_map f xs) y (given f xs x y other has)
]

-- a parser rule among rules is one of the parser rules
parser_among : (rules : List Rule) (rule : ParserRule Atom) → Contains rules (Parser rule) → Contains (parser_rules rules) rule
parser_among [] rule (k, less, is) = absurd (omega (arith, less))
parser_among (Parser other ∷ rules) rule has = elim (first_or_other (Parser other) rules (Parser rule) has) [
  | inl same ↦ let here : other ≡ rule = cc in (0, omega arith, here)
  | inr later ↦ Contains-append_right (other ∷ []) (parser_rules rules) rule (parser_among rules rule later)
]
parser_among (Lexer other ∷ rules) rule has = elim (first_or_other (Lexer other) rules (Parser rule) has) [
  | inl same ↦ absurd (let n : ⊥ = cc in n)
  | inr later ↦ parser_among rules rule later
]

-- the text of a predicate of the rules is one of their texts
text_among : (rules : List Rule) (name : Name) → IsPredicateOf rules name → Contains (predicate_texts rules) name.text
text_among rules name p =
    let own : Contains (predicate_text p.atom.kind) name.text =
    subst (λ (kind : AtomKind). Contains (predicate_text kind) name.text) (sym p.is) (0, omega arith, refl) in
    given rule_predicates (parser_rules rules) p.rule name.text (parser_among rules p.rule p.of_rule)
    (given (λ (a : Atom). predicate_text a.kind) (atoms_of_either (alternatives_of p.rule)) p.atom name.text p.of_atom own)

-- at the place of a text among texts is this text, where it is one of them
text_at_place : (texts : List (List ℕ)) (text : List ℕ) → Contains texts text → slice_get texts (place_named texts text) ≡ Some text
text_at_place texts text (k, less, is) = elim (cut (position_or_len test texts) k) [
  | inl low ↦
      let place : ℕ = position_or_len test texts in
      let within : place < length texts = omega (arith, low, less) in
      let same : get_or texts place text ≡ text =
      (bytes_eq-Decides (get_or texts place text) text).0 (passes_at_first test texts text within) in
      slice_get_read texts (length texts) place text refl within (sym same)
  | inr high ↦
      let fails : test (get_or texts k text) ≡ false = fails_before_first test texts k text high in
      let passes : test (get_or texts k text) ≡ true = (bytes_eq-Decides (get_or texts k text) text).1 is in
      absurd (let n : ⊥ = cc in n)
]
  where
    test : List ℕ → Bool
    test other = bytes_eq other text

    cut : (n m : ℕ) → (n ≤ m) ⊎ (m < n)
    cut n m = grind arith

-- a predicate of the rules has the number of its own text
pub own_text : (rules : List Rule) (name : Name) → IsPredicateOf rules name
    → slice_get (predicate_texts rules) (place_named (predicate_texts rules) name.text) ≡ Some name.text
own_text rules name p = text_at_place (predicate_texts rules) name.text (text_among rules name p)

-- predicates of the rules with one number have one text
pub one_text : (rules : List Rule) (one other : Name) → IsPredicateOf rules one → IsPredicateOf rules other
    → place_named (predicate_texts rules) one.text ≡ place_named (predicate_texts rules) other.text → one.text ≡ other.text
one_text rules one other p q same = same_Some one.text other.text
    (sym (own_text rules one p) ∙ (ap (slice_get (predicate_texts rules)) same ∙ own_text rules other q))
