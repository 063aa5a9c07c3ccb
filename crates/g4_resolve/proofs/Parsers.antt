-- The places of parser rules among all rules.
use Rattle.std.proofs.Common.{◌≡◌, ◌<◌, ◌≤◌, ℕ, zero, suc, inl, inr, List, [], ◌∷◌, length, Bool, Some, None, option_map, refl, sym, ap, ◌∙◌, subst, slice_get, arith}
use Rattle.std.specs.List.{position, position_or_len}
use Rattle.std.specs.Str.{bytes_eq}
use Rattle.std.proofs.lemmas.Bool.{cases_Bool}
use Rattle.std.proofs.lemmas.List.{length-map}
use Rattle.g4_source.specs.declared.atom.Atom.{Atom}
use Rattle.g4_source.specs.declared.rule.Rule.{Rule}
use Rattle.g4_source.specs.declared.rule.Rule.TheVariants.{Parser, Lexer}
use Rattle.g4_source.specs.declared.rule.ParserRule.{ParserRule}
use Rattle.g4_source.specs.Rules.{parser_rules}
use Rattle.g4_source.specs.declared.kind.RuleKind.TheVariants as rule_kinds
use Rattle.g4_grammar.specs.Written.{is_rule_of}
use Rattle.g4_grammar.proofs.Positions.{at_first, at_later, from_later, found_within, within_found}
use Rattle.g4_resolve.specs.Resolving.{parser_names}

-- the place among all rules of parser rule k
abbrev pub place_of : List Rule → ℕ → ℕ
place_of [] k = zero
place_of (Lexer rule ∷ all) k = suc (place_of all k)
place_of (Parser rule ∷ all) zero = zero
place_of (Parser rule ∷ all) (suc k) = suc (place_of all k)

-- parser rule k is the rule at its place
pub at_place : (all : List Rule) (k : ℕ) (rule : ParserRule Atom) → slice_get (parser_rules all) k ≡ Some rule
    → slice_get all (place_of all k) ≡ Some (Parser rule)
at_place [] k rule is = absurd (let wrong : None ≡ Some rule = is in let n : ⊥ = cc in n)
at_place (Lexer other ∷ all) k rule is = at_place all k rule is
at_place (Parser other ∷ all) zero rule is = let same : Some other ≡ Some rule = is in ap (option_map Parser) same
at_place (Parser other ∷ all) (suc k) rule is = at_place all k rule is

-- the first parser rule of a name is at the first place of a parser rule of this name
pub first_place : (all : List Rule) (name : List ℕ) (k : ℕ) → position (λ other. bytes_eq other name) (parser_names all) ≡ Some k
    → position (is_rule_of rule_kinds.Parser name) all ≡ Some (place_of all k)
first_place [] name k is = absurd (let wrong : None ≡ Some k = is in let n : ⊥ = cc in n)
first_place (Lexer rule ∷ all) name k is = at_later (is_rule_of rule_kinds.Parser name) (Lexer rule) all (place_of all k) refl
    (first_place all name k is)
first_place (Parser rule ∷ all) name k is = elim (cases_Bool (bytes_eq rule.name name)) [
  | inl e ↦
      let same : Some 0 ≡ Some k = sym (at_first (λ other. bytes_eq other name) rule.name (parser_names all) e) ∙ is in
      let here : 0 ≡ k = cc in
      subst (λ (n : ℕ). position (is_rule_of rule_kinds.Parser name) (Parser rule ∷ all) ≡ Some (place_of (Parser rule ∷ all) n)) here
      (at_first (is_rule_of rule_kinds.Parser name) (Parser rule) all e)
  | inr e ↦
      let later = from_later (λ other. bytes_eq other name) rule.name (parser_names all) k e is in
      subst (λ (n : ℕ). position (is_rule_of rule_kinds.Parser name) (Parser rule ∷ all) ≡ Some (place_of (Parser rule ∷ all) n))
      (sym later.2)
      (at_later (is_rule_of rule_kinds.Parser name) (Parser rule) all (place_of all later.0) e (first_place all name later.0 later.1))
]

-- a parser rule of a name is one of the parser rules
pub first_parser : (all : List Rule) (name : List ℕ) (place : ℕ) → position (is_rule_of rule_kinds.Parser name) all ≡ Some place
    → (k : ℕ) × (position (λ other. bytes_eq other name) (parser_names all) ≡ Some k)
first_parser [] name place is = absurd (let wrong : None ≡ Some place = is in let n : ⊥ = cc in n)
first_parser (Lexer rule ∷ all) name place is = let later =
    from_later (is_rule_of rule_kinds.Parser name) (Lexer rule) all place refl is in first_parser all name later.0 later.1
first_parser (Parser rule ∷ all) name place is = elim (cases_Bool (bytes_eq rule.name name)) [
  | inl e ↦ (0, at_first (λ other. bytes_eq other name) rule.name (parser_names all) e)
  | inr e ↦
      let later = from_later (is_rule_of rule_kinds.Parser name) (Parser rule) all place e is in
      let rest = first_parser all name later.0 later.1 in
      (suc rest.0, at_later (λ other. bytes_eq other name) rule.name (parser_names all) rest.0 e rest.1)
]

-- what is found is an item of the list
pub found_less : {X : Type 0} (p : X → Bool) (xs : List X) (n : ℕ) → position p xs ≡ Some n → n < length xs
found_less p xs n is =
    let less : position_or_len p xs < length xs = found_within p xs n is in
    let same : Some (position_or_len p xs) ≡ Some n = sym (within_found p xs less) ∙ is in
    let here : position_or_len p xs ≡ n = cc in
    omega (arith, here, less)

-- parser rules at one place are one
one_place : (all : List Rule) (j k : ℕ) → j < length (parser_rules all) → k < length (parser_rules all)
    → place_of all j ≡ place_of all k → j ≡ k
one_place [] j k first second same = absurd (omega (arith, first))
one_place (Lexer rule ∷ all) j k first second same = one_place all j k first second (cc)
one_place (Parser rule ∷ all) zero zero first second same = refl
one_place (Parser rule ∷ all) zero (suc k) first second same = cc
one_place (Parser rule ∷ all) (suc j) zero first second same = cc
one_place (Parser rule ∷ all) (suc j) (suc k) first second same =
    ap suc (one_place all j k (omega (arith, first)) (omega (arith, second)) (cc))

-- where parser rule k is at the first place of a parser rule of a name, it is the first of this name
pub first_of_place : (all : List Rule) (name : List ℕ) (k : ℕ) → k < length (parser_rules all)
    → position (is_rule_of rule_kinds.Parser name) all ≡ Some (place_of all k)
    → position (λ other. bytes_eq other name) (parser_names all) ≡ Some k
first_of_place all name k less is =
    let first = first_parser all name (place_of all k) is in
    let within : first.0 < length (parser_rules all) =
    subst (λ (n : ℕ). first.0 < n) (length-map (parser_rules all) (λ rule. rule.name))
    (found_less (λ other. bytes_eq other name) (parser_names all) first.0 first.1) in
    let places : Some (place_of all first.0) ≡ Some (place_of all k) = sym (first_place all name first.0 first.1) ∙ is in
    let same : first.0 ≡ k = one_place all first.0 k within less (cc) in
    first.1 ∙ ap (λ (n : ℕ). Some n) same

-- there are no more parser rules than rules
pub parsers_few : (rules : List Rule) → length (parser_rules rules) ≤ length rules
parsers_few [] = omega arith
parsers_few (Parser rule ∷ rules) = omega (arith, parsers_few rules)
parsers_few (Lexer rule ∷ rules) = omega (arith, parsers_few rules)
