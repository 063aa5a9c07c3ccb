-- The places of lexer rules among all rules.
use Rattle.std.proofs.Common.{◌≡◌, ℕ, zero, suc, List, [], ◌∷◌, ◌++◌, Some, None, option_map, inl, inr, refl, sym, ap, ◌∙◌, subst, slice_get}
use Rattle.std.specs.List.{position}
use Rattle.std.specs.Str.{bytes_eq}
use Rattle.std.proofs.lemmas.Bool.{cases_Bool}
use Rattle.g4_source.specs.declared.rule.Rule.{Rule}
use Rattle.g4_source.specs.declared.rule.Rule.TheVariants.{Parser, Lexer}
use Rattle.g4_source.specs.declared.rule.LexerRule.{LexerRule}
use Rattle.g4_source.specs.Rules.{lexer_rules}
use Rattle.g4_source.specs.declared.kind.RuleKind.TheVariants as rule_kinds
use Rattle.g4_grammar.specs.Written.{is_rule_of}
use Rattle.g4_grammar.proofs.Positions.{at_first, at_later, from_later}
use Rattle.g4_lexer_rules.specs.NetworkRules.{names_of}

-- the place among all rules of lexer rule k
abbrev pub place_of : List Rule → ℕ → ℕ
place_of [] k = zero
place_of (Parser rule ∷ all) k = suc (place_of all k)
place_of (Lexer rule ∷ all) zero = zero
place_of (Lexer rule ∷ all) (suc k) = suc (place_of all k)

-- lexer rule k is the rule at its place
pub at_place : (all : List Rule) (k : ℕ) (rule : LexerRule) → slice_get (lexer_rules all) k ≡ Some rule
    → slice_get all (place_of all k) ≡ Some (Lexer rule)
at_place [] k rule is = absurd (let wrong : None ≡ Some rule = is in let n : ⊥ = cc in n)
at_place (Parser other ∷ all) k rule is = at_place all k rule is
at_place (Lexer other ∷ all) zero rule is = let same : Some other ≡ Some rule = is in ap (option_map Lexer) same
at_place (Lexer other ∷ all) (suc k) rule is = at_place all k rule is

-- the first lexer rule of a name is at the first place of a lexer rule of this name
pub first_place : (all : List Rule) (name : List ℕ) (k : ℕ)
    → position (λ other. bytes_eq other name) (names_of (lexer_rules all)) ≡ Some k
    → position (is_rule_of rule_kinds.Lexer name) all ≡ Some (place_of all k)
first_place [] name k is = absurd (let wrong : None ≡ Some k = is in let n : ⊥ = cc in n)
first_place (Parser rule ∷ all) name k is = at_later (is_rule_of rule_kinds.Lexer name) (Parser rule) all (place_of all k) refl
    (first_place all name k is)
first_place (Lexer rule ∷ all) name k is = elim (cases_Bool (bytes_eq rule.name name)) [
  | inl e ↦
      let same : Some 0 ≡ Some k = sym (at_first (λ other. bytes_eq other name) rule.name (names_of (lexer_rules all)) e) ∙ is in
      let here : 0 ≡ k = cc in
      subst (λ (n : ℕ). position (is_rule_of rule_kinds.Lexer name) (Lexer rule ∷ all) ≡ Some (place_of (Lexer rule ∷ all) n)) here
      (at_first (is_rule_of rule_kinds.Lexer name) (Lexer rule) all e)
  | inr e ↦
      let later = from_later (λ other. bytes_eq other name) rule.name (names_of (lexer_rules all)) k e is in
      subst (λ (n : ℕ). position (is_rule_of rule_kinds.Lexer name) (Lexer rule ∷ all) ≡ Some (place_of (Lexer rule ∷ all) n)) (sym later.2)
      (at_later (is_rule_of rule_kinds.Lexer name) (Lexer rule) all (place_of all later.0) e (first_place all name later.0 later.1))
]

-- a lexer rule of a name is one of the lexer rules
pub first_lexer : (all : List Rule) (name : List ℕ) (place : ℕ) → position (is_rule_of rule_kinds.Lexer name) all ≡ Some place
    → (k : ℕ) × (position (λ other. bytes_eq other name) (names_of (lexer_rules all)) ≡ Some k)
first_lexer [] name place is = absurd (let wrong : None ≡ Some place = is in let n : ⊥ = cc in n)
first_lexer (Parser rule ∷ all) name place is = let later =
    from_later (is_rule_of rule_kinds.Lexer name) (Parser rule) all place refl is in first_lexer all name later.0 later.1
first_lexer (Lexer rule ∷ all) name place is = elim (cases_Bool (bytes_eq rule.name name)) [
  | inl e ↦ (0, at_first (λ other. bytes_eq other name) rule.name (names_of (lexer_rules all)) e)
  | inr e ↦
      let later = from_later (is_rule_of rule_kinds.Lexer name) (Lexer rule) all place e is in
      let rest = first_lexer all name later.0 later.1 in
      (suc rest.0, at_later (λ other. bytes_eq other name) rule.name (names_of (lexer_rules all)) rest.0 e rest.1)
]

-- a name of the lexer rules is one where other rules come before them
pub found_after : (front : List LexerRule) (rules : List LexerRule) (name : List ℕ) (k : ℕ)
    → position (λ other. bytes_eq other name) (names_of rules) ≡ Some k
    → (j : ℕ) × (position (λ other. bytes_eq other name) (names_of (front ++ rules)) ≡ Some j)
found_after [] rules name k is = (k, is)
found_after (rule ∷ front) rules name k is = elim (cases_Bool (bytes_eq rule.name name)) [
  | inl e ↦ (0, at_first (λ other. bytes_eq other name) rule.name (names_of (front ++ rules)) e)
  | inr e ↦
      let rest = found_after front rules name k is in
      (suc rest.0, at_later (λ other. bytes_eq other name) rule.name (names_of (front ++ rules)) rest.0 e rest.1)
]
