-- What holds of the rules of a lexer: they are full, and each has a type.
use Rattle.std.proofs.Common.{◌≡◌, ◌≤◌, get_or, slice_index_or, ℕ, List, [], ◌∷◌, ◌++◌, length, map, Bool, true, false, cond, Option, Some, option_map, refl, sym, ap, ◌∙◌, subst, arith, All}
use Rattle.std.specs.List.{find}
use Rattle.std.specs.Option.{unwrap_or}
use Rattle.std.specs.Str.{bytes_eq}
use Rattle.std.proofs.lemmas.List.{length-append, length-map}
use Rattle.std.proofs.lemmas.List.Elements.{All-append, All-head, All-map, All-tail}
use Rattle.g4_tokens.specs.declared.symbol.TheConstants.{MOST_TYPES}
use Rattle.g4_source.specs.declared.rule.Rule.{Rule}
use Rattle.g4_source.specs.declared.rule.Rule.TheVariants.{Parser, Lexer}
use Rattle.g4_source.specs.declared.rule.LexerRule.{LexerRule}
use Rattle.g4_source.specs.Blocks.{LexerRuleIsFull, LexerRulesAreFull, RulesAreFull}
use Rattle.g4_source.specs.Rules.{lexer_rules}
use Rattle.g4_grammar.specs.declared.token_types.TokenLiteral.{TokenLiteral}
use Rattle.g4_grammar.specs.declared.token_types.TokenName.{TokenName}
use Rattle.g4_names.specs.declared.places.Places.{Places}
use Rattle.g4_lexer_rules.specs.Commands.{AreSymbols, type_named}
use Rattle.g4_lexer_rules.specs.NetworkRules.{all_rules}
use Rattle.g4_lexer_rules.specs.declared.lexer_rules.LexerRules.{LexerRules}
use Rattle.g4_lexer_rules.specs.Rules.{IsLexerRulesOf, rule_of_literal, type_of_rule, types_of_rules}
use Rattle.g4_lexer_rules.specs.Types.{type_by_names}
use Rattle.g4_lexer_rules.proofs.LiteralRules.{literal_full}

-- what holds of the rule of each literal, holds of the rules of literals
pub literals_all : (P : LexerRule → Type 0) → ((token : TokenLiteral) → P (rule_of_literal token)) → (tokens : List TokenLiteral)
    → All P (map rule_of_literal tokens)
literals_all P one tokens = All-map P rule_of_literal tokens (λ k d less. one (slice_index_or tokens k d))

-- each rule is full
all_full : (rules : List LexerRule) → All LexerRuleIsFull rules → LexerRulesAreFull rules
all_full [] h = tt
all_full (rule ∷ rules) h = (All-head LexerRuleIsFull rule rules h, all_full rules (All-tail LexerRuleIsFull rule rules h))

-- the lexer rules among full rules are full
lexers_full : (rules : List Rule) → RulesAreFull rules → LexerRulesAreFull (lexer_rules rules)
lexers_full [] h = tt
lexers_full (Parser rule ∷ rules) h = lexers_full rules h.1
lexers_full (Lexer rule ∷ rules) h = (h.0, lexers_full rules h.1)

-- the type of a rule by its name is its type
rule_type : (names : List TokenName) (places : Places) (rule : LexerRule) → AreSymbols names places
    → type_by_names places rule ≡ type_of_rule names rule
rule_type names places rule are = ap (λ (o : Option ℕ). cond rule.fragment 0 (unwrap_or o 0)) (are rule.name)

rule_types : (names : List TokenName) (places : Places) (rules : List LexerRule) → AreSymbols names places
    → map (type_by_names places) rules ≡ map (type_of_rule names) rules
rule_types names places [] are = refl
rule_types names places (rule ∷ rules) are =
    ap (λ (n : ℕ). n ∷ map (type_by_names places) rules) (rule_type names places rule are)
    ∙ ap (λ (ns : List ℕ). type_of_rule names rule ∷ ns) (rule_types names places rules are)

-- a type by a name is one of those of the names, or 0
named_low : (names : List TokenName) → All (λ token. token.symbol ≤ MOST_TYPES) names → (name : List ℕ)
    → unwrap_or (type_named names name) 0 ≤ MOST_TYPES
named_low [] low name = omega arith
named_low (token ∷ names) low name =
    by (bytes_eq token.name name) (All-head (λ (t : TokenName). t.symbol ≤ MOST_TYPES) token names low)
    (named_low names (All-tail (λ (t : TokenName). t.symbol ≤ MOST_TYPES) token names low) name)
  where
    by : (b : Bool) → token.symbol ≤ MOST_TYPES → unwrap_or (type_named names name) 0 ≤ MOST_TYPES
        → unwrap_or (option_map (λ (t : TokenName). t.symbol) (cond b (Some token) (find (λ (t : TokenName). bytes_eq t.name name) names)))
        0 ≤ MOST_TYPES
    by true first rest = first
    by false first rest = rest

rule_low : (names : List TokenName) → All (λ token. token.symbol ≤ MOST_TYPES) names → (rule : LexerRule)
    → type_of_rule names rule ≤ MOST_TYPES
rule_low names low rule = by rule.fragment
  where
    by : (b : Bool) → cond b 0 (unwrap_or (type_named names rule.name) 0) ≤ MOST_TYPES
    by true = omega arith
    by false = named_low names low rule.name

module _ (names : List TokenName) (literals : List TokenLiteral) (rules : List Rule) (made : LexerRules)
    (h : IsLexerRulesOf names literals rules made) where
  -- each rule has a type
  pub each : length made.types ≡ length (all_rules made.literals made.rules)
  each =
      let front = length-append (map (λ (t : TokenLiteral). t.symbol) literals) (map (type_of_rule names) (lexer_rules rules)) in
      let a = length-map literals (λ (t : TokenLiteral). t.symbol) in
      let b = length-map (lexer_rules rules) (type_of_rule names) in
      let d = length-map literals rule_of_literal in
      let e = length-append (map rule_of_literal literals) (lexer_rules rules) in
      let same : length (types_of_rules names literals rules) ≡ length (all_rules (map rule_of_literal literals) (lexer_rules rules)) =
      omega (arith, front, a, b, d, e) in
      ap length h.types ∙ (same ∙ (ap (λ (ls : List LexerRule). length (all_rules ls (lexer_rules rules))) (sym h.literals_are)
      ∙ ap (λ (rs : List LexerRule). length (all_rules made.literals rs)) (sym h.rules)))

  -- types are low
  pub low : All (λ name. name.symbol ≤ MOST_TYPES) names → All (λ literal. literal.symbol ≤ MOST_TYPES) literals
      → All (λ type. type ≤ MOST_TYPES) made.types
  low low_names low_literals =
      subst (λ (ts : List ℕ). All (λ type. type ≤ MOST_TYPES) ts) (sym h.types)
      (All-append (λ (type : ℕ). type ≤ MOST_TYPES) (map (λ (t : TokenLiteral). t.symbol) literals)
      (map (type_of_rule names) (lexer_rules rules))
      (All-map (λ (type : ℕ). type ≤ MOST_TYPES) (λ (t : TokenLiteral). t.symbol) literals low_literals)
      (All-map (λ (type : ℕ). type ≤ MOST_TYPES) (type_of_rule names) (lexer_rules rules)
      (λ k d less. rule_low names low_names (get_or (lexer_rules rules) k d))))

  -- the rules are full
  pub full : RulesAreFull rules → LexerRulesAreFull made.literals × LexerRulesAreFull made.rules
  full have = (
    subst LexerRulesAreFull (sym h.literals_are) (all_full (map rule_of_literal literals)
        (literals_all LexerRuleIsFull (λ token. literal_full (rule_of_literal token) token.literal refl) literals)),
    subst LexerRulesAreFull (sym h.rules) (lexers_full rules have),
  )

-- the rules of the lexer of rules, from the types by their names
pub rules_gathered : (rules : List Rule) (names : List TokenName) (literals : List TokenLiteral) (places : Places) (made : LexerRules)
    → AreSymbols names places → made.literals ≡ map rule_of_literal literals → made.rules ≡ lexer_rules rules
    → made.types ≡ map (λ token. token.symbol) literals ++ map (type_by_names places) made.rules
    → IsLexerRulesOf names literals rules made
rules_gathered rules names literals places made are literals_are rules_are types_are = record {
  literals_are = literals_are;
  rules = rules_are;
  types = types_are ∙ ap (λ (ns : List ℕ). map (λ (t : TokenLiteral). t.symbol) literals ++ ns)
      (ap (map (type_by_names places)) rules_are ∙ rule_types names places (lexer_rules rules) are);
}
