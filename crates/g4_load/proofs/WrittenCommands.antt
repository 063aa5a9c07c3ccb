-- The commands of the lexer of a grammar are those of its source, rule by rule.
use Rattle.std.proofs.Common.{◌≡◌, List, [], ◌∷◌, map, All, refl, sym, ap, ◌∙◌, subst}
use Rattle.std.specs.List.{flat_map}
use Rattle.std.proofs.lemmas.List.{map-append}
use Rattle.std.proofs.lemmas.List.Elements.{All-nil, All-cons, All-head, All-tail, All-append}
use Rattle.g4_source.specs.Rules.{lexer_rules}
use Rattle.g4_source.specs.declared.rule.Command.{Command}
use Rattle.g4_source.specs.declared.rule.LexerAlternative.{LexerAlternative}
use Rattle.g4_source.specs.declared.rule.LexerRule.{LexerRule}
use Rattle.g4_source.specs.declared.rule.Rule.{Rule}
use Rattle.g4_source.specs.declared.rule.Rule.TheVariants as kinds
use Rattle.g4_source.specs.declared.source.Source.{Source}
use Rattle.g4_token_file.specs.declared.entry.TokenEntry.{TokenEntry}
use Rattle.g4_checks.specs.Commands.{all_commands}
use Rattle.g4_grammar.specs.declared.token_types.TokenLiteral.{TokenLiteral}
use Rattle.g4_vocab.specs.Shown.{literals_of}
use Rattle.g4_lexer_rules.specs.NetworkRules.{all_rules, commands_of}
use Rattle.g4_lexer_rules.specs.Rules.{rule_of_literal}
use Rattle.g4_source.proofs.Parts.{All-front, All-rest}

module _ (P : Command → Type 0) where
  -- what holds of each command of some alternatives, alternative by alternative
  of_alternatives : (alternatives : List LexerAlternative) → All P (flat_map (λ alternative. alternative.commands) alternatives)
      → All (All P) (map (λ x. x.commands) alternatives)
  of_alternatives [] h = All-nil (All P)
  of_alternatives (x ∷ more) h =
      let rest : List Command = flat_map (λ alternative. alternative.commands) more in
      All-cons (All P) x.commands (map (λ y. y.commands) more) (All-front P x.commands rest h)
      (of_alternatives more (All-rest P x.commands rest h))

  -- the same of rules
  of_rules : (rules : List Rule) → All P (all_commands rules) → All (All (All P)) (commands_of (lexer_rules rules))
  of_rules [] h = All-nil (All (All P))
  of_rules (kinds.Parser rule ∷ rules) h = of_rules rules h
  of_rules (kinds.Lexer rule ∷ rules) h =
      let own : List Command = flat_map (λ alternative. alternative.commands) rule.alternatives in
      All-cons (All (All P)) (map (λ x. x.commands) rule.alternatives) (commands_of (lexer_rules rules))
      (of_alternatives rule.alternatives (All-front P own (all_commands rules) h))
      (of_rules rules (All-rest P own (all_commands rules) h))

  -- what makes tokens of literals has no commands
  of_literals : (tokens : List TokenLiteral) → All (All (All P)) (commands_of (map rule_of_literal tokens))
  of_literals [] = All-nil (All (All P))
  of_literals (token ∷ tokens) = All-cons (All (All P)) ([] ∷ []) (commands_of (map rule_of_literal tokens))
      (All-cons (All P) [] [] (All-nil P) (All-nil (All P))) (of_literals tokens)

  -- so what holds of each command of a source holds of each of its lexer
  pub of_all_rules : (table : List TokenEntry) (source : Source) → All P (all_commands source.rules)
      → All (All (All P))
      (commands_of (all_rules (map rule_of_literal (literals_of table source)) (lexer_rules source.rules)))
  of_all_rules table source h =
      let literals : List LexerRule = map rule_of_literal (literals_of table source) in
      subst (λ (cs : List (List (List Command))). All (All (All P)) cs)
      (sym (map-append (λ (rule : LexerRule). map (λ x. x.commands) rule.alternatives) literals (lexer_rules source.rules)))
      (All-append (All (All P)) (commands_of literals) (commands_of (lexer_rules source.rules))
      (of_literals (literals_of table source)) (of_rules source.rules h))

-- two maps that are one where something holds, on a list of which it holds
pub same_map : {X Y Z : Type 0} (p : Y → Z) (q : X → Y) (r : X → Z) (P : X → Type 0) → ((x : X) → P x → p (q x) ≡ r x) → (xs : List X)
    → All P xs → map p (map q xs) ≡ map r xs
same_map p q r P one [] h = refl
same_map p q r P one (x ∷ xs) h = ap (λ z. z ∷ map p (map q xs)) (one x (All-head P x xs h))
    ∙ ap (λ zs. r x ∷ zs) (same_map p q r P one xs (All-tail P x xs h))
