-- What holds of the rules of each file holds of the rules of the grammar that they are together.
use Rattle.std.proofs.Common.{◌≡◌, ℕ, zero, suc, List, [], ◌∷◌, ◌++◌, All, Option, Some, None, Result, Ok, refl, sym, ap, ◌∙◌, subst, arith}
use Rattle.std.specs.List.{Contains}
use Rattle.std.specs.Option.{IfSome}
use Rattle.std.proofs.lemmas.List.Elements.{All-contains, Contains-append_right}
use Rattle.g4_source.specs.Blocks.{HaveAlternatives, RuleIsFull, RulesAreFull}
use Rattle.g4_source.specs.declared.rule.Rule.{Rule}
use Rattle.g4_source.specs.declared.source.GrammarKind.{GrammarKind}
use Rattle.g4_source.specs.declared.source.GrammarKind.TheVariants as kinds
use Rattle.g4_source.specs.declared.source.Source.{Source}
use Rattle.g4_token_file.specs.declared.entry.TokenEntry.{TokenEntry}
use Rattle.g4_attach.specs.Attaching.{IsAnswer, IsAttached, if_lexer}
use Rattle.g4_attach.specs.declared.attaching.Attached.{Attached}
use Rattle.g4_fetch.specs.declared.closure.GrammarFile.{GrammarFile}
use Rattle.g4_imports.specs.Composites.{AreOfFiles, RulesAreOfFiles}
use Rattle.g4_imports.specs.declared.composite.Composite.{Composite}
use Rattle.g4_imports.specs.declared.composite.Composites.{Composites}
use Rattle.g4_load.specs.Faults.{of_attach}
use Rattle.g4_load.specs.Loading.{AreFull}
use Rattle.g4_load.specs.Stages.{Gives}
use Rattle.g4_load.specs.Uniting.{Unites, lexer_source, united_alone, united_of}
use Rattle.g4_load.specs.declared.fault.GrammarFault.{GrammarFault}
use Rattle.g4_load.specs.declared.whole.United.{United}
use Rattle.g4_load.proofs.Stages.{both_give}

-- rules that are full one by one
full_rules : (rules : List Rule) → ((rule : Rule) → Contains rules rule → RuleIsFull rule) → RulesAreFull rules
full_rules [] each = tt
full_rules (rule ∷ rules) each =
    (each rule (0, omega arith, refl), full_rules rules (λ other has. each other (Contains-append_right (rule ∷ []) rules other has)))

full_rule : (rules : List Rule) (rule : Rule) → RulesAreFull rules → Contains rules rule → RuleIsFull rule
full_rule [] rule full has = absurd (omega (arith, has.1))
full_rule (first ∷ rules) rule full (zero, within, is) = subst RuleIsFull is full.0
full_rule (first ∷ rules) rule full (suc k, within, is) = full_rule rules rule full.1 (k, omega (arith, within), is)

module _ (files : List GrammarFile) (composite : Composite) where
  pub all_full : All (λ f. HaveAlternatives f.source) files → RulesAreOfFiles files composite → HaveAlternatives composite.merged.source
  all_full full of = full_rules composite.merged.source.rules (λ rule has.
      let found = of rule has in
      full_rule found.0.source.rules rule
      (All-contains (λ (f : GrammarFile). HaveAlternatives f.source) files found.0 full found.1) found.2)

-- rules after rules
full_append : (xs ys : List Rule) → RulesAreFull xs → RulesAreFull ys → RulesAreFull (xs ++ ys)
full_append [] ys first others = others
full_append (x ∷ xs) ys first others = (first.0, full_append xs ys first.1 others)

module _ (files : List GrammarFile) where
  if_full : All (λ f. HaveAlternatives f.source) files → (o : Option Composite) → IfSome o (RulesAreOfFiles files)
      → IfSome o (λ lexer. HaveAlternatives lexer.merged.source)
  if_full full None of = tt
  if_full full (Some composite) of = all_full files composite full of

  -- of a grammar and its lexer grammar
  pub both_full : (composites : Composites) → All (λ f. HaveAlternatives f.source) files → AreOfFiles files composites → AreFull composites
  both_full composites full of = (all_full files composites.grammar full of.0, if_full full composites.lexer of.1)

-- where a parser grammar is attached, there is a lexer grammar, whose rules come after its own
record HasRules (parser : Source) (lexer : Option Composite) (attached : Attached) : Type 0 where
  composite : Composite
  there : lexer ≡ Some composite
  rules : attached.source.rules ≡ parser.rules ++ composite.merged.source.rules

attached_rules : (table : List TokenEntry) (parser : Source) (lexer : Option Composite) (attached : Attached)
    → IsAttached table parser (lexer_source lexer) (Ok attached) → HasRules parser lexer attached
attached_rules table parser None attached h = absurd h
attached_rules table parser (Some composite) attached h = by composite.merged.source.kind h
  where
    by : (kind : GrammarKind) → IsAnswer table parser (if_lexer composite.merged.source kind) (Ok attached)
        → HasRules parser (Some composite) attached
    by kinds.Combined is = absurd is
    by kinds.Parser is = absurd is
    by kinds.Lexer is = record { composite = composite; there = refl; rules = ap (λ (s : Source). s.rules) is.whole }

-- so of a grammar as one
module _ (table : List TokenEntry) (composites : Composites) where
  -- its rules are those of the grammar, or of both
  data IsMadeOf (united : United) : Type 0 where
    of_one : united.whole.source.rules ≡ composites.grammar.merged.source.rules → IsMadeOf united
    of_two : (lexer : Composite) → composites.lexer ≡ Some lexer
        → united.whole.source.rules ≡ composites.grammar.merged.source.rules ++ lexer.merged.source.rules → IsMadeOf united

  made_of : (kind : GrammarKind) (united : United) → Unites table composites kind (Ok united) → IsMadeOf united
  made_of kinds.Combined united h =
      let same : united ≡ united_alone table composites.grammar = cc in of_one (ap (λ (u : United). u.whole.source.rules) same)
  made_of kinds.Lexer united h =
      let same : united ≡ united_alone table composites.grammar = cc in of_one (ap (λ (u : United). u.whole.source.rules) same)
  made_of kinds.Parser united h =
      let stages = both_give (Gives (IsAttached table composites.grammar.merged.source (lexer_source composites.lexer)) of_attach)
      (λ attached result. result ≡ Ok (united_of composites.grammar composites.lexer attached)) united h in
      let two = attached_rules table composites.grammar.merged.source composites.lexer stages.0 stages.1 in
      let same : united ≡ united_of composites.grammar composites.lexer stages.0 = ok_same united _ stages.2 in
      of_two two.composite two.there (ap (λ (u : United). u.whole.source.rules) same ∙ two.rules)
    where
      ok_same : (x y : United) → ◌≡◌ {A = Result United GrammarFault} (Ok x) (Ok y) → x ≡ y
      ok_same x y e = cc

  pub united_full : (kind : GrammarKind) (united : United) → Unites table composites kind (Ok united) → AreFull composites
      → HaveAlternatives united.whole.source
  united_full kind united h full = by (made_of kind united h)
    where
      by : IsMadeOf united → HaveAlternatives united.whole.source
      by (of_one rules) = subst RulesAreFull (sym rules) full.0
      by (of_two lexer there rules) = subst RulesAreFull (sym rules)
          (full_append composites.grammar.merged.source.rules lexer.merged.source.rules full.0
          (subst (λ (o : Option Composite). IfSome o (λ c. HaveAlternatives c.merged.source)) there full.1))
