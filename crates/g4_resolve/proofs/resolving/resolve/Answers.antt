use Rattle.std.proofs.Common.{◌≡◌, ℕ, List, length, map, sym, ap, ◌∙◌, subst, arith}
use Rattle.std.specs.List.{flat_map}
use Rattle.std.proofs.lemmas.List.{length-map}
use Rattle.g4_source.specs.Rules.{parser_rules}
use Rattle.g4_source.specs.Views.{rule_view}
use Rattle.g4_source.specs.declared.atom.Atom.{Atom}
use Rattle.g4_source.specs.declared.rule.LexerRule.{LexerRule}
use Rattle.g4_source.specs.declared.rule.ParserRule.{ParserRule}
use Rattle.g4_source.specs.declared.source.Source.{Source}
use Rattle.g4_grammar.specs.StepRules.{CanBeRewritten, StepRule}
use Rattle.g4_grammar.specs.Written.{predicate_texts, rule_predicates}
use Rattle.g4_vocab.specs.Numbering.{token_lexers}
use Rattle.g4_vocab.specs.Vocabularies.{lexers_in, types_in}
use Rattle.g4_token_file.specs.declared.entry.TokenEntry.{TokenEntry}
use Rattle.g4_resolve.specs.Resolving.{parser_names, resolved, resolved_rule}
use Rattle.g4_resolve.proofs.Carrying.{can_be_rewritten}
use Rattle.g4_resolve.proofs.Parsers.{parsers_few}
use Rattle.g4_resolve.proofs.resolving.resolve.Goals as goal

-- the rules over steps, of the names of the parser rules and the texts of their predicates
steps_are : (source : Source) (parsers others : List (ParserRule Atom)) (names texts : List (List ℕ)) (lexers : List LexerRule)
    (types : List TokenEntry) (made : List StepRule) → parsers ≡ parser_rules source.rules → others ≡ parsers
    → names ≡ map (λ rule. rule.name) parsers → texts ≡ flat_map rule_predicates parsers → lexers ≡ token_lexers source.rules
    → made ≡ map (resolved_rule names texts lexers types) others → made ≡ resolved types source
steps_are source parsers others names texts lexers types made parsed same named predicated tokens is =
    let rules = source.rules in
    is
    ∙ (ap (λ (ns : List (List ℕ)). map (resolved_rule ns texts lexers types) others) (named ∙ ap (map (λ rule. rule.name)) parsed)
    ∙ (ap (λ (ts : List (List ℕ)). map (resolved_rule (parser_names rules) ts lexers types) others)
    (predicated ∙ ap (flat_map rule_predicates) parsed)
    ∙ (ap (λ (ls : List LexerRule). map (resolved_rule (parser_names rules) (predicate_texts rules) ls types) others) tokens
    ∙ ap (map (resolved_rule (parser_names rules) (predicate_texts rules) (token_lexers rules) types)) (same ∙ parsed))))

pub invariant_of-stage : goal.invariant_of-stage
invariant_of-stage c =
    let rules = c.args.source.now.rules in
    let parsers : map (λ r. r.now) c.in_ok-parsers.parsers.items ≡ parser_rules rules =
    c.in_ok-parsers.ensures ∙ ap parser_rules (ap (map rule_view) c.as_slice-2.ensures.value ∙ (c.in_ok-views.ensures
    ∙ c.as_slice.ensures)) in
    let names : c.in_ok-named.named.texts.now ≡ parser_names rules =
    c.in_ok-named.ensures ∙ (c.as_slice-5.ensures.value ∙ (c.in_ok-names.ensures
    ∙ ap (map (λ rule. rule.name)) (ap (map (λ r. r.now)) c.as_slice-3.ensures.value ∙ parsers))) in
    record {
      few = omega (
        arith,
        ap length names,
        length-map (parser_rules rules) (λ rule. rule.name),
        parsers_few rules,
        c.requires.numbered.few_rules,
      );
    }

pub returns : goal.returns
returns c =
    let rules = c.args.source.now.rules in
    let parsers : map (λ r. r.now) c.in_ok-parsers.parsers.items ≡ parser_rules rules =
    c.in_ok-parsers.ensures ∙ ap parser_rules (ap (map rule_view) c.as_slice-2.ensures.value ∙ (c.in_ok-views.ensures
    ∙ c.as_slice.ensures)) in
    c.new.ensures ∙ steps_are c.args.source.now (map (λ r. r.now) c.in_ok-parsers.parsers.items)
    (map (λ r. r.now) c.as_slice-7.result.now)
    c.in_ok-named.named.texts.now c.in_ok-predicates.predicates.texts.now
    (lexers_in c.args.vocabulary.now) (types_in c.args.vocabulary.now) c.in_ok-made.made parsers
    (ap (map (λ r. r.now)) c.as_slice-7.ensures.value)
    (c.in_ok-named.ensures ∙ (c.as_slice-5.ensures.value ∙ (c.in_ok-names.ensures
    ∙ ap (map (λ rule. rule.name)) (ap (map (λ r. r.now)) c.as_slice-3.ensures.value))))
    (c.in_ok-predicates.ensures ∙ (c.as_slice-6.ensures.value ∙ (c.in_ok-texts.ensures
    ∙ ap (flat_map rule_predicates) (ap (map (λ r. r.now)) c.as_slice-4.ensures.value))))
    c.requires.numbered.lexers c.in_ok-made.ensures

pub new-requires : goal.new-requires
new-requires c =
    let source = c.args.source.now in
    let parsers : map (λ r. r.now) c.in_ok-parsers.parsers.items ≡ parser_rules source.rules =
    c.in_ok-parsers.ensures ∙ ap parser_rules (ap (map rule_view) c.as_slice-2.ensures.value ∙ (c.in_ok-views.ensures
    ∙ c.as_slice.ensures)) in
    subst (λ (made : List StepRule). CanBeRewritten made)
    (sym (steps_are source (map (λ r. r.now) c.in_ok-parsers.parsers.items) (map (λ r. r.now) c.as_slice-7.result.now)
    c.in_ok-named.named.texts.now c.in_ok-predicates.predicates.texts.now
    (lexers_in c.args.vocabulary.now) (types_in c.args.vocabulary.now) c.in_ok-made.made parsers
    (ap (map (λ r. r.now)) c.as_slice-7.ensures.value)
    (c.in_ok-named.ensures ∙ (c.as_slice-5.ensures.value ∙ (c.in_ok-names.ensures
    ∙ ap (map (λ rule. rule.name)) (ap (map (λ r. r.now)) c.as_slice-3.ensures.value))))
    (c.in_ok-predicates.ensures ∙ (c.as_slice-6.ensures.value ∙ (c.in_ok-texts.ensures
    ∙ ap (flat_map rule_predicates) (ap (map (λ r. r.now)) c.as_slice-4.ensures.value))))
    c.requires.numbered.lexers c.in_ok-made.ensures))
    (can_be_rewritten source.rules (token_lexers source.rules) (types_in c.args.vocabulary.now) c.requires.numbered.few_types
    c.requires.checked)
