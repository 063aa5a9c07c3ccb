use Rattle.std.proofs.Common.{ℕ, List, map, Bool, refl, ap, subst, ◌∙◌}
use Rattle.std.specs.Borrow.{Bor}
use mathlib.Core.Path.{fun_ext}
use Rattle.g4_source.specs.declared.atom.Atom.{Atom}
use Rattle.g4_source.specs.declared.rule.LexerRule.{LexerRule}
use Rattle.g4_source.specs.declared.rule.ParserRule.{ParserRule}
use Rattle.g4_checks.specs.References.{atoms_in, lexers_in, parser_names, parsers_in}
use Rattle.g4_source.specs.First.{FindsFirst}
use Rattle.g4_checks.specs.Names.{is_one_of}
use Rattle.g4_checks.specs.Uses.{IsUndefined}
use Rattle.g4_checks.specs.Views.{use_view}
use Rattle.g4_source.proofs.Firsts.{found_same}
use Rattle.g4_checks.proofs.Known.{names_lent}
use Rattle.g4_checks.proofs.undefined.first_undefined_rule.Goals as goal

pub returns : goal.returns
returns c =
    let source = c.args.source.now in
    let parsers = fun_ext (λ text. c.in_ok-parsers.ensures text
    ∙ ap (λ (names : List (List ℕ)). is_one_of names text)
    (names_lent (λ (r : ParserRule Atom). r.name) (λ (x : Bor (ParserRule Atom)). x.now) c.as_slice.result.now
    c.args.parts.now.parsers.items (parsers_in source) c.as_slice.ensures.value c.requires.parsers)) in
    let lexers = fun_ext (λ text. c.in_ok-lexers.ensures text
    ∙ ap (λ (names : List (List ℕ)). is_one_of names text)
    (names_lent (λ (r : LexerRule). r.name) (λ (x : Bor LexerRule). x.now) c.as_slice-2.result.now c.args.parts.now.lexers.items
    (lexers_in source) c.as_slice-2.ensures.value c.requires.lexers)) in
    subst (λ (is_lexer : List ℕ → Bool). FindsFirst (IsUndefined (is_one_of (parser_names source)) is_lexer) (atoms_in source)
    c.in_ok-found.found) lexers
    (found_same (λ (is_parser : List ℕ → Bool). IsUndefined is_parser (is_one_of c.in_ok-lexers.lexers))
    (is_one_of c.in_ok-parsers.parsers) (is_one_of (parser_names source)) (map use_view c.as_slice-3.result.now) (atoms_in source)
    c.in_ok-found.found c.in_ok-found.found parsers (ap (map use_view) c.as_slice-3.ensures.value ∙ c.requires.atoms) refl
    c.in_ok-found.ensures)
