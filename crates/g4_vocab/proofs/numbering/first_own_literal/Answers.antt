use Rattle.std.proofs.Common.{◌≡◌, List, map, option_map, slice_get, sym, ap, ◌∙◌, subst}
use Rattle.std.specs.Borrow.{Bor}
use Rattle.std.proofs.lemmas.Option.{slice_get-map}
use Rattle.g4_source.specs.declared.atom.Atom.{Atom}
use Rattle.g4_source.specs.declared.atom.Literal.{Literal}
use Rattle.g4_source.specs.declared.rule.LexerRule.{LexerRule}
use Rattle.g4_source.specs.declared.rule.ParserRule.{ParserRule}
use Rattle.g4_source.specs.declared.rule.Rule.{Rule}
use Rattle.g4_vocab.specs.Halves.{AreHalves}
use Rattle.g4_vocab.specs.Numbering.{all_atoms, all_references, own_literals}
use Rattle.g4_vocab.specs.Tables.{reference_of}
use Rattle.g4_vocab.proofs.Sources.{own_are}
use Rattle.g4_vocab.proofs.numbering.first_own_literal.Goals as goal

pub returns : goal.returns
returns c =
    let source = c.args.source.now in
    let own = c.in_ok-own.own.items in
    let parsers : List (ParserRule Atom) = map (λ r. r.now) c.in_ok-halves.halves.parsers.items in
    let lexers : List LexerRule = map (λ r. r.now) c.in_ok-halves.halves.lexers.items in
    let halves : AreHalves source.rules parsers lexers =
    subst (λ (rs : List Rule). AreHalves rs parsers lexers) c.as_slice.ensures c.in_ok-halves.ensures in
    let named : map reference_of c.in_ok-tokens.tokens.items ≡ all_references (all_atoms parsers) =
    c.in_ok-tokens.ensures ∙ ap (λ ps. all_references (all_atoms (map (λ r. r.now) ps))) c.as_slice-2.ensures.value in
    let is : map (λ l. l.now) own ≡ own_literals lexers (map reference_of c.in_ok-tokens.tokens.items) =
    c.in_ok-own.ensures
    ∙ (ap (λ (ls : List LexerRule). own_literals ls (map reference_of c.as_slice-3.result.now)) c.in_ok-wholes.ensures
    ∙ ap (λ ts. own_literals lexers (map reference_of ts)) c.as_slice-3.ensures.value) in
    ap (option_map (λ l. l.now))
    (c.copied.ensures ∙ (c.first.ensures.value ∙ ap (λ (ls : List (Bor Literal)). slice_get ls 0) c.deref.ensures.value))
    ∙ (sym (slice_get-map (λ l. l.now) own 0)
    ∙ ap (λ (ls : List Literal). slice_get ls 0)
    (own_are source parsers lexers (map reference_of c.in_ok-tokens.tokens.items) (map (λ l. l.now) own) halves named is))
