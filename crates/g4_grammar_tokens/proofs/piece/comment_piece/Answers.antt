use Rattle.std.proofs.Common.{◌≡◌, Some, None, drop, ap, sym, ◌∙◌}
use Rattle.std.proofs.lemmas.List.{take_rest}
use Rattle.g4_grammar_tokens.specs.Comments.{comment_end}
use Rattle.g4_grammar_tokens.specs.Pieces.{comment, with_end, endless, ends}
use Rattle.g4_grammar_tokens.proofs.Found.{no_comment}
use Rattle.g4_grammar_tokens.proofs.piece.comment_piece.Goals as goal

pub returns-in-Some-clause-value : goal.returns-in-Some-clause-value
returns-in-Some-clause-value c =
    let rest = c.args.rest.now in
    let is : comment_end (drop 1 rest) ≡ Some c.in-Some.taken = ap comment_end (sym (take_rest rest 1)) ∙ sym c.in-Some.ensures.value in
    with_end comment rest _ (ends c.in-Some.taken is)

pub returns-in-None-clause-value : goal.returns-in-None-clause-value
returns-in-None-clause-value c =
    let rest = c.args.rest.now in
    let is : comment_end (drop 1 rest) ≡ None = ap comment_end (sym (take_rest rest 1)) ∙ sym c.in-None.ensures.value in
    endless comment rest (λ more ending. no_comment rest more is ending)
