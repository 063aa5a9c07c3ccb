use Rattle.std.proofs.Common.{◌≡◌, drop}
use Rattle.g4_grammar_tokens.specs.Comments.{comment_end}
use Rattle.g4_grammar_tokens.proofs.Comments.{comment_end_from}
use Rattle.g4_grammar_tokens.proofs.comment.comment_end.Given as goal

abbrev pub invariant-loop-at : goal.invariant-loop-at
invariant-loop-at l = comment_end_from l.at (drop l.at l.text) ≡ comment_end l.text
