use Rattle.g4_grammar_tokens.proofs.Comments.{steps_find}
use Rattle.g4_grammar_tokens.proofs.comment.comment_end.Goals as goal

pub loop-at-init : goal.loop-at-init
loop-at-init c = steps_find c.args.text.now
