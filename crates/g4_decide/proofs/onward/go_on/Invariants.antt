use Rattle.std.proofs.Common.{◌≡◌, ◌+◌, drop}
use Rattle.g4_tokens.specs.TokenList.{word_of}
use Rattle.g4_decide.specs.Going.{CameTo, IsHere, Keeps, Question}
use Rattle.g4_decide.proofs.onward.go_on.Given as goal

abbrev pub invariant-loop-index : goal.invariant-loop-index
invariant-loop-index g l =
    (q : Question) → CameTo g.B.Home.plan q l.at l.row l.fn.pass → drop l.at q.word ≡ word_of l.tokens
    → IsHere g.B.Home.plan q (l.at + l.index) l.here l.pass × Keeps g.B.Home.plan q l.fn.pass l.pass × (l.pass.1 ≡ l.fn.pass.1)
