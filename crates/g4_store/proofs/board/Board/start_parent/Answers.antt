use Rattle.std.proofs.Common.{ap, arith}
use Rattle.g4_store.proofs.board.Board.start_parent.Goals as goal

pub overflow_add-result : goal.overflow_add-result
overflow_add-result g c = let b = c.self.invariant in let r = c.requires in let e = ap (λ (p : _). p.starts) b.2 in let s = b.5 in
    omega arith
