use Rattle.std.proofs.Common.{ap, arith}
use Rattle.g4_store.proofs.Moves.{sends_off}
use Rattle.g4_store.proofs.store.Opened.named.Goals as goal

pub split_seat-first-requires : goal.split_seat-first-requires
split_seat-first-requires g c =
    let f = c.args.self.fits in (
      f.0,
      (let a = f.3 in let b = f.6 in omega arith),
      sends_off g.A.Automaton.starts g.A.Automaton.leads _ _ _ (ap (λ m. m.0.spent) f.1) (ap (λ m. m.0.is_book) f.1)
          (ap (λ m. m.0.loose) f.1),
    )
