use Rattle.std.proofs.Common.{ℕ, List, [], ◌∷◌, ◌++◌, set, sym, subst}
use Rattle.g4_classes.specs.Partitions.{IsDividing}
use Rattle.g4_classes.proofs.Dividing.{has_moved, moves}
use Rattle.g4_classes.proofs.Places.{found}
use Rattle.g4_classes.proofs.partition.Partition.move_symbol.Goals as goal

pub returns-then-block-first_new-clause-moves : goal.returns-then-block-first_new-clause-moves
returns-then-block-first_new-clause-moves c = λ seen old d.
    let symbol = c.args.symbol in
    let now = c.args.self.now in
    let at = found symbol c.in-Some.index (sym c.in-Some.ensures) in
    has_moved seen old c.args.first_new symbol now.blocks.items now.moved.items d c.in-Some.index c.index-block.result.now now.count
    at c.index-block.ensures c.if-block-first_new.true

pub returns-clause-moves : goal.returns-clause-moves
returns-clause-moves c = λ seen old d.
    let symbol = c.args.symbol in
    let now = c.args.self.now in
    let target = c.in_ok-target.target in
    let at = found symbol c.in-Some.index (sym c.in-Some.ensures) in
    subst (λ (blocks : List ℕ). IsDividing (seen ++ symbol ∷ []) old c.args.first_new (set blocks c.in-Some.index target)
    c.target.new.self.moved.items) (sym c.in_ok-target.ensures.blocks)
    (moves seen old c.args.first_new symbol now.blocks.items now.moved.items d c.in-Some.index c.index-block.result.now target
    c.target.new.self.moved.items now.count at c.index-block.ensures c.if-block-first_new.false c.in_ok-target.ensures.target)
