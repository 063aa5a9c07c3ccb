use Rattle.std.proofs.Common.{◌≡◌, ◌-◌, [], false}
use Rattle.g4_hands.specs.Reaches.{reach}
use Rattle.g4_hands.specs.Rows.{HaveOneMore}
use Rattle.g4_hands.specs.Shares.{share}
use Rattle.g4_hands.proofs.row.lend.Given as goal

abbrev pub invariant-loop-number : goal.invariant-loop-number
invariant-loop-number l =
    let pile = l.fn.pile in
    HaveOneMore l.from l.number (reach false pile.deque (share 1 pile.share.dealt [])) l.fn.rows l.rows
    × (l.pile ≡ reach pile.own pile.deque (share (pile.share.parts - (l.number - l.from)) pile.share.dealt pile.share.taken))
