use Rattle.std.proofs.Common.{◌<◌, All, length, reverse, sym, subst}
use Rattle.std.proofs.lemmas.List.Elements.{All-take}
use Rattle.g4_configs.specs.Configs.{Holds}
use Rattle.g4_full.proofs.Placing.{lowers_framed, lowers_to}
use Rattle.g4_full.proofs.lowering.lower_all.Goals as goal

pub returns-then-branch : goal.returns-then-branch
returns-then-branch c = record {
  same = λ d. ((λ x. x), (λ x. x));
  down = c.in_ok-is_down.ensures.down c.if-branch.true;
  framed = c.requires.framed;
  within = c.requires.within;
  states = c.requires.states;
}

pub lower-requires-clause-bottomed : goal.lower-requires-clause-bottomed
lower-requires-clause-bottomed c = c.requires.framed.bottomed

pub returns-then-branch-2 : goal.returns-then-branch-2
returns-then-branch-2 c = record {
  same =
      lowers_to c.args.net.now (Holds c.args.from) (Holds c.in_ok-set.set) c.args.returns.now c.split_at.result.0.now
      c.split_at.result.1.now c.left_below-left.result c.split_at.ensures.front c.split_at.ensures.back c.requires.framed
      c.in_ok-set.ensures.members;
  down = c.in_ok-is_down-2.ensures.down c.if-branch-2.true;
  framed = lowers_framed c.args.net.now (Holds c.args.from) (Holds c.in_ok-set.set) (reverse c.split_at.result.1.now)
      c.requires.framed c.in_ok-set.ensures.members;
  within = c.in_ok-set.ensures.within;
  states = subst (All (λ t. t < length c.args.net.now.states)) (sym c.split_at.ensures.front)
      (All-take (λ t. t < length c.args.net.now.states) c.left_below-left.result c.args.returns.now c.requires.states);
}
