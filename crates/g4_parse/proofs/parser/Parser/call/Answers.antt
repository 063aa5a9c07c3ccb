use Rattle.std.proofs.Common.{◌<◌, ◌∷◌, length, refl, ap, arith}
use Rattle.g4_trees.specs.Trees.{no_tree}
use Rattle.g4_net.specs.Network.{start_of, written_at}
use Rattle.g4_parse.specs.Standing.{grown}
use Rattle.g4_run.specs.Running.{deepest}
use Rattle.g4_parse.proofs.Grown.{length_returns}
use Rattle.g4_parse.proofs.parser.Parser.call.Goals as goal

pub returns-then-len-ge-DEEPEST : goal.returns-then-len-ge-DEEPEST
returns-then-len-ge-DEEPEST c = λ values word r h. (omega (arith, length_returns r.frames, ap length h.returns), cc)

pub returns : goal.returns
returns c = λ values word r h.
    let deep : length r.frames < deepest = omega (arith, length_returns r.frames, ap length h.returns) in (
      record {
        state = start_of c.args.opened.rule;
        place = r.place;
        frames = record {
          back = c.args.back;
          level = c.args.opened.level;
          rule = c.args.opened.rule;
          alt = written_at c.args.net.now (start_of c.args.opened.rule);
          at = r.place;
          children = no_tree;
        } ∷ r.frames;
        tree = r.tree;
      },
      (deep, refl),
      record {
        state = refl;
        place = h.place;
        returns = cc (h.returns, c.in_ok-push.ensures.items);
        opened = cc (h.opened, c.in_ok-push-2.ensures.items);
        tree = rw (← h.place, ← c.as_slice.ensures) (c.in_ok-open.ensures (grown r.frames r.tree) h.tree);
      },
    )
