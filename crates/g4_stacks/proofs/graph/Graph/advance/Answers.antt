use Rattle.std.proofs.Common.{List, ℕ, ◌+◌, sym, subst, arith}
use Rattle.g4_stacks.specs.Canonical.{IsCanonical}
use Rattle.g4_stacks.proofs.Steps.{At, left_at, right_at, both_now}
use Rattle.g4_stacks.proofs.Merging.{step_both}
use Rattle.g4_stacks.proofs.graph.Graph.advance.Goals as goal

pub steps-preserved-in-Left : goal.steps-preserved-in-Left
steps-preserved-in-Left c = record {
  left = c.steps.invariant.left;
  right = c.steps.invariant.right;
  after = (let q = c.steps.invariant.after in omega arith);
  at = subst (λ (es : List (ℕ × ℕ)). At c.args.self.now c.steps.current.left c.steps.current.right (c.steps.current.i + 1)
      c.steps.current.j es) (sym c.in_ok-push-in-Left.ensures.items)
      (left_at c.args.self.now c.steps.current.left c.steps.current.right c.steps.current.i c.steps.current.j c.tops.result.now
      c.tops-in-steps.result.now c.steps.current.tops.items
      c.tops.ensures.read c.tops-in-steps.ensures.read c.steps.invariant.at c.in-Left.t c.in-Left.m c.in-Left.ensures);
}

pub steps-preserved-in-Right : goal.steps-preserved-in-Right
steps-preserved-in-Right c = record {
  left = c.steps.invariant.left;
  right = c.steps.invariant.right;
  after = c.steps.invariant.after;
  at = subst (λ (es : List (ℕ × ℕ)). At c.args.self.now c.steps.current.left c.steps.current.right c.steps.current.i
      (c.steps.current.j + 1) es) (sym c.in_ok-push-in-Right.ensures.items)
      (right_at c.args.self.now c.steps.current.left c.steps.current.right c.steps.current.i c.steps.current.j c.tops.result.now
      c.tops-in-steps.result.now c.steps.current.tops.items
      c.tops.ensures.read c.tops-in-steps.ensures.read c.steps.invariant.at c.in-Right.t c.in-Right.n c.in-Right.ensures);
}

pub steps-preserved : goal.steps-preserved
steps-preserved c = record {
  left = c.steps.invariant.left;
  right = c.steps.invariant.right;
  after = (let q = c.steps.invariant.after in omega arith);
  at = subst (λ (es : List (ℕ × ℕ)). At c.args.self.now c.steps.current.left c.steps.current.right (c.steps.current.i + 1)
      (c.steps.current.j + 1) es) (sym c.in_ok-push-in-Both.ensures.items)
      (step_both c.args.self.now c.steps.current.left c.steps.current.right _ _ c.steps.current.tops.items c.in-Both.t c.in-Both.m
      c.in-Both.n c.in-Some.both
      (subst IsCanonical c.self.view_is c.self.invariant.canonical)
      (both_now c.args.self.now c.steps.current.left c.steps.current.right c.steps.current.i c.steps.current.j c.tops.result.now
      c.tops-in-steps.result.now c.steps.current.tops.items
      c.tops.ensures.read c.tops-in-steps.ensures.read c.steps.invariant.at c.in-Both.t c.in-Both.m c.in-Both.n c.in-Both.ensures)
      c.in-Some.ensures.known c.in-Some.ensures.means);
}
