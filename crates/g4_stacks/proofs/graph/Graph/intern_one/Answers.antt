use Rattle.g4_stacks.specs.Table.{one_of}
use Rattle.g4_stacks.proofs.Growing.{interned}
use Rattle.g4_stacks.proofs.Memo.{memo_grown}
use Rattle.g4_stacks.proofs.Parts.{parts_grown}
use Rattle.g4_stacks.proofs.Taking.{Grows-added}
use Rattle.g4_stacks.proofs.graph.Graph.intern_one.Goals as goal

pub invariant_of-self-2 : goal.invariant_of-self-2
invariant_of-self-2 c =
    record {
      canonical = interned c.self.inside.table c.args.self.now c.intern_one.new.self (one_of c.args.state c.args.node) c.self.view_is
          c.self.invariant.canonical c.requires c.in_ok-result.ensures.added;
      memo = memo_grown c.self.inside.table c.intern_one.new.self c.self.inside.merged.entries c.self.invariant.canonical
          (Grows-added _ _ _ c.in_ok-result.ensures.added) c.self.invariant.memo;
      parts = parts_grown c.self.inside.table c.intern_one.new.self c.self.inside.parts.items c.self.invariant.canonical
          (Grows-added _ _ _ c.in_ok-result.ensures.added) c.self.invariant.parts;
    }

pub returns-clause-canonical : goal.returns-clause-canonical
returns-clause-canonical c = interned c.self.inside.table c.args.self.now c.intern_one.new.self (one_of c.args.state c.args.node)
    c.self.view_is c.self.invariant.canonical c.requires c.in_ok-result.ensures.added
