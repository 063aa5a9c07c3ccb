use Rattle.std.proofs.Common.{rules, ◌≡◌, ◌≤◌, ◌++◌, ◌∷◌, [], ◌-◌, List, length, take, replicate, sym, subst}
use Rattle.g4_stacks.specs.Graph.{Content, IsNode}
use Rattle.g4_stacks.specs.Merge.{IsPart}
use Rattle.g4_stacks.proofs.Parts.{parts_before, parts_noted}
use Rattle.g4_stacks.proofs.graph.Graph.note_part.Goals as goal

pub invariant_of-self-in_err-push : goal.invariant_of-self-in_err-push
invariant_of-self-in_err-push c =
    let le : length c.self.inside.parts.items ≤ c.args.node = search rules in
    let node_in = subst (λ (g : List Content). IsNode g c.args.node) (sym c.self.view_is) c.requires.node in
    let filled : c.resize.new.self.items ≡ take c.args.node c.self.inside.parts.items
    ++ replicate (c.args.node - length c.self.inside.parts.items) 0 = search rules in
    let kept : c.push.new.self.items ≡ c.resize.new.self.items = search rules in
    record {
      canonical = c.self.invariant.canonical;
      memo = c.self.invariant.memo;
      parts = (parts_before c.self.inside.table c.self.inside.parts.items c.push.new.self.items c.args.node c.self.invariant.canonical
          le node_in (search rules) c.self.invariant.parts).0;
    }

pub invariant_of-self-2 : goal.invariant_of-self-2
invariant_of-self-2 c =
    let le : length c.self.inside.parts.items ≤ c.args.node = search rules in
    let node_in = subst (λ (g : List Content). IsNode g c.args.node) (sym c.self.view_is) c.requires.node in
    let part_in = subst (λ (g : List Content). IsNode g c.args.part) (sym c.self.view_is) c.requires.part in
    let has = subst (λ (g : List Content). IsPart g c.args.node c.args.part) (sym c.self.view_is) c.requires.has in
    let filled : c.resize.new.self.items ≡ take c.args.node c.self.inside.parts.items
    ++ replicate (c.args.node - length c.self.inside.parts.items) 0 = search rules in
    let more : c.push.new.self.items ≡ c.resize.new.self.items ++ c.args.part ∷ [] = search rules in
    let before = parts_before c.self.inside.table c.self.inside.parts.items c.resize.new.self.items c.args.node
    c.self.invariant.canonical le node_in filled c.self.invariant.parts in
    record {
      canonical = c.self.invariant.canonical;
      memo = c.self.invariant.memo;
      parts = parts_noted c.self.inside.table c.resize.new.self.items c.push.new.self.items c.args.node c.args.part node_in part_in
          has before more;
    }
