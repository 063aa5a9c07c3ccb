use Rattle.std.proofs.Common.{List, sym, ◌∙◌, subst}
use Rattle.std.proofs.lemmas.Option.{slice_get_within}
use Rattle.g4_stacks.specs.Graph.{Content, IsNode}
use Rattle.g4_stacks.specs.Canonical.{IsCanonical}
use Rattle.g4_stacks.specs.Merge.{IsPart, IsUnion}
use Rattle.g4_stacks.proofs.Keys.{key_part}
use Rattle.g4_stacks.proofs.Steps.{joined}
use Rattle.g4_stacks.proofs.graph.Graph.finish.Goals as goal

pub keep_merged-requires-clause-means : goal.keep_merged-requires-clause-means
keep_merged-requires-clause-means c = joined c.args.self.now c.intern.new.self c.args.done.left c.args.done.right c.in_ok-result.result
    (record { end = c.either_end-end.result; wild = c.either_wild-wild.result; tops = c.args.done.tops.items })
    (subst IsCanonical c.self.view_is c.self.invariant.canonical) c.requires c.either_end-end.ensures c.either_wild-wild.ensures
    c.intern.ensures.grows c.in_ok-result.ensures.holds

pub returns-clause-known : goal.returns-clause-known
returns-clause-known c = subst (λ (g : List Content). IsNode g c.in_ok-result.result)
    (sym (c.note_part.ensures ∙ c.keep_merged.ensures))
    (slice_get_within c.intern.new.self c.in_ok-result.result _ c.in_ok-result.ensures.holds)

pub returns-clause-means : goal.returns-clause-means
returns-clause-means c = subst (λ (g : List Content). IsUnion g c.args.done.left c.args.done.right g c.in_ok-result.result)
    (sym (c.note_part.ensures ∙ c.keep_merged.ensures))
    (joined c.args.self.now c.intern.new.self c.args.done.left c.args.done.right c.in_ok-result.result
    (record { end = c.either_end-end.result; wild = c.either_wild-wild.result; tops = c.args.done.tops.items })
    (subst IsCanonical c.self.view_is c.self.invariant.canonical) c.requires c.either_end-end.ensures c.either_wild-wild.ensures
    c.intern.ensures.grows c.in_ok-result.ensures.holds)

pub note_part-requires-clause-has : goal.note_part-requires-clause-has
note_part-requires-clause-has c = subst (λ (g : List Content). IsPart g c.in_ok-result.result c.ordered-low.result.0)
    (sym c.keep_merged.ensures)
    (key_part c.intern.new.self c.args.done.left c.args.done.right c.ordered-low.result.0 c.ordered-low.result.1 c.in_ok-result.result
    c.ordered-low.ensures
    (joined c.args.self.now c.intern.new.self c.args.done.left c.args.done.right c.in_ok-result.result
    (record { end = c.either_end-end.result; wild = c.either_wild-wild.result; tops = c.args.done.tops.items })
    (subst IsCanonical c.self.view_is c.self.invariant.canonical) c.requires c.either_end-end.ensures c.either_wild-wild.ensures
    c.intern.ensures.grows c.in_ok-result.ensures.holds))
