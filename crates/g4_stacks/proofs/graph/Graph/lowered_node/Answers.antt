use Rattle.std.proofs.Common.{rules, ◌≡◌, ◌∙◌, ℕ, List, get_or, sym, subst}
use Rattle.std.proofs.lemmas.Option.{slice_get-get_or}
use Rattle.g4_stacks.specs.Graph.{HasTops}
use Rattle.g4_stacks.proofs.Below.{image_bound, image_node, keeps_then, lowering_all, lowering_more}
use Rattle.g4_stacks.proofs.graph.Graph.lowered_node.Goals as goal

pub bounds-images-below : goal.bounds-images-below
bounds-images-below c =
    image_bound c.args.self.now c.args.node c.loop-entry.entry-index c.as_slice-entry-items.result.now c.args.images.now
    c.is_canonical.ensures
    (c.as_slice-entry-items.ensures.value ∙ (c.in_ok-tops.ensures.items_if_clones_equal (λ y is. search rules) ∙ c.tops.ensures.read))
    c.loop-entry-test.true c.requires.before

pub push-requires : goal.push-requires
push-requires c =
    let less =
    image_bound c.args.self.now c.args.node c.loop-entry.entry-index c.as_slice-entry-items.result.now c.args.images.now
    c.is_canonical.ensures
    (c.as_slice-entry-items.ensures.value ∙ (c.in_ok-tops.ensures.items_if_clones_equal (λ y is. search rules) ∙ c.tops.ensures.read))
    c.loop-entry-test.true c.requires.before in
    image_node c.args.self.now c.loop-entry.self c.args.under
    (get_or c.as_slice-entry-items.result.now c.loop-entry.entry-index (0, 0)).1 c.args.images.now c.loop-entry.invariant.keeps
    c.requires.images less

pub returns-in_err-image-clause-keeps : goal.returns-in_err-image-clause-keeps
returns-in_err-image-clause-keeps c = keeps_then c.args.self.now c.loop-entry.self c.push.new.self c.loop-entry.invariant.keeps
    c.push.ensures.keeps

pub returns-in_err-result-clause-keeps : goal.returns-in_err-result-clause-keeps
returns-in_err-result-clause-keeps c =
    keeps_then c.args.self.now c.push.new.self c.merge.new.self
    (keeps_then c.args.self.now c.loop-entry.self c.push.new.self c.loop-entry.invariant.keeps c.push.ensures.keeps)
    c.merge.ensures.keeps

pub loop-entry-preserved : goal.loop-entry-preserved
loop-entry-preserved c =
    let items = c.as_slice-entry-items.result.now in
    let j = c.loop-entry.entry-index in
    let entry = get_or items j (0, 0) in
    let less =
    image_bound c.args.self.now c.args.node j items c.args.images.now c.is_canonical.ensures
    (c.as_slice-entry-items.ensures.value ∙ (c.in_ok-tops.ensures.items_if_clones_equal (λ y is. search rules) ∙ c.tops.ensures.read))
    c.loop-entry-test.true c.requires.before in
    lowering_more c.args.self.now c.args.node c.args.under items c.loop-entry.self c.push.new.self c.merge.new.self c.args.images.now
    j c.loop-entry.result entry.0 entry.1 (get_or c.args.images.now entry.1 0) c.in_ok-image.image c.in_ok-result.result
    c.loop-entry.invariant (slice_get-get_or items j (0, 0) c.loop-entry-test.true) c.requires.images
    (slice_get-get_or c.args.images.now entry.1 0 less)
    c.push.ensures.keeps c.in_ok-image.ensures.known c.in_ok-image.ensures.means c.merge.ensures.keeps c.in_ok-result.ensures.known
    c.in_ok-result.ensures.means

pub returns-clause-means : goal.returns-clause-means
returns-clause-means c =
    let items = c.as_slice-entry-items.result.now in
    let same : items ≡ c.tops.result.now = c.as_slice-entry-items.ensures.value
    ∙ c.in_ok-tops.ensures.items_if_clones_equal (λ y is. search rules) in
    lowering_all c.args.self.now c.args.node c.args.under items c.loop-entry.self c.loop-entry.entry-index c.loop-entry.result
    (subst (λ (xs : List (ℕ × ℕ)). HasTops c.args.self.now c.args.node xs) (sym same) c.tops.ensures.means) c.loop-entry.invariant
    (search rules)
