use Rattle.std.proofs.Common.{rules, ◌≡◌, ◌<◌, ◌++◌, ◌∷◌, [], List, sym, ◌∙◌, subst}
use Rattle.std.proofs.lemmas.List.{append-nil}
use Rattle.g4_stacks.specs.Canonical.{IsCanonical}
use Rattle.g4_stacks.specs.Joining.{Awaits}
use Rattle.g4_stacks.specs.declared.joining.Joining.{Joining}
use Rattle.g4_stacks.proofs.Waiting.{IsStacked, work, stacked, opened, opened_smaller, closed, closed_smaller, ended}
use Rattle.g4_stacks.proofs.graph.Graph.join.Goals as goal

pub merges-init : goal.merges-init
merges-init c = stacked c.args.self.now c.args.a c.args.b c.new-current.result c.new-waiting.result.items
    (subst IsCanonical c.self.view_is c.self.invariant.canonical) c.requires.left c.requires.right
    c.new-waiting.ensures.items c.new-current.ensures.left c.new-current.ensures.right c.new-current.ensures.first
    c.new-current.ensures.none

pub merges-preserved-in-Some-2 : goal.merges-preserved-in-Some-2
merges-preserved-in-Some-2 c =
    let awaits : Awaits c.merges.self c.merges.current.i c.advance.new.current c.in-Some-2.m c.in-Some-2.n = search rules in
    let pushed : c.push.new.self.items ≡ c.merges.waiting.items ++ c.advance.new.current ∷ [] = search rules in
    subst (λ (es : List Joining). IsStacked c.args.self.now c.merges.self c.args.a c.args.b es c.new-current-in-Some-2.result) (sym pushed)
    (opened c.args.self.now c.merges.self c.args.a c.args.b c.merges.waiting.items c.merges.current c.advance.new.current
    c.new-current-in-Some-2.result c.in-Some-2.m c.in-Some-2.n
    (subst IsCanonical c.self.view_is c.self.invariant.canonical) c.merges.invariant c.in_ok-m.ensures.left c.in_ok-m.ensures.right awaits
    c.new-current-in-Some-2.ensures.left c.new-current-in-Some-2.ensures.right c.new-current-in-Some-2.ensures.first
    c.new-current-in-Some-2.ensures.none)

pub merges-preserved : goal.merges-preserved
merges-preserved c =
    let popped : c.merges.waiting.items ≡ c.pop.new.self.items ++ c.in-Some-pop.below ∷ [] = c.in-Some-pop.ensures.items in
    closed c.args.self.now c.merges.self c.finish.new.self c.args.a c.args.b c.merges.waiting.items c.pop.new.self.items
    c.merges.current c.advance.new.current c.in-Some-pop.below c.in_ok-current-in-Some-pop.current
    c.in_ok-result.result c.merges.invariant c.in_ok-m.ensures.left c.in_ok-m.ensures.right popped
    c.in_ok-current-in-Some-pop.ensures.left c.in_ok-current-in-Some-pop.ensures.places
    c.in_ok-result.ensures.grows c.in_ok-result.ensures.canonical c.in_ok-result.ensures.known c.in_ok-result.ensures.means
    c.in_ok-current-in-Some-pop.ensures.right c.in_ok-current-in-Some-pop.ensures.more

pub returns-in-None-clause-means : goal.returns-in-None-clause-means
returns-in-None-clause-means c =
    let none : c.pop.new.self.items ≡ [] = search rules in
    let empty : c.merges.waiting.items ≡ [] = c.in-None.ensures.items ∙ append-nil c.pop.new.self.items ∙ none in
    ended c.args.self.now c.merges.self c.finish.new.self c.args.a c.args.b c.merges.waiting.items c.merges.current
    c.advance.new.current c.in_ok-result.result
    (subst IsCanonical c.self.view_is c.self.invariant.canonical) c.requires.left c.requires.right c.merges.invariant
    c.in_ok-m.ensures.left c.in_ok-m.ensures.right
    c.in_ok-result.ensures.grows c.in_ok-result.ensures.means empty

pub merges-smaller : goal.merges-smaller
merges-smaller c =
    let popped : c.merges.waiting.items ≡ c.pop.new.self.items ++ c.in-Some-pop.below ∷ [] = c.in-Some-pop.ensures.items in
    closed_smaller c.args.self.now c.merges.self c.finish.new.self c.args.a c.args.b c.merges.waiting.items c.pop.new.self.items
    c.merges.current c.advance.new.current c.in-Some-pop.below c.in_ok-current-in-Some-pop.current
    c.in_ok-result.result c.merges.invariant c.in_ok-m.ensures.left c.in_ok-m.ensures.right popped
    c.in_ok-current-in-Some-pop.ensures.left c.in_ok-current-in-Some-pop.ensures.places

pub merges-smaller-in-Some-2 : goal.merges-smaller-in-Some-2
merges-smaller-in-Some-2 c =
    let awaits : Awaits c.merges.self c.merges.current.i c.advance.new.current c.in-Some-2.m c.in-Some-2.n = search rules in
    let pushed : c.push.new.self.items ≡ c.merges.waiting.items ++ c.advance.new.current ∷ [] = search rules in
    subst (λ (es : List Joining). work c.args.self.now es c.new-current-in-Some-2.result
    < work c.args.self.now c.merges.waiting.items c.merges.current) (sym pushed)
    (opened_smaller c.args.self.now c.merges.self c.args.a c.args.b c.merges.waiting.items c.merges.current c.advance.new.current
    c.new-current-in-Some-2.result c.in-Some-2.m c.in-Some-2.n
    (subst IsCanonical c.self.view_is c.self.invariant.canonical) c.merges.invariant c.in_ok-m.ensures.left c.in_ok-m.ensures.right awaits
    c.new-current-in-Some-2.ensures.left c.new-current-in-Some-2.ensures.right c.new-current-in-Some-2.ensures.first)
