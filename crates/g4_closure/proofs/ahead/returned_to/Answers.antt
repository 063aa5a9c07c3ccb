use Rattle.std.proofs.Common.{rules, IsTrue, ◌≡◌, ℕ, Some, List, slice_get, sym, ◌∙◌, subst}
use Rattle.g4_closure.proofs.Following.{top_returned, wild_returned}
use Rattle.g4_closure.proofs.ahead.returned_to.Goals as goal

pub returns-in-Some : goal.returns-in-Some
returns-in-Some c = top_returned c.args.net.now c.requires.well_formed c.args.set.now c.args.group c.args.rule c.tops.result.now
    c.in-Some.state c.in-Some.stacks c.tops.ensures (sym c.first.ensures.value ∙ sym c.copied.ensures ∙ c.in-Some.is)

pub returns : goal.returns
returns c = wild_returned c.args.net.now c.requires.well_formed c.args.set.now c.args.group c.args.rule c.tops.result.now
    c.wild.result c.in_ok-state.state c.tops.ensures c.wild.ensures.known c.wild.ensures.means
    (c.has_wild.ensures.0 (let held : IsTrue c.has_wild.result = search rules in held))
    (subst (λ (xs : List ℕ). slice_get xs 0 ≡ Some c.in_ok-state.state) c.callers_of.ensures
    (sym c.first-2.ensures.value ∙ sym c.copied-2.ensures ∙ c.in_ok-state.was))
