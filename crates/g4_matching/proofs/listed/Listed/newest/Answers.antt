use Rattle.std.proofs.Common.{rules, ◌≡◌, sym, ◌∙◌, Some, None, slice_get, subst}
use Rattle.g4_matching.specs.Listed.{IsNewest}
use Rattle.g4_matching.proofs.Lookups.{got, got_none}
use Rattle.g4_matching.proofs.Indexed.{none_noted, none_there, none_of_state, newest_there}
use Rattle.g4_matching.proofs.listed.Listed.newest.Goals as goal

pub returns-in_err-place : goal.returns-in_err-place
returns-in_err-place c =
    let none : slice_get c.self.inside.newest c.args.key ≡ None = search rules in
    subst (λ l. IsNewest l c.args.key c.from_residual.result) c.self.view_is
    (none_noted _ _ _ c.self.invariant c.args.key _ none c.from_residual.ensures)

pub returns-in_err-entry : goal.returns-in_err-entry
returns-in_err-entry c =
    let place : slice_get c.self.inside.newest c.args.key ≡ Some c.in_ok-place.place = search rules in
    let past : slice_get c.self.inside.entries.items c.in_ok-place.place ≡ None =
    got_none _ _ _ c.deref.ensures.value c.in_err-entry.ensures.lookup.3 in
    subst (λ l. IsNewest l c.args.key c.from_residual-in_err-entry.result) c.self.view_is
    (none_there _ _ _ c.self.invariant c.args.key _ _ place past c.from_residual-in_err-entry.ensures)

pub returns-then-found-key : goal.returns-then-found-key
returns-then-found-key c =
    let place : slice_get c.self.inside.newest c.args.key ≡ Some c.in_ok-place.place = search rules in
    let there : slice_get c.self.inside.entries.items c.in_ok-place.place ≡ Some c.in_ok-entry.entry.now =
    got _ _ _ _ c.deref.ensures.value c.in_ok-entry.ensures.lookup.3.0 c.in_ok-entry.ensures.lookup.1 in
    subst (λ l. IsNewest l c.args.key None) c.self.view_is
    (none_of_state _ _ _ c.self.invariant c.args.key _ _ place there (λ is. c.if-found-key.true (c.key-found.ensures ∙ is)))

pub returns : goal.returns
returns c =
    let place : slice_get c.self.inside.newest c.args.key ≡ Some c.in_ok-place.place = search rules in
    let there : slice_get c.self.inside.entries.items c.in_ok-place.place ≡ Some c.in_ok-entry.entry.now =
    got _ _ _ _ c.deref.ensures.value c.in_ok-entry.ensures.lookup.3.0 c.in_ok-entry.ensures.lookup.1 in
    subst (λ l. IsNewest l c.args.key (Some c.in_ok-place.place)) c.self.view_is
    (newest_there _ _ _ c.self.invariant c.args.key _ _ place there (sym c.key-found.ensures ∙ c.if-found-key.false))
