use Rattle.std.proofs.Common.{ℕ, List, Ok, ap, subst, ◌∙◌}
use Rattle.std.proofs.lemmas.Result.{err_from_is_err_and}
use Rattle.g4_load.specs.Building.{Lays, names_of}
use Rattle.g4_load.specs.Listing.{IsStartListing, ListsStart}
use Rattle.g4_load.specs.Stages.{goes_on}
use Rattle.g4_load.proofs.Built.{stage_stops}
use Rattle.g4_load.proofs.listing.list_from.Goals as goal

pub returns-in_err-net : goal.returns-in_err-net
returns-in_err-net c =
    let p = err_from_is_err_and c.from_residual-in_err-net.result c.from_residual-in_err-net.ensures.1 in
    let grammar = c.args.grammar.now in
    rw (p.1, p.2) (stage_stops (Lays c.args.rule.now grammar.rules) (ListsStart (names_of grammar.rules) grammar.shown)
    c.in_err-net.field-0.0 c.in_err-net.ensures.laid)

pub returns : goal.returns
returns c =
    let grammar = c.args.grammar.now in
    let net = c.in_ok-net.net in
    let listing = c.in_ok-listing.listing in
    let named = c.as_slice-2.ensures ∙ (c.in_ok-names.ensures ∙ ap names_of c.as_slice.ensures.rules) in
    let listed = subst (λ (names : List (List ℕ)). IsStartListing names c.as_slice-3.result.now net listing) named
    c.in_ok-listing.ensures in
    goes_on net (Ok listing) c.in_ok-net.ensures.laid
    (subst (λ (shown : List (List ℕ)). IsStartListing (names_of grammar.rules) shown net listing) c.as_slice-3.ensures listed)
