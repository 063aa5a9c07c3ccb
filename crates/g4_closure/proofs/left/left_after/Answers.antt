use Rattle.std.proofs.Common.{rules, ◌≡◌, [], List, sym, ◌∙◌, subst}
use Rattle.g4_net.specs.Configurations.{Config, IsWithin}
use Rattle.g4_net.specs.Lookahead.{Next, Rest}
use Rattle.g4_configs.specs.declared.group.Group.{Group}
use Rattle.g4_configs.specs.Configs.{Holds}
use Rattle.g4_configs.specs.Groups.{AreKnown, InSome}
use Rattle.g4_closure.specs.Steps.{targets_of}
use Rattle.g4_closure.proofs.Joining.{groups_known, known_kept}
use Rattle.g4_closure.proofs.Taking.{known_targets, taken_within}
use Rattle.g4_closure.proofs.Remaining.{empty_of, keeps_same, left_same, next_of, none_next, only_same}
use Rattle.g4_closure.proofs.left.left_after.Goals as goal

pub returns-then-is_empty : goal.returns-then-is_empty
returns-then-is_empty c =
    let is : c.as_slice-firsts.result.now ≡ targets_of c.args.net.now c.args.symbol c.in_ok-groups.groups.items = search rules in
    let none : c.as_slice-firsts.result.now ≡ [] = empty_of c.as_slice-firsts.result.now (sym c.is_empty.ensures ∙ c.if-is_empty.true) in
    none_next c.args.net.now c.args.set c.args.symbol c.in_ok-groups.groups.items c.as_slice-firsts.result.now c.in_ok-groups.ensures
    is none

pub sole_alternative-requires-clause-known : goal.sole_alternative-requires-clause-known
sole_alternative-requires-clause-known c =
    let is : c.as_slice-firsts.result.now ≡ targets_of c.args.net.now c.args.symbol c.in_ok-groups.groups.items = search rules in
    subst (AreKnown c.args.set.graph) (sym is) (known_targets c.args.net.now c.args.set.graph c.args.symbol
    c.in_ok-groups.groups.items (groups_known c.args.set _ c.in_ok-groups.ensures))

pub returns-in-Some : goal.returns-in-Some
returns-in-Some c =
    let is : c.as_slice-firsts.result.now ≡ targets_of c.args.net.now c.args.symbol c.in_ok-groups.groups.items = search rules in
    only_same (Rest c.args.net.now (InSome c.args.set.graph c.as_slice-firsts.result.now))
    (Next c.args.net.now (Holds c.args.set) c.args.symbol) c.in-Some.alternative
    (next_of c.args.net.now c.args.set c.args.set c.args.symbol _ c.as_slice-firsts.result.now (keeps_same c.args.set.graph)
    c.in_ok-groups.ensures is) c.in-Some.ensures

pub rest-requires-clause-known : goal.rest-requires-clause-known
rest-requires-clause-known c =
    let is : c.as_slice-firsts.result.now ≡ targets_of c.args.net.now c.args.symbol c.in_ok-groups.groups.items = search rules in
    subst (AreKnown c.fresh.result.graph) (sym is)
    (known_kept c.args.set.graph c.fresh.result.graph _ c.fresh.ensures.keeps
    (known_targets c.args.net.now c.args.set.graph c.args.symbol c.in_ok-groups.groups.items
    (groups_known c.args.set _ c.in_ok-groups.ensures)))

pub rest-requires-clause-within : goal.rest-requires-clause-within
rest-requires-clause-within c =
    let is : c.as_slice-firsts.result.now ≡ targets_of c.args.net.now c.args.symbol c.in_ok-groups.groups.items = search rules in
    subst (λ (xs : List Group). (d : Config) → InSome c.fresh.result.graph xs d → IsWithin c.args.net.now d) (sym is)
    (taken_within c.args.net.now c.args.set c.fresh.result c.args.symbol _ c.requires.well_formed c.fresh.ensures.keeps
    c.in_ok-groups.ensures c.requires.within)

pub returns : goal.returns
returns c =
    let is : c.as_slice-firsts.result.now ≡ targets_of c.args.net.now c.args.symbol c.in_ok-groups.groups.items = search rules in
    left_same c.args.net.now (Holds c.in_ok-next.next) (Next c.args.net.now (Holds c.args.set) c.args.symbol) c.left_in.result
    (λ d. (
      (λ i. (next_of c.args.net.now c.args.set c.fresh.result c.args.symbol _ c.as_slice-firsts.result.now c.fresh.ensures.keeps
          c.in_ok-groups.ensures is d).0 ((c.in_ok-next.ensures.members d).0 i)),
      λ i. (c.in_ok-next.ensures.members d).1 ((next_of c.args.net.now c.args.set c.fresh.result c.args.symbol _
          c.as_slice-firsts.result.now c.fresh.ensures.keeps c.in_ok-groups.ensures is d).1 i),
    ))
    (c.left_in.ensures c.args.net.now c.in_ok-next.ensures.within)
