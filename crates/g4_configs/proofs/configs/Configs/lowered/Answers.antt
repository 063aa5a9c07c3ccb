use Rattle.std.proofs.Common.{rules, ◌≡◌, length, map, reverse, List, sym, subst}
use Rattle.g4_configs.specs.declared.group.Group.{Group}
use Rattle.g4_configs.specs.Configs.{Holds}
use Rattle.g4_configs.specs.Groups.{AreKnown, InSome}
use Rattle.g4_configs.specs.Lowering.{imaged}
use Rattle.g4_configs.proofs.Imaged.{all_imaged, images_known, known_kept, lowered_same, some_kept, some_means}
use Rattle.g4_configs.proofs.configs.Configs.lowered.Goals as goal

pub image_groups-requires : goal.image_groups-requires
image_groups-requires c =
    let known : AreKnown c.bottom.new.graph c.as_slice.result.now =
    subst (AreKnown c.bottom.new.graph) (sym c.as_slice.ensures.value)
    (known_kept c.in_ok-own.own.graph c.bottom.new.graph c.in_ok-own.own.groups.items c.bottom.ensures.keeps
    c.in_ok-own.ensures.known) in
    let long : length c.as_slice-2.result.now ≡ length c.bottom.new.graph = search rules in
    all_imaged c.bottom.new.graph c.as_slice.result.now c.as_slice-2.result.now known long

pub returns-clause-known : goal.returns-clause-known
returns-clause-known c =
    let known = known_kept c.in_ok-own.own.graph c.bottom.new.graph c.in_ok-own.own.groups.items c.bottom.ensures.keeps
    c.in_ok-own.ensures.known in
    let are : c.in_ok-groups.groups.items ≡ map (imaged c.in_ok-images.images.items) c.in_ok-own.own.groups.items = search rules in
    subst (AreKnown c.lowered_each.new.self) (sym are)
    (images_known c.bottom.new.graph c.lowered_each.new.self c.in_ok-under.under (reverse c.args.states.now)
    c.in_ok-under.ensures.known c.in_ok-under.ensures.means c.in_ok-images.images.items c.in_ok-images.ensures.images
    c.lowered_each.ensures.keeps c.in_ok-images.ensures.all c.in_ok-own.own.groups.items known)

pub returns-clause-means : goal.returns-clause-means
returns-clause-means c =
    let known = known_kept c.in_ok-own.own.graph c.bottom.new.graph c.in_ok-own.own.groups.items c.bottom.ensures.keeps
    c.in_ok-own.ensures.known in
    let are : c.in_ok-groups.groups.items ≡ map (imaged c.in_ok-images.images.items) c.in_ok-own.own.groups.items = search rules in
    λ d.
    let means =
    some_means c.bottom.new.graph c.lowered_each.new.self c.in_ok-under.under (reverse c.args.states.now) c.in_ok-under.ensures.known
    c.in_ok-under.ensures.means c.in_ok-images.images.items c.in_ok-images.ensures.images c.lowered_each.ensures.keeps
    c.in_ok-images.ensures.all
    c.in_ok-own.own.groups.items d known in
    let same =
    lowered_same (InSome c.bottom.new.graph c.in_ok-own.own.groups.items) (Holds c.args.self.now) (reverse c.args.states.now)
    (λ e. (
      (λ i. (c.in_ok-own.ensures.means e).0 ((some_kept c.in_ok-own.own.graph c.bottom.new.graph c.in_ok-own.own.groups.items
          c.bottom.ensures.keeps c.in_ok-own.ensures.known e).0 i)),
      (λ h. (some_kept c.in_ok-own.own.graph c.bottom.new.graph c.in_ok-own.own.groups.items c.bottom.ensures.keeps
          c.in_ok-own.ensures.known e).1 ((c.in_ok-own.ensures.means e).1 h)),
    )) d in (
      (λ i. same.0 (means.0 (subst (λ (xs : List Group). InSome c.lowered_each.new.self xs d) are i))),
      (λ i. subst (λ (xs : List Group). InSome c.lowered_each.new.self xs d) (sym are) (means.1 (same.1 i))),
    )
