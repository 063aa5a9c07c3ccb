use Rattle.std.proofs.Common.{rules, ◌≡◌, ◌<◌, Some, None, slice_get, length, refl, subst, sym, ◌∙◌, ap, arith}
use Rattle.std.proofs.lemmas.Bool.{false≢true}
use Rattle.g4_matching.specs.Listed.{IsNewest}
use Rattle.g4_matching.proofs.Lookups.{got, in_at}
use Rattle.g4_matching.proofs.Indexed.{Searching, begins, within, goes_back, link_falls, left, not_in}
use Rattle.g4_matching.proofs.Same.{tells, differs}
use Rattle.g4_matching.proofs.listed.Listed.has.Goals as goal

pub loop-next-init : goal.loop-next-init
loop-next-init c = begins _ _ _ (subst (λ n. IsNewest c.args.self.now n c.newest-next.result) c.key-key.ensures c.newest-next.ensures)

pub index-requires : goal.index-requires
index-requires c =
    let s : Searching c.args.self.now c.args.entry.now (Some c.in-Some.place) =
    subst (Searching c.args.self.now c.args.entry.now) c.in-Some.is c.loop-next.invariant in
    let lt = within _ _ _ s in
    omega (arith, ap length c.self.view_is, c.self.inside.entries.ok.0)

pub returns-then-eq : goal.returns-then-eq
returns-then-eq c =
    let s : Searching c.args.self.now c.args.entry.now (Some c.in-Some.place) =
    subst (Searching c.args.self.now c.args.entry.now) c.in-Some.is c.loop-next.invariant in
    let lt = within _ _ _ s in
    let there : slice_get c.args.self.now c.in-Some.place ≡ Some c.index.result.now =
    got _ _ _ _ c.self.view_is (omega (arith, ap length c.self.view_is)) c.index.ensures in
    let same = tells c.index.result.now c.args.entry.now (sym c.eq.ensures ∙ c.if-eq.true) in
    ((λ t. in_at _ c.in-Some.place _ (there ∙ ap Some same)), λ i. refl)

pub index-next-requires : goal.index-next-requires
index-next-requires c =
    let s : Searching c.args.self.now c.args.entry.now (Some c.in-Some.place) =
    subst (Searching c.args.self.now c.args.entry.now) c.in-Some.is c.loop-next.invariant in
    let lt = within _ _ _ s in
    let many = c.self.invariant.as_many in
    omega (arith, ap length c.self.view_is, c.self.inside.earlier.ok.0)

pub loop-next-smaller : goal.loop-next-smaller
loop-next-smaller c =
    let s : Searching c.args.self.now c.args.entry.now (Some c.in-Some.place) =
    subst (Searching c.args.self.now c.args.entry.now) c.in-Some.is c.loop-next.invariant in
    let lt = within _ _ _ s in
    let many = c.self.invariant.as_many in
    let there : slice_get c.self.inside.entries.items c.in-Some.place ≡ Some c.index.result.now =
    got c.self.inside.entries.items c.self.inside.entries.items _ _ refl (omega (arith, ap length c.self.view_is)) c.index.ensures in
    let by : slice_get c.self.inside.earlier.items c.in-Some.place ≡ Some c.index-next.result.now =
    got c.self.inside.earlier.items c.self.inside.earlier.items _ _ refl (omega (arith, ap length c.self.view_is))
    c.index-next.ensures in
    subst (λ o. left c.index-next.result.now < left o) (sym c.in-Some.is) (link_falls _ _ _ _ _ _ c.self.invariant there by)

pub loop-next-preserved : goal.loop-next-preserved
loop-next-preserved c =
    let s : Searching c.args.self.now c.args.entry.now (Some c.in-Some.place) =
    subst (Searching c.args.self.now c.args.entry.now) c.in-Some.is c.loop-next.invariant in
    let lt = within _ _ _ s in
    let many = c.self.invariant.as_many in
    let there : slice_get c.self.inside.entries.items c.in-Some.place ≡ Some c.index.result.now =
    got c.self.inside.entries.items c.self.inside.entries.items _ _ refl (omega (arith, ap length c.self.view_is)) c.index.ensures in
    let by : slice_get c.self.inside.earlier.items c.in-Some.place ≡ Some c.index-next.result.now =
    got c.self.inside.earlier.items c.self.inside.earlier.items _ _ refl (omega (arith, ap length c.self.view_is))
    c.index-next.ensures in
    let other = differs c.index.result.now c.args.entry.now (sym c.eq.ensures ∙ c.if-eq.false) in
    subst (λ l. Searching l c.args.entry.now c.index-next.result.now) c.self.view_is
    (goes_back _ _ _ _ _ _ _ c.self.invariant there by other
    (subst (λ l. Searching l c.args.entry.now (Some c.in-Some.place)) (sym c.self.view_is) s))

pub returns : goal.returns
returns c =
    let s : Searching c.args.self.now c.args.entry.now None =
    subst (Searching c.args.self.now c.args.entry.now) (search rules) c.loop-next.invariant in
    ((λ t. absurd (false≢true t)), λ i. absurd (not_in _ _ s i))
