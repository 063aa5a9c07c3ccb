use Rattle.std.proofs.Common.{rules, ◌≡◌, ◌<◌, ℕ, ◌+◌, List, Some, slice_get, length, sym, ap, subst, ◌∙◌, arith}
use Rattle.std.proofs.lemmas.Option.{slice_get_within, get_or_from_slice_get}
use Rattle.g4_net.specs.Network.{ParserNetwork}
use Rattle.g4_guards.specs.Levels.{IsCondition, IsDecision, IsGuard}
use Rattle.g4_learned.specs.Tables.{Tables, guard_of}
use Rattle.g4_learned.proofs.Starting.{first_none, found_guard, range_of, range_within, some_there}
use Rattle.g4_learned.proofs.decision_net.DecisionNet.start_of.Goals as goal

pub index-low-requires : goal.index-low-requires
index-low-requires c =
    let net_is : c.self.inside.net ≡ c.args.self.now.net = ap (λ (t : Tables). t.net) c.self.view_is in
    let r = range_of c.self.inside.net c.self.inside.starts.first.items c.self.inside.starts.keys.items c.self.invariant.0 c.args.decision
    (subst (λ (n : ParserNetwork). IsDecision n c.args.decision) (sym net_is) c.requires.decision) in
    let less = slice_get_within c.self.inside.starts.first.items c.args.decision r.0 r.3.first_low in
    search rules

pub index-high-requires : goal.index-high-requires
index-high-requires c =
    let net_is : c.self.inside.net ≡ c.args.self.now.net = ap (λ (t : Tables). t.net) c.self.view_is in
    let r = range_of c.self.inside.net c.self.inside.starts.first.items c.self.inside.starts.keys.items c.self.invariant.0 c.args.decision
    (subst (λ (n : ParserNetwork). IsDecision n c.args.decision) (sym net_is) c.requires.decision) in
    let less = slice_get_within c.self.inside.starts.first.items (c.args.decision + 1) (r.0 + length r.1) r.3.first_high in
    search rules

pub last_within-requires-clause-order : goal.last_within-requires-clause-order
last_within-requires-clause-order c =
    let net_is : c.self.inside.net ≡ c.args.self.now.net = ap (λ (t : Tables). t.net) c.self.view_is in
    let first = c.self.inside.starts.first.items in
    let keys = c.self.inside.starts.keys.items in
    let d = c.args.decision in
    let r = range_of c.self.inside.net first keys c.self.invariant.0 d
    (subst (λ (n : ParserNetwork). IsDecision n d) (sym net_is) c.requires.decision) in
    let low : c.index-low.result.now ≡ r.0 = c.index-low.ensures ∙ get_or_from_slice_get first d r.0 _ r.3.first_low in
    let high : c.index-high.result.now ≡ r.0 + length r.1 =
    c.index-high.ensures ∙ get_or_from_slice_get first (d + 1) (r.0 + length r.1) _ r.3.first_high in
    let some = some_there c.self.inside.net first keys c.self.invariant.0 d r.0 r.1 r.2 r.3 c.args.condition
    (subst (λ (n : ParserNetwork). IsCondition n d c.args.condition) (sym net_is) c.requires.condition) in
    let within = range_within c.self.inside.net first keys c.self.invariant.0 d r.0 r.1 r.2 r.3 some in
    let keys_are = ap length c.as_slice.ensures.value in
    (omega (arith, low, high, some), omega (arith, high, within, keys_are))

pub last_within-requires-clause-first : goal.last_within-requires-clause-first
last_within-requires-clause-first c =
    let net_is : c.self.inside.net ≡ c.args.self.now.net = ap (λ (t : Tables). t.net) c.self.view_is in
    let first = c.self.inside.starts.first.items in
    let keys = c.self.inside.starts.keys.items in
    let d = c.args.decision in
    let r = range_of c.self.inside.net first keys c.self.invariant.0 d
    (subst (λ (n : ParserNetwork). IsDecision n d) (sym net_is) c.requires.decision) in
    let low : c.index-low.result.now ≡ r.0 = c.index-low.ensures ∙ get_or_from_slice_get first d r.0 _ r.3.first_low in
    let none = first_none c.self.inside.net first keys c.self.invariant.0 d r.0 r.1 r.2 r.3 c.args.condition
    (subst (λ (n : ParserNetwork). IsCondition n d c.args.condition) (sym net_is) c.requires.condition) in
    let same : guard_of c.as_slice.result.now c.index-low.result.now ≡ guard_of keys r.0 =
    ap (λ (ks : List (ℕ × ℕ)). guard_of ks c.index-low.result.now) c.as_slice.ensures.value ∙ ap (guard_of keys) low in
    omega (arith, none, same)

pub returns : goal.returns
returns c =
    let net_is : c.self.inside.net ≡ c.args.self.now.net = ap (λ (t : Tables). t.net) c.self.view_is in
    let starts_are : c.self.inside.starts.keys.items ≡ c.args.self.now.starts = ap (λ (t : Tables). t.starts) c.self.view_is in
    let first = c.self.inside.starts.first.items in
    let keys = c.self.inside.starts.keys.items in
    let d = c.args.decision in
    let condition = c.args.condition in
    let at = c.last_within.result in
    let r = range_of c.self.inside.net first keys c.self.invariant.0 d
    (subst (λ (n : ParserNetwork). IsDecision n d) (sym net_is) c.requires.decision) in
    let low : c.index-low.result.now ≡ r.0 = c.index-low.ensures ∙ get_or_from_slice_get first d r.0 _ r.3.first_low in
    let high : c.index-high.result.now ≡ r.0 + length r.1 =
    c.index-high.ensures ∙ get_or_from_slice_get first (d + 1) (r.0 + length r.1) _ r.3.first_high in
    let e = c.last_within.ensures in
    let slice = c.as_slice.ensures.value in
    let here = ap (λ (ks : List (ℕ × ℕ)). guard_of ks at) slice in
    let there = ap (λ (ks : List (ℕ × ℕ)). guard_of ks (at + 1)) slice in
    let within = e.within in
    let le = e.at in
    let next : at + 1 < r.0 + length r.1 → condition < guard_of keys (at + 1) =
    λ less. (let n = e.next (omega (arith, less, high)) in omega (arith, n, there)) in
    let g = found_guard c.self.inside.net first keys c.self.invariant.0 d r.0 r.1 r.2 r.3 at condition
    (subst (λ (n : ParserNetwork). IsCondition n d condition) (sym net_is) c.requires.condition) c.ranges.condition.fits
    (let f = within.0 in omega (arith, f, low)) (let f = within.1 in omega (arith, f, high)) (omega (arith, le, here)) next in
    let Q : Tables → Type 0 = λ (t : Tables). (guard : ℕ) × (slice_get t.starts at ≡ Some (d, guard)) × IsGuard t.net d condition guard in
    subst Q c.self.view_is g
