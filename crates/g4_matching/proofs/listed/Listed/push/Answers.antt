use Rattle.std.proofs.Common.{◌≡◌, length, sym, subst, arith}
use Rattle.g4_matching.specs.Listed.{IsNewest, key_of}
use Rattle.g4_matching.specs.Places.{IsSet}
use Rattle.g4_matching.proofs.Indexed.{still_indexed, one_more}
use Rattle.g4_matching.proofs.listed.Listed.push.Goals as goal

pub invariant_of-self-in_err-set : goal.invariant_of-self-in_err-set
invariant_of-self-in_err-set c =
    let h = still_indexed _ _ _ _ c.self.invariant c.in_err-set.ensures.unset in
    rw (c.reserve.ensures.items, c.reserve-2.ensures.items) h

pub invariant_of-self-2 : goal.invariant_of-self-2
invariant_of-self-2 c =
    let before : IsNewest c.self.inside.entries.items (key_of c.args.entry) c.newest-before.result =
    subst (λ l. IsNewest l (key_of c.args.entry) c.newest-before.result) (sym c.self.view_is)
    (subst (λ n. IsNewest c.args.self.now n c.newest-before.result) c.key-key.ensures c.newest-before.ensures) in
    let place : c.len-place.result ≡ length c.self.inside.entries.items = omega (arith, c.len-place.ensures, c.self.inside.entries.ok.0) in
    let set : IsSet c.self.inside.newest (key_of c.args.entry) (length c.self.inside.entries.items) c.set.new.self =
    subst (λ n. IsSet c.self.inside.newest (key_of c.args.entry) n c.set.new.self) place
    (subst (λ k. IsSet c.self.inside.newest k c.len-place.result c.set.new.self) c.key-key.ensures c.in_ok-set.ensures.set) in
    rw (c.push_reserved.ensures.items, c.push_reserved-2.ensures.items, c.reserve.ensures.items, c.reserve-2.ensures.items)
    (one_more _ _ _ _ c.args.entry _ c.self.invariant before set)
