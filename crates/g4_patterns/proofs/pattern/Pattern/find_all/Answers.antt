use Rattle.std.proofs.Common.{◌≡◌, ◌∙◌, ℕ, List, true, false, length, sym, ap, subst, arith}
use Rattle.g4_patterns.specs.Matching.{AreMatches}
use Rattle.g4_patterns.proofs.Found.{AreBelow, all_found, none_yet, one_place}
use Rattle.g4_patterns.proofs.There.{Lent, found_there, lost_there}
use Rattle.g4_patterns.proofs.pattern.Pattern.find_all.Goals as goal

pub overflow_cast-count : goal.overflow_cast-count
overflow_cast-count c = let same = ap length c.ground-ground.ensures.items in omega arith

pub is_match-here-requires : goal.is_match-here-requires
is_match-here-requires c = let same = ap length c.ground-ground.ensures.items in omega arith

pub loop-place-init : goal.loop-place-init
loop-place-init c =
    let p = c.args.self.now in
    let s = c.args.subject.now in
    subst (λ (ks : List ℕ). AreBelow p.0 p.1 s.0 s.1 0 ks) (sym c.new-found.ensures.items) (none_yet p.0 p.1 s.0 s.1)

pub loop-place-preserved : goal.loop-place-preserved
loop-place-preserved c =
    let p = c.args.self.now in
    let s = c.args.subject.now in
    let g = c.ground-ground.result in
    let place = c.loop-place.place in
    let lent : Lent p.0 c.items-items.result.now p.1 c.tokens-tokens.result.now s.0 g.items.now s.1 g.tokens.now =
    record {
      items = c.items-items.ensures ∙ c.tree.ensures.tree;
      pattern_tokens = c.tokens-tokens.ensures;
      tree = c.ground-ground.ensures.items;
      file = c.ground-ground.ensures.tokens;
    } in
    one_place p.0 p.1 s.0 s.1 place c.loop-place.found.items c.push_if.new.found.items c.is_match-here.result
    c.loop-place.invariant c.in_ok-push_if.ensures
    (λ (e : c.is_match-here.result ≡ true).
    found_there p.0 c.items-items.result.now p.1 c.tokens-tokens.result.now s.0 g.items.now s.1 g.tokens.now g.lasts.now lent
    c.ground-ground.ensures.indexed c.tree.ensures.nested place (sym e ∙ c.is_match-here.ensures))
    (λ (e : c.is_match-here.result ≡ false).
    lost_there p.0 c.items-items.result.now p.1 c.tokens-tokens.result.now s.0 g.items.now s.1 g.tokens.now g.lasts.now lent
    c.ground-ground.ensures.indexed c.tree.ensures.nested place (sym e ∙ c.is_match-here.ensures))

pub returns : goal.returns
returns c =
    let p = c.args.self.now in
    let s = c.args.subject.now in
    let all : c.loop-place.place ≡ length s.0 = (let same = ap length c.ground-ground.ensures.items in omega arith) in
    subst (λ (ks : List ℕ). AreMatches p.0 p.1 s.0 s.1 ks) (sym c.new.ensures)
    (all_found p.0 p.1 s.0 s.1 c.loop-place.found.items
    (subst (λ (n : ℕ). AreBelow p.0 p.1 s.0 s.1 n c.loop-place.found.items) all c.loop-place.invariant))
