use Rattle.std.proofs.Common.{◌≡◌, ℕ, ◌+◌, ◌<◌, ◌∷◌, [], ◌++◌, ◌∙◌, List, Some, length, slice_get, get_or, sym, ap, true, false, true≢false, subst, rules}
use Rattle.std.proofs.lemmas.Option.{slice_get-get_or}
use Rattle.g4_net.specs.Allowed.{Allows}
use Rattle.g4_configs.specs.declared.group.Group.{Group}
use Rattle.g4_closure.specs.Steps.{AreExactly, FirstsBelow, placed}
use Rattle.g4_closure.proofs.Firsts.{firsts_push, firsts_skip}
use Rattle.g4_closure.proofs.lookahead.first_groups.Goals as goal

pub loop-before-preserved-then-not-is_marked : goal.loop-before-preserved-then-not-is_marked
loop-before-preserved-then-not-is_marked c =
    let A = Allows c.args.allowed.now in
    let n = c.loop-before.before in
    let number : c.in-Ok.alternative ≡ n + 1 = search rules in
    let less : c.in-Ok.alternative < length c.args.targets.now + 1 = search rules in
    let read : c.is_marked.result ≡ get_or c.in_ok-marks.marks.items c.in-Ok.alternative false = search rules in
    let unmarked : c.is_marked.result ≡ false = search rules in
    let refuses : A (n + 1) → ⊥ = λ h. true≢false (sym ((c.in_ok-marks.ensures.told c.in-Ok.alternative less).1
    (subst A (sym number) h)) ∙ sym read ∙ unmarked) in
    firsts_skip A c.args.stacks c.args.targets.now n c.loop-before.found.items refuses c.loop-before.invariant

pub loop-before-preserved : goal.loop-before-preserved
loop-before-preserved c =
    let A = Allows c.args.allowed.now in
    let n = c.loop-before.before in
    let ts : List ℕ = c.args.targets.now in
    let t : ℕ = get_or ts n 0 in
    let at_n : slice_get ts n ≡ Some t = slice_get-get_or ts n 0 (search rules) in
    let old : List Group = c.loop-before.found.items in
    let number : c.in-Ok.alternative ≡ n + 1 = search rules in
    let less : c.in-Ok.alternative < length ts + 1 = search rules in
    let read : c.is_marked.result ≡ get_or c.in_ok-marks.marks.items c.in-Ok.alternative false = search rules in
    let marked : c.is_marked.result ≡ true = search rules in
    let allows : A (n + 1) = subst A number ((c.in_ok-marks.ensures.told c.in-Ok.alternative less).0
    (sym read ∙ marked)) in
    let pushed : c.push.new.self.items ≡ old ++ placed (n + 1) c.args.stacks t ∷ [] =
    c.in_ok-push.ensures.items ∙ ap (λ (i : ℕ). old ++ placed i c.args.stacks t ∷ []) number in
    subst (λ (xs : List Group). AreExactly xs (FirstsBelow A c.args.stacks ts (n + 1))) (sym pushed)
    (firsts_push A c.args.stacks ts n t old at_n allows c.loop-before.invariant)

pub returns : goal.returns
returns c =
    let n : c.loop-before.before ≡ length c.args.targets.now = search rules in
    subst (λ (k : ℕ). AreExactly c.loop-before.found.items
    (FirstsBelow (Allows c.args.allowed.now) c.args.stacks c.args.targets.now k)) n c.loop-before.invariant
