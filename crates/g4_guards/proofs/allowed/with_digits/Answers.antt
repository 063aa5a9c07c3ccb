use Rattle.std.proofs.Common.{rules, ◌≡◌, ℕ, ◌+◌, ◌∷◌, [], ◌++◌, ◌∙◌, List, get_or, sym, ap, IsTrue, subst, take}
use Rattle.g4_guards.proofs.Meeting.{IsDigitsTo, digits_push, digits_skip}
use Rattle.g4_guards.proofs.allowed.with_digits.Goals as goal

pub loop-before-preserved-then-not-may : goal.loop-before-preserved-then-not-may
loop-before-preserved-then-not-may c =
    let k = c.loop-before.before in
    let ts : List ℕ = c.args.targets.now in
    digits_skip c.args.net.now ts k (get_or ts k 0) c.args.condition c.loop-before.digits c.after-digits.result c.loop-before.found.items
    (search rules) (search rules) c.loop-before.invariant (search rules)
    (λ lets. let yes : IsTrue c.lets-may.result = c.lets-may.ensures.1 lets in absurd (search rules))

pub loop-before-preserved : goal.loop-before-preserved
loop-before-preserved c =
    let k = c.loop-before.before in
    let ts : List ℕ = c.args.targets.now in
    let old : List ℕ = c.loop-before.found.items in
    let number : c.in-Ok.alternative ≡ k + 1 = search rules in
    let pushed : c.push.new.self.items ≡ old ++ (k + 1) ∷ [] = c.in_ok-push.ensures.items ∙ ap (λ (i : ℕ). old ++ i ∷ []) number in
    subst (IsDigitsTo c.args.net.now (take (k + 1) ts) c.args.condition c.after-digits.result) (sym pushed)
    (digits_push c.args.net.now ts k (get_or ts k 0) c.args.condition c.loop-before.digits c.after-digits.result old
    (search rules) (search rules) c.loop-before.invariant (search rules) (c.lets-may.ensures.0 (search rules)))
