use Rattle.std.proofs.Common.{rules, ◌≡◌, ◌↔◌, ℕ, ◌+◌, ◌∷◌, [], ◌++◌, ◌∙◌, List, Contains, length, get_or, sym, ap, IsTrue, subst}
use Rattle.std.specs.Prelude.{Some, slice_get}
use Rattle.std.proofs.lemmas.Option.{slice_get-get_or}
use Rattle.g4_parse.specs.Tested.{PassesAmong}
use Rattle.g4_parse.proofs.Passing.{passing_push, passing_skip}
use Rattle.g4_parse.proofs.parser.Parser.allowed.Goals as goal

pub loop-before-preserved-then-not-passes : goal.loop-before-preserved-then-not-passes
loop-before-preserved-then-not-passes g c = λ word r h.
    let n = c.loop-before.before in
    let ts : List ℕ = c.args.targets.now in
    let t : ℕ = get_or ts n 0 in
    let at_n : slice_get ts n ≡ Some t = slice_get-get_or ts n 0 (search rules) in
    passing_skip c.args.net.now (g.P.Predicates.values c.args.predicates.now) word r ts n t c.loop-before.found.items at_n
    (λ passes. let yes : IsTrue c.passes.result = (c.passes.ensures word r h).1 passes in absurd (search rules))
    (c.loop-before.invariant word r h)

pub loop-before-preserved : goal.loop-before-preserved
loop-before-preserved g c = λ word r h.
    let n = c.loop-before.before in
    let values = g.P.Predicates.values c.args.predicates.now in
    let ts : List ℕ = c.args.targets.now in
    let t : ℕ = get_or ts n 0 in
    let at_n : slice_get ts n ≡ Some t = slice_get-get_or ts n 0 (search rules) in
    let old : List ℕ = c.loop-before.found.items in
    let number : c.in-Ok.alternative ≡ n + 1 = search rules in
    let pushed : c.push.new.self.items ≡ old ++ (n + 1) ∷ [] = c.in_ok-push.ensures.items ∙ ap (λ (i : ℕ). old ++ i ∷ []) number in
    subst (λ (xs : List ℕ). (i : ℕ) → Contains xs i ↔ PassesAmong c.args.net.now values word r ts (n + 1) i) (sym pushed)
    (passing_push c.args.net.now values word r ts n t old at_n ((c.passes.ensures word r h).0 (search rules))
    (c.loop-before.invariant word r h))

pub returns : goal.returns
returns g c = λ word r h.
    let n : c.loop-before.before ≡ length c.args.targets.now = search rules in
    subst (λ (k : ℕ). (i : ℕ) → Contains c.loop-before.found.items i
    ↔ PassesAmong c.args.net.now (g.P.Predicates.values c.args.predicates.now) word r c.args.targets.now k i) n
    (c.loop-before.invariant word r h)
