use Rattle.std.proofs.Common.{rules, ◌≡◌, ℕ, ◌+◌, ◌∷◌, [], ◌++◌, ◌∙◌, List, Some, length, slice_get, get_or, sym, ap, IsTrue, subst}
use Rattle.std.proofs.lemmas.Option.{slice_get-get_or}
use Rattle.g4_guards.proofs.Meeting.{AreMeeting, meeting_push, meeting_skip}
use Rattle.g4_guards.proofs.allowed.meeting.Goals as goal

pub loop-before-preserved-then-not-meets_at : goal.loop-before-preserved-then-not-meets_at
loop-before-preserved-then-not-meets_at c =
    let n = c.loop-before.before in
    let ts : List ℕ = c.args.targets.now in
    let t : ℕ = get_or ts n 0 in
    let at_n : slice_get ts n ≡ Some t = slice_get-get_or ts n 0 (search rules) in
    meeting_skip c.args.net.now c.args.level ts n t c.loop-before.found.items at_n
    (λ all. let yes : IsTrue c.meets_at.result = c.meets_at.ensures.1 all in absurd (search rules)) c.loop-before.invariant

pub loop-before-preserved : goal.loop-before-preserved
loop-before-preserved c =
    let n = c.loop-before.before in
    let ts : List ℕ = c.args.targets.now in
    let t : ℕ = get_or ts n 0 in
    let at_n : slice_get ts n ≡ Some t = slice_get-get_or ts n 0 (search rules) in
    let old : List ℕ = c.loop-before.found.items in
    let number : c.in-Ok.alternative ≡ n + 1 = search rules in
    let pushed : c.push.new.self.items ≡ old ++ (n + 1) ∷ [] = c.in_ok-push.ensures.items ∙ ap (λ (i : ℕ). old ++ i ∷ []) number in
    subst (AreMeeting c.args.net.now c.args.level ts (n + 1)) (sym pushed)
    (meeting_push c.args.net.now c.args.level ts n t old at_n (c.meets_at.ensures.0 (search rules)) c.loop-before.invariant)

pub returns : goal.returns
returns c =
    let n : c.loop-before.before ≡ length c.args.targets.now = search rules in
    subst (λ (k : ℕ). AreMeeting c.args.net.now c.args.level c.args.targets.now k c.loop-before.found.items) n c.loop-before.invariant
