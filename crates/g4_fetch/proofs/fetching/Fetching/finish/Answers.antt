use Rattle.std.proofs.Common.{◌∷◌, ℕ, List, Option, None, length, reverse, subst, ap, ◌∙◌, arith}
use Rattle.std.proofs.lemmas.Result.{err_from_is_err_and}
use Rattle.g4_fetch.proofs.Continuing.{halts_too}
use Rattle.g4_fetch.specs.Tasks.{Continues, GoesOn, IsNext, task_of}
use Rattle.g4_fetch.specs.declared.closure.GrammarFile.{GrammarFile}
use Rattle.g4_fetch.specs.declared.reached.Missing.{Missing}
use Rattle.g4_fetch.proofs.fetching.Fetching.finish.Goals as goal

pub returns-in_err-fetching-clause-content : goal.returns-in_err-fetching-clause-content
returns-in_err-fetching-clause-content g c = λ files told.
    let p = err_from_is_err_and c.from_residual-in_err-fetching.result c.from_residual-in_err-fetching.ensures.1 in
    let prefix = c.args.prefix.now in
    let after = c.next_missing.new.self in
    let missing = c.in-Some.missing in
    let next = subst (λ (found : Option Missing). IsNext prefix c.loop-fetching.fetching after found)
    c.in-Some.is c.in_ok-missing.ensures in
    let before = c.loop-fetching.invariant.4 files told in
    rw (p.1, p.2)
    (halts_too (Continues files prefix (task_of missing ∷ reverse after.tasks.items) after.reached)
    (GoesOn files prefix c.args.self)
    (λ r h. before r (next.2 files r h)) c.in_err-fetching.field-0.0
    (c.in_err-fetching.ensures.content files (c.loop-fetching.invariant.0 ∙ told)))

pub loop-fetching-preserved : goal.loop-fetching-preserved
loop-fetching-preserved g c =
    let prefix = c.args.prefix.now in
    let after = c.next_missing.new.self in
    let next = subst (λ (found : Option Missing). IsNext prefix c.loop-fetching.fetching after found)
    c.in-Some.is c.in_ok-missing.ensures in
    let so_far = c.loop-fetching.invariant in
    let is = c.in_ok-fetching.ensures in
    let same = ap (λ (fs : List GrammarFile). length fs) next.1 in (
      is.keeps ∙ so_far.0,
      is.counts.0 ∙ so_far.1,
      omega (arith, so_far.2, is.counts.1),
      omega (arith, so_far.3, same, is.grows),
      λ files told r h. so_far.4 files told r (next.2 files r (is.content files (so_far.0 ∙ told) r h)),
    )

pub returns-clause-content : goal.returns-clause-content
returns-clause-content g c = λ files told.
    let next = subst (λ (found : Option Missing). IsNext c.args.prefix.now c.loop-fetching.fetching c.next_missing.new.self found)
    c.in_default.is c.in_ok-missing.ensures in
    c.loop-fetching.invariant.4 files told _ (next.1 files)

pub returns-clause-grows : goal.returns-clause-grows
returns-clause-grows g c =
    let next = subst (λ (found : Option Missing). IsNext c.args.prefix.now c.loop-fetching.fetching c.next_missing.new.self found)
    c.in_default.is c.in_ok-missing.ensures in
    let same = ap (λ (fs : List GrammarFile). length fs) next.0 in
    omega (arith, c.loop-fetching.invariant.3, same)
