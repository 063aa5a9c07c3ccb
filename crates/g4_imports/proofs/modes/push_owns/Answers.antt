use Rattle.std.proofs.Common.{◌≡◌, List, [], length, ℕ, refl, ap, ◌∙◌, subst, arith}
use Rattle.std.specs.List.{slice_get}
use Rattle.std.proofs.lemmas.Option.{slice_get_read}
use Rattle.g4_fetch.specs.declared.closure.GrammarFile.{GrammarFile}
use Rattle.g4_imports.specs.Clauses.{Covers}
use Rattle.g4_imports.proofs.modes.push_owns.Goals as goal

pub loop-number-preserved : goal.loop-number-preserved
loop-number-preserved c = λ grammar same start.
    let files = c.args.files.now in
    let number = c.loop-number.number in
    c.in_ok-push_own.ensures grammar
    (ap (λ (fs : List GrammarFile). slice_get fs number) same
    ∙ slice_get_read files (length files) number c.index-files-number.result refl c.loop-number-test.true c.index-files-number.is)
    (c.loop-number.invariant grammar same start)

pub returns : goal.returns
returns c = λ grammar same start.
    let all : c.loop-number.number ≡ length c.args.files.now = omega arith in
    subst (λ (n : ℕ). Covers grammar n [] c.loop-number.clauses.items) all (c.loop-number.invariant grammar same start)
