use Rattle.std.proofs.Common.{◌≡◌, List, [], length, ℕ, refl, sym, ap, subst}
use Rattle.g4_horn.specs.declared.clause.Clause.{Clause}
use Rattle.g4_fetch.specs.declared.closure.GrammarFile.{GrammarFile}
use Rattle.g4_fetch.specs.declared.closure.Import.{Import}
use Rattle.g4_imports.specs.Clauses.{Covers}
use Rattle.g4_imports.proofs.Covering.{covers_none}
use Rattle.g4_imports.proofs.modes.clauses_of.Goals as goal

pub returns : goal.returns
returns c =
    let grammar = c.args.grammar.now in
    let files = c.as_slice-files.result.now in
    let clauses = c.push_imports.new.clauses.items in
    let lengths : length grammar.files ≡ length files = ap length (sym c.as_slice-files.ensures) in
    let none : Covers grammar 0 [] c.new-clauses.result.items =
    subst (λ (cs : List Clause). Covers grammar 0 [] cs) (sym c.new-clauses.ensures.items) (covers_none grammar) in
    let own = c.in_ok-push_owns.ensures grammar (sym c.as_slice-files.ensures) none in
    let all = c.in_ok-push_imports.ensures grammar lengths (sym c.as_slice.ensures) own in
    subst (λ (n : ℕ). Covers grammar n grammar.imports clauses) (sym lengths)
    (subst (λ (is : List Import). Covers grammar (length files) is clauses) c.as_slice.ensures all)
