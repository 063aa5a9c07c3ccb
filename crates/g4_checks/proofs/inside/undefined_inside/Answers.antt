use Rattle.std.proofs.Common.{ℕ, List, Option, sym, subst, ◌∙◌}
use Rattle.g4_preds.specs.Trees.{Tree}
use Rattle.g4_source.specs.First.{Finds, FindsFirst}
use Rattle.g4_checks.specs.Names.{is_one_of}
use Rattle.g4_checks.specs.Predicates.{IsMissing, Reads}
use Rattle.g4_checks.proofs.Missing.{missing_of}
use Rattle.g4_checks.proofs.inside.undefined_inside.Goals as goal

pub returns-in_default : goal.returns-in_default
returns-in_default c =
    λ n other. (subst (λ (found : Option Tree). Finds Reads c.args.written.now found) c.in_default.is c.in_ok-predicate.ensures)
    other.tree other.reads

pub returns : goal.returns
returns c =
    let has = is_one_of c.args.parsers.now in
    missing_of has c.args.written.now c.in-Some.predicate c.as_slice.result.now c.in_ok-found.found
    (subst (λ (found : Option Tree). Finds Reads c.args.written.now found) c.in-Some.is c.in_ok-predicate.ensures)
    (c.as_slice.ensures ∙ c.in_ok-rules.ensures)
    (subst (λ (found : Option (List ℕ)). FindsFirst (IsMissing has) c.as_slice.result.now found) (sym c.in_ok-found.ensures)
    c.first_missing.ensures)
