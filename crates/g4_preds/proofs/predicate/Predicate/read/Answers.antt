use Rattle.std.proofs.Common.{◌≡◌, ℕ, List, refl, rules, subst}
use Rattle.std.specs.Str.{chars}
use Rattle.std.proofs.lemmas.Str.{chars_from_encodes}
use Rattle.g4_preds.specs.Readings.{IsPredicate}
use Rattle.g4_preds.specs.Trees.{Tree}
use Rattle.g4_preds.proofs.predicate.Predicate.read.Goals as goal

pub returns-in-Ok : goal.returns-in-Ok
returns-in-Ok c =
    let same : c.deref.result.now ≡ chars c.args.text.now = search (rules, chars_from_encodes) in
    subst (λ (cs : List ℕ). IsPredicate cs c.in-Ok.predicate) same c.in-Ok.ensures

pub returns-in-Err-Unknown : goal.returns-in-Err-Unknown
returns-in-Err-Unknown c =
    let same : c.deref.result.now ≡ chars c.args.text.now = search (rules, chars_from_encodes) in (
      refl,
      subst (λ (cs : List ℕ). (tree : Tree) → IsPredicate cs tree → ⊥) same
          (rw c.in-Err-Unknown.field-0-is at c.in-Err-Unknown.ensures),
    )
