use Rattle.std.proofs.Common.{◌↔◌, ℕ, IsTrue, List, Bool, sym, subst}
use Rattle.g4_chars.specs.declared.range.Range.{Range}
use Rattle.g4_chars.specs.CharSets.{Has}
use Rattle.g4_chars.proofs.Ranges.{none_held}
use Rattle.g4_chars.proofs.char_set.CharSet.is_empty.Goals as goal

pub returns : goal.returns
returns c =
    let P : List Range → Type 0 = λ rs. IsTrue c.is_empty.result ↔ ((x : ℕ) → Has rs x → ⊥) in
    let Q : Bool → Type 0 = λ b. IsTrue b ↔ ((x : ℕ) → Has c.ranges-2.result.now x → ⊥) in
    subst P c.ranges-2.ensures.value (subst Q (sym c.is_empty.ensures) (none_held c.ranges-2.result.now c.ranges-2.ensures.canonical))
