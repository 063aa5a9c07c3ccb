-- A fault is in one file.
use Rattle.std.proofs.Common.{◌≡◌, ◌≢◌, ℕ, List, Option, Result, Ok, Err, ap, sym, subst, refl, ◌∙◌}
use Rattle.g4_checks.proofs.OneHolder.{one_holder}
use Rattle.g4_checks.specs.declared.fault.CheckFault.{CheckFault}
use Rattle.g4_checks.specs.declared.fault.CheckFault.TheVariants as checks
use Rattle.g4_load.specs.Locating.{IsFileOf, IsFileOfCheck, IsLocated, OfWhole, passes, fails, file_of_rule}
use Rattle.g4_load.specs.declared.fault.GrammarFault.{GrammarFault}
use Rattle.g4_load.specs.declared.fault.GrammarFault.TheVariants as faults
use Rattle.g4_load.specs.declared.whole.Whole.{Whole}
use Rattle.g4_load.specs.declared.stop.Stop.{Stop}
use Rattle.g4_load.specs.declared.stop.Stop.TheVariants as stops
use Rattle.g4_load.proofs.OneStage.{IsSingle}

module _ (main : List ℕ) (whole : Whole) where
  -- a fault that is none of rules is in the main file
  pub file_of_other : (fault : GrammarFault) → ((f : CheckFault) → fault ≢ faults.Check f) → (file : List ℕ) → file ≡ main
      → IsFileOf main whole fault file
  file_of_other (faults.NotUtf8 at) other file is = is
  file_of_other (faults.Syntax place characters) other file is = is
  file_of_other (faults.BadSet place) other file is = is
  file_of_other faults.Nesting other file is = is
  file_of_other (faults.RuleTwice rule) other file is = is
  file_of_other (faults.BadImport name) other file is = is
  file_of_other (faults.BadTokensLine line) other file is = is
  file_of_other (faults.NotALexer name) other file is = is
  file_of_other (faults.LiteralWithoutToken literal) other file is = is
  file_of_other faults.Rules other file is = is
  file_of_other faults.Types other file is = is
  file_of_other (faults.Check f) other file is = absurd (other f refl)
  file_of_other (faults.UnknownStart start) other file is = is
  file_of_other faults.Alternatives other file is = is
  file_of_other faults.States other file is = is
  file_of_other faults.Cells other file is = is

  one_file_of_check : (fault : CheckFault) (f g : List ℕ) → IsFileOfCheck main whole fault f → IsFileOfCheck main whole fault g
      → f ≡ g
  one_file_of_check (checks.Reference fault) f g h k =
      h.2 ∙ (ap (file_of_rule main whole) (one_holder fault whole.source.rules h.0 k.0 h.1 k.1) ∙ sym k.2)
  one_file_of_check (checks.Recursion fault) f g h k = h ∙ sym k

  one_file : (fault : GrammarFault) (f g : List ℕ) → IsFileOf main whole fault f → IsFileOf main whole fault g → f ≡ g
  one_file (faults.NotUtf8 at) f g h k = h ∙ sym k
  one_file (faults.Syntax place characters) f g h k = h ∙ sym k
  one_file (faults.BadSet place) f g h k = h ∙ sym k
  one_file faults.Nesting f g h k = h ∙ sym k
  one_file (faults.RuleTwice rule) f g h k = h ∙ sym k
  one_file (faults.BadImport name) f g h k = h ∙ sym k
  one_file (faults.BadTokensLine line) f g h k = h ∙ sym k
  one_file (faults.NotALexer name) f g h k = h ∙ sym k
  one_file (faults.LiteralWithoutToken literal) f g h k = h ∙ sym k
  one_file faults.Rules f g h k = h ∙ sym k
  one_file faults.Types f g h k = h ∙ sym k
  one_file (faults.Check fault) f g h k = one_file_of_check fault f g h k
  one_file (faults.UnknownStart start) f g h k = h ∙ sym k
  one_file faults.Alternatives f g h k = h ∙ sym k
  one_file faults.States f g h k = h ∙ sym k
  one_file faults.Cells f g h k = h ∙ sym k

  -- so a fault is reported in one way
  one_place : (fault : GrammarFault) (a b : Stop) → IsLocated main whole fault a → IsLocated main whole fault b → a ≡ b
  one_place fault a b h k =
      h.2 ∙ (ap (λ (f : List ℕ). stops.Fault f fault) (one_file fault h.0 k.0 h.1 k.1) ∙ sym k.2)

  module _ {X : Type 0} (Stage : Result X GrammarFault → Type 0) (one : IsSingle Stage) where
    -- a stage over a grammar with imports gives at most one thing
    pub one_of_whole : IsSingle (OfWhole main whole Stage)
    one_of_whole a b (passes x h) (passes y k) =
        let same : ◌≡◌ {A = Result X GrammarFault} (Ok x) (Ok y) = one (Ok x) (Ok y) h k in
        let values : x ≡ y = cc in
        ap (λ z. Ok z) values
    one_of_whole a b (passes x h) (fails g t k at) =
        let same : ◌≡◌ {A = Result X GrammarFault} (Ok x) (Err g) = one (Ok x) (Err g) h k in
        absurd (let no_way : ⊥ = cc in no_way)
    one_of_whole a b (fails f s h at) (passes y k) =
        let same : ◌≡◌ {A = Result X GrammarFault} (Ok y) (Err f) = one (Ok y) (Err f) k h in
        absurd (let no_way : ⊥ = cc in no_way)
    one_of_whole a b (fails f s h at) (fails g t k to) =
        let same : ◌≡◌ {A = Result X GrammarFault} (Err f) (Err g) = one (Err f) (Err g) h k in
        let faults_same : g ≡ f = cc in
        ap (λ z. Err z) (one_place f s t at (subst (λ (x : GrammarFault). IsLocated main whole x t) faults_same to))

  module _ {X : Type 0} (Stage : Result X GrammarFault → Type 0) where
    -- what it gives, the stage gives
    pub whole_gives : (x : X) → OfWhole main whole Stage (Ok x) → Stage (Ok x)
    whole_gives x h = by (Ok x) h refl
      where
        by : (r : Result X Stop) → OfWhole main whole Stage r → r ≡ Ok x → Stage (Ok x)
        by r (passes y is) same = let values : y ≡ x = cc in subst (λ (z : X). Stage (Ok z)) values is
        by r (fails fault stop is at) same = absurd (let no_way : ⊥ = cc in no_way)
