-- What `clap` reads of a flag as a truth value: `true` exactly where its text is `true`.
use Rattle.std.proofs.Common.{◌≡◌, ◌↔◌, Bool, Option, Some, None, true, false, ap, refl, true≢false}
use Rattle.std.specs.Bool.{beq}
use Rattle.std.specs.Prelude.{codes}
use Rattle.std.specs.Option.{option_eq}
use Rattle.std.specs.Str.{bytes_eq}
use Rattle.std.specs.Str.Parse.{ParsesBool}
use Rattle.clap.specs.Words.{ReadsOne, Text}

true_is_not_false : codes "true" ≡ codes "false" → ⊥
true_is_not_false same = true≢false (ap (bytes_eq (codes "true")) same)

-- the answer is `true` exactly where the text is
pub flag_is_true : (E : Type 0) (answer : Option Bool) (text : Option Text) → (text ≡ None → answer ≡ None)
    → ((t : Text) → text ≡ Some t → ReadsOne {T = Bool} {E = E} ParsesBool t answer)
    → (option_eq beq answer (Some true) ≡ true) ↔ (text ≡ Some (codes "true"))
flag_is_true E (Some true) (Some t) none value = (λ yes. ap Some (value t refl), λ is. refl)
flag_is_true E (Some true) None none value = (λ yes. cc (none refl), λ is. refl)
flag_is_true E (Some false) text none value = (λ yes. cc, λ is. absurd (true_is_not_false (value (codes "true") is)))
flag_is_true E None text none value = (λ yes. cc, λ is. absurd ((value (codes "true") is).1.0 refl))
