-- What is reported of the names of rules is one answer.
use Rattle.std.proofs.Common.{◌≡◌, ◌≢◌, ℕ, List, [], Result, Ok, Err, Some, None, ap, refl}
use Rattle.std.specs.Prelude.{⊤}
use Rattle.g4_source.specs.declared.rule.Rule.{Rule}
use Rattle.g4_vocab.specs.Names.{HasOwnNames, first_repeated}
use Rattle.g4_vocab.specs.declared.twice.NameFault.{NameFault}
use Rattle.g4_vocab.specs.declared.twice.NameFault.TheVariants.{RuleTwice, NoMemory}

-- a name that is reported is one name
same_name : (rules : List Rule) (name other : List ℕ) → first_repeated [] rules ≡ Some name → first_repeated [] rules ≡ Some other
    → name ≡ other
same_name rules name other p q = cc

-- no name, and a name, are not both reported
not_both : (rules : List Rule) (name : List ℕ) → first_repeated [] rules ≡ None → first_repeated [] rules ≡ Some name → ⊥
not_both rules name p q = cc

-- the answer is one
pub one_naming : (rules : List Rule) (a b : Result ⊤ NameFault) → HasOwnNames rules a → HasOwnNames rules b → a ≢ Err NoMemory
    → b ≢ Err NoMemory → a ≡ b
one_naming rules (Ok _) (Ok _) h k n m = refl
one_naming rules (Ok _) (Err (RuleTwice name)) h k n m = absurd (not_both rules name h k)
one_naming rules (Ok _) (Err NoMemory) h k n m = absurd (m refl)
one_naming rules (Err (RuleTwice name)) (Ok _) h k n m = absurd (not_both rules name k h)
one_naming rules (Err (RuleTwice name)) (Err (RuleTwice other)) h k n m = ap (λ x. Err (RuleTwice x)) (same_name rules name other h k)
one_naming rules (Err (RuleTwice name)) (Err NoMemory) h k n m = absurd (m refl)
one_naming rules (Err NoMemory) b h k n m = absurd (n refl)
