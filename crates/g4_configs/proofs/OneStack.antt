-- One stack, its states pushed from the oldest on.
use Rattle.std.proofs.Math.Seq.{take-suc}
use Rattle.std.proofs.lemmas.List.{reverse-append}
use Rattle.std.proofs.Common.{◌≡◌, ℕ, suc, ◌+◌, ◌<◌, ◌↔◌, List, [], ◌∷◌, ◌++◌, Bool, reverse, take, get_or, length, refl, sym, ◌∙◌, ap, arith}
use Rattle.g4_stacks.specs.Graph.{Content, Has, IsNode, IsPushed, Keeps}
use Rattle.g4_stacks.specs.Stack.{pushed}
use Rattle.g4_net.specs.Configurations.{Stack}
use Rattle.g4_configs.proofs.Adding.{keeps_then}

-- the stack of these return states, newest last
abbrev pub stack_of : List ℕ → Bool → Stack
stack_of returns wild = record { returns = reverse returns; wild = wild }

-- a grown graph, in which the node has this one stack
pub record IsOneStack (old new : List Content) (n : ℕ) (returns : List ℕ) (wild : Bool) : Type 0 where
  pub keeps : Keeps old new
  pub known : IsNode new n
  pub means : (s : Stack) → Has new n s ↔ (s ≡ stack_of returns wild)

pub one_more : (g h k : List Content) (n m : ℕ) (returns : List ℕ) (i : ℕ) (wild : Bool) → i < length returns
    → IsOneStack g h n (take i returns) wild → Keeps h k → IsNode k m
    → ((s : Stack) → Has k m s ↔ IsPushed h n (get_or returns i 0) s) → IsOneStack g k m (take (i + 1) returns) wild
one_more g h k n m returns i wild lt one kept known means = record {
  keeps = keeps_then g h k one.keeps kept;
  known = known;
  means = λ s. (
    (λ has. let p = (means s).0 has in p.2 ∙ ap (λ (r : Stack). pushed (get_or returns i 0) r) ((one.means p.0).0 p.1) ∙ sym whole),
    λ is. (means s).1 (stack_of (take i returns) wild, (one.means _).1 refl, is ∙ whole),
  );
}
  where
    next : take (i + 1) returns ≡ take i returns ++ get_or returns i 0 ∷ []
    next = let e : i + 1 ≡ suc i = omega arith in ap (λ (k : ℕ). take k returns) e ∙ take-suc returns i 0 lt

    whole : stack_of (take (i + 1) returns) wild ≡ pushed (get_or returns i 0) (stack_of (take i returns) wild)
    whole = ap (λ (xs : List ℕ). stack_of xs wild) next
        ∙ ap (λ (xs : List ℕ). let s : Stack = record { returns = xs; wild = wild } in s)
        (reverse-append (take i returns) (get_or returns i 0 ∷ []))
