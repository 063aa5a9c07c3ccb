-- Where the alternatives of rules begin, and how they are laid out from there.
use Rattle.std.proofs.Common.{◌≡◌, ℕ, zero, suc, ◌+◌, List, [], ◌∷◌, Some, refl, sym, ap, subst, arith, slice_get}
use Rattle.std.proofs.lemmas.Option.{slice_get_within}
use Rattle.g4_source.specs.Elements.{Elements, Alternatives, none, or, either}
use Rattle.g4_grammar.specs.declared.step.Step.{Step}
use Rattle.g4_net.specs.declared.network.Network.{Network}
use Rattle.g4_net.specs.declared.network.State.TheVariants.{Decision, End, Empty}
use Rattle.g4_net.specs.Network.{state_at, start_of, end_of, IsFirst}
use Rattle.g4_layout.specs.Layout.{AllLeadTo, LieInOrder, LieSideBySide, no_other, another, LiesAsRule, of_one, of_several, IsNetworkOf}
use Rattle.g4_layout.proofs.Rules.{rule_laid}
use Rattle.g4_layout.proofs.Spans.{one_first}
use Rattle.g4_derivation.specs.Alternatives.{each_of, IsAlternative, BeginsAt}

-- the list of alternatives made of a list is that list
pub each_of_either : {A : Type 0} (xs : List (Elements A)) → each_of (either xs) ≡ xs
each_of_either [] = refl
each_of_either (x ∷ xs) = ap (λ (ys : List (Elements _)). x ∷ ys) (each_of_either xs)

-- the alternatives made of a list are its items, counted from 1
pub alternative_of_list : {A : Type 0} (xs : List (Elements A)) (j : ℕ) (x : Elements A) → slice_get xs j ≡ Some x
    → IsAlternative (either xs) (j + 1) x
alternative_of_list xs j x is = (j, subst (λ (ys : List (Elements _)). slice_get ys j ≡ Some x) (sym (each_of_either xs)) is, refl)

-- and no others
pub item_of_alternative : {A : Type 0} (xs : List (Elements A)) (i : ℕ) (x : Elements A) → IsAlternative (either xs) i x
    → (j : ℕ) × (slice_get xs j ≡ Some x) × (i ≡ j + 1)
item_of_alternative xs i x (j, is, number) = (j, subst (λ (ys : List (Elements _)). slice_get ys j ≡ Some x) (each_of_either xs) is, number)

-- one number has one alternative
pub same_alternative : {A : Type 0} (xs : Alternatives A) {i : ℕ} {x y : Elements A} → IsAlternative xs i x → IsAlternative xs i y → x ≡ y
same_alternative {A} xs {i} {x} {y} (j, is, at) (k, found, also) =
    let same : j ≡ k = omega arith in let moved = subst (λ (q : ℕ). slice_get (each_of xs) q ≡ Some x) same is in cc

-- the elements are laid out from the state to a last one, which leads to t
pub record LiesTo {L : Type 0} (net : Network L) (x : Elements (Step L)) (a t : ℕ) : Type 0 where
  pub last : ℕ
  pub from : ℕ
  pub upto : ℕ
  pub lies : LieInOrder net x a last from upto
  pub leads : state_at net last ≡ Some (Empty t)

module _ {L : Type 0} where
  -- body j of those side by side, which lead to t
  pub body_at : {net : Network L} {xs : Alternatives (Step L)} {firsts lasts : List ℕ} {n m : ℕ}
      → LieSideBySide net xs firsts lasts n m → (t : ℕ) → AllLeadTo net lasts t → (j a : ℕ) → slice_get firsts j ≡ Some a →
      (x : Elements (Step L)) × (slice_get (each_of xs) j ≡ Some x) × LiesTo net x a t
  body_at (no_other n) t leads j a is = absurd (let k : ⊥ = cc in k)
  body_at {net} (another x xs last n k m firsts lasts l ls) t leads zero a is =
      let same : n ≡ a = cc in (
        x,
        refl,
        subst (λ (q : ℕ). LiesTo net x q t) same
            (record { last = last; from = n + 1; upto = k; lies = l; leads = leads.0 }),
      )
  body_at (another x xs last n k m firsts lasts l ls) t leads (suc j) a is = body_at ls t leads.1 j a is

  -- Alternative i of the rule begins at a: there is such an alternative, and it is laid out from there to the rule's end.
  pub record Begun (net : Network L) (xs : Alternatives (Step L)) (rule i a : ℕ) : Type 0 where
    pub alternative : Elements (Step L)
    pub is : IsAlternative xs i alternative
    pub lies : LiesTo net alternative a (end_of rule)

  -- of several alternatives
  several : {net : Network L} {rule i a n m : ℕ} {xs : Alternatives (Step L)} (firsts lasts : List ℕ)
      → state_at net (start_of rule) ≡ Some (Decision firsts) → LieSideBySide net xs firsts lasts n m →
      AllLeadTo net lasts (end_of rule) → IsFirst net (start_of rule) i a → Begun net xs rule i a
  several {net} {rule} {i} {a} firsts lasts is l leads (targets, k, found, at, number) =
      let same : targets ≡ firsts = cc in
      let here : slice_get firsts k ≡ Some a = subst (λ (ts : List ℕ). slice_get ts k ≡ Some a) same at in
      let b = body_at l (end_of rule) leads k a here in
      record { alternative = b.0; is = (k, b.1, number); lies = b.2 }

  -- where an alternative of a rule begins
  begun : {net : Network L} {rule i a n m : ℕ} {xs : Alternatives (Step L)} → LiesAsRule net rule xs n m → BeginsAt net rule xs i a
      → Begun net xs rule i a
  begun {net} {i = i} {a = a} (of_one rule last n m x l leads) (first, start) = record {
    alternative = x;
    is = (0, refl, omega (arith, first));
    lies = record { last = last; from = n; upto = m; lies = subst (λ (q : ℕ). LieInOrder net x q last n m) (sym start) l; leads = leads };
  }
  begun (of_several rule n m none firsts lasts two is l leads) b = absurd b
  begun (of_several rule n m (or x none) firsts lasts two is l leads) b = let one = one_first l in absurd (omega arith)
  begun (of_several rule n m (or x (or y more)) firsts lasts two is l leads) b = several firsts lasts is l leads b

module _ {L : Type 0} (rules : List (Alternatives (Step L))) (net : Network L) (network : IsNetworkOf rules net) (k : ℕ)
    (xs : Alternatives (Step L)) (is : slice_get rules k ≡ Some xs) where
  -- rule k as it is laid out
  pub laid_as : (n m : ℕ) × LiesAsRule net k xs n m × (state_at net (end_of k) ≡ Some (End k))
  laid_as = let r = rule_laid rules net network k (slice_get_within rules k xs is) in
      let found = r.is in let same : r.alternatives ≡ xs = cc in
      (r.from, r.upto, subst (λ (ys : Alternatives (Step L)). LiesAsRule net k ys r.from r.upto) same r.lies, r.last)

  -- the rule's end
  pub ends_at : state_at net (end_of k) ≡ Some (End k)
  ends_at = laid_as.3

  -- where alternative i begins
  pub begins : (i a : ℕ) → BeginsAt net k xs i a → Begun net xs k i a
  begins i a b = begun laid_as.2 b
