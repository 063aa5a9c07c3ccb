-- A decision has at most one SLL verdict on a word, with one path, and at most one answer with full stacks.
use Rattle.std.proofs.Common.{◌≡◌, ◌≤◌, ℕ, suc, List, [], ◌∷◌, refl, sym, ◌∙◌, ap, arith}
use Rattle.g4_net.specs.Configurations.{Config, config, wildcard}
use Rattle.g4_net.specs.Network.{ParserNetwork, IsFirst}
use Rattle.g4_net.specs.Lookahead.{Start, Next, IsEmpty, IsOnly, Conflict, Alike, IsLeast}
use Rattle.g4_net.specs.Prediction.{Verdict, answer, error_at, sensitive, led_to, ended, Looked, Path, Judges, nothing_left, one_left, gives_up, goes_on, SllFrom, Sll}
use Rattle.g4_net.proofs.Rows.{one_row}
use Rattle.g4_net.specs.Prediction.{Choice, chosen, Settles, none_left, least, FullFrom}

-- an alternative has one first state
pub one_first : (net : ParserNetwork) (d i t u : ℕ) → IsFirst net d i t → IsFirst net d i u → t ≡ u
one_first net d i t u (targets, k, at_d, at_k, i_is) (targets', k', at_d', at_k', i_is') =
    let same : targets ≡ targets' = cc in
    let place : k ≡ k' = omega arith in
    cc

-- a set with a conflict has a member
some_in : (D : Config → Type 0) → Conflict D → IsEmpty D → ⊥
some_in D c e = e (config c.0 c.1 c.4.0) c.4.1

-- the cases of a verdict exclude each other
judges_once : (D : Config → Type 0) (k a : ℕ) (Later : Verdict → List Looked → Type 0)
    → ((v w : Verdict) (p q : List Looked) → Later v p → Later w q → (v ≡ w) × (p ≡ q)) →
    (v w : Verdict) (p q : List Looked) → Judges D k a Later v p → Judges D k a Later w q → (v ≡ w) × (p ≡ q)
judges_once D k a Later once v w p q (nothing_left e) (nothing_left f) = (refl, refl)
judges_once D k a Later once v w p q (nothing_left e) (one_left j g) = absurd (e g.some.0 g.some.1)
judges_once D k a Later once v w p q (nothing_left e) (gives_up n c s) = absurd (some_in D c e)
judges_once D k a Later once v w p q (nothing_left e) (goes_on _ _ _ f n s r l) = absurd (f e)
judges_once D k a Later once v w p q (one_left i h) (nothing_left e) = absurd (e h.some.0 h.some.1)
judges_once D k a Later once v w p q (one_left i h) (one_left j g) =
    let is : i ≡ j = sym (h.all h.some.0 h.some.1) ∙ g.all h.some.0 h.some.1 in
    (ap answer is, ap (λ (n : ℕ). record { symbol = a; led = ended (answer n) } ∷ []) is)
judges_once D k a Later once v w p q (one_left i h) (gives_up n c s) = absurd (n i h)
judges_once D k a Later once v w p q (one_left i h) (goes_on _ _ _ f n s r l) = absurd (n i h)
judges_once D k a Later once v w p q (gives_up n c s) (nothing_left e) = absurd (some_in D c e)
judges_once D k a Later once v w p q (gives_up n c s) (one_left j g) = absurd (n j g)
judges_once D k a Later once v w p q (gives_up n c s) (gives_up m d t) = (refl, refl)
judges_once D k a Later once v w p q (gives_up n c s) (goes_on _ _ _ f m t r l) = absurd (t c s)
judges_once D k a Later once v w p q (goes_on _ _ _ e n s r l) (nothing_left f) = absurd (e f)
judges_once D k a Later once v w p q (goes_on _ _ _ e n s r l) (one_left j g) = absurd (n j g)
judges_once D k a Later once v w p q (goes_on _ _ _ e n s r l) (gives_up m c t) = absurd (s c t)
judges_once D k a Later once v w p q (goes_on v' p' row e n s r l) (goes_on w' q' row' f m t r' l') =
    let later = once v w p' q' l l' in (
      later.0,
      ap (λ (xs : List Config). record { symbol = a; led = led_to xs } ∷ p') (one_row D row row' r r')
          ∙ ap (λ (xs : List Looked). record { symbol = a; led = led_to row' } ∷ xs) later.1,
    )

-- there is at most one SLL verdict from a set, and one path
one_verdict : (net : ParserNetwork) (C : Config → Type 0) (word : List ℕ) (k : ℕ) (v w : Verdict) (p q : List Looked)
    → SllFrom net C word k v p → SllFrom net C word k w q → (v ≡ w) × (p ≡ q)
one_verdict net C [] k v w p q h g = absurd h
one_verdict net C (a ∷ word) k v w p q h g =
    judges_once (Next net C a) k a (SllFrom net (Next net C a) word (suc k)) (one_verdict net (Next net C a) word (suc k)) v w p q h g

-- one alternative left is not several
not_alike : (D : Config → Type 0) (i : ℕ) → IsOnly D i → Alike D → ⊥
not_alike D i h a = a.several.4 (h.all a.several.0 a.several.2 ∙ sym (h.all a.several.1 a.several.3))

-- there is one least alternative
one_least : (D : Config → Type 0) (i j : ℕ) → IsLeast D i → IsLeast D j → i ≡ j
one_least D i j h g =
    let below : i ≤ g.some.0.alt = h.least g.some.0 g.some.1 in
    let above : j ≤ h.some.0.alt = g.least h.some.0 h.some.1 in
    omega (arith, h.some.2, g.some.2)

-- the cases of an answer with full stacks exclude each other
settles_once : (D : Config → Type 0) (k : ℕ) (Later : Choice → Type 0) → ((b c : Choice) → Later b → Later c → b ≡ c) → (b c : Choice)
    → Settles D k Later b → Settles D k Later c → b ≡ c
settles_once D k Later once b c (none_left e) (none_left f) = refl
settles_once D k Later once b c (none_left e) (one_left j g) = absurd (e g.some.0 g.some.1)
settles_once D k Later once b c (none_left e) (least j a g) = absurd (e g.some.0 g.some.1)
settles_once D k Later once b c (none_left e) (goes_on _ f n s l) = absurd (f e)
settles_once D k Later once b c (one_left i h) (none_left e) = absurd (e h.some.0 h.some.1)
settles_once D k Later once b c (one_left i h) (one_left j g) = ap chosen (sym (h.all h.some.0 h.some.1) ∙ g.all h.some.0 h.some.1)
settles_once D k Later once b c (one_left i h) (least j a g) = absurd (not_alike D i h a)
settles_once D k Later once b c (one_left i h) (goes_on _ f n s l) = absurd (n i h)
settles_once D k Later once b c (least i a h) (none_left e) = absurd (e h.some.0 h.some.1)
settles_once D k Later once b c (least i a h) (one_left j g) = absurd (not_alike D j g a)
settles_once D k Later once b c (least i a h) (least j _ g) = ap chosen (one_least D i j h g)
settles_once D k Later once b c (least i a h) (goes_on _ f n s l) = absurd (s a)
settles_once D k Later once b c (goes_on _ e n s l) (none_left f) = absurd (e f)
settles_once D k Later once b c (goes_on _ e n s l) (one_left j g) = absurd (n j g)
settles_once D k Later once b c (goes_on _ e n s l) (least j a g) = absurd (s a)
settles_once D k Later once b c (goes_on _ e n s l) (goes_on _ f m t r) = once b c l r

-- there is at most one answer with full stacks
pub one_full : (net : ParserNetwork) (C : Config → Type 0) (word : List ℕ) (k : ℕ) (b c : Choice) → FullFrom net C word k b
    → FullFrom net C word k c → b ≡ c
one_full net C [] k b c h g = absurd h
one_full net C (a ∷ word) k b c h g = settles_once (Next net C a) k (FullFrom net (Next net C a) word (suc k))
    (one_full net (Next net C a) word (suc k)) b c h g

-- a decision has at most one SLL verdict, with one path
pub one_sll : (net : ParserNetwork) (d : ℕ) (A : ℕ → Type 0) (word : List ℕ) (v w : Verdict) (p q : Path) → Sll net d A word v p
    → Sll net d A word w q → (v ≡ w) × (p ≡ q)
one_sll net d A word v w p q h g =
    let later = one_verdict net (Start net d A wildcard) word 0 v w p.looked q.looked h.1 g.1 in
    let from : p.start ≡ q.start = one_row (Start net d A wildcard) p.start q.start h.0 g.0 in (
      later.0,
      ap (λ (xs : List Config). record { start = xs; looked = p.looked }) from
          ∙ ap (λ (xs : List Looked). record { start = q.start; looked = xs }) later.1,
    )
