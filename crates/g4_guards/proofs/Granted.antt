-- What is chosen is allowed, whether it fits or not.
use Rattle.std.proofs.Common.{◌≡◌, ℕ, suc, List, [], ◌∷◌, sym, ◌∙◌, ap, subst}
use Rattle.g4_net.specs.Configurations.{Config, Stack, wildcard}
use Rattle.g4_net.specs.Lookahead.{Start, Next, IsOnly}
use Rattle.g4_net.specs.Network.{ParserNetwork}
use Rattle.g4_net.specs.Prediction.{Verdict, answer, error_at, sensitive, Looked, Path, Judges, SllFrom, Sll, Choice, chosen, no_viable, Settles, FullFrom, Full}
use Rattle.g4_net.specs.Prediction as prediction
use Rattle.g4_net.proofs.Finite.{reached_keeps}
use Rattle.g4_guards.specs.Choosing.{BeginsAllowed, Chooses, by_answer, by_error, by_full, unguarded}

module _ (net : ParserNetwork) (d : ℕ) (A : ℕ → Type 0) where
  -- the alternative is one of the decision's, and allowed
  abbrev IsAllowed : ℕ → Type 0
  IsAllowed i = (t : ℕ) × BeginsAllowed net d A i t

  -- each alternative of the set is
  abbrev AreAllowed : (Config → Type 0) → Type 0
  AreAllowed C = (c : Config) → C c → IsAllowed c.alt

  allowed_start : (z : Stack) → AreAllowed (Start net d A z)
  allowed_start z c (e, (may, first, is), r, kept) = subst IsAllowed (reached_keeps net e c r).0 (e.state, (may, first))

  allowed_next : (C : Config → Type 0) (a : ℕ) → AreAllowed C → AreAllowed (Next net C a)
  allowed_next C a h e (b, (c, in_c, t, is), r, kept) =
      let same : c.alt ≡ e.alt = sym (ap (λ (x : Config). x.alt) is) ∙ (reached_keeps net b e r).0 in
      subst IsAllowed same (h c in_c)

  -- so is the only one that is left
  allowed_only : (D : Config → Type 0) (i : ℕ) → AreAllowed D → IsOnly D i → IsAllowed i
  allowed_only D i h only = subst IsAllowed (only.all only.some.0 only.some.1) (h only.some.0 only.some.1)

  -- what full stacks choose
  abbrev Grants : Choice → Type 0
  Grants (chosen i) = IsAllowed i
  Grants (no_viable k) = Unit {0}

  settles_allowed : (D : Config → Type 0) (k : ℕ) (Later : Choice → Type 0) → AreAllowed D → ((c : Choice) → Later c → Grants c)
      → (c : Choice) → Settles D k Later c → Grants c
  settles_allowed D k Later h later _ (prediction.none_left e) = tt
  settles_allowed D k Later h later _ (prediction.one_left i only) = allowed_only D i h only
  settles_allowed D k Later h later _ (prediction.least i alike l) = subst IsAllowed l.some.2 (h l.some.0 l.some.1)
  settles_allowed D k Later h later _ (prediction.goes_on c e n s l) = later c l

  full_allowed : (C : Config → Type 0) (w : List ℕ) (k : ℕ) (c : Choice) → AreAllowed C → FullFrom net C w k c → Grants c
  full_allowed C [] k c h f = absurd f
  full_allowed C (a ∷ w) k c h f =
      let next = allowed_next C a h in
      settles_allowed (Next net C a) k (FullFrom net (Next net C a) w (suc k)) next
      (λ b g. full_allowed (Next net C a) w (suc k) b next g) c f

  -- what SLL answers
  abbrev Answers : Verdict → Type 0
  Answers (answer i) = IsAllowed i
  Answers (error_at k) = Unit {0}
  Answers (sensitive k) = Unit {0}

  judges_allowed : (D : Config → Type 0) (k a : ℕ) (Later : Verdict → List Looked → Type 0) → AreAllowed D
      → ((v : Verdict) (more : List Looked) → Later v more → Answers v) → (v : Verdict) (looked : List Looked) → Judges D k a Later v looked
      → Answers v
  judges_allowed D k a Later h later _ _ (prediction.nothing_left e) = tt
  judges_allowed D k a Later h later _ _ (prediction.one_left i only) = allowed_only D i h only
  judges_allowed D k a Later h later _ _ (prediction.gives_up n c l) = tt
  judges_allowed D k a Later h later _ _ (prediction.goes_on v more row e n s is l) = later v more l

  sll_allowed : (C : Config → Type 0) (w : List ℕ) (k : ℕ) (v : Verdict) (looked : List Looked) → AreAllowed C
      → SllFrom net C w k v looked → Answers v
  sll_allowed C [] k v looked h s = absurd s
  sll_allowed C (a ∷ w) k v looked h s =
      let next = allowed_next C a h in
      judges_allowed (Next net C a) k a (SllFrom net (Next net C a) w (suc k)) next
      (λ b more g. sll_allowed (Next net C a) w (suc k) b more next g) v looked s

  module _ (z : Stack) (w : List ℕ) where
    chooses_allowed : (c : Choice) → Chooses net d A z w c → Grants c
    chooses_allowed _ (by_answer i path g s) = sll_allowed (Start net d A wildcard) w 0 (answer i) path.looked (allowed_start wildcard) s.1
    chooses_allowed _ (by_error k path g s) = tt
    chooses_allowed _ (by_full k path c g s f) = full_allowed (Start net d A z) w 0 c (allowed_start z) f
    chooses_allowed _ (unguarded c none f) = full_allowed (Start net d A z) w 0 c (allowed_start z) f

    -- an alternative that is chosen is an allowed one of the decision
    pub chosen_allowed : (i : ℕ) → Chooses net d A z w (chosen i) → (t : ℕ) × BeginsAllowed net d A i t
    chosen_allowed i h = chooses_allowed (chosen i) h
