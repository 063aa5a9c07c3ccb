-- Which states of a rule are levels, and which lead to levels.
use Rattle.std.proofs.Common.{◌≡◌, ℕ, suc, ◌+◌, ◌<◌, ◌≤◌, ◌⊎◌, inl, inr, List, [], ◌∷◌, length, Some, refl, sym, subst, arith}
use native.Mathlib.Decide.{dec_lt}
use Rattle.g4_source.specs.Elements.{Elements, Alternatives, either}
use Rattle.g4_net.specs.declared.network.State.{State}
use Rattle.g4_net.specs.declared.network.State.TheVariants.{Decision, Level, Empty}
use Rattle.g4_net.specs.Leads.{IsTarget}
use Rattle.g4_net.specs.Network.{ParserNetwork, state_at, start_of}
use Rattle.g4_layout.specs.Layout.{AllLeadTo, a_level, LieInOrder, one_more, LieSideBySide, no_other, another}
use Rattle.g4_layout.proofs.Sound.{IsSoundState, SoundAt, sound_by, target_allowed, in_order_sound, within_in_order_sound, within_bodies_sound}
use Rattle.g4_layout.proofs.Spans.{firsts_between}
use Rattle.g4_leftrec.specs.OwnCalls.{Part}
use Rattle.g4_leftrec.specs.Rewriting.{StepIn, operand_level, precedence}
use Rattle.g4_derivation.specs.Alternatives.{IsNoLevel}
use Rattle.g4_derivation.proofs.LastCall.{alike_level_free, with_last_alike}
use Rattle.g4_derivation.proofs.LevelFree.{IsNotLevel, AreLevelFree, EachIsLevelFree}
use Rattle.g4_derivation.proofs.Shapes.{laid_operators, laid_rest, PartsAreLevelFree, OperatorLies, begins_later, begins_first}
use Rattle.g4_derivation.proofs.Starting.{StartsLie, one_start, several_starts}

-- any number
abbrev Any : ℕ → Type 0
Any q = Unit {0}

module _ (net : ParserNetwork) where
  -- no edge of the state leads to a level
  abbrev pub AvoidsLevels : ℕ → Type 0
  AvoidsLevels p = (t : ℕ) (s : State (List ℕ)) → state_at net p ≡ Some s → IsTarget s t → IsNoLevel net t

  -- another state than a level
  pub other_state : (p : ℕ) (s : State (List ℕ)) → state_at net p ≡ Some s → ((q t : ℕ) → s ≡ Level q t → ⊥) → IsNoLevel net p
  other_state p s is apart q t level = let same : s ≡ Level q t = cc in apart q t same

  -- a state of a level leads to the state after it
  after_level : (p q u : ℕ) → state_at net p ≡ Some (Level q u) → IsNoLevel net u → AvoidsLevels p
  after_level p q u is free t s found target =
      let same : s ≡ Level q u = cc in let at : t ≡ u = subst (λ (x : State (List ℕ)). IsTarget x t) same target in
      subst (IsNoLevel net) (sym at) free

  -- a state of elements without levels whose targets are allowed ones
  abbrev IsFreeState : (ℕ → Type 0) → ℕ → Type 0
  IsFreeState Allowed p = SoundAt net IsNotLevel Any Allowed p

  -- it is no level
  free_no_level : (p : ℕ) → IsFreeState Any p → IsNoLevel net p
  free_no_level p h q t is = (subst (IsSoundState IsNotLevel Any Any) is h).0

  -- and leads to none, where these are allowed
  free_avoids : (p : ℕ) → IsFreeState (IsNoLevel net) p → AvoidsLevels p
  free_avoids p h t s is target = target_allowed IsNotLevel Any (IsNoLevel net) s t
      (subst (IsSoundState IsNotLevel Any (IsNoLevel net)) is h) target

  module _ (Allowed : ℕ → Type 0) {y : Elements StepIn} {a last n m t : ℕ} (l : LieInOrder net y a last n m) (free : AreLevelFree y)
      (leads : state_at net last ≡ Some (Empty t))
      (t_allowed : Allowed t) (allowed : (q : ℕ) → n ≤ q → q < m → Allowed q) where
    -- where elements without levels begin
    run_begins : IsFreeState Allowed a
    run_begins = elim (in_order_sound net IsNotLevel Any Allowed l free allowed) [
      | inl same ↦ subst (IsFreeState Allowed) same (sound_by net IsNotLevel Any Allowed last (Some (Empty t)) leads t_allowed)
      | inr h ↦ h
    ]

    -- their other states
    run_goes : Allowed a → (p : ℕ) → n ≤ p → p < m → IsFreeState Allowed p
    run_goes a_allowed p from below = elim (within_in_order_sound net IsNotLevel Any Allowed l free a_allowed allowed p from below) [
      | inl same ↦ subst (IsFreeState Allowed) (sym same) (sound_by net IsNotLevel Any Allowed last (Some (Empty t)) leads t_allowed)
      | inr h ↦ h
    ]

  -- the states of a part of a rule: no state is a level, and none leads to one
  pub record IsFree (n m : ℕ) : Type 0 where
    pub none : (p : ℕ) → n ≤ p → p < m → IsNoLevel net p
    pub avoid : (p : ℕ) → n ≤ p → p < m → AvoidsLevels p

  -- the state is no level, and leads to none
  abbrev pub IsFreeAt : ℕ → Type 0
  IsFreeAt p = IsNoLevel net p × AvoidsLevels p

  -- elements without levels that are laid out up to a state that is no level
  run_free : {y : Elements StepIn} {a last n m t : ℕ} → LieInOrder net y a last n m → AreLevelFree y
      → state_at net last ≡ Some (Empty t) → IsNoLevel net t → IsFreeAt a × IsFree n m
  run_free {a = a} {n = n} {m = m} l free leads t_free =
      let here = free_no_level a (run_begins Any l free leads tt (λ q from below. tt)) in
      let none : (p : ℕ) → n ≤ p → p < m → IsNoLevel net p =
      λ p from below. free_no_level p (run_goes Any l free leads tt (λ q q_from q_below. tt) tt p from below) in (
        (here, free_avoids a (run_begins (IsNoLevel net) l free leads t_free none)),
        record { none = none; avoid = λ p from below. free_avoids p (run_goes (IsNoLevel net) l free leads t_free none here p from below) },
      )

  -- bodies without levels that are laid out up to such a state, and the decision between them
  bodies_free : (s t : ℕ) {xs : Alternatives StepIn} {firsts lasts : List ℕ} {n m : ℕ} → 2 ≤ length firsts
      → state_at net s ≡ Some (Decision firsts) → LieSideBySide net xs firsts lasts n m → AllLeadTo net lasts t → EachIsLevelFree xs
      → IsNoLevel net t →
      IsFreeAt s × IsFree n m
  bodies_free s t {firsts = firsts} {n = n} {m = m} two is l leads free t_free =
      let none : (p : ℕ) → n ≤ p → p < m → IsNoLevel net p =
      λ p from below. free_no_level p (within_bodies_sound net IsNotLevel Any Any l t leads free (λ q q_from q_below. tt) tt p
      from below) in
      let at_start = sound_by net IsNotLevel Any (IsNoLevel net) s (Some (Decision firsts)) is
      (two, λ q c. let b = firsts_between l q c in none q b.0 b.1) in (
        (other_state s (Decision firsts) is (λ q u e. let n : ⊥ = cc in n), free_avoids s at_start),
        record {
          none = none;
          avoid = λ p from below.
              free_avoids p (within_bodies_sound net IsNotLevel Any (IsNoLevel net) l t leads free none t_free p from below);
        },
      )

  -- the alternatives with which a rule starts
  pub starts_free : {k g n m : ℕ} {xs : List (Elements StepIn)} → StartsLie net k g n m xs → EachIsLevelFree (either xs)
      → IsNoLevel net g → IsFreeAt (start_of k) × IsFree n m
  starts_free (one_start x last l leads) free g_free = run_free l free.0 leads g_free
  starts_free {k} {g} (several_starts xs firsts lasts two is l leads) free g_free = bodies_free (start_of k) g two is l leads free g_free

  module _ (k count u : ℕ) (u_free : IsNoLevel net u) where
    -- a state of the turns: no level, or one where an operator begins, and what follows that is free; neither leads to a level
    pub record IsTurnState (parts : List (Part StepIn)) (p : ℕ) : Type 0 where
      pub avoids : AvoidsLevels p
      pub level : IsNoLevel net p ⊎ (OperatorLies net k count u parts p × IsNoLevel net (p + 1))

    -- a state of the turns after the first
    later_turn : (x : Part StepIn) (parts : List (Part StepIn)) (p : ℕ) → IsTurnState parts p → IsTurnState (x ∷ parts) p
    later_turn x parts p s = record {
      avoids = s.avoids;
      level = elim s.level [ inl free ↦ inl free | inr b ↦ inr (begins_later net k count u x parts p b.0, b.1) ];
    }

    -- a state that is free
    free_turn : (parts : List (Part StepIn)) (p : ℕ) → IsFreeAt p → IsTurnState parts p
    free_turn parts p h = record { avoids = h.1; level = inl h.0 }

    -- the states of an operator
    first_turn : (x : Part StepIn) (parts : List (Part StepIn)) {n last m : ℕ} → AreLevelFree x.elements
        → state_at net n ≡ Some (Level (precedence count x.number) (n + 1)) →
        LieInOrder net (laid_rest k count x) (n + 1) last (n + 1 + 1) m → state_at net last ≡ Some (Empty u) → (p : ℕ) → n ≤ p → p < m
        → IsTurnState (x ∷ parts) p
    first_turn x parts {n} {last} {m} free is l leads p from below =
        let rest = alike_level_free (with_last_alike k (operand_level (precedence count x.number) x.right) x.elements) free in
        let h = run_free l rest leads u_free in
        elim (dec_lt n p) [
          | yes after ↦ elim (dec_lt (n + 1) p) [
            | yes more ↦ free_turn (x ∷ parts) p (h.1.none p (omega arith) below, h.1.avoid p (omega arith) below)
            | no next ↦ (let same : n + 1 ≡ p = omega arith in free_turn (x ∷ parts) p (subst IsFreeAt same h.0))
          ]
          | no at ↦ (let same : n ≡ p = omega arith in subst (IsTurnState (x ∷ parts)) same (record {
            avoids = after_level n (precedence count x.number) (n + 1) is h.0.0;
            level = inr (begins_first net k count u x parts is l (leads, tt), h.0.0);
          }))
        ]

    -- the states of the operators
    pub operator_states : (parts : List (Part StepIn)) → PartsAreLevelFree parts → {firsts lasts : List ℕ} {n m : ℕ}
        → LieSideBySide net (either (laid_operators k count parts)) firsts lasts n m → AllLeadTo net lasts u →
        (p : ℕ) → n ≤ p → p < m → IsTurnState parts p
    operator_states [] free (no_other n) leads p from below = absurd (omega arith)
    operator_states (x ∷ parts) free (another _ _ last n j m firsts lasts (one_more _ _ _ _ _ _ _ _ (a_level q _ _ is) l) ls) leads p
        from below = elim (dec_lt p j) [
          | yes before ↦ first_turn x parts (free 0 x refl) is l leads.0 p from before
          | no after ↦ later_turn x parts p (operator_states parts (λ i y e. free (suc i) y e) ls leads.1 p (omega arith) below)
        ]
