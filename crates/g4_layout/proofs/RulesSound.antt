-- What is at the states of rules: each is sound where the rules' elements are.
use Rattle.std.proofs.Common.{◌≡◌, ℕ, ◌*◌, ◌<◌, ◌≤◌, inl, inr, List, length, Option, Some, None, refl, sym, subst, arith, slice_get}
use Rattle.std.proofs.lemmas.Option.{slice_get_within}
use Rattle.g4_source.specs.Elements.{Alternatives}
use Rattle.g4_grammar.specs.declared.step.Step.{Step}
use Rattle.g4_net.specs.declared.network.Network.{Network}
use Rattle.g4_net.specs.declared.network.State.{State}
use Rattle.g4_net.specs.declared.network.State.TheVariants.{Decision, End, Empty}
use Rattle.g4_net.specs.Network.{state_at, start_of, end_of}
use Rattle.g4_layout.specs.Layout.{LiesAsRule, of_one, of_several, IsNetworkOf}
use Rattle.g4_layout.proofs.Rules.{Laid, LaidRule, rules_up, every_state}
use Rattle.g4_layout.proofs.Sound.{IsSoundState, SoundAt, AreAllowed, sound_by, in_order_sound, within_in_order_sound, within_bodies_sound}
use Rattle.g4_layout.proofs.Spans.{firsts_between}
use Rattle.g4_layout.proofs.Trees.{EachIsSound}

module _ {L : Type 0} (net : Network L) (Good : Step L → Type 0) (Ended Allowed : ℕ → Type 0) where
  -- the start of a rule
  start_sound : {rule n m : ℕ} {xs : Alternatives (Step L)} → LiesAsRule net rule xs n m → EachIsSound Good xs → Allowed (end_of rule)
      → AreAllowed net Good Ended Allowed n m → SoundAt net Good Ended Allowed (start_of rule)
  start_sound (of_one rule last n m x l leads) sound end allowed = elim (in_order_sound net Good Ended Allowed l sound.0 allowed) [
    | inl same ↦ subst (SoundAt net Good Ended Allowed) same (sound_by net Good Ended Allowed last (Some (Empty (end_of rule))) leads end)
    | inr h ↦ h
  ]
  start_sound (of_several rule n m xs firsts lasts two is l a) sound end allowed =
      sound_by net Good Ended Allowed (start_of rule) (Some (Decision firsts)) is
      (two, λ t c. let b = firsts_between l t c in allowed t b.0 b.1)

  -- the states of a rule other than its start and end
  inside_sound : {rule n m : ℕ} {xs : Alternatives (Step L)} → LiesAsRule net rule xs n m → EachIsSound Good xs
      → Allowed (start_of rule) → Allowed (end_of rule) → AreAllowed net Good Ended Allowed n m →
      (p : ℕ) → n ≤ p → p < m → SoundAt net Good Ended Allowed p
  inside_sound (of_one rule last n m x l leads) sound start end allowed p from below =
      elim (within_in_order_sound net Good Ended Allowed l sound.0 start allowed p from below) [
        | inl same ↦ subst (SoundAt net Good Ended Allowed) (sym same)
            (sound_by net Good Ended Allowed last (Some (Empty (end_of rule))) leads end)
        | inr h ↦ h
      ]
  inside_sound (of_several rule n m xs firsts lasts two is l a) sound start end allowed p from below =
      within_bodies_sound net Good Ended Allowed l (end_of rule) a sound allowed end p from below

  module _ (rules : List (Alternatives (Step L))) (lowest k : ℕ) (r : Laid net rules lowest k)
      (sound : EachIsSound Good r.alternatives) (end : Allowed (end_of k))
      (allowed : AreAllowed net Good Ended Allowed r.from r.upto) where
    -- the start and end of a rule as it is laid out
    pub heads_sound : Ended k → SoundAt net Good Ended Allowed (start_of k) × SoundAt net Good Ended Allowed (end_of k)
    heads_sound ended = (start_sound r.lies sound end allowed, sound_by net Good Ended Allowed (end_of k) (Some (End k)) r.last ended)

    -- its other states
    pub others_sound : Allowed (start_of k) → (p : ℕ) → r.from ≤ p → p < r.upto → SoundAt net Good Ended Allowed p
    others_sound start p from below = inside_sound r.lies sound start end allowed p from below

module _ {L : Type 0} (rules : List (Alternatives (Step L))) (net : Network L) (network : IsNetworkOf rules net) (Good : Step L → Type 0)
    (sound : (k : ℕ) (xs : Alternatives (Step L)) → slice_get rules k ≡ Some xs → EachIsSound Good xs) where
  -- a rule of the list
  abbrev pub IsRule : ℕ → Type 0
  IsRule k = k < length rules

  -- a state of the network
  abbrev pub IsState : ℕ → Type 0
  IsState p = p < length net.states

  -- the starts and ends of rules are states
  pub heads_within : 2 * length rules ≤ length net.states
  heads_within = rules_up network.lie

  -- the number of a rule that is there
  known : (k : ℕ) → LaidRule rules net network k → IsRule k
  known k r = slice_get_within rules k r.alternatives r.is

  -- its start and end
  start_within : (k : ℕ) → LaidRule rules net network k → IsState (start_of k)
  start_within k r = let a = known k r in let b = heads_within in omega arith

  end_within : (k : ℕ) → LaidRule rules net network k → IsState (end_of k)
  end_within k r = let a = known k r in let b = heads_within in omega arith

  -- its other states
  others_within : (k : ℕ) (r : LaidRule rules net network k) → AreAllowed net Good IsRule IsState r.from r.upto
  others_within k r q from below = omega (arith, r.room)

  -- no state is there
  nowhere : (p : ℕ) (o : Option (State L)) → state_at net p ≡ o → length net.states ≤ p → SoundAt net Good IsRule IsState p
  nowhere p None is past = sound_by net Good IsRule IsState p None is tt
  nowhere p (Some s) is past = let within = slice_get_within net.states p s is in absurd (omega arith)

  -- each state of a network whose rules are sound is sound, its targets being states
  all_states_sound : (p : ℕ) → SoundAt net Good IsRule IsState p
  all_states_sound = every_state rules net network (SoundAt net Good IsRule IsState)
      (λ k r. heads_sound net Good IsRule IsState rules (2 * length rules) k r (sound k r.alternatives r.is) (end_within k r)
      (others_within k r) (known k r))
      (λ k p r from below. others_sound net Good IsRule IsState rules (2 * length rules) k r (sound k r.alternatives r.is)
      (end_within k r) (others_within k r) (start_within k r) p from below)
      (λ p past. nowhere p (state_at net p) refl past)

  -- a state that is there
  pub state_sound : (p : ℕ) (s : State L) → state_at net p ≡ Some s → IsSoundState Good IsRule IsState (Some s)
  state_sound p s is = subst (IsSoundState Good IsRule IsState) is (all_states_sound p)
