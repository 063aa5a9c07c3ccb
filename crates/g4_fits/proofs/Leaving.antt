-- Where a turn of a loop fits, to leave fits too, if the loop is returned to.
use Rattle.std.proofs.Common.{◌≡◌, ◌<◌, ◌≤◌, ◌⊎◌, inl, inr, ℕ, ◌+◌, List, ◌∷◌, Option, Some, refl, sym, ◌∙◌, ap, subst, arith, Contains}
use Rattle.std.proofs.lemmas.Option.{slice_get-get_or, slice_get_within, get_or_from_slice_get}
use Rattle.g4_fits.specs.Fitting.{Fits, FitsFrom}
use Rattle.g4_net.specs.Spelling.{PassesBy, SpellsWord, ends, takes, calls, passes}
use Rattle.g4_net.specs.Loops.{IsLoop, IsSilentBy, LeadsSilently, there, onward}
use Rattle.g4_net.proofs.Passing.{pass_is}
use Rattle.g4_net.specs.Leads.{IsTarget}
use Rattle.g4_net.specs.Network.{ParserNetwork, state_at, end_of, IsFirst}
use Rattle.g4_net.specs.declared.network.State.{State}
use Rattle.g4_net.specs.declared.network.State.TheVariants.{Decision, End, Edge, Call, Predicate, Action, Empty}

-- a silent edge passes
silent_passes : (o : Option (State (List ℕ))) (t : ℕ) → IsSilentBy o t → PassesBy o t
silent_passes (Some (Predicate k u)) t h = h
silent_passes (Some (Action u)) t h = h
silent_passes (Some (Empty u)) t h = h
silent_passes _ t h = absurd h

-- and is the only edge: no label and no call is there, nor an end, and another that passes is this one
silent_only : (o : Option (State (List ℕ))) (t v : ℕ) → IsSilentBy o t → PassesBy o v → v ≡ t
silent_only (Some (Predicate k u)) t v h m = m ∙ sym h
silent_only (Some (Action u)) t v h m = m ∙ sym h
silent_only (Some (Empty u)) t v h m = m ∙ sym h
silent_only _ t v h m = absurd h

silent_reads : (o : Option (State (List ℕ))) (t : ℕ) (s : State (List ℕ)) → o ≡ Some s → IsSilentBy o t → IsSilentBy (Some s) t
silent_reads o t s is h = subst (λ (x : Option (State (List ℕ))). IsSilentBy x t) is h

module _ (net : ParserNetwork) where
  -- what a state spells is spelled where its silent edge leads
  after_silent : (p t : ℕ) (w z : List ℕ) → IsSilentBy (state_at net p) t → SpellsWord net p w z → SpellsWord net t w z
  after_silent p t w _ m (ends _ rule _ is) = absurd (silent_reads (state_at net p) t (End rule) is m)
  after_silent p t w z m (takes _ u label _ v _ is l h) = absurd (silent_reads (state_at net p) t (Edge label u) is m)
  after_silent p t w z m (calls _ rule level back _ v _ is h j) = absurd (silent_reads (state_at net p) t (Call rule level back) is m)
  after_silent p t w z m (passes _ u _ _ n h) = subst (λ (q : ℕ). SpellsWord net q w z) (silent_only (state_at net p) t u m n) h

  -- the same where such edges lead
  along : (p q : ℕ) (w z : List ℕ) → LeadsSilently net p q → SpellsWord net p w z → SpellsWord net q w z
  along p _ w z (there _) h = h
  along p q w z (onward _ t _ m more) h = along t q w z more (after_silent p t w z m h)

  -- and back
  back_along : (p q : ℕ) (w z : List ℕ) → LeadsSilently net p q → SpellsWord net q w z → SpellsWord net p w z
  back_along p _ w z (there _) h = h
  back_along p q w z (onward _ t _ m more) h = passes p t w z (silent_passes (state_at net p) t m) (back_along t q w z more h)

  module _ (k u exit : ℕ) (loop : IsLoop net k u exit) where
    -- at the exit nothing is spelled
    exit_spells : (w : List ℕ) → SpellsWord net exit w w
    exit_spells w = passes exit (end_of k) w w (subst (λ (o : Option (State (List ℕ))). PassesBy o (end_of k)) (sym loop.to_end) refl)
        (ends (end_of k) k w loop.end)

    at_end : (w z : List ℕ) → SpellsWord net (end_of k) w z → w ≡ z
    at_end w _ (ends _ rule _ is) = refl
    at_end w z (takes _ t label _ v _ is m h) = let e = loop.end in absurd (let no : ⊥ = cc in no)
    at_end w z (calls _ rule level back _ v _ is h j) = let e = loop.end in absurd (let no : ⊥ = cc in no)
    at_end w z (passes _ t _ _ m h) = absurd (subst (λ (o : Option (State (List ℕ))). PassesBy o t) loop.end m)

    exit_only : (w z : List ℕ) → SpellsWord net exit w z → w ≡ z
    exit_only w z h = at_end w z (after_silent exit (end_of k) w z
        (subst (λ (o : Option (State (List ℕ))). IsSilentBy o (end_of k)) (sym loop.to_end) refl) h)

    -- the decision itself or a state of the turns
    either : (p : ℕ) → u ≤ p → (p ≡ u) ⊎ (u < p)
    either p le = grind arith

    -- the decision is no other state
    decided : (p : ℕ) (s : State (List ℕ)) → p ≡ u → state_at net p ≡ Some s → s ≡ Decision loop.targets
    decided p s same is = let e = loop.decides in let f : state_at net u ≡ Some s = subst (λ (q : ℕ). state_at net q ≡ Some s) same is in cc

    -- a state of the turns, by a target of it
    inside : (p t : ℕ) (s : State (List ℕ)) → (p ≡ u → s ≡ Decision loop.targets → ⊥) → u ≤ p → p < exit → state_at net p ≡ Some s →
        IsTarget s t → (u ≤ t) × (t < exit)
    inside p t s other low high is to = elim (either p low) [
      | inl same ↦ absurd (other same (decided p s same is))
      | inr after ↦ loop.stays p t s after high is to
    ]

    -- What is spelled from the decision or a state of its turns goes on to whatever the decision spells after it.
    goes_on : (p : ℕ) (w v z : List ℕ) → SpellsWord net p w v → u ≤ p → p < exit → SpellsWord net u v z → SpellsWord net p w z
    goes_on p w _ z (ends _ rule _ is) low high next = elim (either p low) [
      | inl same ↦ absurd (let e = decided p (End rule) same is in let no : ⊥ = cc in no)
      | inr after ↦ absurd (loop.endless p rule after high is)
    ]
    goes_on p w v z (takes _ t label _ x _ is m h) low high next =
        let b = inside p t (Edge label t) (λ same e. let no : ⊥ = cc in no) low high is refl in
        takes p t label w x z is m (goes_on t x v z h b.0 b.1 next)
    goes_on p w v z (calls _ rule level back _ x _ is h j) low high next =
        let b = inside p back (Call rule level back) (λ same e. let no : ⊥ = cc in no) low high is refl in
        calls p rule level back w x z is h (goes_on back x v z j b.0 b.1 next)
    goes_on p w v z (passes _ t _ _ m h) low high next =
        let s = pass_is (state_at net p) t m in
        elim (leads_on s.0 s.1 s.2) [
          | inl out ↦ (
              let same : w ≡ v = exit_only w v (subst (λ (q : ℕ). SpellsWord net q w v) out.1 h) in
              subst (λ (q : ℕ). SpellsWord net q w z) (sym out.0) (subst (λ (x : List ℕ). SpellsWord net u x z) (sym same) next))
          | inr in_turns ↦ passes p t w z m (goes_on t w v z h in_turns.0 in_turns.1 next)
        ]
      where
        leads_on : (s : State (List ℕ)) → state_at net p ≡ Some s → IsTarget s t → ((p ≡ u) × (t ≡ exit)) ⊎ ((u ≤ t) × (t < exit))
        leads_on s is to = elim (either p low) [
          | inr after ↦ inr (loop.stays p t s after high is to)
          | inl same ↦ elim (loop.turns_or_leaves t (subst (λ (x : State (List ℕ)). IsTarget x t) (decided p s same is) to)) [
            | inl out ↦ inl (same, out)
            | inr turn ↦ inr (omega (arith, turn.0), turn.1)
          ]
        ]

    -- so where the loop is returned to, and an alternative of it fits, leaving it does
    pub leave_fits : (back i : ℕ) (returns w : List ℕ) → LeadsSilently net back u → Fits net u i (back ∷ returns) w →
        ((j : ℕ) × IsFirst net u j exit) × FitsFrom net exit (back ∷ returns) w
    leave_fits back i returns w silently (t, (targets, n, is, at, number), (v, h, (v', g, more))) = (
      first,
      elim (loop.turns_or_leaves t target) [
        | inl out ↦ subst (λ (q : ℕ). FitsFrom net q (back ∷ returns) w) out (v, h, (v', g, more))
        | inr turn ↦ (
            let again : SpellsWord net u v v' = along back u v v' silently g in
            let turned : SpellsWord net t w v' = goes_on t w v v' h (omega (arith, turn.0)) turn.1 again in
            let from_u : SpellsWord net u w v' = passes u t w v' (subst (λ (o : Option (State (List ℕ))). PassesBy o t)
            (sym loop.decides) target) turned in
            (w, exit_spells w, (v', back_along back u w v' silently from_u, more)))
      ],
    )
      where
        same : targets ≡ loop.targets
        same = let e = loop.decides in cc

        target : Contains loop.targets t
        target = subst (λ (ts : List ℕ). Contains ts t) same (n, slice_get_within targets n t at, get_or_from_slice_get targets n t t at)

        first : (j : ℕ) × IsFirst net u j exit
        first = let c = loop.leaves in (
          c.0 + 1,
          (
            loop.targets,
            c.0,
            loop.decides,
            slice_get-get_or loop.targets c.0 exit c.1
                ∙ ap (λ (x : ℕ). Some x) c.2,
            refl,
          ),
        )
