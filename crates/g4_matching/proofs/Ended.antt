-- Ends of rules in a list of entries, and in the list of their configurations.
use Rattle.std.proofs.Common.{◌≡◌, ℕ, ◌⊎◌, inl, inr, List, [], ◌∷◌, ◌++◌, Bool, true, false, Some, None, length, slice_get, refl, sym, ◌∙◌, ap, subst}
use Rattle.g4_ordered.specs.Network.{LexerNetwork}
use Rattle.g4_ordered.specs.Configurations.{LexerConfig, In}
use Rattle.g4_ordered.specs.Lists.{IsAtEnd, IsKept, HasEnd, IsDropped, late_in}
use Rattle.g4_ordered.proofs.Lists.{In-map, map-In}
use Rattle.g4_matching.specs.declared.entry.Entry.{Entry}
use Rattle.g4_matching.specs.Returns.{IsDistinct, IsEmptyFirst}
use Rattle.g4_matching.specs.Places.{IsSet}
use Rattle.g4_matching.specs.Entries.{config_of, configs_of, IsKnown, AreKnown}
use Rattle.g4_matching.specs.Ends.{EndsAt, KeptAt, HasRuleEnd, IsEndAt, AreEnds}
use Rattle.g4_matching.proofs.Lookups.{same_some, at_left, at_last, at_cases, in_at, at_in}
use Rattle.g4_matching.proofs.Indexed.{same_or_not}
use Rattle.g4_matching.proofs.Known.{closed_zero, zero_closed, same_entry}

module _ (net : LexerNetwork) where
  -- an end is noted
  pub end_noted : (list : List Entry) (ends ends' : List ℕ) (e : Entry) → AreEnds net list ends
      → IsSet ends e.rule (length list) ends' → EndsAt net e → AreEnds net (list ++ e ∷ []) ends'
  end_noted list ends ends' e h set end k x at x_end = go (same_or_not x.rule e.rule) (at_cases list e x k at)
    where
      go : (x.rule ≡ e.rule) ⊎ (x.rule ≡ e.rule → ⊥) → (slice_get list k ≡ Some x) ⊎ ((k ≡ length list) × (e ≡ x))
          → (place : ℕ) × (slice_get ends' x.rule ≡ Some place) × IsEndAt net (list ++ e ∷ []) x.rule place
      go (inl same) o = (length list, ap (slice_get ends') same ∙ set.set, (e, at_last list e, sym same, end))
      go (inr other) (inl old) =
          let n = h k x old x_end in
          (n.0, set.keeps x.rule n.0 other n.1, (n.2.0, at_left list (e ∷ []) n.0 n.2.0 n.2.1, n.2.2, n.2.3))
      go (inr other) (inr new) = absurd (other (ap (λ (y : Entry). y.rule) (sym new.1)))

  -- what is no end needs no note
  pub no_end_noted : (list : List Entry) (ends : List ℕ) (e : Entry) → AreEnds net list ends → (EndsAt net e → ⊥)
      → AreEnds net (list ++ e ∷ []) ends
  no_end_noted list ends e h never k x at x_end = elim (at_cases list e x k at) [
    | inl old ↦ (let n = h k x old x_end in (n.0, n.1, (n.2.0, at_left list (e ∷ []) n.0 n.2.0 n.2.1, n.2.2, n.2.3)))
    | inr new ↦ absurd (never (subst (EndsAt net) (sym new.1) x_end))
  ]

  -- a noted place with an end of the rule shows that there is one
  pub end_told : (list : List Entry) (rule place : ℕ) (e : Entry) → slice_get list place ≡ Some e → e.rule ≡ rule → EndsAt net e
      → HasRuleEnd net list rule
  end_told list rule place e at is end = (e, in_at list place e at, is, end)

  -- where none is noted there is none
  pub none_told : (list : List Entry) (ends : List ℕ) (rule : ℕ) → AreEnds net list ends → slice_get ends rule ≡ None
      → HasRuleEnd net list rule → ⊥
  none_told list ends rule h none e =
      let k = at_in list e.0 e.1 in
      let n = h k.0 e.0 k.1 e.3 in
      let there : slice_get ends rule ≡ Some n.0 = ap (slice_get ends) (sym e.2) ∙ n.1 in
      absurd (cc)

  -- and where the noted place has none
  pub none_there : (list : List Entry) (ends : List ℕ) (rule place : ℕ) → AreEnds net list ends → slice_get ends rule ≡ Some place
      → (IsEndAt net list rule place → ⊥) → HasRuleEnd net list rule → ⊥
  none_there list ends rule place h noted never e =
      let k = at_in list e.0 e.1 in
      let n = h k.0 e.0 k.1 e.3 in
      let same : n.0 ≡ place = same_some n.0 place (sym n.1 ∙ ap (slice_get ends) e.2 ∙ noted) in
      never (subst (IsEndAt net list rule) same (n.2.0, n.2.1, n.2.2 ∙ e.2, n.2.3))

  module _ (lists : List (List ℕ)) (distinct : IsDistinct lists) (first : IsEmptyFirst lists) where
    -- a configuration is at its rule's end where its entry is
    pub end_config : (e : Entry) → EndsAt net e → IsAtEnd net (config_of lists e)
    end_config e end = (end.0, zero_closed lists e.returns first end.1)

    -- and the other way round
    pub config_end : (e : Entry) → IsKnown lists e → IsAtEnd net (config_of lists e) → EndsAt net e
    config_end e known end = (end.0, closed_zero lists e.returns distinct first known end.1)

    -- and kept where its entry is
    pub kept_config : (e : Entry) → KeptAt net e → IsKept net (config_of lists e)
    kept_config e (inl reads) = inl reads
    kept_config e (inr end) = inr (end_config e end)

    -- and the other way round
    pub config_kept : (e : Entry) → IsKnown lists e → IsKept net (config_of lists e) → KeptAt net e
    config_kept e known (inl reads) = inl reads
    config_kept e known (inr end) = inr (config_end e known end)

    -- it is in the list where its entry is
    pub in_configs : (list : List Entry) (e : Entry) → In e list → In (config_of lists e) (configs_of lists list)
    in_configs list e i = map-In (config_of lists) list e i

    -- and the other way round
    pub of_configs : (list : List Entry) (e : Entry) → AreKnown lists list → IsKnown lists e
        → In (config_of lists e) (configs_of lists list) → In e list
    of_configs list e known is_known i =
        let x = In-map (config_of lists) list (config_of lists e) i in
        subst (λ (y : Entry). In y list) (sym (same_entry lists e x.0 distinct is_known (known x.0 x.1) x.2)) x.1

    -- the list of configurations has a rule's end where that of entries has
    pub has_end_config : (list : List Entry) (rule : ℕ) → HasRuleEnd net list rule → HasEnd net (configs_of lists list) rule
    has_end_config list rule h = (config_of lists h.0, in_configs list h.0 h.1, h.2, end_config h.0 h.3)

    -- and the other way round
    pub config_has_end : (list : List Entry) (rule : ℕ) → AreKnown lists list → HasEnd net (configs_of lists list) rule
        → HasRuleEnd net list rule
    config_has_end list rule known h =
        let x = In-map (config_of lists) list h.0 h.1 in
        (x.0, x.1, sym (ap (λ (c : LexerConfig). c.rule) x.2) ∙ h.2, config_end x.0 (known x.0 x.1) (subst (IsAtEnd net) x.2 h.3))

    -- what is dropped, in a step or at first
    pub dropped_in : (in_step : Bool) (list : List Entry) (e : Entry) → In e list
        → IsDropped (late_in net in_step) (configs_of lists list) (config_of lists e)
    dropped_in in_step list e i = inl (in_configs list e i)

    -- or late, after its rule's end
    pub dropped_late : (in_step : Bool) (list : List Entry) (e : Entry) → in_step ≡ true
        → (e.passed ≡ true) × HasRuleEnd net list e.rule → IsDropped (late_in net in_step) (configs_of lists list) (config_of lists e)
    dropped_late in_step list e step h = inr (subst (λ (b : Bool). late_in net b (configs_of lists list) (config_of lists e))
        (sym step) (h.0, has_end_config list e.rule h.1))

    -- nothing else is dropped
    pub why_dropped : (in_step : Bool) (list : List Entry) (e : Entry) → AreKnown lists list → IsKnown lists e
        → IsDropped (late_in net in_step) (configs_of lists list) (config_of lists e)
        → In e list ⊎ ((in_step ≡ true) × ((e.passed ≡ true) × HasRuleEnd net list e.rule))
    why_dropped in_step list e known is_known (inl i) = inl (of_configs list e known is_known i)
    why_dropped true list e known is_known (inr late) = inr (refl, (late.0, config_has_end list e.rule known late.1))
    why_dropped false list e known is_known (inr late) = absurd late
