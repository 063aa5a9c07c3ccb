-- What is known as a search begins and as it ends.
use Rattle.std.proofs.Common.{◌≡◌, ℕ, ◌<◌, ◌⊎◌, inl, inr, List, [], ◌∷◌, length, get_or, replicate, Bool, false, true≢false, refl, sym, ◌∙◌, subst, arith}
use Rattle.std.specs.List.{Contains}
use Rattle.std.proofs.lemmas.List.{get_or-replicate, length-replicate}
use Rattle.std.proofs.lemmas.Option.{slice_get_within}
use Rattle.g4_net.specs.Network.{ParserNetwork, start_of, end_of}
use Rattle.g4_netlist.specs.OfRule.{Follows, IsOfRule, at_start, at_end, further}
use Rattle.g4_netlist.specs.Searching.{IsFound, IsCovered, Known, AreMarks}
use Rattle.g4_netlist.proofs.Contained.{Contains-cons_cases, Contains-first, Contains-nil, Contains-rest}
use Rattle.g4_netlist.proofs.Marking.{found_within}

-- at first no state is marked
none_found : (n p : ℕ) → IsFound (replicate n false) p → ⊥
none_found n p is =
    let less : p < length (replicate n false) = found_within (replicate n false) p is in
    let no : get_or (replicate n false) p false ≡ false =
    get_or-replicate n p false false (omega (arith, less, length-replicate n false)) in
    true≢false (sym is ∙ no)

module _ (net : ParserNetwork) (rule : ℕ) where
  begins : (n : ℕ) → n ≡ length net.states → Known net rule (start_of rule ∷ end_of rule ∷ []) (replicate n false) []
  begins n many = record {
    count = length-replicate n false ∙ many;
    sound = λ p is. absurd (none_found n p is);
    left_sound = λ p has. elim (Contains-cons_cases (start_of rule) (end_of rule ∷ []) p has) [
      | inl is ↦ subst (IsOfRule net rule) is at_start
      | inr later ↦ elim (Contains-cons_cases (end_of rule) [] p later) [
        | inl is ↦ subst (IsOfRule net rule) is at_end
        | inr none ↦ absurd (Contains-nil p none)
      ]
    ];
    are_found = λ p has. absurd (Contains-nil p has);
    start = λ within. inr (Contains-first (start_of rule) (end_of rule ∷ []) (start_of rule) refl);
    end = λ within. inr (Contains-rest (start_of rule) (end_of rule ∷ []) (end_of rule)
        (Contains-first (end_of rule) [] (end_of rule) refl));
    followed = λ p q is follows within. absurd (none_found n p is);
  }

  -- at first the start and the end are left to be marked
  pub search_begins : (n : ℕ) (found : List Bool) (waiting : List ℕ) → n ≡ length net.states → found ≡ replicate n false
      → waiting ≡ [] → Known net rule (start_of rule ∷ end_of rule ∷ []) found waiting
  search_begins n found waiting many none none_waits =
      subst (λ (fs : List Bool). Known net rule (start_of rule ∷ end_of rule ∷ []) fs waiting) (sym none)
      (subst (λ (ws : List ℕ). Known net rule (start_of rule ∷ end_of rule ∷ []) (replicate n false) ws) (sym none_waits) (begins n many))

  module _ (found : List Bool) (k : Known net rule [] found []) where
    covered_found : (q : ℕ) → IsCovered [] found q → IsFound found q
    covered_found q (inl is) = is
    covered_found q (inr none) = absurd (Contains-nil q none)

    next_found : (p q : ℕ) → Follows net p q → q < length net.states → Contains [] p ⊎ IsCovered [] found q → IsFound found q
    next_found p q follows within (inl none) = absurd (Contains-nil p none)
    next_found p q follows within (inr covered) = covered_found q covered

    -- each state of the rule is marked
    all_found : {p : ℕ} → IsOfRule net rule p → p < length net.states → IsFound found p
    all_found at_start within = covered_found (start_of rule) (k.start (omega (arith, within, k.count)))
    all_found at_end within = covered_found (end_of rule) (k.end (omega (arith, within, k.count)))
    all_found (further p q of_rule follows) within =
        let inside : p < length net.states = slice_get_within net.states p follows.0 follows.1 in
        next_found p q follows within (k.followed p q (all_found of_rule inside) follows (omega (arith, within, k.count)))

    -- at last, when no state waits, exactly the states of the rule are marked
    pub search_ends : AreMarks net rule found
    search_ends = record {
      count = k.count;
      exactly = λ p. ((λ is. (k.sound p is, omega (arith, found_within found p is, k.count))), λ h. all_found h.0 h.1);
    }
