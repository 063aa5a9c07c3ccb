-- The network of rewritten rules: where the alternatives of the rules as they are written begin, and what is read from there.
use Rattle.std.proofs.Common.{◌≡◌, ℕ, zero, suc, ◌+◌, ◌<◌, ◌≤◌, ◌⊎◌, List, [], Some, length, refl, sym, subst, arith, slice_get, Contains}
use Rattle.std.proofs.lemmas.Option.{slice_get_within}
use native.Mathlib.Decide.{dec_lt}
use Rattle.g4_source.specs.Elements.{atom, Elements, then}
use Rattle.g4_grammar.specs.declared.step.Numbering.{Numbering}
use Rattle.g4_grammar.specs.declared.step.Step.{Step}
use Rattle.g4_grammar.specs.declared.step.Step.TheVariants.{Call}
use Rattle.g4_grammar.specs.StepRules.{StepRule, CanBeRewritten}
use Rattle.g4_net.specs.declared.network.State.{State}
use Rattle.g4_net.specs.declared.network.State.TheVariants.{Decision, End, Level}
use Rattle.g4_net.specs.Leads.{IsTarget}
use Rattle.g4_net.specs.Network.{ParserNetwork, state_at, start_of, written_at}
use Rattle.g4_net.specs.Proper.{IsOf}
use Rattle.g4_layout.specs.Built.{IsBuilt}
use Rattle.g4_layout.specs.Numbers.{IsNumbered, added_numbering}
use Rattle.g4_leftrec.specs.Rewriting.{rewritten, numberings, starts_of}
use Rattle.g4_derivation.specs.Alternatives.{IsOuterStart, IsWrittenAs, IsNoLevel, all_numberings}
use Rattle.g4_derivation.specs.WalkSpelling.{IsSpelled, BeginsOperator, BeginsWritten}
use Rattle.g4_derivation.specs.Walks.{NoLevel, WalksTo}
use Rattle.g4_derivation.proofs.OfRules.{RuleHere, IsWrittenRule, count_rules, count_numberings, facts, rule_at, rule_here, rule_written, state_here}
use Rattle.g4_derivation.proofs.Operators.{operator_begun}
use Rattle.g4_derivation.proofs.Placed.{IsHere, at_start, at_end, inside}
use Rattle.g4_derivation.proofs.RuleEdges.{later_number, later_target, left_before, not_outer, reached, states_of_here}
use Rattle.g4_derivation.proofs.RuleStarts.{IsBegun, one_begun, several_begun}
use Rattle.g4_derivation.proofs.Turning.{end_free, shape_start_free}

module _ {C : Type 0} (Takes : List ℕ → C → Type 0) (Names : ℕ → C → Type 0) (set : List ℕ) (rules : List StepRule) (start : List ℕ)
    (net : ParserNetwork) (can : CanBeRewritten rules)
    (built : IsBuilt set (rewritten rules) (numberings rules) start net) where
  -- what is read from the state on to the end of rule k, where no level is passed, is what the elements derive
  abbrev pub Spells : ℕ → Elements (Step (List ℕ)) → ℕ → Type 0
  Spells k x p = IsSpelled Takes Names net k x p

  -- An alternative of rule k begins at the state: its number is written there, from there its words are read to the rule's end, and the
  -- state is no level.
  abbrev pub BeginsAlternative : ℕ → ℕ → Type 0
  BeginsAlternative k p = (i : ℕ) × (x : Elements (Step (List ℕ))) × IsWrittenAs rules k i x × (written_at net p ≡ i) × Spells k x p
      × IsNoLevel net p

  -- rule k as it is laid out
  here_at : (k j : ℕ) (r : StepRule) → k ≡ j + 1 → slice_get rules j ≡ Some r → RuleHere set rules start net can built k
  here_at k j r next at = let many = count_rules set rules start net can built in let below = slice_get_within rules j r at in
      rule_here set rules start net can built k (omega arith)

  -- one of its alternatives as it is written
  as_begun : (k j : ℕ) (r : StepRule) (here : RuleHere set rules start net can built k) → k ≡ j + 1 → slice_get rules j ≡ Some r
      → (p : ℕ) → IsBegun Takes Names net k here.last r.alternatives p →
      (b : BeginsAlternative k p) × (1 ≤ b.0)
  as_begun k j r here next at p b = ((b.number, b.written, (j, r, next, at, b.is), b.shown, b.spells, b.free), omega (arith, b.is.2))

  -- the numbers of the rule as it is written
  shown_at : (k j : ℕ) (r : StepRule) (here : RuleHere set rules start net can built k)
      → IsWrittenRule set rules start net can built k here r
      → IsNumbered net k (record { starts = starts_of k r.alternatives; count = length r.alternatives }) here.from here.upto
  shown_at k j r here w = subst (λ (x : Numbering). IsNumbered net k x here.from here.upto) w.numbering here.numbered

  -- where a rule that is no outer start starts, one of its alternatives begins
  pub starts_once : (k j : ℕ) (r : StepRule) → k ≡ j + 1 → slice_get rules j ≡ Some r
      → (IsOuterStart (all_numberings rules) (start_of k) → ⊥) → BeginsAlternative k (start_of k)
  starts_once k j r next at outer =
      let here = here_at k j r next at in
      let w = rule_written set rules start net can built k j r (omega (arith, next)) at here in
      let numbers = starts_of k r.alternatives in
      let few : length numbers < 2 = elim (dec_lt (length numbers) 2) [
        | yes h ↦ h
        | no many ↦ absurd (outer (
          k,
          here.numbering,
          here.has,
          subst (λ (x : Numbering). 2 ≤ length x.starts) (sym w.numbering) (omega (arith, many)),
          refl,
        ))
      ] in
      (as_begun k j r here next at (start_of k) (one_begun Takes Names net k here.last here.from here.upto r.alternatives numbers
      w.known (shown_at k j r here w).starts few)).0

  -- the same of an alternative with a number from 1 on
  abbrev pub BeginsCounted : ℕ → ℕ → Type 0
  BeginsCounted k p = (i : ℕ) × (x : Elements (Step (List ℕ))) × (1 ≤ i) × IsWrittenAs rules k i x × (written_at net p ≡ i)
      × Spells k x p × IsNoLevel net p

  -- a decision at the start of rule k is to where its alternatives begin
  abbrev pub StartsSeveral : ℕ → Type 0
  StartsSeveral k = (targets : List ℕ) × (state_at net (start_of k) ≡ Some (Decision targets)) × (written_at net (start_of k) ≡ 0)
      × ((t : ℕ) → Contains targets t → BeginsCounted k t)

  -- so it is where a rule starts with several alternatives
  several_of : (k j : ℕ) → k ≡ suc j → (x : Numbering) → slice_get (all_numberings rules) k ≡ Some x → 2 ≤ length x.starts → StartsSeveral k
  several_of k j next x is two =
      let many = count_numberings set rules start net can built in let below = slice_get_within (all_numberings rules) k x is in
      let here = rule_here set rules start net can built k (omega arith) in
      let rule = rule_at set rules start net can built k j next here in
      let w = rule_written set rules start net can built k j rule.0 next rule.1 here in
      let own = here.has in let same : x ≡ here.numbering = cc in
      let numbers = starts_of k rule.0.alternatives in
      let several : 2 ≤ length numbers = subst (λ (y : Numbering). 2 ≤ length y.starts) w.numbering
      (subst (λ (y : Numbering). 2 ≤ length y.starts) same two) in
      let b = several_begun Takes Names net k here.last here.from here.upto rule.0.alternatives numbers w.known
      (shown_at k j rule.0 here w).starts several in (
        b.0,
        b.1,
        b.2,
        λ t c. let g = as_begun k j rule.0 here (omega (arith, next)) rule.1 t (b.3 t c) in
            (g.0.0, g.0.1, g.1, g.0.2, g.0.3, g.0.4, g.0.5),
      )

  -- the added rule starts with one
  outer_starts : (k : ℕ) (x : Numbering) → slice_get (all_numberings rules) k ≡ Some x → 2 ≤ length x.starts → StartsSeveral k
  outer_starts zero x is two = let same : added_numbering ≡ x = cc in
      let one = subst (λ (y : Numbering). 2 ≤ length y.starts) (sym same) two in absurd (omega arith)
  outer_starts (suc j) x is two = several_of (suc j) j refl x is two

  -- at an outer start a decision is to where the alternatives begin with which the rule starts
  pub starts_several : (k : ℕ) → IsOuterStart (all_numberings rules) (start_of k)
      → (targets : List ℕ) × (state_at net (start_of k) ≡ Some (Decision targets)) × (written_at net (start_of k) ≡ 0) ×
      ((t : ℕ) → Contains targets t → (i : ℕ) × (x : Elements (Step (List ℕ))) × (1 ≤ i) × IsWrittenAs rules k i x
      × (written_at net t ≡ i) × Spells k x t × IsNoLevel net t)
  starts_several k (other, x, is, two, same) = let e : other ≡ k = omega arith in
      outer_starts k x (subst (λ (q : ℕ). slice_get (all_numberings rules) q ≡ Some x) e is) two

  -- At a level of rule k one of its operators begins: its number is written there, and the words of what follows the rule itself are
  -- read from the state after it.
  abbrev pub OperatorBegins : ℕ → ℕ → ℕ → Type 0
  OperatorBegins k p t = (i level : ℕ) × (rest : Elements (Step (List ℕ))) × (1 ≤ i)
      × IsWrittenAs rules k i (then (atom (Call k level)) rest) × (written_at net p ≡ i) × Spells k rest t × IsNoLevel net t

  -- at such a state of the rule
  level_here : (k j : ℕ) → k ≡ suc j → (r : RuleHere set rules start net can built k) → (p q t : ℕ) → IsHere r p
      → state_at net p ≡ Some (Level q t) → OperatorBegins k p t
  level_here k j next r p q t at_start level = let f = facts set rules start net can built k r in
      absurd ((shape_start_free net k r.last f.shape f.free).0 q t level)
  level_here k j next r p q t at_end level = absurd ((end_free net k r.last).0 q t level)
  level_here k j next r p q t (inside _ from below) level =
      let rule = rule_at set rules start net can built k j next r in
      let w = rule_written set rules start net can built k j rule.0 next rule.1 r in
      let many = count_numberings set rules start net can built in let low = r.low in
      let place = slice_get_within (all_numberings rules) k r.numbering r.has in
      let numbering : Numbering = record { starts = starts_of k rule.0.alternatives; count = length rule.0.alternatives } in
      let o = operator_begun Takes Names net k r.last r.from r.upto (omega arith) rule.0.alternatives numbering
      (shown_at k j rule.0 r w) refl w.known p q t from below level in
      (o.number, o.level, o.rest, omega (arith, o.is.2), (j, rule.0, omega (arith, next), rule.1, o.is), o.shown, o.spells, o.free)

  -- at a level of a rule an operator begins
  level_of : (k : ℕ) → 1 ≤ k → k ≤ length rules → (p q t : ℕ) → IsOf net k p → state_at net p ≡ Some (Level q t) → OperatorBegins k p t
  level_of zero positive within p q t of_rule level = absurd (omega arith)
  level_of (suc j) positive within p q t of_rule level =
      let many = count_rules set rules start net can built in
      let r = rule_here set rules start net can built (suc j) (omega arith) in
      level_here (suc j) j refl r p q t (states_of_here set rules start net can built (suc j) r of_rule) level

  pub level_begins : (k p q t : ℕ) → 1 ≤ k → k ≤ length rules → IsOf net k p → state_at net p ≡ Some (Level q t) →
      (i level : ℕ) × (rest : Elements (Step (List ℕ))) × (1 ≤ i) × IsWrittenAs rules k i (then (atom (Call k level)) rest)
      × (written_at net p ≡ i) × Spells k rest t × IsNoLevel net t
  level_begins k p q t positive within of_rule level = level_of k positive within p q t of_rule level

  -- only a decision leads to a level, and from there a walk that reads nothing goes to an end
  pub before_level : (p t q u : ℕ) (s : State (List ℕ)) → state_at net p ≡ Some s → IsTarget s t → state_at net t ≡ Some (Level q u) →
      ((targets : List ℕ) × (s ≡ Decision targets))
      × ((e ended : ℕ) × (state_at net e ≡ Some (End ended)) × WalksTo Takes Names NoLevel net p e [])
  before_level p t q u s is target level =
      let w = state_here set rules start net can built p s is in
      left_before set rules start net can built w.number w.rule Takes Names p t q u s w.here is target level

  -- a decision that is no outer start leads to states without a number and to levels
  pub unbegun : (p t : ℕ) (targets : List ℕ) → state_at net p ≡ Some (Decision targets) → (IsOuterStart (all_numberings rules) p → ⊥)
      → Contains targets t → (written_at net t ≡ 0) ⊎ ((q u : ℕ) × (state_at net t ≡ Some (Level q u)))
  unbegun p t targets is outer target =
      let w = state_here set rules start net can built p (Decision targets) is in
      later_number set rules start net can built w.number w.rule t
      (later_target set rules start net can built w.number w.rule p t targets w.here is outer target)

  -- no edge leads to an outer start
  pub never_to_outer_start : (p t : ℕ) (s : State (List ℕ)) → state_at net p ≡ Some s → IsTarget s t
      → IsOuterStart (all_numberings rules) t → ⊥
  never_to_outer_start p t s is target outer =
      let w = state_here set rules start net can built p s is in
      not_outer set rules start net can built w.number w.rule t
      (reached set rules start net can built w.number w.rule p t s w.here is target) outer

  -- the same in records: where a rule starts with one alternative
  pub one_begins : (k : ℕ) → 1 ≤ k → k ≤ length rules → (IsOuterStart (all_numberings rules) (start_of k) → ⊥)
      → BeginsWritten Takes Names net rules k (start_of k)
  one_begins zero positive within outer = absurd (omega arith)
  one_begins (suc j) positive within outer =
      let many = count_rules set rules start net can built in
      let r = rule_at set rules start net can built (suc j) j refl (rule_here set rules start net can built (suc j) (omega arith)) in
      let (i, x, written, shown, spells, free) = starts_once (suc j) j r.0 (omega arith) r.1 outer in
      record { number = i; elements = x; written = written; shown = shown; spelled = spells; no_level = free }

  -- with several
  pub start_begins : (k : ℕ) → IsOuterStart (all_numberings rules) (start_of k)
      → (targets : List ℕ) × (state_at net (start_of k) ≡ Some (Decision targets)) × (written_at net (start_of k) ≡ 0) ×
      ((t : ℕ) → Contains targets t → BeginsWritten Takes Names net rules k t)
  start_begins k outer =
      let b = starts_several k outer in (
        b.0,
        b.1,
        b.2,
        λ t c. let (i, x, positive, written, shown, spells, free) = b.3 t c in
            record { number = i; elements = x; written = written; shown = shown; spelled = spells; no_level = free },
      )

  -- and where an operator begins
  pub operator_begins : (k p q t : ℕ) → 1 ≤ k → k ≤ length rules → IsOf net k p → state_at net p ≡ Some (Level q t)
      → BeginsOperator Takes Names net rules k p t
  operator_begins k p q t positive within of_rule level =
      let (i, at_level, rest, from_one, written, shown, spells, free) = level_begins k p q t positive within of_rule level in
      record { number = i; level = at_level; elements = rest; written = written; shown = shown; spelled = spells; no_level = free }
