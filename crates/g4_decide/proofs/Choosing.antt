-- What the verdicts and the answers of full stacks mean for the choice.
use Rattle.std.proofs.Common.{◌≡◌, ◌+◌, ◌<◌, ◌≤◌, ◌↔◌, ℕ, List, Result, Ok, Err, drop, length, sym, ◌∙◌, ap, subst, arith, length-drop}
use Rattle.std.proofs.lemmas.List.{length-map}
use Rattle.g4_guards.specs.Choosing.{Chooses, IsGuarded, by_answer, by_error, by_full, unguarded}
use Rattle.g4_guards.specs.Tests.{HasTests}
use Rattle.g4_guards.specs.declared.tests.Tests.TheVariants.{Many}
use Rattle.g4_guards.proofs.Choosing.{choice_over, many_unguarded}
use Rattle.g4_guards.proofs.Same.{full_over}
use Rattle.g4_guards.specs.Levels.{AllowedAt, IsCondition}
use Rattle.g4_lookahead.proofs.Settling.{Shows, begins_start, full_shows, sll_tells}
use Rattle.g4_learned.proofs.Seeing.{one_passed}
use Rattle.g4_learned.specs.Stored.{ArePassed, IsPlan}
use Rattle.g4_learned.specs.Tables.{Tables}
use Rattle.g4_net.specs.Allowed.{Allows}
use Rattle.g4_net.specs.declared.allowed.Allowed.{Allowed}
use Rattle.g4_net.specs.Configurations.{Config, above_bottom, wildcard}
use Rattle.g4_net.specs.Lookahead.{Start}
use Rattle.g4_net.specs.Network.{ParserNetwork, IsFirst}
use Rattle.g4_net.specs.Prediction.{Full, Path, Sll, answer, chosen, error_at, no_viable, sensitive}
use Rattle.g4_net.specs.Prediction.{Verdict as Said}
use Rattle.g4_learned.proofs.Rests.{from_on, word_from}
use Rattle.g4_full.specs.Ahead.{IsAhead}
use Rattle.g4_full.specs.declared.full.Ahead.{Ahead}
use Rattle.g4_full.specs.declared.full.Ahead.TheVariants as aheads
use Rattle.g4_full.specs.declared.full.Settled.{Settled}
use Rattle.g4_full.specs.declared.full.Settled.TheVariants as settleds
use Rattle.g4_predict.specs.declared.verdict.Verdict.{Verdict}
use Rattle.g4_predict.specs.declared.verdict.Verdict.TheVariants.{Sensitive}
use Rattle.g4_full.specs.Settled.{choice_of}
use Rattle.g4_predict.specs.Paths.{verdict_of}
use Rattle.g4_store.specs.declared.automaton.Fact.{Fact}
use Rattle.g4_store.specs.declared.automaton.Plan.{Plan}
use Rattle.g4_tokens.specs.declared.token.Token.{Token}
use Rattle.g4_tokens.specs.TokenList.{word_of}
use Rattle.g4_decide.specs.Asked.{NeedsNoStack}
use Rattle.g4_decide.specs.declared.fault.DecideFault.{DecideFault}
use Rattle.g4_decide.specs.declared.fault.DecideFault.TheVariants.{NoMemory, NoViable}
use Rattle.g4_decide.specs.Deciding.{AllowedFirsts, ChoosesAt, IsChosenOver}

module _ (net : ParserNetwork) (d condition : ℕ) (may : IsCondition net d condition) (w : List ℕ) where
  -- the alternatives that a condition allows have a guard
  guarded : IsGuarded net d (AllowedAt net d condition)
  guarded = (condition, may, λ i. ((λ h. h), (λ h. h)))

  pub answered : (returns : List ℕ) (i : ℕ) (path : Path) → Sll net d (AllowedAt net d condition) w (answer i) path
      → ChoosesAt net d condition returns w (chosen i) × ((t : ℕ) × IsFirst net d i t)
  answered returns i path sll = (
    by_answer i path guarded sll,
    sll_tells net d (Start net d (AllowedAt net d condition) wildcard) (begins_start net d (AllowedAt net d condition) wildcard) w 0
        (length w)
        (omega arith) (answer i) path.looked sll.1,
  )

  pub failed : (returns : List ℕ) (k : ℕ) (path : Path) → Sll net d (AllowedAt net d condition) w (error_at k) path
      → ChoosesAt net d condition returns w (no_viable k) × (k < length w)
  failed returns k path sll = (
    by_error k path guarded sll,
    sll_tells net d (Start net d (AllowedAt net d condition) wildcard) (begins_start net d (AllowedAt net d condition) wildcard) w 0
        (length w)
        (omega arith) (error_at k) path.looked sll.1,
  )

  module _ (returns : List ℕ) (k : ℕ) (path : Path) (sll : Sll net d (AllowedAt net d condition) w (sensitive k) path) where
    pub settled : (i : ℕ) → Full net d (AllowedAt net d condition) (above_bottom returns) w (chosen i)
        → ChoosesAt net d condition returns w (chosen i) × ((t : ℕ) × IsFirst net d i t)
    settled i full = (
      by_full k path (chosen i) guarded sll full,
      full_shows net d (Start net d (AllowedAt net d condition) (above_bottom returns))
          (begins_start net d (AllowedAt net d condition) (above_bottom returns)) w 0 (length w) (omega arith) (chosen i) full,
    )

    pub not_viable : (j : ℕ) → Full net d (AllowedAt net d condition) (above_bottom returns) w (no_viable j)
        → ChoosesAt net d condition returns w (no_viable j) × (j < length w)
    not_viable j full = (
      by_full k path (no_viable j) guarded sll full,
      full_shows net d (Start net d (AllowedAt net d condition) (above_bottom returns))
          (begins_start net d (AllowedAt net d condition) (above_bottom returns)) w 0 (length w) (omega arith) (no_viable j) full,
    )

-- what full stacks say over allowed alternatives, where the decision has many tests
module _ (net : ParserNetwork) (d from : ℕ) (returns : List ℕ) (tokens : List Token) (allowed : Allowed) (many : HasTests net d Many)
    (r s : Settled) (is : r ≡ s)
    (full : Full net d (Allows allowed) (above_bottom returns) (word_of (from_on from tokens)) (choice_of r)) where
  over_firsts : Full net d (AllowedFirsts net d allowed) (above_bottom returns) (drop from (word_of tokens)) (choice_of s)
  over_firsts = full_over net d (Allows allowed) (AllowedFirsts net d allowed) (λ i t first may. (may, (t, first))) (λ i t first may. may.0)
      (above_bottom returns) (drop from (word_of tokens)) (choice_of s)
      (subst (λ (x : Settled). Full net d (Allows allowed) (above_bottom returns) (drop from (word_of tokens)) (choice_of x)) is
      (subst (λ (w : List ℕ). Full net d (Allows allowed) (above_bottom returns) w (choice_of r)) (word_from from tokens) full))

  -- is the choice, and which alternative or symbol it names
  pub stack_chooses : Chooses net d (AllowedFirsts net d allowed) (above_bottom returns) (drop from (word_of tokens)) (choice_of s)
  stack_chooses = unguarded (choice_of s) (many_unguarded net d many (AllowedFirsts net d allowed)) over_firsts

  pub stack_shows : Shows net d (length (drop from (word_of tokens))) (choice_of s)
  stack_shows = full_shows net d (Start net d (AllowedFirsts net d allowed) (above_bottom returns))
      (begins_start net d (AllowedFirsts net d allowed) (above_bottom returns)) (drop from (word_of tokens)) 0
      (length (drop from (word_of tokens))) (omega arith) (choice_of s) over_firsts

-- a choice over alternatives is one over the same alternatives said in another way
pub chosen_over : (net : ParserNetwork) (d : ℕ) (A B : ℕ → Type 0) → ((i : ℕ) → A i ↔ B i) → (returns w : List ℕ) (from : ℕ)
    (result : Result ℕ DecideFault) → IsChosenOver net d A returns w from result → IsChosenOver net d B returns w from result
chosen_over net d A B same returns w from (Ok i) (chooses, first) = (
  choice_over net d A B same (above_bottom returns) w
      (chosen i) chooses,
  first,
)
chosen_over net d A B same returns w from (Err (NoViable at)) (k, chooses, is) =
    (k, choice_over net d A B same (above_bottom returns) w (no_viable k) chooses, is)
chosen_over net d A B same returns w from (Err NoMemory) h = tt

-- what was said, as what it is
pub said_is : (net : ParserNetwork) (d condition : ℕ) (w : List ℕ) (u v : Verdict) (path : Path) → u ≡ v
    → Sll net d (AllowedAt net d condition) w (verdict_of u) path → Sll net d (AllowedAt net d condition) w (verdict_of v) path
said_is net d condition w u v path is sll = subst (λ (x : Verdict). Sll net d (AllowedAt net d condition) w (verdict_of x) path) is sll

-- what is settled ahead is what full stacks say
full_ahead : (net : ParserNetwork) (d : ℕ) (A : ℕ → Type 0) (returns w : List ℕ) (most : ℕ) (s : Settled)
    → IsAhead net d A returns w most (aheads.Settled s) → Full net d A (above_bottom returns) w (choice_of s)
full_ahead net d A returns w most (settleds.Chosen i) (full, h) = full
full_ahead net d A returns w most (settleds.NoViable k) full = full

-- what looking ahead settled of the tokens from a place on
pub settled_ahead : (net : ParserNetwork) (d condition from : ℕ) (returns : List ℕ) (tokens : List Token) (most : ℕ) (a : Ahead)
    (r s : Settled) → a ≡ aheads.Settled r → r ≡ s
    → IsAhead net d (AllowedAt net d condition) returns (word_of (from_on from tokens)) most a
    → Full net d (AllowedAt net d condition) (above_bottom returns) (drop from (word_of tokens)) (choice_of s)
settled_ahead net d condition from returns tokens most a r s is same h =
    subst (λ (w : List ℕ). Full net d (AllowedAt net d condition) (above_bottom returns) w (choice_of s)) (word_from from tokens)
    (full_ahead net d (AllowedAt net d condition) returns (word_of (from_on from tokens)) most s
    (subst (λ (x : Ahead). IsAhead net d (AllowedAt net d condition) returns (word_of (from_on from tokens)) most x)
    (is ∙ ap aheads.Settled same) h))

-- where nothing is settled, as many tokens are there as may be looked at
pub open_ahead : (net : ParserNetwork) (d condition from : ℕ) (returns : List ℕ) (tokens : List Token) (most : ℕ) (a : Ahead) (i : ℕ)
    → a ≡ aheads.Open i → IsAhead net d (AllowedAt net d condition) returns (word_of (from_on from tokens)) most a
    → most ≤ length (drop from (word_of tokens))
open_ahead net d condition from returns tokens most a i is h =
    let open_is : IsAhead net d (AllowedAt net d condition) returns (word_of (from_on from tokens)) most (aheads.Open i) =
    subst (λ (x : Ahead). IsAhead net d (AllowedAt net d condition) returns (word_of (from_on from tokens)) most x) is h in
    subst (λ (w : List ℕ). most ≤ length w) (word_from from tokens) open_is.0

-- a symbol of the rest is one of the tokens
pub within_tokens : (from k : ℕ) (tokens : List Token) → from < length tokens → k < length (drop from (word_of tokens))
    → from + k < length tokens
within_tokens from k tokens more less =
    let a = length-drop from (word_of tokens) in
    let b = length-map tokens (λ (t : Token). t.symbol) in
    omega arith

-- where the stack matters no verdict settles the decision
pub matters : (p : Plan Tables) → IsPlan p → (d condition k : ℕ) (w : List ℕ) (u : Verdict) (v : Said) (facts facts' : List (Fact
    (List Config)))
    → u ≡ Sensitive k → ArePassed p.net d condition w (verdict_of u) facts → ArePassed p.net d condition w v facts' → NeedsNoStack v → ⊥
matters p plan d condition k w u v facts facts' is passed other settles =
    let same : verdict_of u ≡ v = (one_passed p plan d condition w (verdict_of u) v facts facts' passed other).0 in
    let sensitive_is : v ≡ sensitive k = sym same ∙ ap verdict_of is in
    let never : NeedsNoStack (sensitive k) = subst NeedsNoStack sensitive_is settles in never
