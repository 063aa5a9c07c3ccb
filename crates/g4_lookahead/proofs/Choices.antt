-- Full stacks have a choice on what is left of the tokens.
use Rattle.std.proofs.Common.{◌≡◌, ◌⊎◌, inl, inr, ℕ, zero, suc, ◌+◌, ◌<◌, ◌≤◌, List, [], ◌∷◌, map, drop, length, get_or, Contains, refl, sym, ap, subst, arith, add-one}
use Rattle.g4_tokens.specs.Symbols.{end_of_list}
use Rattle.g4_tokens.specs.declared.token.Token.{Token}
use Rattle.g4_tokens.specs.TokenList.{word_of}
use Rattle.g4_net.specs.Configurations.{Config, above_bottom, IsRow, IsWithin}
use Rattle.g4_net.specs.AddedRule.{IsReady}
use Rattle.g4_net.specs.Allowed.{Allows}
use Rattle.g4_net.specs.declared.allowed.Allowed.{Allowed}
use Rattle.g4_net.specs.declared.allowed.Allowed.TheVariants.{Every, Listed}
use Rattle.g4_net.specs.Lookahead.{Start, Next}
use Rattle.g4_net.specs.Network.{ParserNetwork}
use Rattle.g4_net.specs.Prediction.{Choice, Full, FullFrom}
use Rattle.g4_net.specs.Proper.{IsProper}
use Rattle.g4_lookahead.proofs.Looking.{IsLooking, left, looking_start, looking_next, not_past}
use Rattle.g4_lookahead.proofs.Proper.{stands_apart, proper_within}
use Rattle.g4_lookahead.proofs.Settling.{settled_full}
use Rattle.g4_lookahead.proofs.Judged.{settles}
use Rattle.g4_lookahead.proofs.Listed.{IsFinite, finite_row, contains_decided}
use Rattle.g4_lookahead.proofs.Nexts.{IsPlain, start_finite, start_plain, next_finite, next_plain}

-- a token, for a place past the end
blank : Token
blank = record { symbol = 0; channel = 0; place = record { line = 0; column = 0 }; start = 0; end = 0 }

-- configurations that are looked at are within the network above the bottom
looking_plain : (net : ParserNetwork) (returns : List ℕ) (tokens : List Token) (k : ℕ) (C : Config → Type 0)
    → IsLooking net (above_bottom returns) tokens k C → (c : Config) → C c → IsPlain net c
looking_plain net returns tokens k C h c i = (h.within c i, (h.stands c i).marked)

-- On the tokens that are left full stacks choose from a finite set, by induction on their number.
pub choice_of : (net : ParserNetwork) (returns : List ℕ) (tokens : List Token) (n k : ℕ) (C : Config → Type 0) → length tokens ≤ k + n
    → IsLooking net (above_bottom returns) tokens k C → IsFinite C → (c : Choice) × FullFrom net C (word_of (drop k tokens)) k c
choice_of net returns tokens zero k C few h f = absurd (not_past net (above_bottom returns) tokens k C (omega (arith, few)) h)
choice_of net returns tokens (suc n) k C few h f = elim (let split : (k < length tokens) ⊎ (length tokens ≤ k) = grind arith in split) [
  | inr past ↦ absurd (not_past net (above_bottom returns) tokens k C past h)
  | inl less ↦ (
      let a = (get_or tokens k blank).symbol in
      let D : Config → Type 0 = Next net C a in
      let plain = looking_plain net returns tokens k C h in
      let finite = next_finite net C a h.runnable.well_formed plain f in
      let within : (c : Config) → D c → IsWithin net c = λ c i. (next_plain net C a h.runnable.well_formed plain c i).0 in
      let r = settles D finite k (FullFrom net D (word_of (drop (k + 1) tokens)) (suc k)) (λ g.
      let next = looking_next net (above_bottom returns) tokens k blank C D less (λ c. ((λ i. i), λ i. i)) within
      (λ p y one. settled_full p y D one g) h in
      let later = choice_of net returns tokens n (k + 1) D (omega (arith, few)) next finite in
      (later.0, subst (λ (m : ℕ). FullFrom net D (word_of (drop (k + 1) tokens)) m later.0) (add-one k) later.1)) in
      (r.0, subst (λ (w : List ℕ). FullFrom net C w k r.0) (sym (left tokens k blank less)) r.1))
]

-- on what is left of the tokens full stacks choose from a finite set
pub choice_from : (net : ParserNetwork) (returns : List ℕ) (tokens : List Token) (k : ℕ) (C : Config → Type 0) (row : List Config)
    → IsLooking net (above_bottom returns) tokens k C → IsRow row C → (c : Choice) × FullFrom net C (word_of (drop k tokens)) k c
choice_from net returns tokens k C row looking is =
    choice_of net returns tokens (length tokens) k C (omega arith) looking (finite_row C row is)

-- a token of each symbol
abbrev tokens_of : List ℕ → List Token
tokens_of w = map (λ a. record blank { symbol = a }) w

-- they are a token list of this word
word_of_tokens : (w : List ℕ) → word_of (tokens_of w) ≡ w
word_of_tokens [] = refl
word_of_tokens (a ∷ w) = ap (λ v. a ∷ v) (word_of_tokens w)

-- whether an alternative is allowed can be decided
allowed_decided : (allowed : Allowed) (i : ℕ) → Dec (Allows allowed i)
allowed_decided Every i = yes tt
allowed_decided (Listed list) i = contains_decided list i

-- on a word with END full stacks have a choice
pub full_choice : (net : ParserNetwork) (d : ℕ) (allowed : Allowed) (returns w : List ℕ) → IsReady net → IsProper net d returns
    → Contains w end_of_list → (c : Choice) × Full net d (Allows allowed) (above_bottom returns) w c
full_choice net d allowed returns w (rule, loop, set, runnable) proper ends =
    let z = above_bottom returns in
    let C : Config → Type 0 = Start net d (Allows allowed) z in
    let decided = allowed_decided allowed in
    let all = proper_within net d returns runnable.well_formed proper in
    let plain = start_plain net d (Allows allowed) decided z runnable.well_formed all refl in
    let finite = start_finite net d (Allows allowed) decided z runnable.well_formed all refl in
    let within : (c : Config) → C c → IsWithin net c = λ c i. (plain c i).0 in
    let apart = stands_apart net rule loop runnable.apart d returns proper in
    let has = subst (λ (v : List ℕ). Contains v end_of_list) (sym (word_of_tokens w)) ends in
    let looking = looking_start net d (Allows allowed) z (tokens_of w) C (rule, loop, set, runnable, apart) (λ c. ((λ i. i), λ i. i))
    within has in
    let r = choice_of net returns (tokens_of w) (length (tokens_of w)) 0 C (omega arith) looking finite in
    (r.0, subst (λ (v : List ℕ). FullFrom net C v 0 r.0) (word_of_tokens w) r.1)
