-- What the loop over the tokens keeps, with full stacks.
use Rattle.std.specs.Prelude.{IfSome, Option}
use Rattle.std.proofs.Math.ListN.{length-map}
use Rattle.std.proofs.Common.{◌≡◌, ◌≤◌, ◌↔◌, ℕ, ◌+◌, ◌<◌, List, Bool, true, false, drop, length, get_or, reverse, sym, ◌∙◌, ap, subst, add-one, arith, Contains}
use Rattle.g4_tokens.specs.Symbols.{end_of_list}
use Rattle.g4_net.specs.Network.{ParserNetwork, IsFirst}
use Rattle.g4_tokens.specs.declared.token.Token.{Token}
use Rattle.g4_net.specs.AddedRule.{IsReady}
use Rattle.g4_net.specs.Proper.{IsProper}
use Rattle.g4_fits.specs.Fitting.{Fits}
use Rattle.g4_guards.proofs.Same.{full_over}
use Rattle.g4_fits.proofs.Arriving.{Holds, LastIsOwn, holds_next, holds_start, last_is_own}
use Rattle.g4_fits.proofs.Choosing.{shown_all}
use Rattle.g4_net.specs.Configurations.{Stack, Config, config, above_bottom, IsWithin}
use Rattle.g4_net.specs.Lookahead.{Start, Next, IsLeast}
use Rattle.g4_net.proofs.Finite.{reached_keeps}
use Rattle.g4_net.specs.Prediction.{Choice, FullFrom, Full}
use Rattle.g4_tokens.specs.TokenList.{word_of}
use Rattle.g4_lookahead.specs.EndOfList.{GoesOnFull}
use Rattle.g4_lookahead.proofs.Judging.{AreSame, full_same}
use Rattle.g4_lookahead.proofs.Looking.{IsLooking, left, looking_start, looking_next}
use Rattle.g4_lookahead.proofs.Proper.{stands_apart}
use Rattle.g4_lookahead.proofs.Settling.{settled_full}
use Rattle.g4_full.specs.declared.full.Ahead.{Ahead}
use Rattle.g4_full.specs.declared.full.Ahead.TheVariants as aheads
use Rattle.g4_full.specs.declared.full.Settled.{Settled}
use Rattle.g4_full.specs.declared.full.Settled.TheVariants as settleds
use Rattle.g4_frames.specs.Framed.{Over, FramedStart, FramedNext}
use Rattle.g4_full.specs.Ahead.{IsAhead, IsCandidate, alternative_of}
use Rattle.g4_full.specs.Places.{IsPlace, IsTakenDown}
use Rattle.g4_full.specs.Settled.{choice_of, SettlesWith}
use Rattle.g4_full.proofs.FullEnding.{full_settles, full_goes_on}
use Rattle.g4_frames.proofs.Verdicts.{agree_over}
use Rattle.g4_full.proofs.Showing.{EndsWith}
use Rattle.g4_full.proofs.Placing.{goes_over, next_taken, over_within, settles_over, start_taken}

-- What the loop with full stacks keeps.
pub record IsSettling (net : ParserNetwork) (d : ℕ) (A : ℕ → Type 0) (z : Stack) (tokens : List Token) (k : ℕ) (C : Config → Type 0) :
    Type 0 where
  pub looking : IsLooking net z tokens k C
  pub says : (c : Choice) → FullFrom net C (word_of (drop k tokens)) k c → Full net d A z (word_of tokens) c

-- it holds of the start set
pub settling_start : (net : ParserNetwork) (d : ℕ) (A : ℕ → Type 0) (returns : List ℕ) (tokens : List Token) (C : Config → Type 0)
    → IsReady net → IsProper net d returns → AreSame C (Start net d A (above_bottom returns)) → ((c : Config) → C c → IsWithin net c)
    → Contains (word_of tokens) end_of_list → IsSettling net d A (above_bottom returns) tokens 0 C
settling_start net d A returns tokens C (rule, loop, set, runnable) proper has within ends = record {
  looking = looking_start net d A (above_bottom returns) tokens C
      (rule, loop, set, runnable, stands_apart net rule loop runnable.apart d returns proper) has within ends;
  says = λ c h. full_same net C (Start net d A (above_bottom returns)) (λ x. (has x).0) (λ x. (has x).1) (word_of tokens) 0 c h;
}

-- it holds of the next set, where full stacks go on after it
pub settling_next : (net : ParserNetwork) (d : ℕ) (A : ℕ → Type 0) (z : Stack) (tokens : List Token) (k : ℕ) (t : Token)
    (C D : Config → Type 0) → k < length tokens → AreSame D (Next net C (get_or tokens k t).symbol)
    → ((c : Config) → D c → IsWithin net c) → GoesOnFull D → IsSettling net d A z tokens k C → IsSettling net d A z tokens (k + 1) D
settling_next net d A z tokens k t C D less has within g h = record {
  looking = looking_next net z tokens k t C D less has within (λ p y one. settled_full p y D one g) h.looking;
  says = λ c s.
      h.says c
      (subst (λ (w : List ℕ). FullFrom net C w k c) (sym (left tokens k t less))
      (full_goes_on net C D (get_or tokens k t).symbol (word_of (drop (k + 1) tokens)) k c has g
      (subst (λ (m : ℕ). FullFrom net D (word_of (drop (k + 1) tokens)) m c) (add-one k) s)));
}

-- what full stacks end with at the next set is their choice
pub settled : (net : ParserNetwork) (d : ℕ) (A : ℕ → Type 0) (z : Stack) (tokens : List Token) (k : ℕ) (t : Token)
    (C D : Config → Type 0) (s : Settled) → k < length tokens → AreSame D (Next net C (get_or tokens k t).symbol) → SettlesWith D k s
    → IsSettling net d A z tokens k C → Full net d A z (word_of tokens) (choice_of s)
settled net d A z tokens k t C D s less has e h =
    h.says (choice_of s) (subst (λ (w : List ℕ). FullFrom net C w k (choice_of s)) (sym (left tokens k t less))
    (full_settles net C D (get_or tokens k t).symbol (word_of (drop (k + 1) tokens)) k s has e))

-- a set has what another has that is within it
holds_within : (net : ParserNetwork) (own : LastIsOwn net) (i : ℕ) (C D : Config → Type 0) (w : List ℕ) → ((c : Config) → C c → D c)
    → Holds net own i false C w → Holds net own i false D w
holds_within net own i C D w to h = record {
  state = h.state;
  shown = h.shown;
  returns = h.returns;
  has = to (config h.state i (record { returns = h.shown; wild = false })) h.has;
  shows = h.shows;
  proper = h.proper;
  stops = h.stops;
}

-- Each alternative of the set is an allowed one of the decision, and each allowed one that fits is among them.
pub record IsLeading (net : ParserNetwork) (d : ℕ) (A : ℕ → Type 0) (returns : List ℕ) (tokens : List Token) (k : ℕ)
    (C : Config → Type 0) : Type 0 where
  pub own : LastIsOwn net
  pub allowed : (c : Config) → C c → A c.alt × ((t : ℕ) × IsFirst net d c.alt t)
  pub each : (j : ℕ) → A j → Fits net d j returns (word_of tokens) → Holds net own j false C (word_of (drop k tokens))

-- it is so in the start set
leading_start : (net : ParserNetwork) (d : ℕ) (A : ℕ → Type 0) (returns : List ℕ) (tokens : List Token) (C : Config → Type 0)
    → IsReady net → IsProper net d returns → AreSame C (Start net d A (above_bottom returns)) → IsLeading net d A returns tokens 0 C
leading_start net d A returns tokens C ready proper has = record {
  own = last_is_own net ready;
  allowed = λ c i. begun c ((has c).0 i);
  each = λ j a f. holds_within net (last_is_own net ready) j (Start net d A (above_bottom returns)) C (word_of tokens) (λ c. (has c).1)
      (holds_start net (last_is_own net ready) j false d A returns returns (word_of tokens) (shown_all net false returns) proper a f);
}
  where
    begun : (c : Config) → Start net d A (above_bottom returns) c → A c.alt × ((t : ℕ) × IsFirst net d c.alt t)
    begun c (e, (may, first, is), r, kept) =
        subst (λ (i : ℕ). A i × ((t : ℕ) × IsFirst net d i t)) (reached_keeps net e c r).0 (may, (e.state, first))

-- and in the next set
leading_next : (net : ParserNetwork) (d : ℕ) (A : ℕ → Type 0) (returns : List ℕ) (tokens : List Token) (k : ℕ) (t : Token)
    (C D : Config → Type 0) → k < length tokens → AreSame D (Next net C (get_or tokens k t).symbol)
    → IsLeading net d A returns tokens k C → IsLeading net d A returns tokens (k + 1) D
leading_next net d A returns tokens k t C D less has h = record {
  own = h.own;
  allowed = λ c i. onward c ((has c).0 i);
  each = λ j a f. holds_within net h.own j (Next net C (get_or tokens k t).symbol) D (word_of (drop (k + 1) tokens)) (λ c. (has c).1)
      (holds_next net h.own j false C (get_or tokens k t).symbol (word_of (drop (k + 1) tokens))
      (subst (λ (w : List ℕ). Holds net h.own j false C w) (left tokens k t less) (h.each j a f)));
}
  where
    onward : (e : Config) → Next net C (get_or tokens k t).symbol e → A e.alt × ((u : ℕ) × IsFirst net d e.alt u)
    onward e (b, (c, in_c, u, is), r, kept) =
        let same : c.alt ≡ e.alt = sym (ap (λ (x : Config). x.alt) is) ∙ (reached_keeps net b e r).0 in
        subst (λ (i : ℕ). A i × ((u : ℕ) × IsFirst net d i u)) same (h.allowed c in_c)

-- so the least alternative that is left can be the least that fits
candidate : (net : ParserNetwork) (d : ℕ) (A : ℕ → Type 0) (returns : List ℕ) (tokens : List Token) (k i : ℕ) (C : Config → Type 0)
    → IsLeading net d A returns tokens k C → IsLeast C i → IsCandidate net d A returns (word_of tokens) i
candidate net d A returns tokens k i C h l = record {
  allowed = subst A l.some.2 (h.allowed l.some.0 l.some.1).0;
  begins = subst (λ (j : ℕ). (t : ℕ) × IsFirst net d j t) l.some.2 (h.allowed l.some.0 l.some.1).1;
  least = λ j a f. let of_j = h.each j a f in l.least (config of_j.state j (record { returns = of_j.shown; wild = false })) of_j.has;
}

-- What the loop keeps with sets that are taken down: over the return states that are left the set is that of the loop with full stacks.
pub record IsPlaced (net : ParserNetwork) (d : ℕ) (A : ℕ → Type 0) (returns : List ℕ) (tokens : List Token) (k : ℕ)
    (H : Config → Type 0) (below : List ℕ) : Type 0 where
  pub place : IsPlace net H below
  pub settling : IsSettling net d A (above_bottom returns) tokens k (Over (reverse below) H)
  pub leading : IsLeading net d A returns tokens k (Over (reverse below) H)

pub placed_start : (net : ParserNetwork) (d : ℕ) (A : ℕ → Type 0) (returns below : List ℕ) (tokens : List Token)
    (F H : Config → Type 0) → IsReady net → IsProper net d returns → Contains (word_of tokens) end_of_list
    → AreSame F (FramedStart net d A) → IsTakenDown net F returns H below → IsPlaced net d A returns tokens 0 H below
placed_start net d A returns below tokens F H ready proper ends starts taken = record {
  place = taken.place;
  settling = settling_start net d A returns tokens (Over (reverse below) H) ready proper
      (start_taken net d A F H returns below starts taken) (over_within net H below taken.place) ends;
  leading = leading_start net d A returns tokens (Over (reverse below) H) ready proper
      (start_taken net d A F H returns below starts taken);
}

module _ (net : ParserNetwork) (d : ℕ) (A : ℕ → Type 0) (returns : List ℕ) (tokens : List Token) (k : ℕ) (t : Token)
    (less : k < length tokens) (H F G : Config → Type 0) (below rest : List ℕ) (h : IsPlaced net d A returns tokens k H below)
    (next : AreSame F (FramedNext net H (get_or tokens k t).symbol)) (taken : IsTakenDown net F (reverse below) G rest) where
  onward : AreSame (Over (reverse rest) G) (Next net (Over (reverse below) H) (get_or tokens k t).symbol)
  onward = next_taken net H F G (get_or tokens k t).symbol below rest h.place.bottomed h.place.kept next taken

  further : IsLeading net d A returns tokens (k + 1) (Over (reverse rest) G)
  further = leading_next net d A returns tokens k t (Over (reverse below) H) (Over (reverse rest) G) less onward h.leading

  pub placed_next : GoesOnFull G → IsPlaced net d A returns tokens (k + 1) G rest
  placed_next goes = record {
    place = taken.place;
    settling = settling_next net d A (above_bottom returns) tokens k t (Over (reverse below) H) (Over (reverse rest) G) less onward
        (over_within net G rest taken.place) (goes_over (reverse rest) G goes) h.settling;
    leading = further;
  }

  placed_settled : (s : Settled) → SettlesWith G k s → Full net d A (above_bottom returns) (word_of tokens) (choice_of s)
  placed_settled s settles = settled net d A (above_bottom returns) tokens k t (Over (reverse below) H) (Over
      (reverse rest) G) s less onward
      (settles_over (reverse rest) G k s settles) h.settling

  -- the least alternative of the set can be the least that fits
  least_leads : (i : ℕ) → IsLeast G i → IsCandidate net d A returns (word_of tokens) i
  least_leads i l =
      candidate net d A returns tokens (k + 1) i (Over (reverse rest) G) further (((agree_over (reverse rest) G).least i).0 l)

  -- what the loop comes to
  pub placed_ahead : (most : ℕ) (last : Bool) (a : Ahead) → (last ≡ true → most ≤ length (word_of tokens)) → EndsWith G k last a
      → IsAhead net d A returns (word_of tokens) most a
  placed_ahead most last (aheads.Settled (settleds.Chosen i)) within (settles, l) =
      (placed_settled (settleds.Chosen i) settles, least_leads i l)
  placed_ahead most last (aheads.Settled (settleds.NoViable j)) within settles = placed_settled (settleds.NoViable j) settles
  placed_ahead most last (aheads.Open i) within (is, l) = (within is, least_leads i l)

-- over the same alternatives of the decision, said in another way, it comes to the same
module _ (net : ParserNetwork) (d : ℕ) (A B : ℕ → Type 0) (same : (i t : ℕ) → IsFirst net d i t → A i ↔ B i) (returns w : List ℕ) where
  candidate_over : (i : ℕ) → IsCandidate net d A returns w i → IsCandidate net d B returns w i
  candidate_over i h = record {
    allowed = (same i h.begins.0 h.begins.1).0 h.allowed;
    begins = h.begins;
    least = λ j b f. h.least j ((same j f.0 f.1).1 b) f;
  }

  full_same_over : (s : Settled) → Full net d A (above_bottom returns) w (choice_of s) → Full net d B (above_bottom returns) w (choice_of s)
  full_same_over s full = full_over net d A B (λ i t first. (same i t first).0) (λ i t first. (same i t first).1) (above_bottom returns) w
      (choice_of s) full

  pub ahead_over : (most : ℕ) (a : Ahead) → IsAhead net d A returns w most a → IsAhead net d B returns w most a
  ahead_over most (aheads.Settled (settleds.Chosen i)) (full, h) = (full_same_over (settleds.Chosen i) full, candidate_over i h)
  ahead_over most (aheads.Settled (settleds.NoViable k)) full = full_same_over (settleds.NoViable k) full
  ahead_over most (aheads.Open i) (within, h) = (within, candidate_over i h)

-- the alternative that is settled or left can be the least that fits
pub candidate_of : (net : ParserNetwork) (d : ℕ) (A : ℕ → Type 0) (returns w : List ℕ) (most : ℕ) (a : Ahead) (x : Option ℕ)
    → x ≡ alternative_of a → IsAhead net d A returns w most a → IfSome x (IsCandidate net d A returns w)
candidate_of net d A returns w most (aheads.Settled (settleds.Chosen i)) x is (full, h) = rw is h
candidate_of net d A returns w most (aheads.Settled (settleds.NoViable k)) x is full = rw is tt
candidate_of net d A returns w most (aheads.Open i) x is (within, h) = rw is h

-- what is at most the number of symbols looked at is within the word
pub within_word : (tokens : List Token) (k most : ℕ) → k < length tokens → most ≤ k + 1 → most ≤ length (word_of tokens)
within_word tokens k most less few = omega (arith, less, few, length-map tokens (λ (t : Token). t.symbol))
