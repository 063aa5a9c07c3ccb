-- What is said over alternatives that begin alike is the same: over those that agree at a decision, and over those of two decisions.
use Rattle.std.proofs.Common.{ℕ, List}
use Rattle.g4_net.specs.Configurations.{Stack, wildcard}
use Rattle.g4_net.specs.Lookahead.{Start}
use Rattle.g4_net.specs.Network.{ParserNetwork, IsFirst}
use Rattle.g4_net.specs.Prediction.{Choice, Full, Path, Sll, Verdict}
use Rattle.g4_lookahead.proofs.Judging.{AreSame, Within, full_same, row_of_set, sll_same}
use Rattle.g4_guards.specs.Choosing.{AllowAlike, BeginsAllowed}

start_within : (net : ParserNetwork) (d e : ℕ) (A B : ℕ → Type 0) (z : Stack)
    → ((i t : ℕ) → BeginsAllowed net d A i t → BeginsAllowed net e B i t) → Within (Start net d A z) (Start net e B z)
start_within net d e A B z to x (c, (may, first, is), reaches, kept) =
    let there = to c.alt c.state (may, first) in (c, (there.0, there.1, is), reaches, kept)

-- the allowed alternatives of two decisions begin alike
module _ (net : ParserNetwork) (d e : ℕ) (A B : ℕ → Type 0) (alike : AllowAlike net d A e B) where
  -- the start set
  start_alike : (z : Stack) → AreSame (Start net d A z) (Start net e B z)
  start_alike z c = (
    start_within net d e A B z (λ i t. (alike i t).0) c,
    start_within net e d B A z (λ i t. (alike i t).1) c,
  )

  -- SLL's verdict, with its path
  pub sll_alike : (w : List ℕ) (v : Verdict) (path : Path) → Sll net d A w v path → Sll net e B w v path
  sll_alike w v path h =
      let same = start_alike wildcard in (
        row_of_set path.start (Start net d A wildcard) (Start net e B wildcard) same h.0,
        sll_same net (Start net d A wildcard) (Start net e B wildcard) (λ c. (same c).0) (λ c. (same c).1) w 0 v path.looked h.1,
      )

  -- the answer with full stacks
  pub full_alike : (z : Stack) (w : List ℕ) (c : Choice) → Full net d A z w c → Full net e B z w c
  full_alike z w c h =
      let same = start_alike z in
      full_same net (Start net d A z) (Start net e B z) (λ x. (same x).0) (λ x. (same x).1) w 0 c h

-- alternatives agree at one decision
module _ (net : ParserNetwork) (d : ℕ) (A B : ℕ → Type 0) (to : (i t : ℕ) → IsFirst net d i t → A i → B i)
    (from : (i t : ℕ) → IsFirst net d i t → B i → A i) where
  alike : AllowAlike net d A d B
  alike i t = ((λ (may, first). (to i t first may, first)), λ (may, first). (from i t first may, first))

  pub start_same : (z : Stack) → AreSame (Start net d A z) (Start net d B z)
  start_same z = start_alike net d d A B alike z

  pub sll_over : (w : List ℕ) (v : Verdict) (path : Path) → Sll net d A w v path → Sll net d B w v path
  sll_over w v path h = sll_alike net d d A B alike w v path h

  pub full_over : (z : Stack) (w : List ℕ) (c : Choice) → Full net d A z w c → Full net d B z w c
  full_over z w c h = full_alike net d d A B alike z w c h
