-- Where something fits, looking ahead answers the least that fits, and finds no error.
use Rattle.std.proofs.Common.{◌≡◌, ℕ, suc, ◌≤◌, List, [], ◌∷◌, Bool, true, false, refl, sym, ◌∙◌, ap, subst, arith}
use Rattle.std.proofs.lemmas.Bool.{false≢true}
use Rattle.g4_net.specs.Configurations.{Stack, Config, config, above_bottom, wildcard}
use Rattle.g4_net.specs.Lookahead.{Start, Next, IsEmpty, IsOnly, Alike}
use Rattle.g4_net.specs.Network.{ParserNetwork}
use Rattle.g4_net.specs.Prediction.{Verdict, answer, error_at, sensitive, Looked, Path, Judges, SllFrom, Sll, Choice, chosen, no_viable, Settles, FullFrom, Full}
use Rattle.g4_net.specs.Prediction as prediction
use Rattle.g4_net.specs.Proper.{IsProper}
use Rattle.g4_net.proofs.Finite.{reached_keeps}
use Rattle.g4_fits.specs.Fitting.{Fits, SomeFits, IsLeastThatFits, IsOnlyThatFits}
use Rattle.g4_fits.proofs.Arriving.{CalledAreOwn, Shown, bottom, below, above, Stops, LastIsOwn, Holds, holds_start, holds_next}
use Rattle.g4_fits.proofs.Backward.{StopsAt, stopped_start, stopped_next}

-- above the bottom all return states are seen
all_shown : (net : ParserNetwork) (shown returns : List ℕ) → Shown net false shown returns → shown ≡ returns
all_shown net _ _ bottom = refl
all_shown net _ _ (below rest is own) = absurd (false≢true is)
all_shown net _ _ (above t shown returns h) = ap (λ (ts : List ℕ). t ∷ ts) (all_shown net shown returns h)

-- so all may be seen
pub shown_all : (net : ParserNetwork) (wild : Bool) (returns : List ℕ) → Shown net wild returns returns
shown_all net wild [] = bottom
shown_all net wild (t ∷ more) = above t more more (shown_all net wild more)

-- F says which alternatives fit, of those that are allowed
module _ (net : ParserNetwork) (own : LastIsOwn net) (F : ℕ → Type 0) where
  -- the set has a configuration that stops at the word, for each alternative that fits
  abbrev HasEach : Bool → (Config → Type 0) → List ℕ → Type 0
  HasEach wild C w = (i : ℕ) → F i → Holds net own i wild C w

  -- it has one for the same word without its first symbol after that
  each_next : (wild : Bool) (C : Config → Type 0) (a : ℕ) (w : List ℕ) → HasEach wild C (a ∷ w) → HasEach wild (Next net C a) w
  each_next wild C a w each i f = holds_next net own i wild C a w (each i f)

  -- With full stacks: nothing but alternatives that fit has such a one.
  record IsFull (C : Config → Type 0) (w : List ℕ) : Type 0 where
    each : HasEach false C w
    unmarked : (c : Config) → C c → c.stack.wild ≡ false
    fitting : (c : Config) → C c → StopsAt net c w → F c.alt

  -- it remains so
  full_next : (C : Config → Type 0) (a : ℕ) (w : List ℕ) → IsFull C (a ∷ w) → IsFull (Next net C a) w
  full_next C a w h = record {
    each = each_next false C a w h.each;
    unmarked = λ d (e, (c, in_c, t, is), r, k). sym (reached_keeps net e d r).1 ∙ ap (λ (x : Config). x.stack.wild) is ∙ h.unmarked c in_c;
    fitting = λ d in_d stops. let s = stopped_next net C a w d h.unmarked in_d stops in subst F s.2 (h.fitting s.0 s.1 s.3);
  }

  -- where all are alike, what is left fits
  alike_fits : (D : Config → Type 0) (w : List ℕ) (j : ℕ) (c : Config) → IsFull D w → F j → Alike D → D c → F c.alt
  alike_fits D w j c h f alike in_c =
      let of_j = h.each j f in
      let there : Config = config of_j.state j (record { returns = of_j.shown; wild = false }) in
      let found : D (config of_j.state c.alt there.stack) = (alike.same there c there of_j.has in_c of_j.has there.stack).0 of_j.has in
      h.fitting (config of_j.state c.alt there.stack) found (subst (λ (rs : List ℕ). Stops net of_j.state rs w)
      (sym (all_shown net of_j.shown of_j.returns of_j.shows)) of_j.stops)

  -- the choice is the least that fits
  abbrev ChoosesLeast : Choice → Type 0
  ChoosesLeast c = (i : ℕ) × (c ≡ chosen i) × F i × ((j : ℕ) → F j → i ≤ j)

  module _ (some : (i : ℕ) × F i) where
    -- of a set that has each of them, one alternative alone fits
    only_fits : (wild : Bool) (D : Config → Type 0) (w : List ℕ) (i : ℕ) → HasEach wild D w → IsOnly D i → F i × ((j : ℕ) → F j → j ≡ i)
    only_fits wild D w i each only = (subst F (is some.0 some.1) some.1, is)
      where
        is : (j : ℕ) → F j → j ≡ i
        is j f = let of_j = each j f in only.all (config of_j.state j (record { returns = of_j.shown; wild = wild })) of_j.has

    -- and such a set is not empty
    not_empty : (wild : Bool) (D : Config → Type 0) (w : List ℕ) → HasEach wild D w → IsEmpty D → ⊥
    not_empty wild D w each none = let of = each some.0 some.1 in
        none (config of.state some.0 (record { returns = of.shown; wild = wild })) of.has

    -- settling
    settles_least : (D : Config → Type 0) (k : ℕ) (w : List ℕ) (Later : Choice → Type 0) → IsFull D w →
        ((c : Choice) → Later c → ChoosesLeast c) → (c : Choice) → Settles D k Later c → ChoosesLeast c
    settles_least D k w Later h later _ (prediction.none_left e) = absurd (not_empty false D w h.each e)
    settles_least D k w Later h later _ (prediction.one_left i only) =
        let o = only_fits false D w i h.each only in
        (i, refl, o.0, λ j f. let is = o.1 j f in omega (arith, is))
    settles_least D k w Later h later _ (prediction.least i alike l) = (
      i,
      refl,
      subst F l.some.2 (alike_fits D w some.0 l.some.0 h some.1 alike l.some.1),
      λ j f. let of_j = h.each j f in
          l.least (config of_j.state j (record { returns = of_j.shown; wild = false })) of_j.has,
    )
    settles_least D k w Later h later _ (prediction.goes_on c e n s l) = later c l

    -- full stacks
    full_least : (C : Config → Type 0) (w : List ℕ) (k : ℕ) (c : Choice) → IsFull C w → FullFrom net C w k c → ChoosesLeast c
    full_least C [] k c h f = absurd f
    full_least C (a ∷ w) k c h f =
        let next = full_next C a w h in
        settles_least (Next net C a) k w (FullFrom net (Next net C a) w (suc k)) next
        (λ b g. full_least (Next net C a) w (suc k) b next g) c f

    -- what a verdict says: its answer is the only one that fits, and it is no error
    abbrev Tells : Verdict → Type 0
    Tells (answer i) = F i × ((j : ℕ) → F j → j ≡ i)
    Tells (error_at k) = ⊥
    Tells (sensitive k) = Unit {0}

    -- judging
    judges_tells : (D : Config → Type 0) (k a : ℕ) (w : List ℕ) (Later : Verdict → List Looked → Type 0) → HasEach true D w →
        ((v : Verdict) (more : List Looked) → Later v more → Tells v) → (v : Verdict) (looked : List Looked) → Judges D k a Later v looked →
        Tells v
    judges_tells D k a w Later each later _ _ (prediction.nothing_left e) = not_empty true D w each e
    judges_tells D k a w Later each later _ _ (prediction.one_left i only) = only_fits true D w i each only
    judges_tells D k a w Later each later _ _ (prediction.gives_up n c l) = tt
    judges_tells D k a w Later each later _ _ (prediction.goes_on v more row e n s is l) = later v more l

    -- SLL
    sll_tells : (C : Config → Type 0) (w : List ℕ) (k : ℕ) (v : Verdict) (looked : List Looked) → HasEach true C w →
        SllFrom net C w k v looked → Tells v
    sll_tells C [] k v looked each s = absurd s
    sll_tells C (a ∷ w) k v looked each s =
        let next = each_next true C a w each in
        judges_tells (Next net C a) k a w (SllFrom net (Next net C a) w (suc k)) next
        (λ b more g. sll_tells (Next net C a) w (suc k) b more next g) v looked s

module _ (net : ParserNetwork) (own : LastIsOwn net) (d : ℕ) (A : ℕ → Type 0) (returns w : List ℕ) (proper : IsProper net d returns) where
  -- the alternative is allowed, and fits
  abbrev pub Suits : ℕ → Type 0
  Suits i = A i × Fits net d i returns w

  -- full stacks choose the least that does
  pub full_chooses : (c : Choice) → SomeFits net d A returns w → Full net d A (above_bottom returns) w c → (i : ℕ) × (c ≡ chosen i) ×
      IsLeastThatFits net d A returns w i
  full_chooses c some full =
      let r = full_least net own Suits (some.0, (some.1, some.2)) (Start net d A (above_bottom returns)) w 0 c (record {
        each = λ i (allowed, fits). holds_start net own i false d A returns returns w (shown_all net false returns) proper allowed fits;
        unmarked = λ c' (f, (_, _, stack), reach, k). sym (reached_keeps net f c' reach).1 ∙ ap (λ (s : Stack). s.wild) stack;
        fitting = λ c' in_c stops. stopped_start net d A returns w c' in_c stops;
      }) full in
      (r.0, r.1, record { allowed = r.2.0; fits = r.2.1; least = λ j a f. r.3 j (a, f) })

  -- what SLL says of them
  pub sll_says : CalledAreOwn net → (some : SomeFits net d A returns w) → (v : Verdict) (path : Path) → Sll net d A w v path →
      Tells net own Suits (some.0, (some.1, some.2)) v
  sll_says all_own some v path s =
      sll_tells net own Suits (some.0, (some.1, some.2)) (Start net d A wildcard) w 0 v path.looked
      (λ i (allowed, fits). holds_start net own i true d A [] returns w (below returns refl all_own) proper allowed fits) s.1

  -- its answer is the only one that does
  pub sll_answers : CalledAreOwn net → (i : ℕ) (path : Path) → SomeFits net d A returns w → Sll net d A w (answer i) path →
      IsOnlyThatFits net d A returns w i
  sll_answers all_own i path some s =
      let r = sll_says all_own some (answer i) path s in
      record { allowed = r.0.0; fits = r.0.1; only = λ j a f. r.1 j (a, f) }

  -- and it finds no error
  pub sll_no_error : CalledAreOwn net → (k : ℕ) (path : Path) → SomeFits net d A returns w → Sll net d A w (error_at k) path → ⊥
  sll_no_error all_own k path some s = sll_says all_own some (error_at k) path s
