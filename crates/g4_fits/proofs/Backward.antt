-- With full stacks, what fits where a configuration leads fits where it comes from.
use Rattle.std.proofs.Common.{◌≡◌, ℕ, List, [], ◌∷◌, Bool, true, false, Option, Some, None, refl, sym, ◌∙◌, ap, subst}
use Rattle.std.proofs.lemmas.Bool.{false≢true}
use Rattle.g4_net.specs.declared.network.State.{State}
use Rattle.g4_net.specs.declared.network.State.TheVariants.{Decision, End, Edge, Call, Predicate, Level, Action, Empty}
use Rattle.g4_net.specs.Configurations.{Config, at, above_bottom}
use Rattle.g4_net.specs.Leads.{Returns, LeadsBy, Reaches, here, further}
use Rattle.g4_net.specs.Lookahead.{Start, Next}
use Rattle.g4_net.specs.Network.{ParserNetwork, state_at, start_of, IsFirst}
use Rattle.g4_net.proofs.Finite.{reached_keeps}
use Rattle.g4_net.specs.Spelling.{PassesBy, ends, takes, calls, passes}
use Rattle.g4_fits.specs.Fitting.{FitsFrom, Fits}
use Rattle.g4_fits.proofs.Arriving.{Stops, first_taken, all_over, take_is}

module _ (net : ParserNetwork) where
  -- the word fits the configuration
  abbrev pub FitsAt : Config → List ℕ → Type 0
  FitsAt c w = FitsFrom net c.state c.stack.returns w

  -- where an edge passes
  back_passed : (o : Option (State (List ℕ))) (c e : Config) (t : ℕ) (w : List ℕ) → state_at net c.state ≡ o → PassesBy o t → e ≡ at c t →
      FitsAt e w → FitsAt c w
  back_passed o c e t w is m there fits =
      let h : FitsFrom net t c.stack.returns w = subst (λ (x : Config). FitsAt x w) there fits in
      (h.0, passes c.state t w h.0 (subst (λ (x : Option (State (List ℕ))). PassesBy x t) (sym is) m) h.1, h.2)

  -- where a rule's end returns
  back_returned : (rule : ℕ) (c e : Config) (rs : List ℕ) (b : Bool) (w : List ℕ) → state_at net c.state ≡ Some (End rule) →
      c.stack.returns ≡ rs → b ≡ false → Returns net rule c rs b e → FitsAt e w → FitsAt c w
  back_returned rule c e (t ∷ rest) b w end are unmarked l fits =
      let h : FitsFrom net t rest w = subst (λ (x : Config). FitsAt x w) l fits in
      subst (λ (rs : List ℕ). FitsFrom net c.state rs w) (sym are) (w, ends c.state rule w end, h)
  back_returned rule c e [] true w end are unmarked l fits = absurd (false≢true (sym unmarked))
  back_returned rule c e [] false w end are unmarked l fits = absurd l

  -- where a step leads
  back_by : (o : Option (State (List ℕ))) (c e : Config) (w : List ℕ) → state_at net c.state ≡ o → c.stack.wild ≡ false →
      LeadsBy net o c e → FitsAt e w → FitsAt c w
  back_by None c e w is unmarked l fits = absurd l
  back_by (Some (Decision ts)) c e w is unmarked l fits = back_passed (Some (Decision ts)) c e l.0 w is l.1 l.2 fits
  back_by (Some (End rule)) c e w is unmarked l fits = back_returned rule c e c.stack.returns c.stack.wild w is refl unmarked l fits
  back_by (Some (Edge set t)) c e w is unmarked l fits = absurd l
  back_by (Some (Call rule level back)) c e w is unmarked l fits =
      let h : FitsFrom net (start_of rule) (back ∷ c.stack.returns) w = subst (λ (x : Config). FitsAt x w) l fits in
      (h.2.0, calls c.state rule level back w h.0 h.2.0 is h.1 h.2.1, h.2.2)
  back_by (Some (Predicate k t)) c e w is unmarked l fits = back_passed (Some (Predicate k t)) c e t w is refl l fits
  back_by (Some (Level q t)) c e w is unmarked l fits = back_passed (Some (Level q t)) c e t w is refl l fits
  back_by (Some (Action t)) c e w is unmarked l fits = back_passed (Some (Action t)) c e t w is refl l fits
  back_by (Some (Empty t)) c e w is unmarked l fits = back_passed (Some (Empty t)) c e t w is refl l fits

  -- where steps lead
  back : (c d : Config) (w : List ℕ) → c.stack.wild ≡ false → Reaches net c d → FitsAt d w → FitsAt c w
  back c d w unmarked here fits = fits
  back c d w unmarked (further e _ r l) fits =
      back c e w unmarked r (back_by (state_at net e.state) e d w refl (sym (reached_keeps net c e r).1 ∙ unmarked) l fits)

  -- what stops at a word fits it
  stops_fits : (p : ℕ) (returns w : List ℕ) → Stops net p returns w → FitsFrom net p returns w
  stops_fits p returns _ (first_taken a t w takes_it (v, h, rest)) =
      let edge = take_is (state_at net p) a t takes_it in
      (v, takes p t edge.0 (a ∷ w) w v edge.1 (a, refl, edge.2) h, rest)
  stops_fits p returns _ (all_over rule end none) = subst (λ (rs : List ℕ). FitsFrom net p rs []) (sym none) ([], ends p rule [] end, refl)

  -- the configuration stops at the word
  abbrev pub StopsAt : Config → List ℕ → Type 0
  StopsAt c w = Stops net c.state c.stack.returns w

  -- what stops in the start set is of an alternative that fits
  pub stopped_start : (d : ℕ) (A : ℕ → Type 0) (returns w : List ℕ) (c : Config) → Start net d A (above_bottom returns) c → StopsAt c w →
      A c.alt × Fits net d c.alt returns w
  stopped_start d A returns w c (f, (allowed, first, stack), r, k) stops =
      let same = (reached_keeps net f c r).0 in
      let unmarked : f.stack.wild ≡ false = ap (λ s. s.wild) stack in
      let fits = back f c w unmarked r (stops_fits c.state c.stack.returns w stops) in (
        subst A same allowed,
        (
          f.state,
          subst (λ (j : ℕ). IsFirst net d j f.state) same first,
          subst
              (λ s. FitsFrom net f.state s.returns w) stack fits,
        ),
      )

  -- what stops in the next set comes from what stops in this one
  pub stopped_next : (C : Config → Type 0) (a : ℕ) (w : List ℕ) (d : Config) → ((c : Config) → C c → c.stack.wild ≡ false) →
      Next net C a d → StopsAt d w → (c : Config) × C c × (c.alt ≡ d.alt) × StopsAt c (a ∷ w)
  stopped_next C a w d unmarked (e, (c, in_c, takes_it, is), r, k) stops =
      let e_unmarked : e.stack.wild ≡ false = ap (λ (x : Config). x.stack.wild) is ∙ unmarked c in_c in
      let fits = back e d w e_unmarked r (stops_fits d.state d.stack.returns w stops) in
      let here : FitsFrom net e.state c.stack.returns w = subst (λ (rs : List ℕ). FitsFrom net e.state rs w)
      (ap (λ (x : Config). x.stack.returns) is) fits in
      (c, in_c, sym (ap (λ (x : Config). x.alt) is) ∙ (reached_keeps net e d r).0, first_taken a e.state w takes_it here)
