-- What a configuration leads to over return states: it stays above them, or its rule ends and the newest of them is returned to.
use Rattle.std.proofs.Common.{◌≡◌, ◌⊎◌, inl, inr, ℕ, List, [], ◌∷◌, ◌++◌, Bool, true, false, true≢false, Option, Some, None, sym, refl, ◌∙◌, ap, subst}
use Rattle.g4_net.specs.Configurations.{Stack, Config, config, above_bottom}
use Rattle.g4_net.specs.declared.network.State.{State}
use Rattle.g4_net.specs.declared.network.State.TheVariants.{Decision, End, Edge, Call, Predicate, Level, Action, Empty}
use Rattle.g4_net.specs.Leads.{Returns, LeadsBy, Leads, Reaches, here, further}
use Rattle.g4_net.specs.Network.{ParserNetwork, state_at, start_of}
use Rattle.g4_net.proofs.Finite.{reached_keeps}
use Rattle.g4_lookahead.specs.Near.{Leaves}

-- the configuration with return states below its own
abbrev pub over : List ℕ → Config → Config
over below c = config c.state c.alt (record { returns = c.stack.returns ++ below; wild = c.stack.wild })

module _ (net : ParserNetwork) (below : List ℕ) where
  -- a return over them is the same return
  over_returns : (rule : ℕ) (c d : Config) (returns : List ℕ) (wild : Bool) → wild ≡ false → Returns net rule c returns wild d
      → Returns net rule (over below c) (returns ++ below) wild (over below d)
  over_returns rule c d (t ∷ rest) wild bottom l = ap (over below) l
  over_returns rule c d [] true bottom l = absurd (true≢false bottom)
  over_returns rule c d [] false bottom l = absurd l

  -- and so is each step
  over_leads : (o : Option (State (List ℕ))) (c d : Config) → c.stack.wild ≡ false → LeadsBy net o c d
      → LeadsBy net o (over below c) (over below d)
  over_leads None c d bottom l = absurd l
  over_leads (Some (Decision targets)) c d bottom (t, has, is) = (t, has, ap (over below) is)
  over_leads (Some (End rule)) c d bottom l = over_returns rule c d c.stack.returns c.stack.wild bottom l
  over_leads (Some (Edge set t)) c d bottom l = absurd l
  over_leads (Some (Call rule level back)) c d bottom l = ap (over below) l
  over_leads (Some (Predicate k t)) c d bottom l = ap (over below) l
  over_leads (Some (Level q t)) c d bottom l = ap (over below) l
  over_leads (Some (Action t)) c d bottom l = ap (over below) l
  over_leads (Some (Empty t)) c d bottom l = ap (over below) l

  -- what is reached above the bottom is reached over them
  pub over_reaches : (c d : Config) → c.stack.wild ≡ false → Reaches net c d → Reaches net (over below c) (over below d)
  over_reaches c _ bottom here = here
  over_reaches c d bottom (further e _ r l) =
      further (over below e) (over below d) (over_reaches c e bottom r)
      (over_leads (state_at net e.state) e d (sym (reached_keeps net c e r).1 ∙ bottom) l)

-- The configuration is reached without a return to those below.
pub record IsInside (net : ParserNetwork) (p j : ℕ) (below : List ℕ) (c : Config) : Type 0 where
  pub above : List ℕ
  pub is : c ≡ config c.state j (above_bottom (above ++ below))
  pub reached : Reaches net (config p j (above_bottom [])) (config c.state j (above_bottom above))

-- the configuration is reached from the newest return state
abbrev pub IsEntered : ParserNetwork → ℕ → List ℕ → Config → Type 0
IsEntered net j [] c = ⊥
IsEntered net j (t ∷ rest) c = Reaches net (config t j (above_bottom rest)) c

-- one or the other, where the first configuration can leave its rule
abbrev pub IsParted : ParserNetwork → ℕ → ℕ → List ℕ → Config → Type 0
IsParted net p j below c = IsInside net p j below c ⊎ (Leaves net (config p j (above_bottom [])) × IsEntered net j below c)

-- a step from what is reached from the newest
entered_step : (net : ParserNetwork) (j : ℕ) (below : List ℕ) (c d : Config) → Leads net c d → IsEntered net j below c
    → IsEntered net j below d
entered_step net j [] c d l e = absurd e
entered_step net j (t ∷ rest) c d l e = further c d e l

module _ (net : ParserNetwork) (p j : ℕ) where
  -- a step that stays above the return states below
  inside_step : (q t : ℕ) (above next below : List ℕ) (d : Config)
      → Leads net (config q j (above_bottom above)) (config t j (above_bottom next))
      → Reaches net (config p j (above_bottom [])) (config q j (above_bottom above)) → d ≡ config t j (above_bottom (next ++ below))
      → IsParted net p j below d
  inside_step q t above next below d l r is =
      subst (IsParted net p j below) (sym is)
      (inl (record { above = next; is = refl; reached = further (config q j (above_bottom above)) (config t j (above_bottom next)) r l }))

  -- a rule's end
  parted_end : (q rule : ℕ) (above below : List ℕ) (d : Config) → state_at net q ≡ Some (End rule)
      → Reaches net (config p j (above_bottom [])) (config q j (above_bottom above))
      → Returns net rule (config q j (above_bottom (above ++ below))) (above ++ below) false d → IsParted net p j below d
  parted_end q rule [] [] d is r l = absurd l
  parted_end q rule [] (t ∷ rest) d is r l = inr ((q, rule, is, r), subst (Reaches net (config t j (above_bottom rest))) (sym l) here)
  parted_end q rule (t ∷ above) below d is r l =
      inside_step q t (t ∷ above) above below d (subst
      (λ (o : Option (State (List ℕ))). LeadsBy net o (config q j (above_bottom (t ∷ above))) (config t j (above_bottom above)))
      (sym is) refl) r l

  -- an edge that reads nothing and opens no rule
  parted_edge : (q t : ℕ) (above below : List ℕ) (d : Config) (o : Option (State (List ℕ))) → state_at net q ≡ o
      → ((z : Stack) → LeadsBy net o (config q j z) (config t j z))
      → Reaches net (config p j (above_bottom [])) (config q j (above_bottom above)) → d ≡ config t j (above_bottom (above ++ below))
      → IsParted net p j below d
  parted_edge q t above below d o is step r same =
      inside_step q t above above below d (subst
      (λ (s : Option (State (List ℕ))). LeadsBy net s (config q j (above_bottom above)) (config t j (above_bottom above)))
      (sym is) (step (above_bottom above))) r same

  -- a step from above the return states
  parted_step : (q : ℕ) (above below : List ℕ) (d : Config) (o : Option (State (List ℕ))) → state_at net q ≡ o
      → Reaches net (config p j (above_bottom [])) (config q j (above_bottom above))
      → LeadsBy net o (config q j (above_bottom (above ++ below))) d → IsParted net p j below d
  parted_step q above below d None is r l = absurd l
  parted_step q above below d (Some (Decision targets)) is r (t, has, same) =
      parted_edge q t above below d (Some (Decision targets)) is (λ z. (t, has, refl)) r same
  parted_step q above below d (Some (End rule)) is r l = parted_end q rule above below d is r l
  parted_step q above below d (Some (Edge set t)) is r l = absurd l
  parted_step q above below d (Some (Call rule level back)) is r l =
      inside_step q (start_of rule) above (back ∷ above) below d
      (subst (λ (o : Option (State (List ℕ))). LeadsBy net o (config q j (above_bottom above))
      (config (start_of rule) j (above_bottom (back ∷ above)))) (sym is) refl) r l
  parted_step q above below d (Some (Predicate k t)) is r l = parted_edge q t above below d (Some (Predicate k t)) is (λ z. refl) r l
  parted_step q above below d (Some (Level k t)) is r l = parted_edge q t above below d (Some (Level k t)) is (λ z. refl) r l
  parted_step q above below d (Some (Action t)) is r l = parted_edge q t above below d (Some (Action t)) is (λ z. refl) r l
  parted_step q above below d (Some (Empty t)) is r l = parted_edge q t above below d (Some (Empty t)) is (λ z. refl) r l

  -- what is reached over return states is reached above them or from the newest
  pub parted : (below : List ℕ) (c : Config) → Reaches net (config p j (above_bottom below)) c → IsParted net p j below c
  parted below _ here = inl (record { above = []; is = refl; reached = here })
  parted below c (further d _ r l) = elim (parted below d r) [
    | inl h ↦ parted_step d.state h.above below c (state_at net d.state) refl h.reached
        (subst (λ (x : Config). LeadsBy net (state_at net d.state) x c) h.is l)
    | inr h ↦ inr (h.0, entered_step net j below d c l h.1)
  ]
