-- What a configuration leads to over return states: it is reached above the hole, or through it.
use Rattle.std.proofs.Common.{◌≡◌, ◌⊎◌, inl, inr, ℕ, List, [], ◌∷◌, ◌++◌, Bool, true, false, true≢false, Option, Some, None, refl, sym, ◌∙◌, ap, subst}
use Rattle.std.proofs.lemmas.List.{append_assoc, append-nil}
use Rattle.g4_net.specs.Configurations.{Stack, Config, config, at, at_with, above_bottom}
use Rattle.g4_net.specs.declared.network.State.{State}
use Rattle.g4_net.specs.declared.network.State.TheVariants.{Decision, End, Edge, Call, Predicate, Level, Action, Empty}
use Rattle.g4_net.specs.Leads.{Returns, LeadsBy, Leads, Reaches, here, further}
use Rattle.g4_net.specs.Network.{ParserNetwork, state_at, start_of}
use Rattle.g4_net.proofs.Finite.{reached_keeps}
use Rattle.g4_frames.specs.Framed.{over, IsAtHole}

-- over no return state a configuration is itself
pub over_none : (c : Config) → over [] c ≡ c
over_none c = ap (λ (rs : List ℕ). config c.state c.alt (record { returns = rs; wild = c.stack.wild })) (append-nil c.stack.returns)

-- return states one after the other
pub over_over : (above rest : List ℕ) (c : Config) → over rest (over above c) ≡ over (above ++ rest) c
over_over above rest c = ap (λ (rs : List ℕ). config c.state c.alt (record { returns = rs; wild = c.stack.wild }))
    (append_assoc c.stack.returns above rest)

module _ (net : ParserNetwork) where
  -- steps and then steps
  pub and_then : (c d e : Config) → Reaches net c d → Reaches net d e → Reaches net c e
  and_then c d _ r here = r
  and_then c d e r (further x _ s l) = further x e (and_then c d x r s) l

module _ (net : ParserNetwork) (below : List ℕ) where
  -- a return over them is the same return
  over_returns : (rule : ℕ) (c d : Config) (returns : List ℕ) (wild : Bool) → wild ≡ false → Returns net rule c returns wild d
      → Returns net rule (over below c) (returns ++ below) wild (over below d)
  over_returns rule c d (t ∷ rest) wild bottom l = ap (over below) l
  over_returns rule c d [] true bottom l = absurd (true≢false bottom)
  over_returns rule c d [] false bottom l = absurd l

  -- and so is each step
  over_leads : (o : Option (State (List ℕ))) (c d : Config) → c.stack.wild ≡ false → LeadsBy net o c d
      → LeadsBy net o (over below c) (over below d)
  over_leads None c d bottom l = absurd l
  over_leads (Some (Decision targets)) c d bottom (t, has, is) = (t, has, ap (over below) is)
  over_leads (Some (End rule)) c d bottom l = over_returns rule c d c.stack.returns c.stack.wild bottom l
  over_leads (Some (Edge set t)) c d bottom l = absurd l
  over_leads (Some (Call rule level back)) c d bottom l = ap (over below) l
  over_leads (Some (Predicate k t)) c d bottom l = ap (over below) l
  over_leads (Some (Level q t)) c d bottom l = ap (over below) l
  over_leads (Some (Action t)) c d bottom l = ap (over below) l
  over_leads (Some (Empty t)) c d bottom l = ap (over below) l

  -- what is reached above the hole is reached over them
  pub over_reaches : (c d : Config) → c.stack.wild ≡ false → Reaches net c d → Reaches net (over below c) (over below d)
  over_reaches c _ bottom here = here
  over_reaches c d bottom (further e _ r l) =
      further (over below e) (over below d) (over_reaches c e bottom r)
      (over_leads (state_at net e.state) e d (sym (reached_keeps net c e r).1 ∙ bottom) l)

  -- a step over them is a step above the hole, or what makes it is at the hole
  abbrev IsStep : Option (State (List ℕ)) → Config → Config → Type 0
  IsStep o e d = ((f : Config) × LeadsBy net o e f × (d ≡ over below f)) ⊎ IsAtHole net e

  -- a stack by its parts
  bare : (s : Stack) → s.returns ≡ [] → s.wild ≡ false → s ≡ above_bottom []
  bare s none bottom = ap (λ (rs : List ℕ). record { returns = rs; wild = s.wild }) none
      ∙ ap (λ (w : Bool). record { returns = []; wild = w }) bottom

  -- a rule's end
  step_end : (rule : ℕ) (e d : Config) → state_at net e.state ≡ Some (End rule) → (returns : List ℕ) (wild : Bool)
      → e.stack.returns ≡ returns → e.stack.wild ≡ wild → wild ≡ false → Returns net rule (over below e) (returns ++ below) wild d
      → IsStep (Some (End rule)) e d
  step_end rule e d is (t ∷ rest) wild top mark bottom l =
      inl (at_with e t rest, subst (λ (rs : List ℕ). Returns net rule e rs e.stack.wild (at_with e t rest)) (sym top) refl, l)
  step_end rule e d is [] wild top mark bottom l = inr (rule, is, bare e.stack top (mark ∙ bottom))

  -- each step
  step : (o : Option (State (List ℕ))) (e d : Config) → state_at net e.state ≡ o → e.stack.wild ≡ false
      → LeadsBy net o (over below e) d → IsStep o e d
  step None e d is bottom l = absurd l
  step (Some (Decision targets)) e d is bottom (t, has, same) = inl (at e t, (t, has, refl), same)
  step (Some (End rule)) e d is bottom l = step_end rule e d is e.stack.returns e.stack.wild refl refl bottom l
  step (Some (Edge set t)) e d is bottom l = absurd l
  step (Some (Call rule level back)) e d is bottom l = inl (at_with e (start_of rule) (back ∷ e.stack.returns), refl, l)
  step (Some (Predicate k t)) e d is bottom l = inl (at e t, refl, l)
  step (Some (Level q t)) e d is bottom l = inl (at e t, refl, l)
  step (Some (Action t)) e d is bottom l = inl (at e t, refl, l)
  step (Some (Empty t)) e d is bottom l = inl (at e t, refl, l)

  -- The configuration is reached above the hole.
  pub record IsAbove (b c : Config) : Type 0 where
    pub own : Config
    pub is : c ≡ over below own
    pub reached : Reaches net b own

  -- The configuration is reached through the hole.
  pub record IsThrough (b c : Config) : Type 0 where
    pub hole : Config
    pub reached : Reaches net b hole
    pub at_hole : IsAtHole net hole
    pub from : Reaches net (over below hole) c

  -- one step more
  one_more : (b d c : Config) (h : IsAbove b d) → Leads net d c → IsStep (state_at net h.own.state) h.own c → IsAbove b c ⊎ IsThrough b c
  one_more b d c h l (inl (f, leads, is)) = inl (record { own = f; is = is; reached = further h.own f h.reached leads })
  one_more b d c h l (inr at_hole) = inr (record {
    hole = h.own;
    reached = h.reached;
    at_hole = at_hole;
    from = further (over below h.own) c here (subst (λ (x : Config). Leads net x c) h.is l);
  })

  -- what is reached over return states is reached above the hole or through it
  pub parted : (b c : Config) → b.stack.wild ≡ false → Reaches net (over below b) c → IsAbove b c ⊎ IsThrough b c
  parted b _ bottom here = inl (record { own = b; is = refl; reached = here })
  parted b c bottom (further d _ r l) = elim (parted b d bottom r) [
    | inl h ↦ one_more b d c h l (step (state_at net h.own.state) h.own c refl (sym (reached_keeps net b h.own h.reached).1 ∙ bottom)
        (subst (λ (x : Config). Leads net x c) h.is l))
    | inr h ↦ inr (record { hole = h.hole; reached = h.reached; at_hole = h.at_hole; from = further d c h.from l })
  ]
