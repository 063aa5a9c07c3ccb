-- What is held of what is reached is what a set leads to as far as the hole.
use Rattle.std.proofs.Common.{◌≡◌, ◌==◌, ◌<◌, ◌↔◌, ◌⊎◌, inl, inr, ℕ, List, [], ◌∷◌, ◌++◌, Bool, true, false, Option, Some, None, All, cond, length, refl, sym, ◌∙◌, ap, subst, arith}
use Rattle.std.proofs.lemmas.Bool.Decides.{nat_tests}
use Rattle.std.proofs.lemmas.List.{append-nil}
use Rattle.std.proofs.lemmas.List.Elements.{All-append}
use Rattle.g4_stacks.specs.Canonical.{IsCanonical}
use Rattle.g4_stacks.specs.Graph.{Content, IsNode, Keeps}
use Rattle.g4_net.specs.Configurations.{Stack, Config, config, above_bottom, IsRow, IsWithin}
use Rattle.g4_net.specs.declared.network.State.{State}
use Rattle.g4_net.specs.declared.network.State.TheVariants.{Decision, End, Edge, Call, Predicate, Level, Action, Empty}
use Rattle.g4_net.specs.Leads.{WellFormed}
use Rattle.g4_net.specs.Lookahead.{IsKeptBy}
use Rattle.g4_net.specs.Network.{ParserNetwork, state_at}
use Rattle.g4_net.proofs.Finite.{reached_within}
use Rattle.g4_frames.specs.Framed.{Over, Framed, IsHeld}
use Rattle.g4_configs.specs.declared.group.Group.{Group}
use Rattle.g4_configs.specs.Configs.{AreGroups, Holds, IsOfGroup, View}
use Rattle.g4_configs.specs.Groups.{AreKnown, InSome, Same}
use Rattle.g4_configs.specs.Lowering.{IsLoweredOf}
use Rattle.g4_closure.specs.declared.framed.Hold.{Hold}
use Rattle.g4_closure.specs.declared.framed.Hold.TheVariants as holds
use Rattle.g4_closure.specs.Framing.{AreHeld, IsHeldBy, IsOfOption, hold_by, items_of}
use Rattle.g4_closure.specs.Steps.{ReachedFrom}
use Rattle.g4_closure.proofs.Joining.{known_append, some_append, some_kept}
use Rattle.g4_closure.proofs.RowOf.{reached_has_row}

module _ (net : ParserNetwork) (c : Config) where
  -- what is held, by the state
  abbrev HeldAt : Option (State (List ℕ)) → Type 0
  HeldAt o = IsKeptBy o ⊎ ((rule : ℕ) × (o ≡ Some (End rule)) × (c.stack ≡ above_bottom []))

  -- nothing of such a state
  none_held : (o : Option (State (List ℕ))) → (IsKeptBy o → ⊥) → ((rule : ℕ) → o ≡ Some (End rule) → ⊥) → ⊥ ↔ HeldAt o
  none_held o kept ends = ((λ h. absurd h), (λ h. elim h [ inl k ↦ kept k | inr (rule, is, _) ↦ ends rule is ]))

  -- at a rule's end
  end_held : (rule : ℕ) (b : Bool) → (rule == 0) ≡ b → IsHeldBy (cond b holds.All holds.AtHole) c ↔ HeldAt (Some (End rule))
  end_held rule true e = ((λ h. inl (let n : rule ≡ 0 = grind (arith, nat_tests, e) in n)), (λ h. tt))
  end_held rule false e = (
    (λ h. inr (rule, refl, h)),
    (λ h. elim h [ inl zero ↦ absurd (let no : ⊥ = grind (arith, nat_tests, e, zero) in no) | inr (other, _, is) ↦ is ]),
  )

  held_by : (o : Option (State (List ℕ))) → IsHeldBy (hold_by o) c ↔ HeldAt o
  held_by (Some (Edge set t)) = ((λ h. inl tt), (λ h. tt))
  held_by (Some (End rule)) = end_held rule (rule == 0) refl
  held_by (Some (Decision targets)) = none_held (Some (Decision targets)) (λ h. h) (λ rule is. absurd cc)
  held_by (Some (Call rule level back)) = none_held (Some (Call rule level back)) (λ h. h) (λ r is. absurd cc)
  held_by (Some (Predicate k t)) = none_held (Some (Predicate k t)) (λ h. h) (λ rule is. absurd cc)
  held_by (Some (Level q t)) = none_held (Some (Level q t)) (λ h. h) (λ rule is. absurd cc)
  held_by (Some (Action t)) = none_held (Some (Action t)) (λ h. h) (λ rule is. absurd cc)
  held_by (Some (Empty t)) = none_held (Some (Empty t)) (λ h. h) (λ rule is. absurd cc)
  held_by None = none_held None (λ h. h) (λ rule is. absurd cc)

module _ (net : ParserNetwork) (v : View) where
  -- what is held of a group is what is held of its state
  group_held : (x : Group) (c : Config) → (IsOfGroup v x c × IsHeldBy (hold_by (state_at net x.state)) c) ↔ (IsOfGroup v x c × IsHeld net c)
  group_held x c = (
    (λ (i, h). (i, (held_by net c (state_at net c.state)).0 (subst (λ (p : ℕ). IsHeldBy (hold_by (state_at net p)) c) (sym i.state) h))),
    (λ (i, h). (i, subst (λ (p : ℕ). IsHeldBy (hold_by (state_at net p)) c) i.state ((held_by net c (state_at net c.state)).1 h))),
  )

  -- no group yet
  pub held_none : AreHeld net v [] []
  held_none = record { known = tt; means = λ c. ((λ h. absurd h), (λ h. absurd h.0)) }

  -- one that is held
  pub held_more : (xs found : List Group) (x y : Group) (hold : Hold) → AreHeld net v xs found → hold ≡ hold_by (state_at net x.state)
      → IsNode v.graph y.stacks → ((c : Config) → IsOfGroup v y c ↔ (IsOfGroup v x c × IsHeldBy hold c))
      → AreHeld net v (xs ++ x ∷ []) (found ++ y ∷ [])
  held_more xs found x y hold are is known means = record {
    known = known_append v.graph found (y ∷ []) are.known (known, tt);
    means = λ c. (
      (λ h. elim ((some_append v.graph found (y ∷ []) c).0 h) [
        | inl old ↦ (let r = (are.means c).0 old in ((some_append v.graph xs (x ∷ []) c).1 (inl r.0), r.1))
        | inr new ↦ elim new [
          | inl i ↦ (let r = (group_held x c).0 (held_as c ((means c).0 i)) in ((some_append v.graph xs (x ∷ []) c).1 (inr (inl r.0)), r.1))
          | inr none ↦ absurd none
        ]
      ]),
      (λ (h, held). (some_append v.graph found (y ∷ []) c).1 (elim ((some_append v.graph xs (x ∷ []) c).0 h) [
        | inl old ↦ inl ((are.means c).1 (old, held))
        | inr new ↦ elim new [ inl i ↦ inr (inl ((means c).1 (held_from c ((group_held x c).1 (i, held))))) | inr none ↦ absurd none ]
      ])),
    );
  }
    where
      held_as : (c : Config) → IsOfGroup v x c × IsHeldBy hold c → IsOfGroup v x c × IsHeldBy (hold_by (state_at net x.state)) c
      held_as c (i, h) = (i, subst (λ (k : Hold). IsHeldBy k c) is h)

      held_from : (c : Config) → IsOfGroup v x c × IsHeldBy (hold_by (state_at net x.state)) c → IsOfGroup v x c × IsHeldBy hold c
      held_from c (i, h) = (i, subst (λ (k : Hold). IsHeldBy k c) (sym is) h)

  -- one that is not
  pub held_skip : (xs found : List Group) (x : Group) (hold : Hold) → AreHeld net v xs found → hold ≡ hold_by (state_at net x.state)
      → ((c : Config) → ⊥ ↔ (IsOfGroup v x c × IsHeldBy hold c)) → AreHeld net v (xs ++ x ∷ []) found
  held_skip xs found x hold are is means = record {
    known = are.known;
    means = λ c. (
      (λ h. let r = (are.means c).0 h in ((some_append v.graph xs (x ∷ []) c).1 (inl r.0), r.1)),
      (λ (h, held). elim ((some_append v.graph xs (x ∷ []) c).0 h) [
        | inl old ↦ (are.means c).1 (old, held)
        | inr new ↦ elim new [
          | inl i ↦ absurd ((means c).1
              (let r = (group_held x c).1 (i, held) in (r.0, subst (λ (k : Hold). IsHeldBy k c) (sym is) r.1)))
          | inr none ↦ absurd none
        ]
      ]),
    );
  }

  -- so one or none
  pub held_on : (xs found : List Group) (x : Group) (o : Option Group) (hold : Hold) → AreHeld net v xs found
      → hold ≡ hold_by (state_at net x.state) → AreKnown v.graph (items_of o)
      → ((c : Config) → IsOfOption v o c ↔ (IsOfGroup v x c × IsHeldBy hold c)) → AreHeld net v (xs ++ x ∷ []) (found ++ items_of o)
  held_on xs found x None hold are is known means =
      subst (AreHeld net v (xs ++ x ∷ [])) (sym (append-nil found)) (held_skip xs found x hold are is means)
  held_on xs found x (Some y) hold are is known means = held_more xs found x y hold are is known.0 means

module _ (net : ParserNetwork) (C : Config → Type 0) where
  -- a set made of what is held of all that is reached
  pub framed_held : (u w f v : View) (xs found : List Group) → Same (Holds u) (ReachedFrom net C)
      → ((c : Config) → Holds w c ↔ Holds u c) → AreGroups w xs → AreHeld net w xs found → Keeps w.graph f.graph
      → ((c : Config) → Holds f c → ⊥) → Same (Holds v) (λ c. Holds f c ⊎ InSome f.graph found c) → Same (Holds v) (Framed net C)
  framed_held u w f v xs found reached same groups are keeps empty members c = (
    (λ h. elim ((members c).0 h) [
      | inl none ↦ absurd (empty c none)
      | inr i ↦
          (let r = (are.means c).0 ((some_kept w.graph f.graph found keeps are.known c).1 i) in
          let s = (reached c).0 ((same c).0 ((groups.members c).0 r.0)) in
          (s.0, s.1, s.2, r.1))
    ]),
    (λ (b, i, r, held). (members c).1 (inr ((some_kept w.graph f.graph found keeps are.known c).0
        ((are.means c).1 ((groups.members c).1 ((same c).1 ((reached c).1 (b, i, r))), held))))),
  )

  -- it is within the network
  pub framed_within : (v : View) → WellFormed net → ((c : Config) → C c → IsWithin net c) → Same (Holds v) (Framed net C)
      → (d : Config) → Holds v d → IsWithin net d
  framed_within v well within members d h = let r = (members d).0 h in reached_within net r.0 d well (within r.0 r.1) r.2

  -- and of the same set
  pub framed_of : (D E : Config → Type 0) → Same C D → Same E (Framed net C) → Same E (Framed net D)
  framed_of D E same members d = (
    (λ i. let r = (members d).0 i in (r.0, (same r.0).0 r.1, r.2, r.3)),
    (λ r. (members d).1 (r.0, (same r.0).1 r.1, r.2, r.3)),
  )

module _ (C : Config → Type 0) (below : List ℕ) where
  -- return states below the stacks of a set are those in the place of the hole
  lowered_over : ((c : Config) → C c → c.stack.wild ≡ false) → Same (IsLoweredOf C below) (Over below C)
  lowered_over bottomed c = (
    (λ (rs, i, is). (config c.state c.alt (above_bottom rs), i, ap (λ (z : Stack). config c.state c.alt z) is)),
    (λ (b, i, is). (
      b.stack.returns,
      subst (λ (p : ℕ). C (config p c.alt (above_bottom b.stack.returns))) (sym (ap (λ (x : Config). x.state) is))
          (subst (λ (a : ℕ). C (config b.state a (above_bottom b.stack.returns))) (sym (ap (λ (x : Config). x.alt) is))
          (subst (λ (w : Bool). C (config b.state b.alt (record { returns = b.stack.returns; wild = w }))) (bottomed b i) i)),
      ap (λ (x : Config). x.stack) is ∙ ap (λ (w : Bool). record { returns = b.stack.returns ++ below; wild = w }) (bottomed b i),
    )),
  )

  -- so groups with them are within the network
  pub lowered_within : (net : ParserNetwork) (g : List Content) (xs : List Group) → All (λ s. s < length net.states) below
      → ((c : Config) → C c → IsWithin net c) → ((c : Config) → InSome g xs c ↔ IsLoweredOf C below c) → (c : Config) → InSome g xs c
      → IsWithin net c
  lowered_within net g xs states within means c i =
      let (rs, j, is) = (means c).0 i in
      let w = within (config c.state c.alt (above_bottom rs)) j in (
        w.0,
        subst (λ (z : Stack). All (λ s. s < length net.states) z.returns) (sym is)
            (All-append (λ s. s < length net.states) rs below w.1 states),
      )

  -- and lead to the lowered set
  pub lowered_framed : (net : ParserNetwork) (g : List Content) (xs : List Group) (E : Config → Type 0)
      → ((c : Config) → C c → c.stack.wild ≡ false) → ((c : Config) → InSome g xs c ↔ IsLoweredOf C below c)
      → Same E (Framed net (InSome g xs)) → Same E (Framed net (Over below C))
  lowered_framed net g xs E bottomed means = framed_of net (InSome g xs) (Over below C) E
      (λ d. ((λ i. (lowered_over bottomed d).0 ((means d).0 i)), (λ i. (means d).1 ((lowered_over bottomed d).1 i))))

-- what groups lead to as far as the hole has a row
pub framed_has_row : (net : ParserNetwork) (g : List Content) (starts : List Group) (v : View) → WellFormed net → IsCanonical g
    → ((c : Config) → InSome g starts c → IsWithin net c) → Same (Holds v) (Framed net (InSome g starts))
    → (row : List Config) × IsRow row (Holds v)
framed_has_row net g starts v well canon within members =
    reached_has_row net g starts v well canon within (λ d h. let r = (members d).0 h in (r.0, r.1, r.2))
