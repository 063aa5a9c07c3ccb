-- From which states a rule can end without a symbol read.
use Rattle.std.proofs.Common.{◌≡◌, ◌⊎◌, inl, inr, ℕ, zero, suc, List, [], ◌∷◌, Option, Some, None, replicate, slice_get, slice_set, refl, sym, ◌∙◌, ap, subst}
use Rattle.g4_net.specs.declared.network.State.{State}
use Rattle.g4_net.specs.declared.network.State.TheVariants.{Decision, End, Edge, Call, Predicate, Level, Action, Empty}
use Rattle.g4_net.specs.Configurations.{Config, Stack, config}
use Rattle.g4_net.specs.Leads.{Leads, LeadsBy, Reaches, here, further}
use Rattle.g4_net.specs.Network.{ParserNetwork, start_of, state_at}
use Rattle.g4_configs.specs.declared.group.Group.{Group}
use Rattle.g4_closure.specs.Ahead.{LeadsToEnd}
use Rattle.g4_closure.specs.Ends.{AreEnds, EndsFrom, IsEnd, IsMarked, IsMoreEnds}
use Rattle.g4_closure.specs.Filling.{IsAfter}
use Rattle.g4_closure.specs.declared.exploring.Mark.{Mark}
use Rattle.g4_closure.specs.declared.exploring.Mark.TheVariants.{New, Open, Done, Ends}
use Rattle.g4_closure.proofs.Following.{reaches_on}

-- one mark is written
pub set_marked : (xs : List Mark) (q : ℕ) (m : Mark) → IsMarked xs q m (slice_set xs q m)
set_marked [] zero m p = inl refl
set_marked [] (suc q) m p = inl refl
set_marked (x ∷ xs) zero m zero = inr (refl, refl)
set_marked (x ∷ xs) zero m (suc p) = inl refl
set_marked (x ∷ xs) (suc q) m zero = inl refl
set_marked (x ∷ xs) (suc q) m (suc p) =
    let f : (slice_get (slice_set xs q m) p ≡ slice_get xs p) ⊎ ((p ≡ q) × (slice_get (slice_set xs q m) p ≡ Some m)) =
    set_marked xs q m p in
    elim f [ inl e ↦ inl e | inr h ↦ inr (ap suc h.0, h.1) ]

-- no mark is written
pub none_marked : (xs : List Mark) (q : ℕ) (m : Mark) → IsMarked xs q m xs
none_marked xs q m p = inl refl

-- a new state is not marked as an end
new_at : (n p before rule : ℕ) → slice_get (replicate n New) p ≡ Some (Ends before rule) → ⊥
new_at zero p before rule is = cc
new_at (suc n) zero before rule is = cc
new_at (suc n) (suc p) before rule is = new_at n p before rule is

-- where nothing is known, no end is marked
pub none_known : (net : ParserNetwork) (n : ℕ) (marks : List Mark) → marks ≡ replicate n New → AreEnds net marks
none_known net n marks is p rule h =
    absurd (new_at n p h.0 rule (subst (λ (ms : List Mark). slice_get ms p ≡ Some (Ends h.0 rule)) is h.1))

-- the rule of a mark
abbrev rule_of : Option Mark → ℕ
rule_of None = 0
rule_of (Some New) = 0
rule_of (Some Open) = 0
rule_of (Some (Done before)) = 0
rule_of (Some (Ends before rule)) = rule

same_rule : (b r before rule : ℕ) → Some (Ends b r) ≡ Some (Ends before rule) → r ≡ rule
same_rule b r before rule e = ap rule_of e

open_is_none : (before rule : ℕ) → Some Open ≡ Some (Ends before rule) → ⊥
open_is_none before rule e = cc

done_is_none : (b before rule : ℕ) → Some (Done b) ≡ Some (Ends before rule) → ⊥
done_is_none b before rule e = cc

module _ (old new : List Mark) (q : ℕ) where
  -- a state that was come to is not marked as an end
  pub opened_ends : IsMarked old q Open new → (p rule : ℕ) → IsEnd new p rule → IsEnd old p rule
  opened_ends marked p rule h =
      let f : (slice_get new p ≡ slice_get old p) ⊎ ((p ≡ q) × (slice_get new p ≡ Some Open)) = marked p in
      elim f [ inl e ↦ (h.0, sym e ∙ h.1) | inr k ↦ absurd (open_is_none h.0 rule (sym k.1 ∙ h.1)) ]

  -- nor is one that was left with no end
  pub done_ends : (b : ℕ) (state : Option (State (List ℕ))) → IsMarked old q (Done b) new → IsMoreEnds old q state new
  done_ends b state marked p rule h =
      let f : (slice_get new p ≡ slice_get old p) ⊎ ((p ≡ q) × (slice_get new p ≡ Some (Done b))) = marked p in
      elim f [ inl e ↦ inl (h.0, sym e ∙ h.1) | inr k ↦ absurd (done_is_none b h.0 rule (sym k.1 ∙ h.1)) ]

  -- one that was left with an end has that end
  pub left_ends : (b r : ℕ) (state : Option (State (List ℕ))) → IsMarked old q (Ends b r) new → EndsFrom old state r
      → IsMoreEnds old q state new
  left_ends b r state marked from p rule h =
      let f : (slice_get new p ≡ slice_get old p) ⊎ ((p ≡ q) × (slice_get new p ≡ Some (Ends b r))) = marked p in
      elim f [
        | inl e ↦ inl (h.0, sym e ∙ h.1)
        | inr k ↦ inr (k.0, subst (EndsFrom old state) (same_rule b r h.0 rule (sym k.1 ∙ h.1)) from)
      ]

-- the end of a rule that is called is left to what is after the call
pub call_over : (net : ParserNetwork) (marks : List Mark) → AreEnds net marks → (q called level back inner : ℕ)
    → state_at net q ≡ Some (Call called level back) → IsEnd marks (start_of called) inner → (i : ℕ) (z : Stack)
    → Reaches net (config q i z) (config back i z)
call_over net marks ends q called level back inner is first i z =
    let way = ends (start_of called) inner first in
    let above : Stack = record { returns = back ∷ z.returns; wild = z.wild } in
    let a : Config = config q i z in
    let b : Config = config (start_of called) i above in
    let c : Config = config way.end i above in
    let d : Config = config back i z in
    let into : Leads net a b = subst (λ (o : Option (State (List ℕ))). LeadsBy net o a b) (sym is) refl in
    let out : Leads net c d = subst (λ (o : Option (State (List ℕ))). LeadsBy net o c d) (sym way.is_end) refl in
    reaches_on net a b d (further a b here into) (further c d (way.reaches i above) out)

-- from where a step or more lead whatever the stack
on_to_end : (net : ParserNetwork) (q t rule : ℕ) → ((i : ℕ) (z : Stack) → Reaches net (config q i z) (config t i z))
    → LeadsToEnd net t rule → LeadsToEnd net q rule
on_to_end net q t rule far way = record {
  end = way.end;
  is_end = way.is_end;
  reaches = λ i z. reaches_on net (config q i z) (config t i z) (config way.end i z) (far i z) (way.reaches i z);
}

-- a step that keeps the stack
one_step : (net : ParserNetwork) (q t : ℕ) (s : State (List ℕ)) → state_at net q ≡ Some s
    → ((i : ℕ) (z : Stack) → LeadsBy net (Some s) (config q i z) (config t i z))
    → (i : ℕ) (z : Stack) → Reaches net (config q i z) (config t i z)
one_step net q t s is leads i z =
    let step : Leads net (config q i z) (config t i z) =
    subst (λ (o : Option (State (List ℕ))). LeadsBy net o (config q i z) (config t i z)) (sym is) (leads i z) in
    further (config q i z) (config t i z) here step

-- what the state leads to shows its end
module _ (net : ParserNetwork) (marks : List Mark) (ends : AreEnds net marks) (q rule : ℕ) where
  shown_end : (s : State (List ℕ)) → state_at net q ≡ Some s → EndsFrom marks (Some s) rule → LeadsToEnd net q rule
  shown_end (Decision targets) is h = on_to_end net q h.0 rule
      (one_step net q h.0 (Decision targets) is (λ i z. (h.0, h.1, refl))) (ends h.0 rule h.2)
  shown_end (End ended) is h = record {
    end = q;
    is_end = is ∙ ap (λ (r : ℕ). Some (End r)) (sym h);
    reaches = λ i z. here;
  }
  shown_end (Edge set t) is h = absurd h
  shown_end (Call called level back) is h = on_to_end net q back rule
      (λ i z. call_over net marks ends q called level back h.0 is h.1 i z) (ends back rule h.2)
  shown_end (Predicate k t) is h = on_to_end net q t rule (one_step net q t (Predicate k t) is (λ i z. refl)) (ends t rule h)
  shown_end (Level k t) is h = on_to_end net q t rule (one_step net q t (Level k t) is (λ i z. refl)) (ends t rule h)
  shown_end (Action t) is h = on_to_end net q t rule (one_step net q t (Action t) is (λ i z. refl)) (ends t rule h)
  shown_end (Empty t) is h = on_to_end net q t rule (one_step net q t (Empty t) is (λ i z. refl)) (ends t rule h)

-- one end more that is marked
pub more_ends : (net : ParserNetwork) (old new : List Mark) (q : ℕ) (s : State (List ℕ)) → state_at net q ≡ Some s
    → IsMoreEnds old q (Some s) new → AreEnds net old → AreEnds net new
more_ends net old new q s is more ends p rule h =
    let f : IsEnd old p rule ⊎ ((p ≡ q) × EndsFrom old (Some s) rule) = more p rule h in
    elim f [
      | inl a ↦ ends p rule a
      | inr k ↦ subst (λ (x : ℕ). LeadsToEnd net x rule) (sym k.0) (shown_end net old ends q rule s is k.1)
    ]

-- no end more
pub same_ends : (net : ParserNetwork) (old new : List Mark) → ((p rule : ℕ) → IsEnd new p rule → IsEnd old p rule)
    → AreEnds net old → AreEnds net new
same_ends net old new back ends p rule h = ends p rule (back p rule h)

-- what is after the call of a rule that can end
pub after_is : (net : ParserNetwork) (marks : List Mark) → AreEnds net marks → (x : Group) (called level back inner : ℕ)
    → state_at net x.state ≡ Some (Call called level back) → IsEnd marks (start_of called) inner
    → IsAfter net x (record { state = back; alternative = x.alternative; stacks = x.stacks })
after_is net marks ends x called level back inner is first = record {
  stacks = refl;
  alternative = refl;
  reaches = λ c d from to alt stack.
      let r : Reaches net (config x.state c.alt c.stack) (config back c.alt c.stack) =
      call_over net marks ends x.state called level back inner is first c.alt c.stack in
      let there : config back c.alt c.stack ≡ d = rw (← to, ← alt, ← stack) refl in
      subst (λ (p : ℕ). Reaches net (config p c.alt c.stack) d) (sym from)
      (subst (Reaches net (config x.state c.alt c.stack)) there r);
}
