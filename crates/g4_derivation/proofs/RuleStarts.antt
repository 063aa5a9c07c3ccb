-- What is read from where a rule starts, and which numbers are written there.
use Rattle.std.proofs.Common.{◌≡◌, ℕ, ◌<◌, ◌≤◌, List, [], ◌∷◌, Some, length, map, refl, sym, ◌∙◌, ap, subst, arith, slice_get, Contains}
use Rattle.std.proofs.lemmas.Option.{slice_get-get_or}
use Rattle.g4_source.specs.Elements.{Elements, Alternatives, either}
use Rattle.g4_grammar.specs.declared.step.Step.{Step}
use Rattle.g4_net.specs.declared.network.Network.{Network}
use Rattle.g4_net.specs.declared.network.State.TheVariants.{Decision, End}
use Rattle.g4_net.specs.Network.{ParserNetwork, state_at, start_of, end_of, written_at}
use Rattle.g4_layout.specs.Decisions.{number_of}
use Rattle.g4_layout.specs.Layout.{AllLeadTo, LieSideBySide, no_other, another}
use Rattle.g4_layout.specs.Numbers.{StartsAreWritten}
use Rattle.g4_layout.proofs.Spans.{firsts_between}
use Rattle.g4_leftrec.specs.OwnCalls.{Part}
use Rattle.g4_leftrec.specs.Rewriting.{StepIn, Written}
use Rattle.g4_derivation.specs.Alternatives.{IsAlternative, IsNoLevel}
use Rattle.g4_derivation.specs.WalkSpelling.{IsSpelled}
use Rattle.g4_derivation.proofs.Beginnings.{LiesTo, body_at, each_of_either}
use Rattle.g4_derivation.proofs.Items.{item_map}
use Rattle.g4_derivation.proofs.KnownStarts.{IsStart, StartsAreKnown, written_bodies}
use Rattle.g4_derivation.proofs.RuleLevels.{starts_free}
use Rattle.g4_derivation.proofs.Shapes.{Shape, plain_shape, loop_shape}
use Rattle.g4_derivation.proofs.Spelling.{IsNearEnd, end_near, turns_near, spelled}
use Rattle.g4_derivation.proofs.Starting.{StartsLie, one_start, several_starts}
use Rattle.g4_derivation.proofs.Turning.{end_free, shape_start_free, turning_free}

-- there are as many first states as alternatives
as_many : {L : Type 0} {net : Network L} {xs : Alternatives (Step L)} {firsts lasts : List ℕ} {n m : ℕ}
    → LieSideBySide net xs firsts lasts n m → number_of xs ≡ length firsts
as_many (no_other n) = refl
as_many (another x xs last n k m firsts lasts l ls) = let more = as_many ls in omega arith

-- and as many alternatives as items of their list
number_of_either : {A : Type 0} (xs : List (Elements A)) → number_of (either xs) ≡ length xs
number_of_either [] = refl
number_of_either (x ∷ xs) = let more = number_of_either xs in omega arith

-- one number is written at the start
number_of_one : (net : ParserNetwork) (k i : ℕ) (numbers : List ℕ) → length numbers < 2 → slice_get numbers 0 ≡ Some i
    → StartsAreWritten net k numbers → written_at net (start_of k) ≡ i
number_of_one net k i [] few at w = absurd (let n : ⊥ = cc in n)
number_of_one net k i (j ∷ []) few at w = let same : j ≡ i = cc in w ∙ same
number_of_one net k i (j ∷ h ∷ more) few at w = absurd (omega arith)

-- several are written at the first states of a decision there
numbers_of_several : (net : ParserNetwork) (k : ℕ) (numbers : List ℕ) → 2 ≤ length numbers → StartsAreWritten net k numbers →
    (firsts : List ℕ) × (state_at net (start_of k) ≡ Some (Decision firsts)) × (map (written_at net) firsts ≡ numbers)
    × (written_at net (start_of k) ≡ 0)
numbers_of_several net k [] two w = absurd (omega arith)
numbers_of_several net k (i ∷ []) two w = absurd (omega arith)
numbers_of_several net k (i ∷ j ∷ more) two w = w

-- one alternative begins at the start
one_lies : {net : ParserNetwork} {k g n m : ℕ} {forms : List (Elements StepIn)} → StartsLie net k g n m forms → length forms < 2
    → (y : Elements StepIn) × (slice_get forms 0 ≡ Some y) × LiesTo net y (start_of k) g
one_lies {n = n} {m = m} (one_start x last l leads) few = (x, refl, record { last = last; from = n; upto = m; lies = l; leads = leads })
one_lies (several_starts xs firsts lasts two is l leads) few = let a = as_many l in let b = number_of_either xs in absurd (omega arith)

-- of several alternatives each begins at a first state of the decision there
pub record SeveralLie (net : ParserNetwork) (k g n m : ℕ) (forms : List (Elements StepIn)) : Type 0 where
  pub firsts : List ℕ
  pub lasts : List ℕ
  pub is : state_at net (start_of k) ≡ Some (Decision firsts)
  pub lies : LieSideBySide net (either forms) firsts lasts n m
  pub leads : AllLeadTo net lasts g

several_lie : {net : ParserNetwork} {k g n m : ℕ} {forms : List (Elements StepIn)} → StartsLie net k g n m forms → 2 ≤ length forms
    → SeveralLie net k g n m forms
several_lie (one_start x last l leads) two = absurd (omega arith)
several_lie (several_starts xs firsts lasts more is l leads) two =
    record { firsts = firsts; lasts = lasts; is = is; lies = l; leads = leads }

module _ {C : Type 0} (Takes : List ℕ → C → Type 0) (Names : ℕ → C → Type 0) (net : ParserNetwork) (k : ℕ)
    (end_is : state_at net (end_of k) ≡ Some (End k)) where
  -- up to which state the alternatives with which the rule starts are laid out
  record GoesUpTo (forms : List (Elements StepIn)) : Type 0 where
    last : ℕ
    from : ℕ
    upto : ℕ
    lies : StartsLie net k last from upto forms
    near : IsNearEnd Takes Names net k last
    free : IsNoLevel net last

  goes_up_to : {count n m : ℕ} {forms : List (Elements StepIn)} {parts : List (Part StepIn)} → Shape net k count n m forms parts
      → GoesUpTo forms
  goes_up_to {n = n} {m = m} (plain_shape l) =
      record { last = end_of k; from = n; upto = m; lies = l; near = end_near Takes Names net k end_is; free = (end_free net k end_is).0 }
  goes_up_to {count} {n = n} {parts = parts} (loop_shape u l free turns) =
      record {
        last = u;
        from = n;
        upto = u;
        lies = l;
        near = turns_near Takes Names net k end_is count parts turns;
        free = turning_free net k end_is turns;
      }

  -- an alternative of the rule begins at the state: its number is written there, and its words are read from there to the rule's end
  pub record IsBegun (alternatives : List Written) (p : ℕ) : Type 0 where
    pub number : ℕ
    pub written : Elements StepIn
    pub is : IsAlternative (either (written_bodies alternatives)) number written
    pub shown : written_at net p ≡ number
    pub spells : IsSpelled Takes Names net k written p
    pub free : IsNoLevel net p

  module _ (n m : ℕ) (alternatives : List Written) (numbers : List ℕ) (known : StartsAreKnown net k n m alternatives numbers)
      (shown : StartsAreWritten net k numbers) where
    -- an alternative with which the rule starts begins at such a state
    begins_at : (p i : ℕ) (y : Elements StepIn) (g : ℕ) (s : IsStart alternatives numbers i y) → LiesTo net y p g
        → IsNearEnd Takes Names net k g → written_at net p ≡ s.number → IsNoLevel net p → IsBegun alternatives p
    begins_at p i y g s lies near number free =
        record {
          number = s.number;
          written = s.written;
          is = s.is;
          shown = number;
          spells = spelled Takes Names net k s.alike lies near;
          free = free;
        }

    -- one of them at the rule's start
    pub one_begun : length numbers < 2 → IsBegun alternatives (start_of k)
    one_begun few =
        let long = known.long in let g = goes_up_to known.shape in
        let y = one_lies g.lies (omega arith) in
        let s = known.each 0 y.0 y.1 in
        begins_at (start_of k) 0 y.0 g.last s y.2 g.near (number_of_one net k s.number numbers few s.at shown)
        (shape_start_free net k end_is known.shape known.free).0

    -- each of several at a first state
    pub several_begun : 2 ≤ length numbers → (targets : List ℕ) × (state_at net (start_of k) ≡ Some (Decision targets))
        × (written_at net (start_of k) ≡ 0) × ((t : ℕ) → Contains targets t → IsBegun alternatives t)
    several_begun two =
        let long = known.long in let g = goes_up_to known.shape in
        let l = several_lie g.lies (omega arith) in
        let w = numbers_of_several net k numbers two shown in
        let first = l.is in let other = w.1 in
        let same : w.0 ≡ l.firsts = cc in
        let numbered : map (written_at net) l.firsts ≡ numbers = sym (ap (map (written_at net)) same) ∙ w.2 in (
          l.firsts,
          l.is,
          w.3,
          λ t c.
              let at : slice_get l.firsts c.0 ≡ Some t = slice_get-get_or l.firsts c.0 t c.1 ∙ ap Some c.2 in
              let b = body_at l.lies g.last l.leads c.0 t at in
              let listed : slice_get known.forms c.0 ≡ Some b.0 =
              subst (λ (ys : List (Elements StepIn)). slice_get ys c.0 ≡ Some b.0) (each_of_either known.forms) b.1 in
              let s = known.each c.0 b.0 listed in
              let here : slice_get numbers c.0 ≡ Some (written_at net t) =
              subst (λ (ns : List ℕ). slice_get ns c.0 ≡ Some (written_at net t)) numbered
              (item_map (written_at net) l.firsts c.0 t at) in
              let also = s.at in
              let number : written_at net t ≡ s.number = cc in
              let between = firsts_between l.lies t c in
              begins_at t c.0 b.0 g.last s b.2 g.near number ((starts_free net g.lies known.free g.free).1.none t between.0 between.1),
        )
