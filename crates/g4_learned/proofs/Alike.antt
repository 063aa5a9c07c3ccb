-- Symbols of one column lead to the same sets, and levels with one guard to the same start sets.
use Rattle.std.proofs.Common.{◌≡◌, ℕ, zero, suc, List, Option, Some, None, refl}
use Rattle.g4_net.specs.declared.network.State.{State}
use Rattle.g4_net.specs.declared.network.State.TheVariants.{Decision, End, Edge, Call, Predicate, Level, Action, Empty}
use Rattle.g4_net.specs.Configurations.{Config, wildcard}
use Rattle.g4_net.specs.Lookahead.{Next, Start, TakesBy}
use Rattle.g4_net.specs.Network.{ParserNetwork, state_at}
use Rattle.g4_lookahead.specs.EndOfList.{GoesOn, Matters}
use Rattle.g4_lookahead.proofs.Judging.{AreSame, Within, conflict_same, empty_same, lone_same, only_same, row_of_set}
use Rattle.g4_classes.specs.Classes.{AreAlike}
use Rattle.g4_store.specs.declared.automaton.Led.{Led}
use Rattle.g4_store.specs.declared.automaton.Led.TheVariants as led
use Rattle.g4_guards.proofs.Same.{start_same}
use Rattle.g4_learned.specs.Automata.{EndsAs, IsLed}
use Rattle.g4_guards.specs.Levels.{AllowedAt, IsGuard}

-- sets with the same members

pub matters_same : (D E : Config → Type 0) → AreSame D E → Matters D → Matters E
matters_same D E same m = record {
  conflict = conflict_same D E (λ c. (same c).0) (λ c. (same c).1) m.conflict;
  none_lone = λ h. m.none_lone (lone_same E D (λ c. (same c).1) (λ c. (same c).0) h);
}

pub same_back : (D E : Config → Type 0) → AreSame D E → AreSame E D
same_back D E same c = ((same c).1, (same c).0)

pub goes_on_same : (D E : Config → Type 0) → AreSame D E → GoesOn D → GoesOn E
goes_on_same D E same g =
    let to : Within D E = λ c. (same c).0 in
    let from : Within E D = λ c. (same c).1 in
    record {
      some = λ e. g.some (empty_same E D from to e);
      several = λ i o. g.several i (only_same E D from to i o);
      clear = λ m. g.clear (matters_same E D (same_back D E same) m);
    }

ends_same : (D E : Config → Type 0) → AreSame D E → (code : ℕ) → EndsAs D code → EndsAs E code
ends_same D E same zero e = empty_same D E (λ c. (same c).0) (λ c. (same c).1) e
ends_same D E same (suc zero) (several, matters) =
    ((λ i o. several i (only_same E D (λ c. (same c).1) (λ c. (same c).0) i o)), matters_same D E same matters)
ends_same D E same (suc (suc i)) o = only_same D E (λ c. (same c).0) (λ c. (same c).1) i o

pub led_same : (D E : Config → Type 0) → AreSame D E → (l : Led (List Config)) → IsLed D l → IsLed E l
led_same D E same (led.Row row mark) (none, goes, is) = (none, goes_on_same D E same goes, row_of_set row D E same is)
led_same D E same (led.End code) (small, ends) = (small, ends_same D E same code ends)

-- symbols that no edge distinguishes

takes_alike : (net : ParserNetwork) (a b p u : ℕ) (o : Option (State (List ℕ))) → state_at net p ≡ o → AreAlike net a b → TakesBy o a u
    → TakesBy o b u
takes_alike net a b p u (Some (Edge set t)) at alike (takes, is) = ((alike p t set at).0 takes, is)
takes_alike net a b p u (Some (Decision targets)) at alike takes = takes
takes_alike net a b p u (Some (End rule)) at alike takes = takes
takes_alike net a b p u (Some (Call rule level back)) at alike takes = takes
takes_alike net a b p u (Some (Predicate k t)) at alike takes = takes
takes_alike net a b p u (Some (Level q t)) at alike takes = takes
takes_alike net a b p u (Some (Action t)) at alike takes = takes
takes_alike net a b p u (Some (Empty t)) at alike takes = takes
takes_alike net a b p u None at alike takes = takes

next_alike : (net : ParserNetwork) (a b : ℕ) (C : Config → Type 0) → AreAlike net a b → Within (Next net C a) (Next net C b)
next_alike net a b C alike d (e, (c, i, takes, is), reaches, kept) =
    (e, (c, i, takes_alike net a b c.state e.state (state_at net c.state) refl alike takes, is), reaches, kept)

alike_back : (net : ParserNetwork) (a b : ℕ) → AreAlike net a b → AreAlike net b a
alike_back net a b alike p t set at = ((alike p t set at).1, (alike p t set at).0)

pub next_same : (net : ParserNetwork) (a b : ℕ) (C : Config → Type 0) → AreAlike net a b → AreSame (Next net C a) (Next net C b)
next_same net a b C alike d = (next_alike net a b C alike d, next_alike net b a C (alike_back net a b alike) d)

-- what a set leads to, an equal one does
pub next_of_same : (net : ParserNetwork) (a : ℕ) (C D : Config → Type 0) → AreSame C D → AreSame (Next net C a) (Next net D a)
next_of_same net a C D same d = (to C D (λ c. (same c).0) d, to D C (λ c. (same c).1) d)
  where
    to : (C D : Config → Type 0) → Within C D → Within (Next net C a) (Next net D a)
    to C D h d (e, (c, i, t, is), r, k) = (e, (c, h c i, t, is), r, k)

-- the alternatives that may be taken

pub guard_same : (net : ParserNetwork) (d condition guard : ℕ) → IsGuard net d condition guard
    → AreSame (Start net d (AllowedAt net d guard) wildcard) (Start net d (AllowedAt net d condition) wildcard)
guard_same net d condition guard is =
    start_same net d (AllowedAt net d guard) (AllowedAt net d condition) (λ i t first. (is.same i).0) (λ i t first. (is.same i).1) wildcard
