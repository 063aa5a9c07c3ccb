-- The two shapes of rules as they are laid out: with all their alternatives at the start, or as a loop.
use Rattle.std.proofs.Common.{◌≡◌, ℕ, suc, ◌+◌, ◌<◌, inl, inr, List, [], ◌∷◌, map, Some, refl, subst, arith, slice_get, Contains}
use Rattle.g4_source.specs.Elements.{Elements, either}
use Rattle.g4_net.specs.declared.network.State.TheVariants.{Level}
use Rattle.g4_net.specs.Network.{ParserNetwork, state_at, end_of}
use Rattle.g4_layout.specs.Layout.{AllLeadTo, a_level, LieInOrder, one_more, LieSideBySide, no_other, another}
use Rattle.g4_layout.proofs.Spans.{member_cases, side_by_side_up}
use Rattle.g4_leftrec.specs.OwnCalls.{Part}
use Rattle.g4_leftrec.specs.Rewriting.{StepIn, operand_level, operator_form, precedence, with_last_at}
use Rattle.g4_derivation.proofs.Beginnings.{LiesTo}
use Rattle.g4_derivation.proofs.LevelFree.{AreLevelFree}
use Rattle.g4_derivation.proofs.Starting.{StartsLie, TurnsLie}

-- the operators of rule k, which has `count` alternatives, as they are laid out
abbrev pub laid_operators : ℕ → ℕ → List (Part StepIn) → List (Elements StepIn)
laid_operators k count parts = map (operator_form k count) parts

-- what follows the level in an operator of rule k
abbrev pub laid_rest : ℕ → ℕ → Part StepIn → Elements StepIn
laid_rest k count x = with_last_at k (operand_level (precedence count x.number) x.right) x.elements

-- no operator has a level in what follows the rule itself
abbrev pub PartsAreLevelFree : List (Part StepIn) → Type 0
PartsAreLevelFree parts = (i : ℕ) (x : Part StepIn) → slice_get parts i ≡ Some x → AreLevelFree x.elements

-- Rule k of `count` alternatives is laid out from its start to its end, its other states being those from n up to m, and starts
-- with these alternatives: with all, or as a loop of which these are the operators.
pub data Shape (net : ParserNetwork) (k count n m : ℕ) (starts : List (Elements StepIn)) (parts : List (Part StepIn)) : Type 0 where
  plain_shape : StartsLie net k (end_of k) n m starts → Shape net k count n m starts parts
  loop_shape : (u : ℕ) → StartsLie net k u n u starts → PartsAreLevelFree parts
      → TurnsLie net k u (u + 1) m (laid_operators k count parts) → Shape net k count n m starts parts

-- one of the operators begins at the state p, and is laid out from there to u
pub record OperatorLies (net : ParserNetwork) (k count u : ℕ) (parts : List (Part StepIn)) (p : ℕ) : Type 0 where
  pub index : ℕ
  pub part : Part StepIn
  pub at : slice_get parts index ≡ Some part
  pub level : state_at net p ≡ Some (Level (precedence count part.number) (p + 1))
  pub lies : LiesTo net (laid_rest k count part) (p + 1) u

module _ (net : ParserNetwork) (k count u : ℕ) where
  -- an operator of those after the first
  pub begins_later : (x : Part StepIn) (parts : List (Part StepIn)) (p : ℕ) → OperatorLies net k count u parts p
      → OperatorLies net k count u (x ∷ parts) p
  begins_later x parts p b = record { index = suc b.index; part = b.part; at = b.at; level = b.level; lies = b.lies }

  -- the first
  pub begins_first : (x : Part StepIn) (parts : List (Part StepIn)) {n last m : ℕ}
      → state_at net n ≡ Some (Level (precedence count x.number) (n + 1))
      → LieInOrder net (laid_rest k count x) (n + 1) last (n + 1 + 1) m →
      AllLeadTo net (last ∷ []) u → OperatorLies net k count u (x ∷ parts) n
  begins_first x parts {n} {last} {m} is l leads =
      record {
        index = 0;
        part = x;
        at = refl;
        level = is;
        lies = record { last = last; from = n + 1 + 1; upto = m; lies = l; leads = leads.0 };
      }

  -- at each first state of the turns an operator begins
  pub operator_at : (parts : List (Part StepIn)) {firsts lasts : List ℕ} {n m : ℕ}
      → LieSideBySide net (either (laid_operators k count parts)) firsts lasts n m → AllLeadTo net lasts u → (p : ℕ) → Contains firsts p →
      OperatorLies net k count u parts p
  operator_at [] (no_other n) leads p c = absurd (omega (arith, c.1))
  operator_at (x ∷ parts) (another _ _ last n j m firsts lasts (one_more _ _ _ _ _ _ _ _ (a_level q _ _ is) l) ls) leads p c =
      elim (member_cases n firsts p c) [
        | inl same ↦ (let here : n ≡ p = omega (arith, same) in
            subst (OperatorLies net k count u (x ∷ parts)) here (begins_first x parts is l (leads.0, tt)))
        | inr more ↦ begins_later x parts p (operator_at parts ls leads.1 p more)
      ]

-- the state where the turns begin is before the rule's last state
pub turning_below : {net : ParserNetwork} {k u m : ℕ} {operators : List (Elements StepIn)} → TurnsLie net k u (u + 1) m operators → u < m
turning_below t = let up = side_by_side_up t.bodies in omega (arith, t.after)
