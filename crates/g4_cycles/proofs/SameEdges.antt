-- What holds of cycles along some edges holds along the same edges stated otherwise.
use Rattle.std.proofs.Common.{◌↔◌, ℕ, List, [], ◌∷◌, Option, Some, None}
use Rattle.g4_cycles.specs.Cycles.{Reaches, once, further, LeadsAlong, IsCycle, IsShortestFrom, IsFirstCycle, Answers}

-- along edges that are among others
module _ (Edge Other : ℕ → ℕ → Type 0) (among : (k j : ℕ) → Edge k j → Other k j) where
  pub reaches_among : (k j : ℕ) → Reaches Edge k j → Reaches Other k j
  reaches_among k j (once a b e) = once k j (among k j e)
  reaches_among k j (further a i b e more) = further k i j (among k i e) (reaches_among i j more)

  pub along_among : (k : ℕ) (nodes : List ℕ) (j : ℕ) → LeadsAlong Edge k nodes j → LeadsAlong Other k nodes j
  along_among k [] j e = among k j e
  along_among k (i ∷ nodes) j (e, walk) = (among k i e, along_among i nodes j walk)

  pub cycle_among : (cycle : List ℕ) → IsCycle Edge cycle → IsCycle Other cycle
  cycle_among [] is_cycle = is_cycle
  cycle_among (first ∷ nodes) walk = along_among first nodes first walk

module _ (Edge Other : ℕ → ℕ → Type 0) (same : (k j : ℕ) → Edge k j ↔ Other k j) where
  pub shortest_carries : (first : ℕ) (cycle : List ℕ) → IsShortestFrom Edge first cycle → IsShortestFrom Other first cycle
  shortest_carries first cycle s = record {
    begins = s.begins;
    is_cycle = cycle_among Edge Other (λ k j. (same k j).0) cycle s.is_cycle;
    shortest = λ other begins is_cycle. s.shortest other begins (cycle_among Other Edge (λ k j. (same k j).1) other is_cycle);
    least = λ other begins is_cycle. s.least other begins (cycle_among Other Edge (λ k j. (same k j).1) other is_cycle);
  }

  pub first_cycle_carries : (cycle : List ℕ) → IsFirstCycle Edge cycle → IsFirstCycle Other cycle
  first_cycle_carries cycle f = record {
    first = f.first;
    shortest = shortest_carries f.first cycle f.shortest;
    none_below = λ k less reaches. f.none_below k less (reaches_among Other Edge (λ i j. (same i j).1) k k reaches);
  }

  -- the answer along some edges is the answer along the same edges
  pub answer_carries : (answer : Option (List ℕ)) → Answers Edge answer → Answers Other answer
  answer_carries None none = λ k reaches. none k (reaches_among Other Edge (λ i j. (same i j).1) k k reaches)
  answer_carries (Some cycle) f = first_cycle_carries cycle f
