-- A class is named by the least symbol of its block.
use Rattle.std.proofs.Common.{◌≡◌, ℕ, ◌<◌, ◌≤◌, inl, inr, List, [], length, get_or, map, Some, refl, sym, ◌∙◌, ap, subst, arith}
use Rattle.std.proofs.lemmas.List.{get_or-map}
use Rattle.std.proofs.lemmas.Option.{slice_get_within, slice_get_read, get_or_from_slice_get}
use Rattle.g4_net.specs.declared.network.State.{State}
use Rattle.g4_net.specs.declared.network.State.TheVariants.{Decision, End, Edge, Call, Predicate, Level, Action, Empty}
use Rattle.g4_net.specs.Network.{ParserNetwork, state_at}
use Rattle.g4_classes.specs.Blocks.{AreLeast}
use Rattle.g4_classes.specs.Classes.{IsSymbol, AreAlike, IsClassOf, AreClassesOf}
use Rattle.g4_classes.specs.Indices.{class_by, class_in, index_of, symbol_at}
use Rattle.g4_classes.specs.Partitions.{AreAlikeIn, AreTogether, IsPartition, read_by}
use Rattle.g4_classes.proofs.Places.{found_or_not, is_symbol, symbol_rises_or_same}

module _ (net : ParserNetwork) (i j : ℕ) where
  -- each edge takes both symbols or neither where each state does
  pub alike_from : AreAlikeIn net.states i j → AreAlike net (symbol_at i) (symbol_at j)
  alike_from alike p t set' at = alike (Edge set' t)
      (p, slice_get_within net.states p (Edge set' t) at, get_or_from_slice_get net.states p (Edge set' t) (Edge set' t) at)

  together_by : AreAlike net (symbol_at i) (symbol_at j) → (state : State (List ℕ)) → (p : ℕ) → state_at net p ≡ Some state
      → AreTogether (read_by state) i j
  together_by alike (Edge set' t) p at = alike p t set' at
  together_by alike (Decision targets) p at = none
    where
      none : AreTogether [] i j
      none = (λ has. absurd (omega (arith, has.1)), λ has. absurd (omega (arith, has.1)))
  together_by alike (End rule) p at = (λ has. absurd (omega (arith, has.1)), λ has. absurd (omega (arith, has.1)))
  together_by alike (Call rule level back) p at = (λ has. absurd (omega (arith, has.1)), λ has. absurd (omega (arith, has.1)))
  together_by alike (Predicate k t) p at = (λ has. absurd (omega (arith, has.1)), λ has. absurd (omega (arith, has.1)))
  together_by alike (Level q t) p at = (λ has. absurd (omega (arith, has.1)), λ has. absurd (omega (arith, has.1)))
  together_by alike (Action t) p at = (λ has. absurd (omega (arith, has.1)), λ has. absurd (omega (arith, has.1)))
  together_by alike (Empty t) p at = (λ has. absurd (omega (arith, has.1)), λ has. absurd (omega (arith, has.1)))

  pub alike_in : AreAlike net (symbol_at i) (symbol_at j) → AreAlikeIn net.states i j
  alike_in alike state has = together_by alike state has.0
      (slice_get_read net.states (length net.states) has.0 state refl has.1 (sym has.2))

module _ (net : ParserNetwork) (blocks least : List ℕ) (all : length blocks ≡ 4098) (p : IsPartition net.states blocks)
    (l : AreLeast blocks least) where
  -- the least symbol of the block is the class of each symbol of the block
  pub class_at : (i : ℕ) → i < 4098 → IsClassOf net (symbol_at i) (symbol_at (get_or least i 0))
  class_at i within =
      let i_in : i < length blocks = omega (arith, within, all) in
      let is = l.each i i_in in
      let least_within = is.within in
      record {
        symbol = is_symbol (get_or least i 0) (omega (arith, least_within, all));
        alike = alike_from net i (get_or least i 0) ((p i (get_or least i 0) i_in is.within).0 (sym is.same));
        least = λ b symbol alike. elim (found_or_not b) [
          | inl (j, f) ↦ (
              let j_within = f.within in
              let j_in : j < length blocks = omega (arith, j_within, all) in
              let same : get_or blocks i 0 ≡ get_or blocks j 0 =
              (p i j i_in j_in).1 (alike_in net i j (subst (AreAlike net (symbol_at i)) (sym f.there) alike)) in
              subst (λ (x : ℕ). symbol_at (get_or least i 0) ≤ x) f.there
              (symbol_rises_or_same (get_or least i 0) j (is.first j (omega arith) j_in (sym same)) f.within)
              )
          | inr none ↦ absurd (none.none symbol)
        ];
      }

  module _ (classes : ℕ → ℕ) (are : (a : ℕ) → classes a ≡ class_in (map symbol_at least) a) where
    -- what a symbol is given
    given : (a i : ℕ) → index_of a ≡ Some i → i < 4098 → classes a ≡ symbol_at (get_or least i 0)
    given a i is within =
        let count = l.count in
        are a ∙ ap (class_by (map symbol_at least) a) is ∙ get_or-map symbol_at least i 0 0 (omega (arith, within, all, count))

    -- the classes that are named so
    pub are_classes : AreClassesOf net classes
    are_classes = record {
      of_symbols = λ a symbol. elim (found_or_not a) [
        | inl (i, f) ↦ subst (IsClassOf net a) (sym (given a i f.is f.within))
            (subst (λ (x : ℕ). IsClassOf net x (symbol_at (get_or least i 0))) f.there (class_at i f.within))
        | inr none ↦ absurd (none.none symbol)
      ];
      of_others = λ a no_symbol. elim (found_or_not a) [
        | inl (i, f) ↦ absurd (no_symbol (subst IsSymbol f.there (is_symbol i f.within)))
        | inr none ↦ are a ∙ ap (class_by (map symbol_at least) a) none.is
      ];
    }

-- a number has at most one class
pub one_class : (net : ParserNetwork) (a c e : ℕ) → IsClassOf net a c → IsClassOf net a e → c ≡ e
one_class net a c e one other =
    let low = one.least e other.symbol other.alike in
    let high = other.least c one.symbol one.alike in
    omega (arith, low, high)

-- and is given one
pub one_given : (net : ParserNetwork) (one other : ℕ → ℕ) → AreClassesOf net one → AreClassesOf net other → (a : ℕ) → one a ≡ other a
one_given net one other h k a = elim (found_or_not a) [
  | inl (i, f) ↦ (let symbol : IsSymbol a = subst IsSymbol f.there (is_symbol i f.within) in
      one_class net a (one a) (other a) (h.of_symbols a symbol) (k.of_symbols a symbol))
  | inr none ↦ h.of_others a none.none ∙ sym (k.of_others a none.none)
]
