-- What is asked of configurations and lists can be decided.
use Rattle.std.proofs.Common.{◌≡◌, ℕ, ◌<◌, ◌≤◌, ◌⊎◌, inl, inr, List, [], ◌∷◌, Bool, true, false, Option, Some, length, refl, sym, ◌∙◌, ap, subst, arith}
use Rattle.std.proofs.lemmas.Bool.{false≢true}
use Rattle.g4_chars.specs.declared.range.Range.{Range}
use Rattle.g4_chars.specs.CharSets.{IsWithin, Has}
use Rattle.g4_net.specs.declared.network.State.{State}
use Rattle.g4_net.specs.declared.network.State.TheVariants.{End, Edge}
use Rattle.g4_net.specs.Network.{state_at}
use Rattle.g4_ordered.specs.declared.network.Reads.{Reads}
use Rattle.g4_ordered.specs.declared.network.Reads.TheVariants.{Characters, EndOfText}
use Rattle.g4_ordered.specs.Network.{LexerNetwork}
use Rattle.g4_ordered.specs.Configurations.{LexerConfig, In, at}
use Rattle.g4_ordered.specs.Leads.{ReadsTo}
use Rattle.g4_ordered.specs.Lists.{IsCharacters, IsEndBy, IsCharacterBy, IsAtEnd, IsKept, HasEnd, IsDropped, late_in}

-- a fact or its denial
abbrev pub Either : Type 0 → Type 0
Either P = P ⊎ (P → ⊥)

-- both of two facts
both : (P Q : Type 0) → Either P → Either Q → Either (P × Q)
both P Q (inl p) (inl q) = inl (p, q)
both P Q (inl p) (inr no_q) = inr (λ h. no_q h.1)
both P Q (inr no_p) e = inr (λ h. no_p h.0)

-- one of two facts
either : (P Q : Type 0) → Either P → Either Q → Either (P ⊎ Q)
either P Q (inl p) e = inl (inl p)
either P Q (inr no_p) (inl q) = inl (inr q)
either P Q (inr no_p) (inr no_q) = inr (λ h. elim h [ inl p ↦ no_p p | inr q ↦ no_q q ])

-- a number is at most another
at_most : (a b : ℕ) → Either (a ≤ b)
at_most a b = go (tells a b)
  where
    tells : (a b : ℕ) → (a ≤ b) ⊎ (b < a)
    tells a b = grind arith

    go : (a ≤ b) ⊎ (b < a) → Either (a ≤ b)
    go (inl le) = inl le
    go (inr lt) = inr (λ le. absurd (omega arith))

-- two numbers are the same
pub same_number : (a b : ℕ) → Either (a ≡ b)
same_number a b = go (tells a b)
  where
    tells : (a b : ℕ) → (a ≡ b) ⊎ ((a < b) ⊎ (b < a))
    tells a b = grind arith

    go : (a ≡ b) ⊎ ((a < b) ⊎ (b < a)) → Either (a ≡ b)
    go (inl e) = inl e
    go (inr (inl lt)) = inr (λ e. absurd (omega arith))
    go (inr (inr lt)) = inr (λ e. absurd (omega arith))

-- two truth values are the same
same_bool : (a b : Bool) → Either (a ≡ b)
same_bool true true = inl refl
same_bool false false = inl refl
same_bool true false = inr (λ e. false≢true (sym e))
same_bool false true = inr (λ e. false≢true e)

-- two lists of numbers are the same
same_numbers : (xs ys : List ℕ) → Either (xs ≡ ys)
same_numbers [] [] = inl refl
same_numbers [] (y ∷ ys) = inr (λ e. let n = ap length e in absurd (omega arith))
same_numbers (x ∷ xs) [] = inr (λ e. let n = ap length e in absurd (omega arith))
same_numbers (x ∷ xs) (y ∷ ys) = elim (both (x ≡ y) (xs ≡ ys) (same_number x y) (same_numbers xs ys))
    [ inl h ↦ inl (joined h) | inr differ ↦ inr (λ e. differ (parts e)) ]
  where
    joined : (x ≡ y) × (xs ≡ ys) → x ∷ xs ≡ y ∷ ys
    joined h = cc

    heads : x ∷ xs ≡ y ∷ ys → x ≡ y
    heads e = cc

    tails : x ∷ xs ≡ y ∷ ys → xs ≡ ys
    tails e = cc

    parts : x ∷ xs ≡ y ∷ ys → (x ≡ y) × (xs ≡ ys)
    parts e = (heads e, tails e)

-- two configurations are the same
same_config : (c d : LexerConfig) → Either (c ≡ d)
same_config c d = go (both _ _ (same_number c.rule d.rule)
    (both _ _ (same_number c.alternative d.alternative)
    (both _ _ (same_number c.state d.state) (both _ _ (same_numbers c.returns d.returns) (same_bool c.passed d.passed)))))
  where
    make : ℕ → ℕ → ℕ → List ℕ → Bool → LexerConfig
    make rule alternative state returns passed =
        record { rule = rule; alternative = alternative; state = state; returns = returns; passed = passed }

    go : Either ((c.rule ≡ d.rule) × ((c.alternative ≡ d.alternative)
        × ((c.state ≡ d.state) × ((c.returns ≡ d.returns) × (c.passed ≡ d.passed))))) → Either (c ≡ d)
    go (inl h) = inl (ap (λ x. make x c.alternative c.state c.returns c.passed) h.0
        ∙ ap (λ x. make d.rule x c.state c.returns c.passed) h.1.0 ∙ ap (λ x. make d.rule d.alternative x c.returns c.passed) h.1.1.0
        ∙ ap (λ x. make d.rule d.alternative d.state x c.passed) h.1.1.1.0
        ∙ ap (λ x. make d.rule d.alternative d.state d.returns x) h.1.1.1.1)
    go (inr differ) = inr (λ e. differ (
      ap (λ (x : LexerConfig). x.rule) e,
      (
        ap (λ (x : LexerConfig). x.alternative) e,
        (ap (λ (x : LexerConfig). x.state) e, (ap (λ (x : LexerConfig). x.returns) e, ap (λ (x : LexerConfig). x.passed) e)),
      ),
    ))

-- a configuration is in a list
is_in_list : (c : LexerConfig) (xs : List LexerConfig) → Either (In c xs)
is_in_list c [] = inr (λ i. i)
is_in_list c (x ∷ xs) = either (c ≡ x) (In c xs) (same_config c x) (is_in_list c xs)

-- a label takes a character
is_characters : (label : Reads) → Either (IsCharacters label)
is_characters (Characters set) = inl tt
is_characters EndOfText = inr (λ h. h)

-- a state has an edge that takes a character
is_character_by : (o : Option (State Reads)) → Either (IsCharacterBy o)
is_character_by (Some (Edge label t)) = is_characters label
is_character_by _ = inr (λ h. h)

-- a state is the end of a rule
is_end_by : (o : Option (State Reads)) → Either (IsEndBy o)
is_end_by (Some (End rule)) = inl tt
is_end_by _ = inr (λ h. h)

-- a configuration is at its rule's end
pub is_at_end : (net : LexerNetwork) (c : LexerConfig) → Either (IsAtEnd net c)
is_at_end net c = both _ _ (is_end_by (state_at net c.state)) (same_numbers c.returns [])

-- a configuration is kept
pub is_kept : (net : LexerNetwork) (c : LexerConfig) → Either (IsKept net c)
is_kept net c = either _ _ (is_character_by (state_at net c.state)) (is_at_end net c)

-- a list has a rule's end
has_end : (net : LexerNetwork) (xs : List LexerConfig) (rule : ℕ) → Either (HasEnd net xs rule)
has_end net [] rule = inr (λ h. h.1)
has_end net (x ∷ xs) rule = go (both _ _ (same_number x.rule rule) (is_at_end net x)) (has_end net xs rule)
  where
    go : Either ((x.rule ≡ rule) × IsAtEnd net x) → Either (HasEnd net xs rule) → Either (HasEnd net (x ∷ xs) rule)
    go (inl h) more = inl (x, inl refl, h.0, h.1)
    go (inr differs) (inl h) = inl (h.0, inr h.1, h.2, h.3)
    go (inr differs) (inr not_there) = inr (λ h. elim h.1 [
      | inl is ↦ differs (sym (ap (λ (y : LexerConfig). y.rule) is) ∙ h.2, subst (IsAtEnd net) is h.3)
      | inr i ↦ not_there (h.0, i, h.2, h.3)
    ])

-- a configuration is late for a list
is_late : (net : LexerNetwork) (in_step : Bool) (xs : List LexerConfig) (c : LexerConfig) → Either (late_in net in_step xs c)
is_late net false xs c = inr (λ h. h)
is_late net true xs c = both _ _ (same_bool c.passed true) (has_end net xs c.rule)

-- a configuration is dropped from a list
pub is_dropped : (net : LexerNetwork) (in_step : Bool) (xs : List LexerConfig) (c : LexerConfig)
    → Either (IsDropped (late_in net in_step) xs c)
is_dropped net in_step xs c = either _ _ (is_in_list c xs) (is_late net in_step xs c)

-- a set has a character
has : (set : List Range) (a : ℕ) → Either (Has set a)
has [] a = inr (λ h. h)
has (r ∷ rs) a = either (IsWithin r a) (Has rs a) (both _ _ (at_most r.first a) (at_most a r.last)) (has rs a)

-- a configuration leads somewhere by a character, or nowhere
abbrev pub ReadsOrNot : LexerNetwork → ℕ → LexerConfig → Type 0
ReadsOrNot net a c = ((d : LexerConfig) × ReadsTo net a c d) ⊎ ((d : LexerConfig) → ReadsTo net a c d → ⊥)

-- an edge that takes a character has a set
character_is : (o : Option (State Reads)) → IsCharacterBy o → (set : List Range) × (t : ℕ) × (o ≡ Some (Edge (Characters set) t))
character_is (Some (Edge (Characters set) t)) h = (set, t, refl)
character_is (Some (Edge EndOfText t)) h = absurd h
character_is _ h = absurd h

-- which of them is decided by the set of its edge
read_by_set : (net : LexerNetwork) (a : ℕ) (c : LexerConfig) (set : List Range) (t : ℕ)
    → state_at net c.state ≡ Some (Edge (Characters set) t) → Either (Has set a) → ReadsOrNot net a c
read_by_set net a c set t is (inl h) = inl (at c t, (set, t, is, h, refl))
read_by_set net a c set t is (inr lacks) = inr (λ d h. lacks (subst (λ (s : List Range). Has s a) (same h.0 h.1 h.2) h.3))
  where
    same : (s : List Range) (u : ℕ) → state_at net c.state ≡ Some (Edge (Characters s) u) → s ≡ set
    same s u e = cc

-- and so it is decided
pub read_somewhere : (net : LexerNetwork) (a : ℕ) (c : LexerConfig) → ReadsOrNot net a c
read_somewhere net a c = go (is_character_by (state_at net c.state))
  where
    go : Either (IsCharacterBy (state_at net c.state)) → ReadsOrNot net a c
    go (inl h) = let r = character_is (state_at net c.state) h in read_by_set net a c r.0 r.1 r.2 (has r.0 a)
    go (inr never) = inr (λ d h. never (subst IsCharacterBy (sym h.2) tt))
