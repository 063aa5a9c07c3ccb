-- What a step keeps.
use Rattle.std.proofs.Common.{◌≡◌, ℕ, inl, List, [], ◌∷◌, Bool, true, false, ◌||◌, Option, Some, None, refl, sym, ◌∙◌, ap, subst}
use Rattle.std.proofs.lemmas.Bool.{false≢true}
use Rattle.g4_net.specs.declared.network.State.{State}
use Rattle.g4_net.specs.declared.network.State.TheVariants.{Decision, End, Edge, Call, Predicate, Level, Action, Empty}
use Rattle.g4_net.specs.Network.{state_at, start_of}
use Rattle.g4_ordered.specs.declared.network.Reads.{Reads}
use Rattle.g4_ordered.specs.declared.network.Reads.TheVariants.{Characters, EndOfText}
use Rattle.g4_ordered.specs.Network.{LexerNetwork, is_reluctant}
use Rattle.g4_ordered.specs.Configurations.{LexerConfig, In, at, through, at_with}
use Rattle.g4_ordered.specs.Leads.{leads, leads_by, leads_past, returned, only_if, ReadsTo}
use Rattle.g4_ordered.specs.Lists.{IsKept, IsCharacterBy}
use Rattle.g4_ordered.proofs.Lists.{In-map, only}

-- d is of c's rule and alternative, and has passed where c has
pub record Follows (c d : LexerConfig) : Type 0 where
  pub rule : d.rule ≡ c.rule
  pub alternative : d.alternative ≡ c.alternative
  pub passed : c.passed ≡ true → d.passed ≡ true

-- at another state a configuration follows
follows_at : (c d : LexerConfig) (t : ℕ) → d ≡ at c t → Follows c d
follows_at c d t is = subst (Follows c) (sym is) (record { rule = refl; alternative = refl; passed = λ p. p })

-- what has passed still has after a decision
still_passed : (reluctant passed : Bool) → passed ≡ true → (reluctant || passed) ≡ true
still_passed true passed p = refl
still_passed false passed p = p

-- and so it does after a decision
follows_through : (reluctant : Bool) (c d : LexerConfig) (t : ℕ) → d ≡ through reluctant c t → Follows c d
follows_through reluctant c d t is = subst (Follows c) (sym is)
    (record { rule = refl; alternative = refl; passed = still_passed reluctant c.passed })

-- and with other return states
follows_with : (c d : LexerConfig) (t : ℕ) (ts : List ℕ) → d ≡ at_with c t ts → Follows c d
follows_with c d t ts is = subst (Follows c) (sym is) (record { rule = refl; alternative = refl; passed = λ p. p })

-- what is in a list that has one on a condition is that one, and the condition holds
pub only_where : (b : Bool) (c d : LexerConfig) → In d (only_if b c) → (b ≡ true) × (d ≡ c)
only_where true c d i = (refl, only c d i)
only_where false c d i = absurd i

-- a return keeps them
follows_returned : (c d : LexerConfig) (ts : List ℕ) → In d (returned c ts) → Follows c d
follows_returned c d [] i = absurd i
follows_returned c d (t ∷ rest) i = follows_with c d t rest (only _ d i)

-- a label's edge without a character keeps them
follows_past : (last : Bool) (label : Reads) (c d : LexerConfig) (t : ℕ) → In d (leads_past last label c t) → Follows c d
follows_past last (Characters set) c d t i = absurd i
follows_past last EndOfText c d t i = follows_at c d t (only_where last (at c t) d i).1

-- a step keeps them, by cases on the state
follows_by : (last : Bool) (o : Option (State Reads)) (c d : LexerConfig) → In d (leads_by last o c) → Follows c d
follows_by last None c d i = absurd i
follows_by last (Some (Decision ts)) c d i = let r = In-map (through (is_reluctant ts) c) ts d i in
    follows_through (is_reluctant ts) c d r.0 r.2
follows_by last (Some (End rule)) c d i = follows_returned c d c.returns i
follows_by last (Some (Edge label t)) c d i = follows_past last label c d t i
follows_by last (Some (Call rule level back)) c d i = follows_with c d (start_of rule) (back ∷ c.returns) (only _ d i)
follows_by last (Some (Predicate k t)) c d i = follows_at c d t (only _ d i)
follows_by last (Some (Level q t)) c d i = follows_at c d t (only _ d i)
follows_by last (Some (Action t)) c d i = follows_at c d t (only _ d i)
follows_by last (Some (Empty t)) c d i = follows_at c d t (only _ d i)

-- a step keeps them
pub lead_follows : (net : LexerNetwork) (last : Bool) (c d : LexerConfig) → In d (leads net last c) → Follows c d
lead_follows net last c d i = follows_by last (state_at net c.state) c d i

-- and so does a character
pub read_follows : (net : LexerNetwork) (a : ℕ) (c d : LexerConfig) → ReadsTo net a c d → Follows c d
read_follows net a c d h = follows_at c d h.1 h.4

-- what reads a character is kept
pub read_kept : (net : LexerNetwork) (a : ℕ) (c d : LexerConfig) → ReadsTo net a c d → IsKept net c
read_kept net a c d h = inl (subst IsCharacterBy (sym h.2) tt)

-- a character leads to one configuration
pub one_read : (net : LexerNetwork) (a : ℕ) (c d e : LexerConfig) → ReadsTo net a c d → ReadsTo net a c e → d ≡ e
one_read net a c d e h k = h.4 ∙ ap (at c) same ∙ sym k.4
  where
    both : Some (Edge (Characters h.0) h.1) ≡ Some (Edge (Characters k.0) k.1)
    both = sym h.2 ∙ k.2

    same : h.1 ≡ k.1
    same = cc

-- what has not passed has not passed before
pub not_before : (c d : LexerConfig) → Follows c d → d.passed ≡ false → c.passed ≡ false
not_before c d f not_yet = go c.passed refl
  where
    go : (b : Bool) → c.passed ≡ b → c.passed ≡ false
    go false is = is
    go true is = absurd (false≢true (sym not_yet ∙ f.passed is))

-- d is of c's rule and alternative
pub record Alike (c d : LexerConfig) : Type 0 where
  pub rule : d.rule ≡ c.rule
  pub alternative : d.alternative ≡ c.alternative

-- each configuration is of its own
pub alike : (c : LexerConfig) → Alike c c
alike c = record { rule = refl; alternative = refl }

-- and a step stays so
pub alike_on : (c d e : LexerConfig) → Alike c d → Follows d e → Alike c e
alike_on c d e a f = record { rule = f.rule ∙ a.rule; alternative = f.alternative ∙ a.alternative }
