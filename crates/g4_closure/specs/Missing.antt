-- How many members of a list are not in a set, and the test of a configuration against a set.
use Rattle.std.specs.Prelude.{◌≡◌, ◌≤◌, ℕ, ◌+◌, List, [], ◌∷◌, Bool, true, false, Option, Some, None, IsTrue, slice_get}
use Rattle.std.proofs.Common.{inl, inr, refl, sym, ap, arith, true≢false, subst}
use Rattle.std.proofs.Math.Decide.{dec_le}
use Rattle.g4_stacks.specs.Graph.{Content, In, IsMarked, LeadsTo, HasOf}
use Rattle.g4_net.specs.Configurations.{Config}
use Rattle.g4_configs.specs.Configs.{Holds, View}
use Rattle.g4_configs.specs.Groups.{HasAt, node_at}

-- 1 where the fact fails
abbrev pub unless : {P : Type 0} → Dec P → ℕ
unless (yes p) = 0
unless (no p) = 1

-- how many of the list are not in the set
abbrev pub missing : {X : Type 0} (P : X → Type 0) → ((x : X) → Dec (P x)) → List X → ℕ
missing P dec [] = 0
missing P dec (x ∷ xs) = unless (dec x) + missing P dec xs

dec_eq : (x y : ℕ) → Dec (x ≡ y)
dec_eq x y = by (dec_le x y) (dec_le y x)
  where
    by : Dec (x ≤ y) → Dec (y ≤ x) → Dec (x ≡ y)
    by (yes a) (yes b) = yes (omega (arith, a, b))
    by (no a) b = no (λ e. a (omega (arith, e)))
    by (yes a) (no b) = no (λ e. b (omega (arith, e)))

dec_true : (b : Bool) → Dec (IsTrue b)
dec_true true = yes refl
dec_true false = no (λ e. true≢false (sym e))

dec_marked : (o : Option Content) (wild : Bool) → Dec (IsMarked o wild)
dec_marked None wild = no (λ h. h)
dec_marked (Some c) true = dec_true c.wild
dec_marked (Some c) false = dec_true c.end

dec_tops : (tops : List (ℕ × ℕ)) (t : ℕ) (P : ℕ → Type 0) → ((m : ℕ) → Dec (P m)) → Dec ((m : ℕ) × In (t, m) tops × P m)
dec_tops [] t P dec = no (λ h. h.1)
dec_tops (e ∷ es) t P dec = by (dec_eq t e.0) (dec e.1) (dec_tops es t P dec)
  where
    by : Dec (t ≡ e.0) → Dec (P e.1) → Dec ((m : ℕ) × In (t, m) es × P m) → Dec ((m : ℕ) × In (t, m) (e ∷ es) × P m)
    by a b (yes r) = yes (r.0, inr r.1, r.2)
    by (yes a) (yes b) (no r) = yes (e.1, inl (ap (λ (n : ℕ). let y : ℕ × ℕ = (n, e.1) in y) a), b)
    by (yes a) (no b) (no r) = no (λ h. elim h.1 [ inl i ↦ b (subst P (ap (λ (y : ℕ × ℕ). y.1) i) h.2) | inr i ↦ r (h.0, i, h.2) ])
    by (no a) b (no r) = no (λ h. elim h.1 [ inl i ↦ a (ap (λ (y : ℕ × ℕ). y.0) i) | inr i ↦ r (h.0, i, h.2) ])

dec_leads : (o : Option Content) (t : ℕ) (P : ℕ → Type 0) → ((m : ℕ) → Dec (P m)) → Dec ((m : ℕ) × LeadsTo o t m × P m)
dec_leads None t P dec = no (λ h. h.1)
dec_leads (Some c) t P dec = dec_tops c.tops t P dec

pub dec_of : (g : List Content) (n : ℕ) (returns : List ℕ) (wild : Bool) → Dec (HasOf g n returns wild)
dec_of g n [] wild = dec_marked (slice_get g n) wild
dec_of g n (t ∷ rest) wild = dec_leads (slice_get g n) t (λ m. HasOf g m rest wild) (λ m. dec_of g m rest wild)

dec_at : (g : List Content) (o : Option ℕ) (returns : List ℕ) (wild : Bool) → Dec (HasAt g o returns wild)
dec_at g None returns wild = no (λ h. h)
dec_at g (Some n) returns wild = dec_of g n returns wild

-- whether the set has the configuration
pub dec_holds : (v : View) (c : Config) → Dec (Holds v c)
dec_holds v c = dec_at v.graph (node_at v.nodes (c.state, c.alt)) c.stack.returns c.stack.wild

-- how many of the list are not in the set
abbrev pub lacks : View → List Config → ℕ
lacks v all = missing (Holds v) (dec_holds v) all
