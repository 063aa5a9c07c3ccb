-- Tokens in groups by their types.
use Rattle.std.proofs.Common.{◌≡◌, ℕ, zero, suc, ◌+◌, ◌<◌, ◌≤◌, ◌==◌, List, [], ◌∷◌, ◌++◌, length, get_or, set, Bool, true, false, cond, Some, slice_get, Vec, Global, refl, sym, ap, ◌∙◌, arith, length-set, get_or-set_same, get_or-set_other, inl, inr}
use Rattle.std.specs.List.{flat_map, range_with_len}
use Rattle.std.proofs.lemmas.Bool.{cases_lt}
use Rattle.std.proofs.lemmas.Bool.Decides.{Decides-eqb}
use Rattle.std.proofs.lemmas.List.{append-nil}
use Rattle.std.proofs.lemmas.List.Elements.{filter-append}
use Rattle.std.proofs.lemmas.Option.{slice_get-get_or, slice_get_past}
use Rattle.g4_grammar.specs.declared.token_types.TokenLiteral.{TokenLiteral}
use Rattle.g4_vocab.specs.Shown.{of_type}
use Rattle.g4_vocab.specs.Tables.{Groups, HaveJoined, Joins, members_in, members_of}

-- the group at the number that is set, and at others
get_set : {X : Type 0} (xs : List X) (i : ℕ) (v : X) → i < length xs → slice_get (set xs i v) i ≡ Some v
get_set xs i v within =
    let short : i < length (set xs i v) = omega (arith, within, length-set xs i v) in
    slice_get-get_or (set xs i v) i v short ∙ ap (λ x. Some x) (get_or-set_same xs i v v within)

get_other : {X : Type 0} (xs : List X) (i k : ℕ) (v : X) → (k ≡ i → ⊥) → slice_get (set xs i v) k ≡ slice_get xs k
get_other xs i k v other = elim (cases_lt k (length xs)) [
  | inl within ↦ (
      let short : k < length (set xs i v) = omega (arith, within, length-set xs i v) in
      slice_get-get_or (set xs i v) k v short ∙ ap (λ x. Some x) (get_or-set_other xs i k v v other) ∙ sym (slice_get-get_or xs k v within)
      )
  | inr past ↦ (
      let long : length (set xs i v) ≤ k = omega (arith, past, length-set xs i v) in
      slice_get_past (set xs i v) k long ∙ sym (slice_get_past xs k past)
      )
]

-- a group is put in place with one token more
pub joins_set : (old new : Groups) (token : TokenLiteral) (group : Vec TokenLiteral Global) → token.symbol < length old
    → group.items ≡ members_in old token.symbol ++ token ∷ [] → new ≡ set old token.symbol group → Joins old token new
joins_set old new token group within more is = record {
  same = ap length is ∙ length-set old token.symbol group;
  joined = λ number. ap (λ (gs : Groups). members_in gs number) is ∙ by number (token.symbol == number) refl;
}
  where
    by : (number : ℕ) (b : Bool) → (token.symbol == number) ≡ b → members_in (set old token.symbol group) number
        ≡ cond b (members_in old number ++ token ∷ []) (members_in old number)
    by number true e =
        let same : token.symbol ≡ number = (Decides-eqb token.symbol number).0 e in
        ap (members_in (set old token.symbol group)) (sym same)
        ∙ (ap members_of (get_set old token.symbol group within)
        ∙ (more ∙ ap (λ (n : ℕ). members_in old n ++ token ∷ []) same))
    by number false e =
        let other : number ≡ token.symbol → ⊥ = λ same.
        let equal : (token.symbol == number) ≡ true = (Decides-eqb token.symbol number).1 (sym same) in let n : ⊥ = cc in n in
        ap members_of (get_other old token.symbol number group other)

-- a group that is there
pub group_at : (groups : Groups) (k : ℕ) (group : Vec TokenLiteral Global) → k < length groups → group ≡ get_or groups k group
    → members_in groups k ≡ group.items
group_at groups k group within at =
    ap members_of (slice_get-get_or groups k group within) ∙ ap (λ (g : Vec TokenLiteral Global). g.items) (sym at)

-- tokens that have joined, with one more
pub joined_more : (count : ℕ) (tokens : List TokenLiteral) (token : TokenLiteral) (old new : Vec (Vec TokenLiteral Global) Global)
    → HaveJoined count tokens old → Joins old.items token new.items → HaveJoined count (tokens ++ token ∷ []) new
joined_more count tokens token old new h joins = record {
  counted = joins.same ∙ h.counted;
  joined = λ number within.
      joins.joined number
      ∙ (ap (λ (ts : List TokenLiteral). cond (token.symbol == number) (ts ++ token ∷ []) ts) (h.joined number within)
      ∙ (by number (token.symbol == number)
      ∙ sym (filter-append (λ (t : TokenLiteral). t.symbol == number) tokens (token ∷ []))));
}
  where
    by : (number : ℕ) (b : Bool)
        → cond b (of_type tokens number ++ token ∷ []) (of_type tokens number) ≡ of_type tokens number ++ cond b (token ∷ []) []
    by number true = refl
    by number false = sym (append-nil (of_type tokens number))

-- groups one after another
flat_from : (groups : Groups) (all : ℕ → List TokenLiteral) (a : ℕ)
    → ((number : ℕ) → number < length groups → members_in groups number ≡ all (a + number))
    → flat_map (λ group. group.items) groups ≡ flat_map all (range_with_len a (length groups))
flat_from [] all a h = refl
flat_from (group ∷ groups) all a h =
    let first : group.items ≡ all a =
    h 0 (omega arith) ∙ (let n : a + 0 ≡ a = omega arith in ap all n) in
    let rest : flat_map (λ g. g.items) groups ≡ flat_map all (range_with_len (a + 1) (length groups)) =
    flat_from groups all (a + 1) (λ number within. h (suc number) (omega (arith, within))
    ∙ (let n : a + suc number ≡ a + 1 + number = omega arith in ap all n)) in
    ap (λ (ts : List TokenLiteral). ts ++ flat_map (λ g. g.items) groups) first
    ∙ ap (λ (ts : List TokenLiteral). all a ++ ts) rest

pub flat_groups : (count : ℕ) (tokens : List TokenLiteral) (groups : Vec (Vec TokenLiteral Global) Global) → HaveJoined count tokens groups
    → flat_map (λ group. group.items) groups.items ≡ flat_map (of_type tokens) (range_with_len 0 count)
flat_groups count tokens groups h =
    flat_from groups.items (of_type tokens) 0
    (λ number within. h.joined number (omega (arith, within, h.counted))
    ∙ (let n : number ≡ 0 + number = omega arith in ap (of_type tokens) n))
    ∙ ap (λ (n : ℕ). flat_map (of_type tokens) (range_with_len 0 n)) h.counted

-- empty groups
pub none_joined : (count : ℕ) (groups : Vec (Vec TokenLiteral Global) Global) → length groups.items ≡ count
    → ((number : ℕ) → members_in groups.items number ≡ []) → HaveJoined count [] groups
none_joined count groups counted empty = record { counted = counted; joined = λ number within. empty number }

pub empty_more : (groups new : Groups) (group : Vec TokenLiteral Global) → new ≡ groups ++ group ∷ [] → group.items ≡ []
    → ((number : ℕ) → members_in groups number ≡ []) → (number : ℕ) → members_in new number ≡ []
empty_more groups new group is none h number = ap (λ (gs : Groups). members_in gs number) is ∙ by groups number h
  where
    by : (gs : Groups) (n : ℕ) → ((m : ℕ) → members_in gs m ≡ []) → members_in (gs ++ group ∷ []) n ≡ []
    by [] zero h = none
    by [] (suc n) h = refl
    by (g ∷ gs) zero h = h 0
    by (g ∷ gs) (suc n) h = by gs n (λ m. h (suc m))
