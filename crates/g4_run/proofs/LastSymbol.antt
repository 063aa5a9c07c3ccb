-- The loop of the added rule spells symbols of its set and then END, so the last symbol that is spelled from the rule's start is END.
use Rattle.std.proofs.Common.{◌≡◌, ℕ, zero, suc, ◌+◌, ◌<◌, ◌⊎◌, inl, inr, List, [], ◌∷◌, ◌++◌, length, Some, refl, sym, ◌∙◌, ap, subst, arith, Contains, append_assoc}
use Rattle.g4_net.specs.Spelling.{TakesFirst, SpellsWord, ends, takes, calls, passes}
use Rattle.g4_net.specs.AddedRule.{IsApart}
use Rattle.g4_net.specs.Network.{ParserNetwork, start_of}
use Rattle.g4_net.specs.declared.network.State.TheVariants.{Decision, End, Edge, Call, Empty}
use Rattle.g4_run.proofs.Unfolding.{unfold_at}
use Rattle.g4_tokens.specs.Symbols.{end_of_list}
use Rattle.g4_tokens.specs.TokenList.{EndsInEnd}

-- the one symbol of a set
pub only_symbol : (x a : ℕ) → Contains (x ∷ []) a → a ≡ x
only_symbol x a (zero, within, is) = sym is
only_symbol x a (suc k, within, is) = absurd (omega arith)

-- a list with something in it is not empty
no_empty : (g : List ℕ) (x : ℕ) (y : List ℕ) → [] ≡ g ++ x ∷ y → ⊥
no_empty [] x y e = let no : ⊥ = cc in no
no_empty (b ∷ g) x y e = let no : ⊥ = cc in no

-- a rest of a list, of a longer one
further_rest : (w v z : List ℕ) (a : ℕ) → ((front : List ℕ) × (w ≡ front ++ v)) → ((front : List ℕ) × (v ≡ front ++ a ∷ z)) →
    (front : List ℕ) × (w ≡ front ++ a ∷ z)
further_rest w v z a (f, is) (g, at) = (f ++ g, is ∙ ap (λ (x : List ℕ). f ++ x) at ∙ sym (append_assoc f g (a ∷ z)))

-- what is spelled is what is in the word before a rest of it
pub is_rest : (net : ParserNetwork) (p : ℕ) (w z : List ℕ) → SpellsWord net p w z → (front : List ℕ) × (w ≡ front ++ z)
is_rest net p w _ (ends _ rule _ is) = ([], refl)
is_rest net p w z (takes _ t label _ v _ is (a, begins, has) h) = let r = is_rest net t v z h in
    (a ∷ r.0, begins ∙ ap (λ (x : List ℕ). a ∷ x) r.1)
is_rest net p w z (calls _ rule level back _ v _ is h j) =
    let r = is_rest net (start_of rule) w v h in let s = is_rest net back v z j in
    (r.0 ++ s.0, r.1 ∙ ap (λ (x : List ℕ). r.0 ++ x) s.1 ∙ sym (append_assoc r.0 s.0 z))
is_rest net p w z (passes _ t _ _ m h) = is_rest net t w z h

module _ {looped : List ℕ} (net : ParserNetwork) (rule loop : ℕ) (apart : IsApart net rule loop looped) where
  -- a symbol END is right before z
  abbrev HasLast : List ℕ → List ℕ → Type 0
  HasLast w z = (front : List ℕ) × (w ≡ front ++ end_of_list ∷ z)

  -- before z are symbols of the loop's set, and then END
  abbrev pub Closes : List ℕ → List ℕ → Type 0
  Closes w z = (front : List ℕ) × (w ≡ front ++ end_of_list ∷ z) × ((a : ℕ) → Contains front a → Contains looped a)

  -- nothing is spelled after END
  after_end : (w z : List ℕ) → SpellsWord net (loop + 4) w z → w ≡ z
  after_end w z h = unfold_at net 1 (Some (End 0)) w z apart.added.end (unfold_at net (loop + 4) (Some (Empty 1)) w z apart.added.last h)

  -- where the loop is left, END alone is before z
  leaving : (w z : List ℕ) → SpellsWord net (loop + 3) w z → Closes w z
  leaving w z h = by (unfold_at net (loop + 3) (Some (Edge (end_of_list ∷ []) (loop + 4))) w z apart.added.leave h)
    where
      by : ((v : List ℕ) × TakesFirst (end_of_list ∷ []) w v × SpellsWord net (loop + 4) v z) → Closes w z
      by (v, (a, begins, has), more) = (
        [],
        begins ∙ ap (λ (x : ℕ). x ∷ v) (only_symbol end_of_list a has)
            ∙ ap (λ (x : List ℕ). end_of_list ∷ x) (after_end v z more),
        λ b (k, within, at). absurd (omega (arith, within)),
      )

  -- the two ways from the loop
  two_targets : (x y t : ℕ) → Contains (x ∷ y ∷ []) t → (t ≡ x) ⊎ (t ≡ y)
  two_targets x y t (zero, within, p) = inl (sym p)
  two_targets x y t (suc zero, within, p) = inr (sym p)
  two_targets x y t (suc (suc k), within, p) = absurd (omega arith)

  -- one symbol more
  one_more : (a : ℕ) (front : List ℕ) → Contains looped a → ((b : ℕ) → Contains front b → Contains looped b) → (b : ℕ) →
      Contains (a ∷ front) b → Contains looped b
  one_more a front has all b (zero, within, at) = subst (Contains looped) at has
  one_more a front has all b (suc k, within, at) = all b (k, omega (arith, within), at)

  -- one turn of the loop
  turn : (w v z : List ℕ) (a : ℕ) → w ≡ a ∷ v → Contains looped a → Closes v z → Closes w z
  turn w v z a begins has (front, is, all) =
      (a ∷ front, begins ∙ ap (λ (x : List ℕ). a ∷ x) is, one_more a front has all)

  -- from the loop on, for words that are shorter than n
  looping : (n : ℕ) (w z : List ℕ) → length w < n → SpellsWord net loop w z → Closes w z
  looping zero w z less h = absurd (omega (arith, less))
  looping (suc n) w z less h =
      let by = unfold_at net loop (Some (Decision ((loop + 1) ∷ (loop + 3) ∷ []))) w z apart.added.turn_or_leave h in
      elim (two_targets (loop + 1) (loop + 3) by.0 by.1) [
        | inl is ↦ (let taken = unfold_at net (loop + 1) (Some (Edge looped (loop + 2))) w z apart.added.turn
            (subst (λ (p : ℕ). SpellsWord net p w z) is by.2) in
            turn w taken.0 z taken.1.0 taken.1.1 taken.1.2 (looping n taken.0 z (omega (arith, ap length taken.1.1, less))
            (unfold_at net (loop + 2) (Some (Empty loop)) taken.0 z apart.added.again taken.2)))
        | inr is ↦ leaving w z (subst (λ (p : ℕ). SpellsWord net p w z) is by.2)
      ]

  -- so it is with all that is spelled from the loop on
  pub loop_closes : (w z : List ℕ) → SpellsWord net loop w z → Closes w z
  loop_closes w z h = looping (suc (length w)) w z (omega arith) h

  -- and END is the last symbol that is spelled from the start of the added rule
  pub last_symbol : (w z : List ℕ) → SpellsWord net 0 w z → HasLast w z
  last_symbol w z h =
      let call = unfold_at net 0 (Some (Call rule 0 loop)) w z apart.added.call h in
      let front = is_rest net (start_of rule) w call.0 call.1 in
      let last = loop_closes call.0 z call.2 in
      further_rest w call.0 z end_of_list front (last.0, last.1)

-- after END nothing of the word is left
pub nothing_left : (w z : List ℕ) → EndsInEnd w → ((front : List ℕ) × (w ≡ front ++ end_of_list ∷ z)) → z ≡ []
nothing_left w z (front, is, once) (other, at) = by front other z once (sym is ∙ at)
  where
    by : (f g : List ℕ) (y : List ℕ) → (Contains f end_of_list → ⊥) → f ++ end_of_list ∷ [] ≡ g ++ end_of_list ∷ y → y ≡ []
    by [] [] y none e = cc
    by [] (b ∷ g) y none e = absurd (let tails : [] ≡ g ++ end_of_list ∷ y = cc in no_empty g end_of_list y tails)
    by (a ∷ f) [] y none e = absurd (none (0, omega arith, (let heads : a ≡ end_of_list = cc in heads)))
    by (a ∷ f) (b ∷ g) y none e = by f g y (λ (k, within, i). none (suc k, omega (arith, within), i))
        (let tails : f ++ end_of_list ∷ [] ≡ g ++ end_of_list ∷ y = cc in tails)
