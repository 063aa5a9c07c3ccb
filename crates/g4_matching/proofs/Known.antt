-- Entries whose return states are in the store, and their configurations.
use Rattle.std.proofs.Common.{◌≡◌, ℕ, ◌<◌, inl, inr, List, [], ◌∷◌, ◌++◌, Some, length, map, reverse, get_or, slice_get, refl, sym, ◌∙◌, ap, subst, arith}
use Rattle.std.proofs.lemmas.List.{map-append, reverse-append}
use Rattle.std.proofs.lemmas.Option.{slice_get_within, get_or_from_slice_get}
use Rattle.g4_net.specs.Network.{start_of}
use Rattle.g4_ordered.specs.Configurations.{LexerConfig, at, at_with}
use Rattle.g4_ordered.specs.Leads.{returned}
use Rattle.g4_ordered.proofs.Lists.{In-cases}
use Rattle.g4_matching.specs.declared.entry.Entry.{Entry}
use Rattle.g4_matching.specs.declared.waiting.Waiting.{Waiting}
use Rattle.g4_matching.specs.Returns.{Grows, IsDistinct, IsEmptyFirst, pushed}
use Rattle.g4_matching.specs.Entries.{config_of, configs_of, IsKnown, AreKnown, placed}
use Rattle.g4_matching.specs.Waiting.{Adds}
use Rattle.g4_matching.proofs.Lookups.{from_reverse, to_reverse}
use Rattle.g4_matching.proofs.Stores.{grown_at, grown_length}
use Rattle.g4_matching.proofs.Same.{make}

-- as the store grows, an entry stays known
pub grown_known : (old new : List (List ℕ)) (e : Entry) → Grows old new → IsKnown old e → IsKnown new e
grown_known old new e g k = let n = grown_length old new g in omega arith

-- and stays the same configuration
pub grown_config : (old new : List (List ℕ)) (e : Entry) → Grows old new → IsKnown old e → config_of new e ≡ config_of old e
grown_config old new e g k = ap (λ (r : List ℕ).
    record { rule = e.rule; alternative = e.alternative; state = e.state; returns = r; passed = e.passed }) (grown_at old new e.returns g k)

-- so do entries
pub grown_configs : (old new : List (List ℕ)) (es : List Entry) → Grows old new → AreKnown old es → configs_of new es ≡ configs_of old es
grown_configs old new [] g k = refl
grown_configs old new (e ∷ es) g k =
    ap (λ (c : LexerConfig). c ∷ configs_of new es) (grown_config old new e g (k e (inl refl)))
    ∙ ap (λ (l : List LexerConfig). config_of old e ∷ l) (grown_configs old new es g (λ x i. k x (inr i)))

-- entries known in any order
pub known_reversed : (lists : List (List ℕ)) (es : List Entry) → AreKnown lists es → AreKnown lists (reverse es)
known_reversed lists es k e i = k e (from_reverse es e i)

-- and back
pub known_back : (lists : List (List ℕ)) (es : List Entry) → AreKnown lists (reverse es) → AreKnown lists es
known_back lists es k e i = k e (to_reverse es e i)

-- and together
pub known_both : (lists : List (List ℕ)) (xs ys : List Entry) → AreKnown lists xs → AreKnown lists ys → AreKnown lists (xs ++ ys)
known_both lists xs ys k l e i = elim (In-cases xs ys e i) [ inl j ↦ k e j | inr j ↦ l e j ]

-- one alone
pub known_one : (lists : List (List ℕ)) (e : Entry) → IsKnown lists e → AreKnown lists (e ∷ [])
known_one lists e k x (inl is) = subst (IsKnown lists) (sym is) k
known_one lists e k x (inr no_place) = absurd no_place

-- the same at other states
pub known_placed : (lists : List (List ℕ)) (e : Entry) (ts : List ℕ) → IsKnown lists e → AreKnown lists (map (placed e) ts)
known_placed lists e [] k x i = absurd i
known_placed lists e (t ∷ ts) k x (inl is) = subst (IsKnown lists) (sym is) k
known_placed lists e (t ∷ ts) k x (inr i) = known_placed lists e ts k x i

-- their configurations
pub placed_configs : (lists : List (List ℕ)) (e : Entry) (ts : List ℕ)
    → configs_of lists (map (placed e) ts) ≡ map (at (config_of lists e)) ts
placed_configs lists e [] = refl
placed_configs lists e (t ∷ ts) = ap (λ (l : List LexerConfig). at (config_of lists e) t ∷ l) (placed_configs lists e ts)

-- entries put on top, as the store grows
pub adds_grown : (old new : Waiting) (xs : List Entry) → Grows old.returns new.returns
    → reverse new.entries.items ≡ xs ++ reverse old.entries.items → AreKnown new.returns xs → AreKnown old.returns old.entries.items
    → Adds old new (configs_of new.returns xs)
adds_grown old new xs g top known waiting = record {
  grows = g;
  known = known_back new.returns new.entries.items
      (subst (AreKnown new.returns) (sym top) (known_both new.returns xs (reverse old.entries.items) known
      (λ e i. grown_known old.returns new.returns e g (old_known e i))));
  on_top = ap (configs_of new.returns) top ∙ map-append (config_of new.returns) xs (reverse old.entries.items)
      ∙ ap (λ (l : List LexerConfig). configs_of new.returns xs ++ l)
      (grown_configs old.returns new.returns (reverse old.entries.items) g old_known);
}
  where
    old_known : AreKnown old.returns (reverse old.entries.items)
    old_known = known_reversed old.returns old.entries.items waiting

-- a store grows by nothing
pub grows_not : (lists : List (List ℕ)) → Grows lists lists
grows_not lists = ([], sym (append_nil lists))
  where
    append_nil : (l : List (List ℕ)) → l ++ [] ≡ l
    append_nil [] = refl
    append_nil (x ∷ l) = ap (λ (m : List (List ℕ)). x ∷ m) (append_nil l)

-- the last of the entries is on top
pub on_top : (es new : List Entry) (e : Entry) → new ≡ es ++ e ∷ [] → reverse new ≡ e ∷ reverse es
on_top es new e is = ap reverse is ∙ reverse-append es (e ∷ [])

-- no return states are open exactly where the number is 0
pub closed_zero : (lists : List (List ℕ)) (n : ℕ) → IsDistinct lists → IsEmptyFirst lists → n < length lists → get_or lists n [] ≡ []
    → n ≡ 0
closed_zero lists n distinct first lt e = distinct n 0 lt first.0 (e ∙ sym first.1)

-- the number 0 is that of no return states
pub zero_closed : (lists : List (List ℕ)) (n : ℕ) → IsEmptyFirst lists → n ≡ 0 → get_or lists n [] ≡ []
zero_closed lists n first z = ap (λ (m : ℕ). get_or lists m []) z ∙ first.1

-- known entries with the same configuration are the same
pub same_entry : (lists : List (List ℕ)) (a b : Entry) → IsDistinct lists → IsKnown lists a → IsKnown lists b
    → config_of lists a ≡ config_of lists b → a ≡ b
same_entry lists a b distinct ka kb e =
    let r = distinct a.returns b.returns ka kb (ap (λ (c : LexerConfig). c.returns) e) in
    let s = ap (λ (c : LexerConfig). c.state) e in
    let u = ap (λ (c : LexerConfig). c.rule) e in
    let l = ap (λ (c : LexerConfig). c.alternative) e in
    let p = ap (λ (c : LexerConfig). c.passed) e in
    ap (λ (x : ℕ). make x a.rule a.alternative a.returns a.passed) s ∙ ap (λ (x : ℕ). make b.state x a.alternative a.returns a.passed) u
    ∙ ap (λ (x : ℕ). make b.state b.rule x a.returns a.passed) l ∙ ap (λ (x : ℕ). make b.state b.rule b.alternative x a.passed) r
    ∙ ap (make b.state b.rule b.alternative b.returns) p

-- entries at other states put on top
pub adds_placed : (old new : Waiting) (e : Entry) (ts : List ℕ) (cs : List LexerConfig) → new.returns ≡ old.returns
    → reverse new.entries.items ≡ map (placed e) ts ++ reverse old.entries.items → IsKnown old.returns e
    → AreKnown old.returns old.entries.items
    → map (at (config_of old.returns e)) ts ≡ cs → Adds old new cs
adds_placed old new e ts cs same top known waiting are =
    subst (Adds old new) (ap (λ (l : List (List ℕ)). configs_of l (map (placed e) ts)) same ∙ placed_configs old.returns e ts ∙ are)
    (adds_grown old new (map (placed e) ts) (subst (Grows old.returns) (sym same) (grows_not old.returns)) top
    (subst (λ (l : List (List ℕ)). AreKnown l (map (placed e) ts)) (sym same) (known_placed old.returns e ts known)) waiting)

-- one entry put on top, as the store grows
pub adds_one : (old new : Waiting) (e : Entry) (cs : List LexerConfig) → Grows old.returns new.returns
    → new.entries.items ≡ old.entries.items ++ e ∷ [] → IsKnown new.returns e → AreKnown old.returns old.entries.items
    → config_of new.returns e ∷ [] ≡ cs → Adds old new cs
adds_one old new e cs g pushed known waiting are =
    subst (Adds old new) are (adds_grown old new (e ∷ []) g (on_top old.entries.items new.entries.items e pushed)
    (known_one new.returns e known) waiting)

-- nothing put on top
pub adds_nothing : (old : Waiting) → AreKnown old.returns old.entries.items → Adds old old []
adds_nothing old waiting = record { grows = grows_not old.returns; known = waiting; on_top = refl }

-- the top of the list where it is known
pub popped : (lists : List (List ℕ)) (c : LexerConfig) (r : List ℕ) (t m : ℕ) → r ≡ pushed lists t m
    → at_with c t (get_or lists m []) ∷ [] ≡ returned c r
popped lists c r t m is = ap (returned c) (sym is)

-- a list that a number has is known
pub number_known : (lists : List (List ℕ)) (n : ℕ) (r : List ℕ) → slice_get lists n ≡ Some r → n < length lists
number_known lists n r is = slice_get_within lists n r is

-- a call's return states
pub called : (c : LexerConfig) (rule back n : ℕ) (new : List (List ℕ)) → slice_get new n ≡ Some (back ∷ c.returns)
    → at_with c (start_of rule) (get_or new n []) ∷ [] ≡ at_with c (start_of rule) (back ∷ c.returns) ∷ []
called c rule back n new is = ap (λ (r : List ℕ). at_with c (start_of rule) r ∷ []) (get_or_from_slice_get new n (back ∷ c.returns) [] is)
