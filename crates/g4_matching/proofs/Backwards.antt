-- What loops that go back over a list put on top.
use Rattle.std.proofs.Common.{◌≡◌, ℕ, inl, inr, List, [], ◌∷◌, ◌++◌, false, map, reverse, refl, sym, ◌∙◌, ap, subst, Option, Some, None, MatchOption}
use Rattle.std.proofs.lemmas.List.{reverse-append, append-nil}
use Rattle.g4_ordered.specs.Network.{LexerNetwork}
use Rattle.g4_ordered.specs.Configurations.{LexerConfig, start}
use Rattle.g4_ordered.specs.Lists.{ReadAll, taken, refused}
use Rattle.g4_matching.specs.declared.entry.Entry.{Entry}
use Rattle.g4_ordered.specs.declared.start.Start.{Start}
use Rattle.g4_ordered.specs.Starts.{starts_of}
use Rattle.g4_matching.specs.Returns.{IsEmptyFirst}
use Rattle.g4_matching.specs.Entries.{config_of, configs_of, stacked, placed, Takes, IsKnown, AreKnown, moved_to}
use Rattle.g4_matching.proofs.Known.{on_top, known_both, known_one}

-- one further back comes to the front of what was gone over
pub seen_more : {A : Type 0} (seen : List A) (x : A) → reverse (seen ++ x ∷ []) ≡ x ∷ reverse seen
seen_more seen x = reverse-append seen (x ∷ [])

-- and what is pushed for it on top
pub pushed_back : {A : Type 0} (f : A → Entry) (seen : List A) (x : A) (entries new base : List Entry) → new ≡ entries ++ f x ∷ []
    → reverse entries ≡ map f (reverse seen) ++ base → reverse new ≡ map f (reverse (seen ++ x ∷ [])) ++ base
pushed_back f seen x entries new base is h =
    on_top entries new (f x) is ∙ ap (λ (l : List Entry). f x ∷ l) h ∙ ap (λ l. map f l ++ base) (sym (seen_more seen x))

-- a start as an entry
abbrev pub entry_of : Start → Entry
entry_of s = record { state = s.state; rule = s.rule; alternative = s.alternative; returns = 0; passed = false }

-- its configuration
pub start_configs : (lists : List (List ℕ)) (starts : List Start) → IsEmptyFirst lists
    → configs_of lists (map entry_of starts) ≡ starts_of starts
start_configs lists [] first = refl
start_configs lists (s ∷ starts) first =
    ap (λ (r : List ℕ). record { rule = s.rule; alternative = s.alternative; state = s.state; returns = r; passed = false }
    ∷ configs_of lists (map entry_of starts)) first.1
    ∙ ap (λ (l : List LexerConfig). start s.rule s.alternative s.state ∷ l) (start_configs lists starts first)

-- and each is known
pub starts_known : (lists : List (List ℕ)) (starts : List Start) → IsEmptyFirst lists → AreKnown lists (map entry_of starts)
starts_known lists [] first e i = absurd i
starts_known lists (s ∷ starts) first e (inl is) = subst (IsKnown lists) (sym is) first.0
starts_known lists (s ∷ starts) first e (inr i) = starts_known lists starts first e i

-- an entry that reads the character
read_taken : (net : LexerNetwork) (a : ℕ) (lists : List (List ℕ)) (seen entries new : List Entry) (e : Entry) (t : ℕ)
    → Takes net a e.state t → new ≡ entries ++ placed e t ∷ [] → ReadAll net a (configs_of lists (reverse seen)) (stacked lists entries)
    → ReadAll net a (configs_of lists (reverse (seen ++ e ∷ []))) (stacked lists new)
read_taken net a lists seen entries new e t takes is h =
    subst (λ (l : List Entry). ReadAll net a (configs_of lists l) (stacked lists new)) (sym (seen_more seen e))
    (subst (λ (l : List Entry). ReadAll net a (config_of lists e ∷ configs_of lists (reverse seen)) (configs_of lists l))
    (sym (on_top entries new (placed e t) is))
    (taken (config_of lists e) (config_of lists (placed e t)) _ _ (takes.0, t, takes.1, takes.2, refl) h))

-- an entry that does not
read_refused : (net : LexerNetwork) (a : ℕ) (lists : List (List ℕ)) (seen entries : List Entry) (e : Entry)
    → ((t : ℕ) → Takes net a e.state t → ⊥) → ReadAll net a (configs_of lists (reverse seen)) (stacked lists entries)
    → ReadAll net a (configs_of lists (reverse (seen ++ e ∷ []))) (stacked lists entries)
read_refused net a lists seen entries e never h =
    subst (λ (l : List Entry). ReadAll net a (configs_of lists l) (stacked lists entries)) (sym (seen_more seen e))
    (refused (config_of lists e) _ _ (λ d r. never r.1 (r.0, r.2, r.3)) h)

-- either way
pub read_on : (net : LexerNetwork) (a : ℕ) (lists : List (List ℕ)) (seen entries new : List Entry) (e : Entry) (target : Option ℕ)
    → MatchOption target ((t : ℕ) → Takes net a e.state t → ⊥) (λ t. Takes net a e.state t) → new ≡ entries ++ moved_to e target
    → IsKnown lists e
    → AreKnown lists entries × ReadAll net a (configs_of lists (reverse seen)) (stacked lists entries)
    → AreKnown lists new × ReadAll net a (configs_of lists (reverse (seen ++ e ∷ []))) (stacked lists new)
read_on net a lists seen entries new e None never is known h =
    subst (λ (l : List Entry). AreKnown lists l × ReadAll net a (configs_of lists (reverse (seen ++ e ∷ []))) (stacked lists l))
    (sym (is ∙ append-nil entries)) (h.0, read_refused net a lists seen entries e never h.1)
read_on net a lists seen entries new e (Some t) takes is known h = (
  subst (AreKnown lists) (sym is) (known_both lists entries (placed e t ∷ []) h.0 (known_one lists (placed e t) known)),
  read_taken net a lists seen entries new e t takes is h.1,
)
