-- What the loops over a list of entries keep, of their configurations.
use Rattle.std.proofs.Common.{◌≡◌, ℕ, ◌+◌, ◌<◌, List, [], ◌∷◌, ◌++◌, false, Option, length, get_or, take, sym, ◌∙◌, ap, subst}
use Rattle.std.proofs.lemmas.List.{map-append, take_more, get_or_default}
use Rattle.g4_ordered.specs.Network.{LexerNetwork}
use Rattle.g4_ordered.specs.Configurations.{LexerConfig}
use Rattle.g4_ordered.specs.Lists.{Keeps}
use Rattle.g4_ordered.specs.Matching.{IsLeastEnd}
use Rattle.g4_matching.specs.declared.entry.Entry.{Entry}
use Rattle.g4_matching.specs.declared.rule_end.RuleEnd.{RuleEnd}
use Rattle.g4_matching.specs.Returns.{IsDistinct, IsEmptyFirst}
use Rattle.g4_matching.specs.Entries.{config_of, configs_of, IsKnown, AreKnown}
use Rattle.g4_matching.specs.Ends.{EndsAt, KeptAt, TellsEnd}
use Rattle.g4_matching.proofs.Lookups.{in_read}
use Rattle.g4_matching.proofs.Known.{known_both, known_one}
use Rattle.g4_matching.proofs.Ended.{end_config, config_end, kept_config, config_kept}
use Rattle.g4_matching.proofs.Kept.{keeps_more, leaves_more}
use Rattle.g4_matching.proofs.Matched.{IsAsGood, tells_same, tells_new}

-- an entry that no list has
abbrev pub blank : Entry
blank = record { state = 0; rule = 0; alternative = 0; returns = 0; passed = false }

-- the entry at this place
abbrev pub entry_at : List Entry → ℕ → Entry
entry_at list i = get_or list i blank

module _ (net : LexerNetwork) (lists : List (List ℕ)) (distinct : IsDistinct lists) (first : IsEmptyFirst lists) (list : List Entry)
    (known : AreKnown lists list) (i : ℕ) (lt : i < length list) where
  -- the configurations of one entry more
  more : configs_of lists (take (i + 1) list) ≡ configs_of lists (take i list) ++ config_of lists (entry_at list i) ∷ []
  more = ap (configs_of lists) (take_more list i blank lt) ∙ map-append (config_of lists) (take i list) (entry_at list i ∷ [])

  -- it is known
  is_known : IsKnown lists (entry_at list i)
  is_known = known (entry_at list i) (in_read list i (entry_at list i) lt (same list i lt))
    where
      same : (xs : List Entry) (k : ℕ) → k < length xs → get_or xs k blank ≡ get_or xs k (get_or xs k blank)
      same xs k less = get_or_default xs k blank (get_or xs k blank) less

  -- it gives nothing new
  pub tell_same : (best : Option RuleEnd) → (EndsAt net (entry_at list i) → IsAsGood best (entry_at list i).rule)
      → TellsEnd net (configs_of lists (take i list)) best → TellsEnd net (configs_of lists (take (i + 1) list)) best
  tell_same best good h = subst (λ (l : List LexerConfig). TellsEnd net l best) (sym more)
      (tells_same net (configs_of lists (take i list)) (config_of lists (entry_at list i)) best
      (λ end. good (config_end net lists distinct first (entry_at list i) is_known end)) h)

  -- it gives an end
  pub tell_new : (best : Option RuleEnd) → EndsAt net (entry_at list i) → (IsAsGood best (entry_at list i).rule → ⊥)
      → TellsEnd net (configs_of lists (take i list)) best
      → IsLeastEnd net (configs_of lists (take (i + 1) list)) (entry_at list i).rule (entry_at list i).alternative
  tell_new best end better h = subst (λ (l : List LexerConfig). IsLeastEnd net l (entry_at list i).rule (entry_at list i).alternative)
      (sym more) (tells_new net (configs_of lists (take i list)) (config_of lists (entry_at list i)) best
      (end_config net lists distinct first (entry_at list i) end) better h)

  -- what the loop that keeps entries has
  abbrev pub KeepsSoFar : ℕ → List Entry → Type 0
  KeepsSoFar n kept = AreKnown lists kept × Keeps net (configs_of lists (take n list)) (configs_of lists kept)

  -- it is kept
  pub keep_one : (kept new : List Entry) → KeptAt net (entry_at list i) → new ≡ kept ++ entry_at list i ∷ [] → KeepsSoFar i kept
      → KeepsSoFar (i + 1) new
  keep_one kept new keeps is h =
      subst (KeepsSoFar (i + 1)) (sym is) (
        known_both lists kept (entry_at list i ∷ []) h.0 (known_one lists (entry_at list i) is_known),
        subst (λ (l : List LexerConfig). Keeps net l (configs_of lists (kept ++ entry_at list i ∷ []))) (sym more)
            (subst (Keeps net (configs_of lists (take i list) ++ config_of lists (entry_at list i) ∷ []))
            (sym (map-append (config_of lists) kept (entry_at list i ∷ [])))
            (keeps_more net _ _ (config_of lists (entry_at list i)) (kept_config net lists distinct first (entry_at list i) keeps) h.1)),
      )

  -- it is left out
  pub leave_one : (kept : List Entry) → (KeptAt net (entry_at list i) → ⊥) → KeepsSoFar i kept → KeepsSoFar (i + 1) kept
  leave_one kept never h = (
    h.0,
    subst (λ (l : List LexerConfig). Keeps net l (configs_of lists kept)) (sym more)
        (leaves_more net _ _ (config_of lists (entry_at list i))
        (λ k. never (config_kept net lists distinct first (entry_at list i) is_known k)) h.1),
  )
