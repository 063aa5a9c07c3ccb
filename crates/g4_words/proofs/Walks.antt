-- Where `clap` finds no fault in the words of a subcommand, each row of its matches has a value.
use Rattle.std.proofs.Common.{◌≡◌, ◌&&◌, ℕ, Bool, cond, true, false, zero, suc, List, [], ◌∷◌, length, Option, Some, None, is_some}
use Rattle.std.specs.Prelude.{encode_utf8, drop, fold, slice_get}
use Rattle.std.specs.Option.{option_map_or}
use Rattle.std.specs.Str.{bytes_eq, chars}
use Rattle.clap.specs.Lexer.{long_of, short_of}
use Rattle.clap.specs.Walk.{Held, Names, Outcome, Rule, Step, Text, Waiting, Walk, after_flag, after_step, arg_by_id, arg_by_index, arg_by_long, arg_by_short, attached_value, bundle_met, bundle_step, done, flag_met, idle, is_pending, long_met, long_or_other, next, nothing_held, option, option_met, option_word, plain, plain_word, positional, reacted, refused, rows_after, settled, settled_rows, short_met, short_or_plain, subcommand, subcommand_met, subcommand_or_other, takes_several, takes_values, to_positional, trailing, used, used_by_id, value, waits, walk, walk_from, walked, walked_from, word_met}
use Rattle.clap.specs.Simple.{Shape}
use Rattle.clap.specs.Kinds.{Kinds, or_else}
use Rattle.clap.specs.Faults.{bundle_step_fault, check_fault, defaults_fault, flag_word_fault, flags_fault, level_fault, long_fault, option_fault, other_fault, positional_fault, react_fault, settle_fault, short_fault, step_fault, stray_fault, turn_fault, use_fault, walk_fault, word_fault}
use Rattle.clap.specs.declared.error.kind.ErrorKind.TheVariants.{TooManyValues}
use Rattle.g4_words.proofs.Rows.{FillAll, Filled, Fills, FillsIfFound, filled-with_defaults, fills-find, first_none, second_none}

-- ---- the words of a level, by its arguments

module _ (rules : List Rule) (again : Bool) (all : FillAll rules) where
  by_id : (o : Option Rule) (values : List Text) (h : Held) → FillsIfFound o
      → option_map_or (λ a. use_fault again a values h.rows) o [] ≡ [] → Filled h.rows → Filled (used_by_id o values h.rows)
  by_id None values h fills none filled = filled
  by_id (Some rule) values h fills none filled = fills again values h.rows none filled

  by_pending : (p : Option (Text × List Text)) (h : Held)
      → option_map_or (λ p. option_map_or (λ a. use_fault again a p.1 h.rows) (arg_by_id rules p.0) []) p [] ≡ [] → Filled h.rows
      → Filled (settled_rows rules p h.rows)
  by_pending None h none filled = filled
  by_pending (Some p) h none filled = by_id (arg_by_id rules p.0) p.1 h (fills-find (λ a. bytes_eq a.id p.0) rules all) none filled

  pub after_settling : (h : Held) → settle_fault rules again h ≡ [] → Filled h.rows → Filled (settled rules h).rows
  after_settling h none filled = by_pending h.pending h none filled

  after_use : (rule : Rule) (values : List Text) (h : Held) → Fills rule → react_fault rules again rule values h ≡ [] → Filled h.rows
      → Filled (used rule values (settled rules h).rows)
  after_use rule values h fills none filled =
      fills again values (settled rules h).rows (second_none (settle_fault rules again h)
      (use_fault again rule values (settled rules h).rows) none)
      (after_settling h (first_none (settle_fault rules again h) (use_fault again rule values (settled rules h).rows) none) filled)

  after_option : (rule : Rule) (v : Option Text) (h : Held) → Fills rule → option_fault rules again rule v h ≡ [] → Filled h.rows
      → Filled (option_met rules rule v h).0.rows
  after_option rule (Some v) h fills none filled = after_use rule (v ∷ []) h fills none filled
  after_option rule None h fills none filled = after_settling h none filled

  after_plain_flag : (rule : Rule) (v : Option Text) (h : Held) → Fills rule
      → cond (is_some v) (TooManyValues ∷ []) (react_fault rules again rule [] h) ≡ [] → Filled h.rows
      → Filled (flag_met rules rule v h).0.rows
  after_plain_flag rule (Some v) h fills none filled = filled
  after_plain_flag rule None h fills none filled = after_use rule [] h fills none filled

  by_kind : (b : Bool) (rule : Rule) (v : Option Text) (h : Held) → Fills rule
      → cond b (option_fault rules again rule v h) (cond (is_some v) (TooManyValues ∷ []) (react_fault rules again rule [] h)) ≡ []
      → Filled h.rows
      → Filled (cond b (option_met rules rule v h) (flag_met rules rule v h)).0.rows
  by_kind true rule v h fills none filled = after_option rule v h fills none filled
  by_kind false rule v h fills none filled = after_plain_flag rule v h fills none filled

  after_long : (o : Option Rule) (v : Option Text) (h : Held) → FillsIfFound o → long_fault rules again o v h ≡ [] → Filled h.rows
      → Filled (long_met rules o v h).0.rows
  after_long None v h fills none filled = filled
  after_long (Some rule) v h fills none filled = by_kind (takes_values rule) rule v h fills none filled

  -- what comes after the letters so far keeps the rows filled
  abbrev Keeps : (Held → Held × Outcome) → (Held → Kinds) → Type 0
  Keeps met fault = (g : Held) → fault g ≡ [] → Filled g.rows → Filled (met g).0.rows

  by_letter : (b : Bool) (rule : Rule) (rest : Text) (h : Held) (met : Held → Held × Outcome) (fault : Held → Kinds) → Keeps met fault
      → Fills rule
      → cond b (option_fault rules again rule (attached_value rest) h)
      (or_else (react_fault rules again rule [] h) (fault (reacted rules rule [] h))) ≡ [] → Filled h.rows
      → Filled (cond b (option_met rules rule (attached_value rest) h) (met (reacted rules rule [] h))).0.rows
  by_letter true rule rest h met fault keeps fills none filled = after_option rule (attached_value rest) h fills none filled
  by_letter false rule rest h met fault keeps fills none filled =
      keeps (reacted rules rule [] h) (second_none (react_fault rules again rule [] h) (fault (reacted rules rule [] h)) none)
      (after_use rule [] h fills (first_none (react_fault rules again rule [] h) (fault (reacted rules rule [] h)) none) filled)

  after_short : (o : Option Rule) (rest : Text) (h : Held) (met : Held → Held × Outcome) (fault : Held → Kinds) → Keeps met fault
      → FillsIfFound o
      → short_fault rules again o rest h fault ≡ [] → Filled h.rows → Filled (short_met rules o rest h met).0.rows
  after_short None rest h met fault keeps fills none filled = filled
  after_short (Some rule) rest h met fault keeps fills none filled =
      by_letter (takes_values rule) rule rest h met fault keeps fills none filled

  after_letter : (met : Text → ℕ → Outcome → Held → Held × Outcome) (fault : Text → ℕ → Held → Kinds)
      → ((text : Text) (skip : ℕ) (so_far : Outcome) → Keeps (met text skip so_far) (fault text skip))
      → (o : Option ℕ) (text : Text) (skip : ℕ) (so_far : Outcome) (h : Held) → bundle_step_fault rules again o text skip h fault ≡ []
      → Filled h.rows
      → Filled (bundle_step rules o text skip so_far h met).0.rows
  after_letter met fault keeps None text skip so_far h none filled = filled
  after_letter met fault keeps (Some x) text zero so_far h none filled =
      after_short (arg_by_short rules x) (drop (length (encode_utf8 x)) text) h (met (drop (length (encode_utf8 x)) text) 0 done)
      (fault (drop (length (encode_utf8 x)) text) 0)
      (keeps (drop (length (encode_utf8 x)) text) 0 done) (fills-find _ rules all) none filled
  after_letter met fault keeps (Some x) text (suc skip) so_far h none filled =
      keeps (drop (length (encode_utf8 x)) text) skip so_far h none filled

  after_letters : (k : ℕ) (text : Text) (skip : ℕ) (so_far : Outcome) (h : Held) → flags_fault rules again k text skip h ≡ []
      → Filled h.rows → Filled (bundle_met rules k text skip so_far h).0.rows
  unfolding flags_fault bundle_met
  after_letters zero text skip so_far h none filled = filled
  after_letters (suc k) text skip so_far h none filled =
      after_letter (bundle_met rules k) (flags_fault rules again k) (λ t s o g n f. after_letters k t s o g n f)
      (slice_get (chars text) 0) text skip so_far h none filled

  after_value : (o : Option Rule) (id word : Text) (h : Held) → Filled h.rows → Filled (option_word o id word h).0.rows
  after_value None id word h filled = filled
  after_value (Some rule) id word h filled = filled

  after_plain : (waiting : Waiting) (word : Text) (h : Held) → Filled h.rows → Filled (plain_word rules waiting word h).0.rows
  after_plain (option id) word h filled = after_value (arg_by_id rules id) id word h filled
  after_plain idle word h filled = filled
  after_plain positional word h filled = filled

  by_outcome : (waiting : Waiting) (word : Text) (h : Held) (o : Outcome) → Filled h.rows
      → Filled (after_flag rules waiting word h o).0.rows
  by_outcome waiting word h done filled = filled
  by_outcome waiting word h (waits id) filled = filled
  by_outcome waiting word h plain filled = after_plain waiting word h filled
  by_outcome waiting word h refused filled = after_plain waiting word h filled

  by_short : (o : Option Text) (waiting : Waiting) (word : Text) (h : Held)
      → option_map_or (λ text. flags_fault rules again (length text) text h.skip (record h { skip = 0 })) o [] ≡ [] → Filled h.rows
      → Filled (short_or_plain rules waiting word o h).0.rows
  by_short None waiting word h none filled = after_plain waiting word h filled
  by_short (Some text) waiting word h none filled =
      by_outcome waiting word (bundle_met rules (length text) text h.skip plain (record h { skip = 0 })).0
      (bundle_met rules (length text) text h.skip plain (record h { skip = 0 })).1
      (after_letters (length text) text h.skip plain (record h { skip = 0 }) none filled)

  after_other : (o : Option (Text × Option Text)) (waiting : Waiting) (word : Text) (h : Held)
      → flag_word_fault rules again o word h ≡ [] → Filled h.rows → Filled (long_or_other rules waiting word o h).0.rows
  after_other (Some p) waiting word h none filled =
      by_outcome waiting word (long_met rules (arg_by_long rules p.0) p.1 h).0 (long_met rules (arg_by_long rules p.0) p.1 h).1
      (after_long (arg_by_long rules p.0) p.1 h (fills-find _ rules all) none filled)
  after_other None waiting word h none filled = by_short (short_of word) waiting word h none filled

  by_dashes : (b : Bool) (waiting : Waiting) (position : ℕ) (word : Text) (h : Held)
      → cond b [] (flag_word_fault rules again (long_of word) word h) ≡ [] → Filled h.rows
      → Filled (cond b (h, trailing position) (long_or_other rules waiting word (long_of word) h)).0.rows
  by_dashes true waiting position word h none filled = filled
  by_dashes false waiting position word h none filled = after_other (long_of word) waiting word h none filled

  by_place : (b : Bool) (h : Held) → cond b [] (settle_fault rules again h) ≡ [] → Filled h.rows → Filled (cond b h (settled rules h)).rows
  by_place true h none filled = filled
  by_place false h none filled = after_settling h none filled

-- ---- the walk over the words of a level

module _ (s : Shape) (all : FillAll s.rules) where
  by_name : (o : Option Text) (waiting : Waiting) (position : ℕ) (word : Text) (h : Held) → other_fault s o word h ≡ []
      → Filled h.rows → Filled (subcommand_or_other s.rules o waiting position word h).0.rows
  by_name (Some name) waiting position word h none filled = filled
  by_name None waiting position word h none filled =
      by_dashes s.rules s.args_override_self all (bytes_eq word (45 ∷ 45 ∷ [])) waiting position word h none filled

  after_word : (b : Bool) (names : Names) (waiting : Waiting) (position : ℕ) (word : Text) (h : Held)
      → word_fault s names b waiting word h ≡ [] → Filled h.rows
      → Filled (word_met s.rules names b waiting position word h).0.rows
  after_word true names waiting position word h none filled = filled
  after_word false names waiting position word h none filled =
      by_name (subcommand_met names waiting word) waiting position word h none filled

  in_place : (o : Option Rule) (word : Text) (w : Walk) (h : Held)
      → option_map_or (λ a. positional_fault s.rules s.args_override_self a h) o (stray_fault s) ≡ [] → Filled h.rows
      → Filled (to_positional s.rules o word w h).held.rows
  in_place None word w h none filled = filled
  in_place (Some a) word w h none filled = by_place s.rules s.args_override_self all (is_pending a h.pending && takes_several a) h
      none filled

  by_step : (word : Text) (w : Walk) (h : Held) (step : Step) → step_fault s w.position h step ≡ [] → Filled h.rows
      → Filled (after_step s.rules word w h step).held.rows
  by_step word w h (next waiting) none filled = filled
  by_step word w h (trailing position) none filled = filled
  by_step word w h (subcommand name) none filled = filled
  by_step word w h value none filled = in_place (arg_by_index s.rules w.position) word w h none filled

  by_stop : (o : Option (Text × List Text)) (names : Names) (w : Walk) (word : Text)
      → cond (is_some o) [] (or_else (word_fault s names w.is_trailing w.waiting word w.held)
      (step_fault s w.position (word_met s.rules names w.is_trailing w.waiting w.position word w.held).0
      (word_met s.rules names w.is_trailing w.waiting w.position word w.held).1)) ≡ []
      → Filled w.held.rows → Filled (walked_from s.rules names o w word).held.rows
  by_stop (Some p) names w word none filled = filled
  by_stop None names w word none filled =
      let h = (word_met s.rules names w.is_trailing w.waiting w.position word w.held).0 in
      let step = (word_met s.rules names w.is_trailing w.waiting w.position word w.held).1 in
      let word_none = first_none (word_fault s names w.is_trailing w.waiting word w.held) (step_fault s w.position h step) none in
      let step_none = second_none (word_fault s names w.is_trailing w.waiting word w.held) (step_fault s w.position h step) none in
      by_step word w h step step_none (after_word w.is_trailing names w.waiting w.position word w.held word_none filled)

  after_turn : (names : Names) (w : Walk) (word : Text) → turn_fault s names w word ≡ [] → Filled w.held.rows
      → Filled (walked s.rules names w word).held.rows
  unfolding walked
  after_turn names w word none filled = by_stop w.stopped names w word none filled

  after_words : (names : Names) (w : Walk) (words : List Text) → walk_fault s names w words ≡ [] → Filled w.held.rows
      → Filled (fold (walked s.rules names) w words).held.rows
  unfolding walk_fault
  after_words names w [] none filled = filled
  after_words names w (word ∷ rest) none filled =
      after_words names (walked s.rules names w word) rest
      (second_none (turn_fault s names w word) (walk_fault s names (walked s.rules names w word) rest) none)
      (after_turn names w word (first_none (turn_fault s names w word) (walk_fault s names (walked s.rules names w word) rest) none) filled)

  -- a subcommand's words without a fault: each row has a value, and what is needed is given
  pub level_filled : (words : List Text) → level_fault s [] nothing_held words false [] ≡ []
      → Filled (rows_after s.rules [] words) × (check_fault s (rows_after s.rules [] words) false ≡ [])
  level_filled words none =
      let end = (walk s.rules [] nothing_held words).held in
      let walk_none = walk_fault s [] (walk_from nothing_held) words in
      let settle_none = settle_fault s.rules s.args_override_self end in
      let defaults_none = defaults_fault (settled s.rules end).rows s.rules in
      let last = check_fault s (rows_after s.rules [] words) false in
      let after_walk = second_none walk_none (or_else settle_none (or_else defaults_none last)) none in
      let walked_filled : Filled end.rows = after_words [] (walk_from nothing_held) words
      (first_none walk_none (or_else settle_none (or_else defaults_none last)) none) tt in
      let settled_filled : Filled (settled s.rules end).rows =
      after_settling s.rules s.args_override_self all end (first_none settle_none (or_else defaults_none last) after_walk)
      walked_filled in (
        filled-with_defaults s.rules (settled s.rules end).rows settled_filled,
        second_none defaults_none last (second_none settle_none (or_else defaults_none last) after_walk),
      )
