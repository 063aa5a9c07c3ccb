-- Words that `clap` accepts for the command line of `g4` are a command, where their files are few enough and their flags ask for one
-- output.
use Rattle.std.proofs.Common.{◌≡◌, ◌&&◌, ◌||◌, ℕ, Bool, cond, true, false, not, List, [], ◌∷◌, Option, Some, None, is_some, refl, sym, subst, codes, slice_index_or, arith}
use Rattle.std.specs.Prelude.{fold, option_map}
use Rattle.std.specs.Option.{option_map_or}
use Rattle.std.specs.Str.{bytes_eq}
use Rattle.clap.specs.Lexer.{long_of, short_of}
use Rattle.std.proofs.lemmas.Slice.Eq.{bytes_eq-Decides}
use Rattle.clap.specs.Walk.{Held, Names, Outcome, Row, Rule, Step, Text, Waiting, Walk, after_flag, after_step, arg_by_index, done, idle, long_or_other, next, nothing_held, option, plain, plain_word, positional, refused, rows_after, settled, short_or_plain, subcommand, subcommand_met, subcommand_or_other, to_positional, trailing, value, waits, walk, walk_from, walked, walked_from, word_met, finished}
use Rattle.clap.specs.Words.{first_of}
use Rattle.clap.specs.Simple.{App, Shape, built, entered, help_rule, names_of, rows_at, subcommand_of}
use Rattle.clap.specs.Takes.{is_given}
use Rattle.clap.specs.Kinds.{or_else}
use Rattle.clap.specs.Faults.{check_fault, defaults_fault, entered_fault, fault_of, level_fault, other_fault, settle_fault, step_fault, turn_fault, walk_fault, word_fault}
use Rattle.clap.specs.declared.error.kind.ErrorKind.TheVariants.{DisplayHelp, InvalidSubcommand, MissingRequiredArgument, MissingSubcommand}
use Rattle.g4_words.specs.App.{g4_app}
use Rattle.g4_words.specs.Commands.{HasFewFiles, HasFlagNames, HasNumbers, HasOneOutput, IsCommand}
use Rattle.g4_words.specs.declared.command.Command.{Command}
use Rattle.g4_words.specs.declared.command.Command.TheVariants as commands
use Rattle.g4_words.proofs.Outputs.{some_learned, some_output}
use Rattle.g4_words.proofs.Rows.{FillAll, fills_by_flag, fills_by_help, fills_by_values, first_none, given_has_value, second_none, some_fault}
use Rattle.g4_words.proofs.Walks.{level_filled}

-- ---- no walk without a fault stops at `help`

abbrev IsNoHelp : Step → Type 0
IsNoHelp (next waiting) = Unit {0}
IsNoHelp (trailing position) = Unit {0}
IsNoHelp (subcommand name) = codes "help" ≡ name → ⊥
IsNoHelp value = Unit {0}

abbrev StopsElsewhere : Option (Text × List Text) → Type 0
StopsElsewhere None = Unit {0}
StopsElsewhere (Some p) = codes "help" ≡ p.0 → ⊥

module _ (rules : List Rule) (waiting : Waiting) (word : Text) where
  plain_step : (w : Waiting) (h : Held) → IsNoHelp (plain_word rules w word h).1
  plain_step (option id) h = tt
  plain_step idle h = tt
  plain_step positional h = tt

  flag_step : (h : Held) (o : Outcome) → IsNoHelp (after_flag rules waiting word h o).1
  flag_step h done = tt
  flag_step h (waits id) = tt
  flag_step h plain = plain_step waiting h
  flag_step h refused = plain_step waiting h

  short_step : (o : Option Text) (h : Held) → IsNoHelp (short_or_plain rules waiting word o h).1
  short_step None h = plain_step waiting h
  short_step (Some text) h = flag_step _ _

  long_step : (o : Option (Text × Option Text)) (h : Held) → IsNoHelp (long_or_other rules waiting word o h).1
  long_step None h = short_step (short_of word) h
  long_step (Some p) h = flag_step _ _

  dashes_step : (b : Bool) (position : ℕ) (h : Held)
      → IsNoHelp (cond b (h, trailing position) (long_or_other rules waiting word (long_of word) h)).1
  dashes_step true position h = tt
  dashes_step false position h = long_step (long_of word) h

disabled : (d : Bool) → d ≡ false → cond (not d) (DisplayHelp ∷ InvalidSubcommand ∷ []) [] ≡ [] → ⊥
disabled true is none = cc
disabled false is none = some_fault DisplayHelp (InvalidSubcommand ∷ []) none

module _ (s : Shape) (enabled : s.disable_help_subcommand ≡ false) where
  by_name : (o : Option Text) (waiting : Waiting) (position : ℕ) (word : Text) (h : Held) → other_fault s o word h ≡ []
      → IsNoHelp (subcommand_or_other s.rules o waiting position word h).1
  by_name (Some name) waiting position word h none = λ is.
      disabled s.disable_help_subcommand enabled
      (subst (λ (n : Text). cond (bytes_eq n (codes "help") && not s.disable_help_subcommand) (DisplayHelp ∷ InvalidSubcommand ∷ [])
      [] ≡ []) (sym is) none)
  by_name None waiting position word h none = dashes_step s.rules waiting word (bytes_eq word (45 ∷ 45 ∷ [])) position h

  by_word : (b : Bool) (names : Names) (waiting : Waiting) (position : ℕ) (word : Text) (h : Held)
      → word_fault s names b waiting word h ≡ [] → IsNoHelp (word_met s.rules names b waiting position word h).1
  by_word true names waiting position word h none = tt
  by_word false names waiting position word h none = by_name (subcommand_met names waiting word) waiting position word h none

  in_place : (o : Option Rule) (word : Text) (w : Walk) (h : Held) → StopsElsewhere w.stopped
      → StopsElsewhere (to_positional s.rules o word w h).stopped
  in_place None word w h stop = stop
  in_place (Some a) word w h stop = tt

  by_step : (word : Text) (w : Walk) (h : Held) (step : Step) → IsNoHelp step → StopsElsewhere w.stopped
      → StopsElsewhere (after_step s.rules word w h step).stopped
  by_step word w h (next waiting) is stop = stop
  by_step word w h (trailing position) is stop = stop
  by_step word w h (subcommand name) is stop = is
  by_step word w h value is stop = in_place (arg_by_index s.rules w.position) word w h stop

  by_stop : (o : Option (Text × List Text)) (names : Names) (w : Walk) (word : Text)
      → cond (is_some o) [] (or_else (word_fault s names w.is_trailing w.waiting word w.held)
      (step_fault s w.position (word_met s.rules names w.is_trailing w.waiting w.position word w.held).0
      (word_met s.rules names w.is_trailing w.waiting w.position word w.held).1)) ≡ []
      → StopsElsewhere o → StopsElsewhere w.stopped → StopsElsewhere (walked_from s.rules names o w word).stopped
  by_stop (Some p) names w word none here stop = here
  by_stop None names w word none here stop =
      let met = word_met s.rules names w.is_trailing w.waiting w.position word w.held in
      by_step word w met.0 met.1 (by_word w.is_trailing names w.waiting w.position word w.held
      (first_none (word_fault s names w.is_trailing w.waiting word w.held) (step_fault s w.position met.0 met.1) none)) stop

  by_turn : (names : Names) (w : Walk) (word : Text) → turn_fault s names w word ≡ [] → StopsElsewhere w.stopped
      → StopsElsewhere (walked s.rules names w word).stopped
  unfolding walked
  by_turn names w word none stop = by_stop w.stopped names w word none stop stop

  stops_elsewhere : (names : Names) (w : Walk) (words : List Text) → walk_fault s names w words ≡ [] → StopsElsewhere w.stopped
      → StopsElsewhere (fold (walked s.rules names) w words).stopped
  unfolding walk_fault
  stops_elsewhere names w [] none stop = stop
  stops_elsewhere names w (word ∷ rest) none stop =
      stops_elsewhere names (walked s.rules names w word) rest
      (second_none (turn_fault s names w word) (walk_fault s names (walked s.rules names w word) rest) none)
      (by_turn names w word (first_none (turn_fault s names w word) (walk_fault s names (walked s.rules names w word) rest) none) stop)

-- ---- the commands of `g4`

abbrev app : App
app = built g4_app

abbrev top : Shape
top = app.top

abbrev command_at : ℕ → Shape
command_at i = slice_index_or app.subs i top

abbrev IsSomeCommand : List Text → Type 0
IsSomeCommand words = (command : Command) × IsCommand words command

-- of three needed arguments, of two, or of one, none is missing
three_given : (a b c : Bool) → cond (not a || (not b || (not c || false))) (MissingRequiredArgument ∷ []) [] ≡ []
    → (a ≡ true) × (b ≡ true) × (c ≡ true)
three_given true true true none = (refl, refl, refl)
three_given true true false none = absurd (some_fault MissingRequiredArgument [] none)
three_given true false c none = absurd (some_fault MissingRequiredArgument [] none)
three_given false b c none = absurd (some_fault MissingRequiredArgument [] none)

two_given : (a b : Bool) → cond (not a || (not b || false)) (MissingRequiredArgument ∷ []) [] ≡ [] → (a ≡ true) × (b ≡ true)
two_given true true none = (refl, refl)
two_given true false none = absurd (some_fault MissingRequiredArgument [] none)
two_given false b none = absurd (some_fault MissingRequiredArgument [] none)

one_given : (a : Bool) → cond (not a || false) (MissingRequiredArgument ∷ []) [] ≡ [] → a ≡ true
one_given true none = refl
one_given false none = absurd (some_fault MissingRequiredArgument [] none)

abbrev rule_of : ℕ → ℕ → Rule
rule_of i k = slice_index_or (command_at i).rules k help_rule

parse_fills : FillAll (command_at 0).rules
parse_fills = (
  fills_by_values (rule_of 0 0) refl,
  (
    fills_by_values (rule_of 0 1) refl,
    (
      fills_by_values (rule_of 0 2) refl,
      (
        fills_by_values (rule_of 0 3) refl,
        (
          fills_by_values (rule_of 0 4) refl,
          (
            fills_by_values (rule_of 0 5) refl,
            (
              fills_by_flag (rule_of 0 6) (omega arith),
              (
                fills_by_flag (rule_of 0 7) (omega arith),
                (
                  fills_by_flag (rule_of 0 8) (omega arith),
                  (fills_by_values (rule_of 0 9) refl, (fills_by_help (rule_of 0 10) refl, tt)),
                ),
              ),
            ),
          ),
        ),
      ),
    ),
  ),
)

check_fills : FillAll (command_at 1).rules
check_fills = (fills_by_values (rule_of 1 0) refl, (fills_by_values (rule_of 1 1) refl, (fills_by_help (rule_of 1 2) refl, tt)))

atn_fills : FillAll (command_at 2).rules
atn_fills = (
  fills_by_values (rule_of 2 0) refl,
  (fills_by_values (rule_of 2 1) refl, (fills_by_values (rule_of 2 2) refl, (fills_by_help (rule_of 2 3) refl, tt))),
)

-- the first of the commands whose name is met; the last is the request for help
abbrev met_command : Bool → Bool → Bool → Bool → Option Shape
met_command a b c d = cond a (Some (command_at 0))
    (cond b (Some (command_at 1)) (cond c (Some (command_at 2)) (cond d (Some (command_at 3)) None)))

or_false : (b : Bool) → (b || false) ≡ true → b ≡ true
or_false true is = refl
or_false false is = is

-- a command is needed
entered_one : (rows : List Row) (b : Bool) → check_fault top rows b ≡ [] → b ≡ true
entered_one rows true none = refl
entered_one rows false none = absurd (some_fault MissingSubcommand [] none)

module _ (words : List Text) (accepted : fault_of g4_app words ≡ []) (few : HasFewFiles words)
    (numbers : HasNumbers words) (names_of_flags : HasFlagNames words) (one : HasOneOutput words) where
  parse_of : (rest : List Text) → subcommand_of g4_app words ≡ Some (codes "parse", rows_after (command_at 0).rules [] rest)
      → level_fault (command_at 0) [] nothing_held rest false [] ≡ [] → IsSomeCommand words
  parse_of rest given none =
      let rows = rows_after (command_at 0).rules [] rest in
      let level = level_filled (command_at 0) parse_fills rest none in
      let there = three_given (is_given (codes "grammar") rows) (is_given (codes "start") rows) (is_given (codes "files") rows) level.1 in
      let grammar = given_has_value (codes "grammar") rows level.0 there.0 in
      let start = given_has_value (codes "start") rows level.0 there.1 in
      let files = given_has_value (codes "files") rows level.0 there.2 in
      let counts = numbers (codes "parse") rows given in
      let flags = names_of_flags (codes "parse") rows given in
      let output = some_output rows (λ a b. one (codes "parse") rows a b given) in
      let learned = some_learned rows output.0 (λ a b. one (codes "parse") rows a b given) output.1 in (
        commands.Parse (record {
          grammar = grammar.first;
          start = start.first;
          library = first_of (codes "library") rows;
          jobs = counts.0.0;
          rows = counts.1.0;
          flags = flags.0;
          output = output.0;
          learned = learned.0;
          files = files.first ∷ files.others;
        }),
        record {
          accepted = accepted;
          name = codes "parse";
          rows = rows;
          given = given;
          named = (
            refl,
            record {
              grammar = grammar.one;
              start = start.one;
              library = refl;
              jobs = counts.0.1;
              rows = counts.1.1;
              flags = flags.1;
              output = output.1;
              learned = learned.1;
              files = files.all;
              few = few (codes "parse") rows (files.first ∷ files.others) given files.all;
            },
          );
        },
      )

  check_of : (rest : List Text) → subcommand_of g4_app words ≡ Some (codes "check", rows_after (command_at 1).rules [] rest)
      → level_fault (command_at 1) [] nothing_held rest false [] ≡ [] → IsSomeCommand words
  check_of rest given none =
      let rows = rows_after (command_at 1).rules [] rest in
      let level = level_filled (command_at 1) check_fills rest none in
      let grammar = given_has_value (codes "grammar") rows level.0 (one_given (is_given (codes "grammar") rows) level.1) in (
        commands.Check (record { grammar = grammar.first; library = first_of (codes "library") rows }),
        record {
          accepted = accepted;
          name = codes "check";
          rows = rows;
          given = given;
          named = (refl, record { grammar = grammar.one; library = refl });
        },
      )

  atn_of : (rest : List Text) → subcommand_of g4_app words ≡ Some (codes "atn", rows_after (command_at 2).rules [] rest)
      → level_fault (command_at 2) [] nothing_held rest false [] ≡ [] → IsSomeCommand words
  atn_of rest given none =
      let rows = rows_after (command_at 2).rules [] rest in
      let level = level_filled (command_at 2) atn_fills rest none in
      let there = two_given (is_given (codes "grammar") rows) (is_given (codes "rule") rows) level.1 in
      let grammar = given_has_value (codes "grammar") rows level.0 there.0 in
      let rule = given_has_value (codes "rule") rows level.0 there.1 in (
        commands.Atn (record { grammar = grammar.first; rule = rule.first; library = first_of (codes "library") rows }),
        record {
          accepted = accepted;
          name = codes "atn";
          rows = rows;
          given = given;
          named = (refl, record { grammar = grammar.one; rule = rule.one; library = refl });
        },
      )

  by_names : (a b c d : Bool) (rest : List Text) → (d ≡ true → ⊥)
      → subcommand_of g4_app words ≡ option_map (λ s. rows_at s rest) (met_command a b c d)
      → is_some (option_map (λ s. rows_at s rest) (met_command a b c d)) ≡ true
      → option_map_or (λ s. level_fault s [] nothing_held rest false []) (met_command a b c d) [] ≡ []
      → IsSomeCommand words
  by_names true b c d rest no_help given some none = parse_of rest given none
  by_names false true c d rest no_help given some none = check_of rest given none
  by_names false false true d rest no_help given some none = atn_of rest given none
  by_names false false false true rest no_help given some none = absurd (no_help refl)
  by_names false false false false rest no_help given some none = cc

  by_entry : (stop : Option (Text × List Text)) → StopsElsewhere stop → subcommand_of g4_app words ≡ entered app stop
      → is_some (entered app stop) ≡ true → entered_fault app stop ≡ [] → IsSomeCommand words
  by_entry None elsewhere given some none = cc
  by_entry (Some p) elsewhere given some none =
      by_names (bytes_eq (codes "parse") p.0 || false) (bytes_eq (codes "check") p.0 || false) (bytes_eq (codes "atn") p.0 || false)
      (bytes_eq (codes "help") p.0 || false) p.1
      (λ is. elsewhere ((bytes_eq-Decides (codes "help") p.0).0 (or_false (bytes_eq (codes "help") p.0) is))) given some none

  pub some_command : IsSomeCommand words
  some_command =
      let names = names_of app in
      let end = (walk top.rules names nothing_held words).held in
      let stop = (walk top.rules names nothing_held words).stopped in
      let in_walk = walk_fault top names (walk_from nothing_held) words in
      let below = entered_fault app stop in
      let in_end = settle_fault top.rules top.args_override_self end in
      let in_defaults = defaults_fault (settled top.rules end).rows top.rules in
      let last = check_fault top (finished top.rules end) (is_some (entered app stop)) in
      let past_walk = second_none in_walk (or_else below (or_else in_end (or_else in_defaults last))) accepted in
      let past_below = second_none below (or_else in_end (or_else in_defaults last)) past_walk in
      let past_end = second_none in_end (or_else in_defaults last) past_below in
      let stopped = stops_elsewhere top refl names (walk_from nothing_held) words
      (first_none in_walk (or_else below (or_else in_end (or_else in_defaults last))) accepted) tt in
      let some = entered_one (finished top.rules end) (is_some (entered app stop)) (second_none in_defaults last past_end) in
      by_entry stop stopped refl some (first_none below (or_else in_end (or_else in_defaults last)) past_walk)
