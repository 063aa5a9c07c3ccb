-- Rows of which each has a value: what keeps them so.
use Rattle.std.proofs.Common.{◌≡◌, ◌<◌, Bool, cond, true, false, List, [], ◌∷◌, ◌++◌, length, Option, Some, None, refl, subst, sym, arith}
use Rattle.std.specs.Prelude.{find, fold, slice_get, option_and_then, option_map}
use Rattle.std.specs.Option.{option_map_or}
use Rattle.std.specs.Str.{bytes_eq}
use Rattle.clap.specs.Facts.{explicit_source, unwrap_or_range}
use Rattle.clap.specs.Walk.{Row, Rule, Text, action_of, all_of, at_row, counted, default_rows, first_of, has_row, more_values, most_values, reading_by, used, used_as, values_or_missing, with_default, with_values, without}
use Rattle.clap.specs.Takes.{is_given}
use Rattle.clap.specs.Kinds.{Kinds, or_else, range_kinds}
use Rattle.clap.specs.Faults.{action_fault, use_fault}
use Rattle.clap.specs.declared.builder.action.ArgAction.{ArgAction}
use Rattle.clap.specs.declared.builder.action.ArgAction.TheVariants.{Append, Count, Help, HelpLong, HelpShort, Set, SetFalse, SetTrue, Version}
use Rattle.clap.specs.declared.builder.value_parser.Reading.{Reading}
use Rattle.clap.specs.declared.error.kind.ErrorKind.{ErrorKind}
use Rattle.clap.specs.declared.error.kind.ErrorKind.TheVariants.{InvalidValue}
use Rattle.clap.specs.declared.parser.matches.ValueSource.{ValueSource}
use Rattle.clap.specs.declared.parser.matches.ValueSource.TheVariants.{CommandLine, DefaultValue}

-- each row has a value
abbrev pub Filled : List Row → Type 0
Filled [] = Unit {0}
Filled (row ∷ rows) = (0 < length row.values) × Filled rows

-- the rows stay so after a use of the argument without a fault
abbrev pub Fills : Rule → Type 0
Fills rule = (again : Bool) (values : List Text) (rows : List Row) → use_fault again rule values rows ≡ [] → Filled rows
    → Filled (used rule values rows)

abbrev pub FillAll : List Rule → Type 0
FillAll [] = Unit {0}
FillAll (rule ∷ rules) = Fills rule × FillAll rules

abbrev pub FillsIfFound : Option Rule → Type 0
FillsIfFound None = Unit {0}
FillsIfFound (Some rule) = Fills rule

-- ---- faults

-- where the first or the second has no fault, neither has
pub first_none : (a b : Kinds) → or_else a b ≡ [] → a ≡ []
first_none [] b none = refl
first_none (k ∷ ks) b none = none

pub second_none : (a b : Kinds) → or_else a b ≡ [] → b ≡ []
second_none [] b none = none
second_none (k ∷ ks) b none = cc

pub some_fault : (k : ErrorKind) (ks : Kinds) → k ∷ ks ≡ [] → ⊥
some_fault k ks none = cc

-- ---- rows

filled-append : (xs ys : List Row) → Filled xs → Filled ys → Filled (xs ++ ys)
filled-append [] ys h k = k
filled-append (x ∷ xs) ys h k = (h.0, filled-append xs ys h.1 k)

either : (b : Bool) (xs ys : List Row) → Filled xs → Filled ys → Filled (cond b xs ys)
either true xs ys h k = h
either false xs ys h k = k

filled-at_row : (id : Text) (change : Row → List Row) (missing rows : List Row)
    → ((r : Row) → 0 < length r.values → Filled (change r)) → Filled missing → Filled rows → Filled (at_row id change missing rows)
filled-at_row id change missing [] made new h = new
filled-at_row id change missing (r ∷ rs) made new h =
    either (bytes_eq r.id id) (change r ++ rs) (r ∷ at_row id change missing rs) (filled-append (change r) rs (made r h.0) h.1)
    (h.0, filled-at_row id change missing rs made new h.1)

filled-without : (id : Text) (rows : List Row) → Filled rows → Filled (without id rows)
filled-without id rows h = filled-at_row id (λ r. []) [] rows (λ r k. tt) tt h

more_than_none : (xs ys : List Text) → 0 < length ys → 0 < length (xs ++ ys)
more_than_none [] ys h = h
more_than_none (x ∷ xs) ys h = omega arith

filled-with_values : (id : Text) (how : Reading) (source : ValueSource) (values : List Text) (rows : List Row) → 0 < length values
    → Filled rows → Filled (with_values id how source values rows)
filled-with_values id how source values rows some h =
    filled-at_row id (more_values source values)
    (record { id = id; values = values; count = None; source = Some source; reading = how } ∷ []) rows
    (λ r k. (more_than_none r.values values some, tt)) (some, tt) h

filled-set : (id : Text) (how : Reading) (values : List Text) (rows : List Row) → 0 < length values → Filled rows
    → Filled (with_values id how CommandLine values (without id rows))
filled-set id how values rows some h = filled-with_values id how CommandLine values (without id rows) some (filled-without id rows h)

filled-counted : (id : Text) (how : Reading) (values : List Text) (rows : List Row) → 0 < length values → Filled rows
    → Filled (counted id how values rows)
filled-counted id how [] rows some h = absurd (omega arith)
filled-counted id how (v ∷ vs) rows some h = filled-set id how (v ∷ vs) rows some h

filled-used_as : (action : ArgAction) (id : Text) (how : Reading) (values : List Text) (rows : List Row) → 0 < length values
    → Filled rows → Filled (used_as action id how values rows)
filled-used_as Set id how values rows some h = filled-set id how values rows some h
filled-used_as SetTrue id how values rows some h = filled-set id how values rows some h
filled-used_as SetFalse id how values rows some h = filled-set id how values rows some h
filled-used_as Append id how values rows some h = filled-with_values id how CommandLine values rows some h
filled-used_as Count id how values rows some h = filled-counted id how values rows some h
filled-used_as Help id how values rows some h = h
filled-used_as HelpShort id how values rows some h = h
filled-used_as HelpLong id how values rows some h = h
filled-used_as Version id how values rows some h = h

-- ---- uses

-- an argument whose uses have a value
pub fills_by_values : (rule : Rule) → (unwrap_or_range rule.range).start_inclusive ≡ 1 → Fills rule
fills_by_values rule one again [] rows none h =
    absurd (some_fault InvalidValue [] (subst (λ n.
    or_else (range_kinds n (most_values rule) 0) (action_fault (action_of rule) again rule (values_or_missing rule []) rows) ≡ [])
    one none))
fills_by_values rule one again (v ∷ vs) rows none h =
    filled-used_as (action_of rule) rule.id (reading_by rule) (v ∷ vs) rows (omega arith) h

-- a flag, which has a value of its own
pub fills_by_flag : (rule : Rule) → 0 < length rule.missing → Fills rule
fills_by_flag rule some again [] rows none h = filled-used_as (action_of rule) rule.id (reading_by rule) rule.missing rows some h
fills_by_flag rule some again (v ∷ vs) rows none h = filled-used_as (action_of rule) rule.id (reading_by rule) (v ∷ vs) rows (omega arith) h

-- an argument that asks for help
pub fills_by_help : (rule : Rule) → action_of rule ≡ Help → Fills rule
fills_by_help rule is again values rows none h =
    subst (λ (x : ArgAction). Filled (used_as x rule.id (reading_by rule) (values_or_missing rule values) rows)) (sym is) h

either_rule : (b : Bool) (rule : Rule) (other : Option Rule) → Fills rule → FillsIfFound other → FillsIfFound (cond b (Some rule) other)
either_rule true rule other h k = h
either_rule false rule other h k = k

pub fills-find : (test : Rule → Bool) (rules : List Rule) → FillAll rules → FillsIfFound (find test rules)
fills-find test [] all = tt
fills-find test (rule ∷ rules) all = either_rule (test rule) rule (find test rules) all.0 (fills-find test rules all.1)

-- ---- defaults

filled-default_rows : (id : Text) (how : Reading) (values : List Text) (rows : List Row) → Filled rows
    → Filled (default_rows id how values rows)
filled-default_rows id how [] rows h = h
filled-default_rows id how (v ∷ vs) rows h = filled-with_values id how DefaultValue (v ∷ vs) rows (omega arith) h

pub filled-with_defaults : (rules : List Rule) (rows : List Row) → Filled rows → Filled (fold with_default rows rules)
filled-with_defaults [] rows h = h
filled-with_defaults (rule ∷ rules) rows h =
    filled-with_defaults rules (with_default rows rule)
    (either (has_row rule.id rows) rows (default_rows rule.id (reading_by rule) rule.defaults rows) h
    (filled-default_rows rule.id (reading_by rule) rule.defaults rows h))

-- ---- what is given has a value

abbrev HasValueIfFound : Option Row → Type 0
HasValueIfFound None = Unit {0}
HasValueIfFound (Some row) = 0 < length row.values

either_row : (b : Bool) (row : Row) (other : Option Row) → 0 < length row.values → HasValueIfFound other
    → HasValueIfFound (cond b (Some row) other)
either_row true row other h k = h
either_row false row other h k = k

found_has_value : (test : Row → Bool) (rows : List Row) → Filled rows → HasValueIfFound (find test rows)
found_has_value test [] h = tt
found_has_value test (r ∷ rs) h = either_row (test r) r (find test rs) h.0 (found_has_value test rs h.1)

-- the values of an argument
pub record IsGiven (id : Text) (rows : List Row) : Type 0 where
  pub first : Text
  pub others : List Text
  pub one : first_of id rows ≡ Some first
  pub all : all_of id rows ≡ Some (first ∷ others)

-- an option's row is one that has values
module _ (id : Text) (rows : List Row) where
  of_values : (values : List Text) → 0 < length values → first_of id rows ≡ slice_get values 0 → all_of id rows ≡ Some values
      → IsGiven id rows
  of_values [] some one all = absurd (omega arith)
  of_values (v ∷ vs) some one all = record { first = v; others = vs; one = one; all = all }

  of_row : (o : Option Row) → o ≡ find (λ r. bytes_eq r.id id) rows → HasValueIfFound o
      → option_map_or (λ r. explicit_source r.source) o false ≡ true → IsGiven id rows
  of_row None is has given = cc
  of_row (Some row) is has given = of_values row.values has
      (subst (λ (x : Option Row). option_and_then (λ r. slice_get r.values 0) x ≡ slice_get row.values 0) is refl)
      (subst (λ (x : Option Row). option_map (λ r. r.values) x ≡ Some row.values) is refl)

-- where each row has a value, an argument that is given has one
pub given_has_value : (id : Text) (rows : List Row) → Filled rows → is_given id rows ≡ true → IsGiven id rows
given_has_value id rows h given = of_row id rows (find (λ r. bytes_eq r.id id) rows) refl
    (found_has_value (λ r. bytes_eq r.id id) rows h) given
