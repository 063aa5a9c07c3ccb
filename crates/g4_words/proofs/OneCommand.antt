-- Words are at most one command.
use Rattle.std.proofs.Common.{◌≡◌, List, Option, Some, None, ap, arith, ◌∙◌, refl, subst, sym, true≢false}
use Rattle.std.specs.Prelude.{codes, true, false}
use Rattle.std.specs.Str.{bytes_eq}
use Rattle.clap.specs.Words.{Row, Text, all_of, first_of, subcommand_of}
use Rattle.g4_words.specs.App.{g4_app}
use Rattle.g4_words.specs.Commands.{AreGiven, IsAtn, IsCheck, IsCommand, IsNamed, IsParse}
use Rattle.g4_words.specs.declared.command.Atn.{Atn}
use Rattle.g4_words.specs.declared.command.Check.{Check}
use Rattle.g4_words.specs.declared.command.Command.{Command}
use Rattle.g4_words.specs.declared.command.Command.TheVariants as commands
use Rattle.g4_words.specs.declared.command.Parse.{Parse}
use Rattle.g4_words.specs.declared.command.TheConstants.{DEFAULT_JOBS, DEFAULT_ROWS, MOST_JOBS, MOST_ROWS}
use Rattle.g4_words.proofs.Numbers.{one_number}
use Rattle.g4_words.proofs.Outputs.{one_learned, one_output}

-- a value that is given is one
one_value : {X : Type 0} (given : Option X) (a b : X) → given ≡ Some a → given ≡ Some b → a ≡ b
one_value given a b p q = cc

-- the flags that an option gives are one list
one_given : (given : Option Text) (a b : List Text) → AreGiven given a → AreGiven given b → a ≡ b
one_given None a b p q = p ∙ sym q
one_given (Some text) a b p q = p.0 ∙ sym q.0

-- parses with the same fields are the same
same_parse : (a b : Parse) → a.grammar ≡ b.grammar → a.start ≡ b.start → a.library ≡ b.library → a.jobs ≡ b.jobs
    → a.rows ≡ b.rows → a.flags ≡ b.flags → a.output ≡ b.output
    → a.learned ≡ b.learned → a.files ≡ b.files → a ≡ b
same_parse a b grammar start library jobs rows flags output learned files = λ i. record {
  grammar = grammar i;
  start = start i;
  library = library i;
  jobs = jobs i;
  rows = rows i;
  flags = flags i;
  output = output i;
  learned = learned i;
  files = files i;
}

-- values are those of at most one `parse`, of at most one `check`, and of at most one `atn`
one_parse : (values : List Row) (a b : Parse) → IsParse values a → IsParse values b → a ≡ b
one_parse values a b p q =
    let output = one_output values a.output b.output p.output q.output in
    same_parse a b (one_value (first_of (codes "grammar") values) a.grammar b.grammar p.grammar q.grammar)
    (one_value (first_of (codes "start") values) a.start b.start p.start q.start) (p.library ∙ sym q.library)
    (one_number (first_of (codes "jobs") values) DEFAULT_JOBS MOST_JOBS a.jobs b.jobs (omega arith) p.jobs q.jobs)
    (one_number (first_of (codes "rows") values) DEFAULT_ROWS MOST_ROWS a.rows b.rows (omega arith) p.rows q.rows)
    (one_given (first_of (codes "flags") values) a.flags b.flags p.flags q.flags) output
    (one_learned values a.output b.output a.learned b.learned p.learned q.learned)
    (one_value (all_of (codes "files") values) a.files b.files p.files q.files)

one_check : (rows : List Row) (a b : Check) → IsCheck rows a → IsCheck rows b → a ≡ b
one_check rows a b p q =
    ap (λ (t : Text). record { grammar = t; library = a.library })
    (one_value (first_of (codes "grammar") rows) a.grammar b.grammar p.grammar q.grammar)
    ∙ ap (λ (l : Option Text). record { grammar = b.grammar; library = l }) (p.library ∙ sym q.library)

one_atn : (rows : List Row) (a b : Atn) → IsAtn rows a → IsAtn rows b → a ≡ b
one_atn rows a b p q =
    ap (λ (t : Text). record { grammar = t; rule = a.rule; library = a.library })
    (one_value (first_of (codes "grammar") rows) a.grammar b.grammar p.grammar q.grammar)
    ∙ (ap (λ (t : Text). record { grammar = b.grammar; rule = t; library = a.library })
    (one_value (first_of (codes "rule") rows) a.rule b.rule p.rule q.rule)
    ∙ ap (λ (l : Option Text). record { grammar = b.grammar; rule = b.rule; library = l }) (p.library ∙ sym q.library))

-- no name is that of two commands
apart : (one other : Text) → bytes_eq one one ≡ true → bytes_eq one other ≡ false → one ≡ other → ⊥
apart one other itself not_other same = true≢false (sym itself ∙ ap (bytes_eq one) same ∙ not_other)

parse_is_not_check : codes "parse" ≡ codes "check" → ⊥
parse_is_not_check = apart (codes "parse") (codes "check") refl refl

parse_is_not_atn : codes "parse" ≡ codes "atn" → ⊥
parse_is_not_atn = apart (codes "parse") (codes "atn") refl refl

check_is_not_atn : codes "check" ≡ codes "atn" → ⊥
check_is_not_atn = apart (codes "check") (codes "atn") refl refl

-- a name and values are at most one command
one_named : (name : Text) (rows : List Row) (a b : Command) → IsNamed name rows a → IsNamed name rows b → a ≡ b
one_named name rows (commands.Parse a) (commands.Parse b) p q = ap commands.Parse (one_parse rows a b p.1 q.1)
one_named name rows (commands.Parse a) (commands.Check b) p q = absurd (parse_is_not_check (sym p.0 ∙ q.0))
one_named name rows (commands.Parse a) (commands.Atn b) p q = absurd (parse_is_not_atn (sym p.0 ∙ q.0))
one_named name rows (commands.Check a) (commands.Parse b) p q = absurd (parse_is_not_check (sym q.0 ∙ p.0))
one_named name rows (commands.Check a) (commands.Check b) p q = ap commands.Check (one_check rows a b p.1 q.1)
one_named name rows (commands.Check a) (commands.Atn b) p q = absurd (check_is_not_atn (sym p.0 ∙ q.0))
one_named name rows (commands.Atn a) (commands.Parse b) p q = absurd (parse_is_not_atn (sym q.0 ∙ p.0))
one_named name rows (commands.Atn a) (commands.Check b) p q = absurd (check_is_not_atn (sym q.0 ∙ p.0))
one_named name rows (commands.Atn a) (commands.Atn b) p q = ap commands.Atn (one_atn rows a b p.1 q.1)

pub one_command : (words : List Text) (a b : Command) → IsCommand words a → IsCommand words b → a ≡ b
one_command words a b p q =
    let same = one_value (subcommand_of g4_app words) (p.name, p.rows) (q.name, q.rows) p.given q.given in
    one_named p.name p.rows a b p.named
    (subst (λ (rows : List Row). IsNamed p.name rows b) (sym (ap (λ (pair : Text × List Row). pair.1) same))
    (subst (λ (name : Text). IsNamed name q.rows b) (sym (ap (λ (pair : Text × List Row). pair.0) same)) q.named))
