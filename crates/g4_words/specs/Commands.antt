-- Which words are a command.
use Rattle.std.specs.Prelude.{◌≡◌, ◌≢◌, ◌≤◌, ◌<◌, ◌^◌, ◌⊎◌, ◌↔◌, ◌==◌, ◌&&◌, ◌||◌, ℕ, Bool, true, not, List, [], Option, Result, Ok, Err, Some, None, codes, decimal, length}
use Rattle.std.specs.Char.{is_ascii_alphanumeric}
use Rattle.std.specs.List.{list_all, slice_split}
use Rattle.clap.specs.Words.{Row, Text, all_of, fault_of, first_of, one_of, subcommand_of, subcommand_rows_of}
use Rattle.clap.specs.declared.parser.matches.ArgMatches.{ArgMatches}
use Rattle.g4_words.specs.App.{g4_app}
use Rattle.g4_words.specs.declared.command.Atn.{Atn}
use Rattle.g4_words.specs.declared.command.Check.{Check}
use Rattle.g4_words.specs.declared.command.Command.{Command}
use Rattle.g4_words.specs.declared.command.Command.TheVariants as commands
use Rattle.g4_words.specs.declared.command.Output.{Output}
use Rattle.g4_words.specs.declared.command.Output.TheVariants as outputs
use Rattle.g4_words.specs.declared.command.Parse.{Parse}
use Rattle.g4_words.specs.declared.command.TheConstants.{DEFAULT_JOBS, DEFAULT_ROWS, MOST_FILES, MOST_JOBS, MOST_ROWS}
use Rattle.g4_words.specs.declared.reading.WordsFault.{WordsFault}
use Rattle.g4_words.specs.declared.reading.WordsFault.TheVariants.{Usage, NoMemory}

-- the flag is given: its value is `true`
abbrev pub HasFlag : Text → List Row → Type 0
HasFlag name rows = one_of name rows ≡ Some (codes "true")

-- a flag asks for this output; none asks for the trees
abbrev pub IsAskedFor : List Row → Output → Type 0
IsAskedFor rows outputs.Trees = ⊥
IsAskedFor rows outputs.Events = HasFlag (codes "events") rows
IsAskedFor rows outputs.Tokens = HasFlag (codes "tokens") rows

-- the output is the only one that a flag asks for, or the trees where no flag asks for any; where flags ask for several there is none
pub record IsOutput (rows : List Row) (output : Output) : Type 0 where
  pub only : (other : Output) → IsAskedFor rows other → other ≡ output
  pub asked : (output ≡ outputs.Trees) ⊎ IsAskedFor rows output

-- whether the flag is given that asks how much was learned; it is the only one that says what is written, so it goes with the trees
pub record IsLearned (rows : List Row) (output : Output) (learned : Bool) : Type 0 where
  pub given : (learned ≡ true) ↔ HasFlag (codes "learned") rows
  pub alone : learned ≡ true → output ≡ outputs.Trees

-- the number that an option with this text gives, in decimal digits without a sign and without leading zeros; the default without a text
abbrev pub IsGiven : Option Text → ℕ → ℕ → Type 0
IsGiven None default number = number ≡ default
IsGiven (Some text) default number = text ≡ decimal number

-- the number that an option gives, from 1 to the most
pub record IsNumber (text : Option Text) (default most number : ℕ) : Type 0 where
  pub given : IsGiven text default number
  pub some : 1 ≤ number
  pub within : number ≤ most

-- how many workers there are, and how many rows
abbrev pub IsJobs : List Row → ℕ → Type 0
IsJobs rows = IsNumber (first_of (codes "jobs") rows) DEFAULT_JOBS MOST_JOBS

abbrev pub IsRows : List Row → ℕ → Type 0
IsRows rows = IsNumber (first_of (codes "rows") rows) DEFAULT_ROWS MOST_ROWS

-- the byte is an ASCII letter, a digit or `_`
abbrev pub is_flag_byte : ℕ → Bool
is_flag_byte b = is_ascii_alphanumeric b || b == 95

-- the name of a flag has one of these bytes or more, and no others
abbrev pub is_flag_name : Text → Bool
is_flag_name name = not (length name == 0) && list_all is_flag_byte name

-- the flags that an option with this text gives: the parts between its commas, which are names of flags; without a text there is none
abbrev pub AreGiven : Option Text → List Text → Type 0
AreGiven None flags = flags ≡ []
AreGiven (Some text) flags = (flags ≡ slice_split (λ b. b == 44) text) × (list_all is_flag_name flags ≡ true)

abbrev pub AreFlags : List Row → List Text → Type 0
AreFlags rows flags = AreGiven (first_of (codes "flags") rows) flags

-- the library that an option gives, if it is given
abbrev pub IsLibrary : List Row → Option Text → Type 0
IsLibrary rows library = library ≡ first_of (codes "library") rows

-- the values of `parse`
pub record IsParse (values : List Row) (parse : Parse) : Type 0 where
  pub grammar : first_of (codes "grammar") values ≡ Some parse.grammar
  pub start : first_of (codes "start") values ≡ Some parse.start
  pub library : IsLibrary values parse.library
  pub jobs : IsJobs values parse.jobs
  pub rows : IsRows values parse.rows
  pub flags : AreFlags values parse.flags
  pub output : IsOutput values parse.output
  pub learned : IsLearned values parse.output parse.learned
  pub files : all_of (codes "files") values ≡ Some parse.files
  pub few : length parse.files ≤ MOST_FILES

-- the values of `check`
pub record IsCheck (rows : List Row) (check : Check) : Type 0 where
  pub grammar : first_of (codes "grammar") rows ≡ Some check.grammar
  pub library : IsLibrary rows check.library

-- the values of `atn`
pub record IsAtn (rows : List Row) (atn : Atn) : Type 0 where
  pub grammar : first_of (codes "grammar") rows ≡ Some atn.grammar
  pub rule : first_of (codes "rule") rows ≡ Some atn.rule
  pub library : IsLibrary rows atn.library

-- the command of this name with these values
abbrev pub IsNamed : Text → List Row → Command → Type 0
IsNamed name rows (commands.Parse parse) = (name ≡ codes "parse") × IsParse rows parse
IsNamed name rows (commands.Check check) = (name ≡ codes "check") × IsCheck rows check
IsNamed name rows (commands.Atn atn) = (name ≡ codes "atn") × IsAtn rows atn

-- `clap` accepts the words for the command line of `g4`, and the command has the name and the values that it gives
pub record IsCommand (words : List Text) (command : Command) : Type 0 where
  pub accepted : fault_of g4_app words ≡ []
  pub name : Text
  pub rows : List Row
  pub given : subcommand_of g4_app words ≡ Some (name, rows)
  pub named : IsNamed name rows command

-- the words have no more files than are allowed
abbrev pub HasFewFiles : List Text → Type 0
HasFewFiles words = (name : Text) (rows : List Row) (files : List Text) → subcommand_of g4_app words ≡ Some (name, rows)
    → all_of (codes "files") rows ≡ Some files → length files ≤ MOST_FILES

-- the flag says what is written
abbrev pub IsOutputFlag : Text → Type 0
IsOutputFlag flag = (flag ≡ codes "events") ⊎ (flag ≡ codes "tokens") ⊎ (flag ≡ codes "learned")

-- the words have no more than one flag that says what is written
abbrev pub HasOneOutput : List Text → Type 0
HasOneOutput words = (name : Text) (rows : List Row) (a b : Text) → subcommand_of g4_app words ≡ Some (name, rows)
    → IsOutputFlag a → IsOutputFlag b → HasFlag a rows → HasFlag b rows → a ≡ b

-- the numbers that the options give are within their limits
abbrev pub HasNumbers : List Text → Type 0
HasNumbers words = (name : Text) (rows : List Row) → subcommand_of g4_app words ≡ Some (name, rows)
    → ((jobs : ℕ) × IsJobs rows jobs) × ((room : ℕ) × IsRows rows room)

-- what an option gives as flags are names of flags
abbrev pub HasFlagNames : List Text → Type 0
HasFlagNames words = (name : Text) (rows : List Row) → subcommand_of g4_app words ≡ Some (name, rows)
    → (flags : List Text) × AreFlags rows flags

-- the answer is a thing of this kind, or Usage where there is none, unless memory runs out
abbrev pub Finds : {T : Type 0} → (T → Type 0) → Result T WordsFault → Type 0
Finds Is (Ok found) = Is found
Finds {T} Is (Err Usage) = (other : T) → Is other → ⊥
Finds Is (Err NoMemory) = Unit {0}

-- the text is the number in decimal digits, from 1
abbrev pub IsWritten : Text → ℕ → Type 0
IsWritten text number = (text ≡ decimal number) × (1 ≤ number)

-- the number that the text is, or none where it is no number of 32 bits
abbrev pub FindsNumber : Text → Option ℕ → Type 0
FindsNumber text (Some number) = IsWritten text number
FindsNumber text None = (number : ℕ) → number < 2 ^ 32 → IsWritten text number → ⊥

-- `clap` accepts the words with these matches, or refuses them, unless memory runs out
abbrev pub Accepts : List Text → Result ArgMatches WordsFault → Type 0
Accepts words (Ok matches) = (fault_of g4_app words ≡ []) × (subcommand_rows_of matches ≡ subcommand_of g4_app words)
Accepts words (Err Usage) = fault_of g4_app words ≢ []
Accepts words (Err NoMemory) = Unit {0}
