-- A file has one table or one fault.
use Rattle.std.proofs.Common.{◌≡◌, ◌≢◌, ℕ, ◌+◌, List, [], ◌∷◌, ◌++◌, Option, Some, None, Result, Ok, Err, refl, ap, sym, ◌∙◌, subst, arith}
use Rattle.std.specs.Str.Parse.{digits_value}
use Rattle.g4_token_file.specs.Files.{Passes, empty, repeated, added, IsBad, formless, second, IsPast, StopsAt, Reads, at_end, past_line, stopped, IsTokenFile, file_lines}
use Rattle.g4_token_file.specs.Keys.{number_of}
use Rattle.g4_token_file.specs.Lines.{IsKey, IsTokenLine}
use Rattle.g4_token_file.specs.declared.entry.TokenKey.{TokenKey}
use Rattle.g4_token_file.specs.declared.entry.TokenEntry.{TokenEntry}
use Rattle.g4_token_file.specs.declared.fault.TokenFileFault.{TokenFileFault}
use Rattle.g4_token_file.specs.declared.fault.TokenFileFault.TheVariants.{BadTokensLine, Types, NoMemory}
use Rattle.g4_token_file.proofs.Splits.{digits_lack}
use Rattle.g4_token_file.proofs.Steps.{parts_are}
use Rattle.g4_token_file.proofs.Values.{all_digits}
use Rattle.g4_token_file.proofs.WholeTokens.{one_key}

-- a line says one thing
pub one_line : (line : List ℕ) (a b : TokenEntry) → IsTokenLine line a → IsTokenLine line b → a ≡ b
one_line line a b is also =
    let same = parts_are line b.written also.digits a is also.parts (digits_lack also.digits (all_digits also.digits also.counted)) in
    let key : a.key ≡ b.key = one_key b.written a.key b.key
    (subst (λ (t : List ℕ). IsKey t a.key) same.texts is.key_is) also.key_is in
    let number : a.number ≡ b.number = is.number_is ∙ (ap (digits_value 10) same.ends ∙ sym also.number_is) in
    ap (λ (k : TokenKey). record { key = k; written = a.written; number = a.number }) key
    ∙ (ap (λ (t : List ℕ). record { key = b.key; written = t; number = a.number }) same.texts
    ∙ ap (λ (n : ℕ). record { key = b.key; written = b.written; number = n }) number)

nothing_in : (text digits : List ℕ) → [] ≡ text ++ 61 ∷ digits → ⊥
nothing_in [] digits is = absurd cc
nothing_in (c ∷ cs) digits is = absurd cc

-- an empty line says nothing
pub not_empty : (line : List ℕ) (entry : TokenEntry) → line ≡ [] → IsTokenLine line entry → ⊥
not_empty line entry is says = nothing_in entry.written says.digits (sym is ∙ says.parts)

-- the table after an entry, by the number that its key has
after_entry : List TokenEntry → TokenEntry → Option ℕ → List TokenEntry
after_entry table entry (Some known) = table
after_entry table entry None = table ++ entry ∷ []

-- the table after a line that says this
after_is : (table : List TokenEntry) (line : List ℕ) (next : List TokenEntry) (entry : TokenEntry) → Passes table line next
    → IsTokenLine line entry → next ≡ after_entry table entry (number_of table entry.key)
unfolding after_entry
after_is _ _ _ entry (empty table) says = absurd (not_empty [] entry refl says)
after_is _ _ _ entry (repeated table line other also has) says =
    let same : other ≡ entry = one_line line other entry also says in
    let known : number_of table entry.key ≡ Some other.number =
    ap (λ (e : TokenEntry). number_of table e.key) (sym same) ∙ has in
    sym (ap (after_entry table entry) known)
after_is _ _ _ entry (added table line other also fresh small) says =
    let same : other ≡ entry = one_line line other entry also says in
    let none : number_of table entry.key ≡ None = ap (λ (e : TokenEntry). number_of table e.key) (sym same) ∙ fresh in
    ap (λ (e : TokenEntry). table ++ e ∷ []) same ∙ sym (ap (after_entry table entry) none)

-- an empty line changes nothing
after_empty : (table : List TokenEntry) (line : List ℕ) (next : List TokenEntry) → line ≡ [] → Passes table line next → next ≡ table
after_empty _ _ _ is (empty table) = refl
after_empty _ _ _ is (repeated table line entry says has) = refl
after_empty _ _ _ is (added table line entry says fresh small) = absurd (not_empty line entry is says)

-- after a line there is one table
one_next : (table : List TokenEntry) (line : List ℕ) (a b : List TokenEntry) → Passes table line a → Passes table line b → a ≡ b
one_next _ _ _ b (empty table) also = sym (after_empty table [] b refl also)
one_next _ _ _ b (repeated table line entry says has) also =
    after_is table line table entry (repeated table line entry says has) says ∙ sym (after_is table line b entry also says)
one_next _ _ _ b (added table line entry says fresh small) also =
    after_is table line (table ++ entry ∷ []) entry (added table line entry says fresh small) says
    ∙ sym (after_is table line b entry also says)

numbers_same : (a b : ℕ) → Some a ≡ Some b → a ≡ b
numbers_same a b is = cc

some_or_none : (a : ℕ) (o : Option ℕ) → o ≡ Some a → o ≡ None → ⊥
some_or_none a o is none = absurd cc

-- the number of a key does not depend on how its line is read
key_number : (table : List TokenEntry) (line : List ℕ) (a b : TokenEntry) (known : Option ℕ) → IsTokenLine line a → IsTokenLine line b
    → number_of table a.key ≡ known → number_of table b.key ≡ known
key_number table line a b known is also has =
    ap (λ (e : TokenEntry). number_of table e.key) (one_line line b a also is) ∙ has

-- after a bad line there is no table
bad_or_next : (table : List TokenEntry) (line : List ℕ) (next : List TokenEntry) → IsBad table line → Passes table line next → ⊥
bad_or_next _ _ _ (formless table line full none) (empty _) = full refl
bad_or_next _ _ _ (formless table line full none) (repeated _ _ entry says has) = none entry says
bad_or_next _ _ _ (formless table line full none) (added _ _ entry says fresh small) = none entry says
bad_or_next _ _ _ (second table line entry other says has differs) (empty _) = not_empty [] entry refl says
bad_or_next _ _ _ (second table line entry other says has differs) (repeated _ _ also also_says known) =
    let same : also ≡ entry = one_line line also entry also_says says in
    let number : Some also.number ≡ Some other = sym known ∙ key_number table line entry also (Some other) says also_says has in
    differs (sym (numbers_same also.number other number) ∙ ap (λ (e : TokenEntry). e.number) same)
bad_or_next _ _ _ (second table line entry other says has differs) (added _ _ also also_says fresh small) =
    some_or_none other (number_of table also.key) (key_number table line entry also (Some other) says also_says has) fresh

-- after a number past the limit there is no table
past_or_next : (table : List TokenEntry) (line : List ℕ) (next : List TokenEntry) → IsPast table line → Passes table line next → ⊥
past_or_next _ _ _ is (empty table) = not_empty [] is.entry refl is.says
past_or_next _ _ _ is (repeated table line entry says has) =
    some_or_none entry.number (number_of table is.entry.key) (key_number table line entry is.entry (Some entry.number) says is.says has)
    is.fresh
past_or_next _ _ _ is (added table line entry says fresh small) =
    let same : entry.number ≡ is.entry.number = ap (λ (e : TokenEntry). e.number) (one_line line entry is.entry says is.says) in
    omega (arith, same, small, is.past)

-- a bad line is not past the limit
bad_or_past : (table : List TokenEntry) (line : List ℕ) → IsBad table line → IsPast table line → ⊥
bad_or_past _ _ (formless table line full none) is = none is.entry is.says
bad_or_past _ _ (second table line entry other says has differs) is =
    some_or_none other (number_of table is.entry.key) (key_number table line entry is.entry (Some other) says is.says has) is.fresh

-- where reading stops there is no table
stops_or_next : (table : List TokenEntry) (number : ℕ) (line : List ℕ) (next : List TokenEntry) (fault : TokenFileFault)
    → StopsAt table number line fault → Passes table line next → ⊥
stops_or_next table number line next (BadTokensLine at) stops after = bad_or_next table line next stops.1 after
stops_or_next table number line next Types stops after = past_or_next table line next stops after
stops_or_next table number line next NoMemory stops after = stops

-- reading stops with one fault
one_stop : (table : List TokenEntry) (number : ℕ) (line : List ℕ) (a b : TokenFileFault) → StopsAt table number line a
    → StopsAt table number line b → a ≡ b
one_stop table number line (BadTokensLine at) (BadTokensLine other) is also = ap BadTokensLine (is.0 ∙ sym also.0)
one_stop table number line (BadTokensLine at) Types is also = absurd (bad_or_past table line is.1 also)
one_stop table number line Types (BadTokensLine at) is also = absurd (bad_or_past table line also.1 is)
one_stop table number line Types Types is also = refl
one_stop table number line NoMemory b is also = absurd is
one_stop table number line a NoMemory is also = absurd also

-- lines give one answer
one_answer : (table : List TokenEntry) (number : ℕ) (lines : List (List ℕ)) (a b : Result (List TokenEntry) TokenFileFault)
    → Reads table number lines a → Reads table number lines b → a ≡ b
one_answer _ _ _ _ _ (at_end table number) (at_end _ _) = refl
one_answer _ _ _ _ b (past_line table next number line rest a after first) (past_line _ other _ _ _ _ also more) =
    let same : other ≡ next = one_next table line other next also after in
    one_answer next (number + 1) rest a b first (subst (λ (ts : List TokenEntry). Reads ts (number + 1) rest b) same more)
one_answer _ _ _ _ _ (past_line table next number line rest a after first) (stopped _ _ _ _ fault stops) =
    absurd (stops_or_next table number line next fault stops after)
one_answer _ _ _ _ _ (stopped table number line rest fault stops) (past_line _ next _ _ _ _ after _) =
    absurd (stops_or_next table number line next fault stops after)
one_answer _ _ _ _ _ (stopped table number line rest fault stops) (stopped _ _ _ _ other also) =
    ap Err (one_stop table number line fault other stops also)

-- what an answer of the call says of the lines
lines_read : (bytes : List ℕ) (answer : Result (List TokenEntry) TokenFileFault) → IsTokenFile bytes answer → answer ≢ Err NoMemory
    → Reads [] 1 (file_lines bytes) answer
lines_read bytes (Ok table) is answered = is
lines_read bytes (Err (BadTokensLine number)) is answered = is
lines_read bytes (Err Types) is answered = is
lines_read bytes (Err NoMemory) is answered = absurd (answered refl)

-- a file has one answer
pub one_table : (bytes : List ℕ) (a b : Result (List TokenEntry) TokenFileFault) → IsTokenFile bytes a → IsTokenFile bytes b
    → a ≢ Err NoMemory → b ≢ Err NoMemory → a ≡ b
one_table bytes a b is also answered also_answered =
    one_answer [] 1 (file_lines bytes) a b (lines_read bytes a is answered) (lines_read bytes b also also_answered)
