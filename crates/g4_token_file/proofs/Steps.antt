-- What one line says, and the table after it.
use Rattle.std.proofs.Common.{◌≡◌, ◌≢◌, ◌==◌, ℕ, suc, ◌+◌, ◌<◌, ◌≤◌, true, false, List, [], ◌∷◌, ◌++◌, Some, None, Result, Ok, Err, length, refl, ap, sym, ◌∙◌, subst, arith}
use Rattle.std.specs.Str.Parse.{digits_value}
use Rattle.std.proofs.lemmas.Bool.Decides.{nat_tests}
use Rattle.memchr.specs.Find.{Nowhere, Passes, is_byte}
use Rattle.g4_base.specs.declared.limits.TheConstants.{MOST_BYTES}
use Rattle.g4_tokens.specs.declared.symbol.TheConstants.{MOST_TYPES}
use Rattle.g4_token_file.specs.Answers.{Answers, IsCappedLine, IsStep, capped, fault_at}
use Rattle.g4_token_file.specs.Files.{Passes as After, empty, repeated, added, IsBad, formless, second, IsPast, Reads, at_end, past_line, stopped, IsTokenFile, file_lines}
use Rattle.g4_token_file.specs.Keys.{number_of}
use Rattle.g4_token_file.specs.Lines.{IsKey, IsTokenLine, is_number}
use Rattle.g4_token_file.specs.declared.entry.TokenKey.{TokenKey}
use Rattle.g4_token_file.specs.declared.entry.TokenEntry.{TokenEntry}
use Rattle.g4_token_file.specs.declared.fault.LineFault.{LineFault}
use Rattle.g4_token_file.specs.declared.fault.LineFault.TheVariants.{Bad, Past, NoMemory}
use Rattle.g4_token_file.specs.declared.fault.TokenFileFault.{TokenFileFault}
use Rattle.g4_token_file.specs.declared.fault.TokenFileFault.TheVariants.{BadTokensLine, Types}
use Rattle.g4_token_file.proofs.LineLengths.{AreWithin, file_lines_within}
use Rattle.g4_token_file.proofs.Splits.{Lacks, SameSplit, digits_lack, has_equals, lacks_after, one_split}
use Rattle.g4_token_file.proofs.Values.{all_digits}

-- the parts of a token line, where some are known
pub parts_are : (line text rest : List ℕ) (entry : TokenEntry) (says : IsTokenLine line entry) → line ≡ text ++ 61 ∷ rest → Lacks rest
    → SameSplit entry.written text says.digits rest
parts_are line text rest entry says parts lacks =
    one_split entry.written text says.digits rest (digits_lack says.digits (all_digits says.digits says.counted)) lacks
    (sym says.parts ∙ parts)

-- a line without `=` says nothing
pub no_equals : (line : List ℕ) → Nowhere (Passes (is_byte 61) line) 0 (length line) → (entry : TokenEntry) → IsCappedLine line entry → ⊥
no_equals line none entry is =
    has_equals entry.written is.says.digits (subst Lacks is.says.parts (lacks_after 0 line none))

-- a line whose last part is no number says nothing
pub no_number : (line text rest : List ℕ) → line ≡ text ++ 61 ∷ rest → Lacks rest → is_number rest ≡ false → (entry : TokenEntry)
    → IsCappedLine line entry → ⊥
no_number line text rest parts lacks other entry is =
    let same = parts_are line text rest (record { key = entry.key; written = entry.written; number = is.number }) is.says parts lacks in
    let counted : is_number rest ≡ true = sym (ap is_number same.ends) ∙ is.says.counted in absurd cc

-- a line whose first part is no key says nothing
pub no_subject : (line text rest : List ℕ) → line ≡ text ++ 61 ∷ rest → Lacks rest → ((key : TokenKey) → IsKey text key → ⊥)
    → (entry : TokenEntry) → IsCappedLine line entry → ⊥
no_subject line text rest parts lacks none entry is =
    let same = parts_are line text rest (record { key = entry.key; written = entry.written; number = is.number }) is.says parts lacks in
    none entry.key (subst (λ (t : List ℕ). IsKey t entry.key) same.texts is.says.key_is)

-- what is read of a line is what it says
pub line_says : (line text rest written : List ℕ) (key : TokenKey) (value : ℕ) → line ≡ text ++ 61 ∷ rest → is_number rest ≡ true
    → IsKey text key → written ≡ text → value ≡ capped (digits_value 10 rest)
    → IsCappedLine line (record { key = key; written = written; number = value })
line_says line text rest written key value parts counted key_is same value_is = record {
  number = digits_value 10 rest;
  says = record {
    digits = rest;
    parts = parts ∙ ap (λ (t : List ℕ). t ++ 61 ∷ rest) (sym same);
    key_is = subst (λ (t : List ℕ). IsKey t key) (sym same) key_is;
    counted = counted;
    number_is = refl;
  };
  number_is = value_is;
}

-- the fault of a key is that of its line
pub key_fault : (line text rest : List ℕ) (fault : LineFault) → line ≡ text ++ 61 ∷ rest → Lacks rest
    → Answers (IsKey text) (Err fault) → Answers (IsCappedLine line) (Err fault)
key_fault line text rest Bad parts lacks none = no_subject line text rest parts lacks none
key_fault line text rest Past parts lacks none = none
key_fault line text rest NoMemory parts lacks none = tt

no_zero : (n : ℕ) → (suc n == 0) ≡ false
no_zero n = grind (arith, nat_tests)

-- a line with no byte is empty
pub no_bytes : (line : List ℕ) → (length line == 0) ≡ true → line ≡ []
no_bytes [] none = refl
no_bytes (c ∷ cs) none = let some = no_zero (length cs) in absurd cc

-- a line with a byte is not empty
pub some_bytes : (line : List ℕ) → (length line == 0) ≡ false → line ≢ []
some_bytes line some is =
    let wrong : (0 == 0) ≡ false = subst (λ (l : List ℕ). (length l == 0) ≡ false) is some in absurd cc

-- an empty line changes nothing
pub past_empty : (table : List TokenEntry) (line : List ℕ) → line ≡ [] → After table line table
past_empty table line is = subst (λ (l : List ℕ). After table l table) (sym is) (empty table)

-- the fault of a line that says nothing
pub line_fault : (table : List TokenEntry) (line : List ℕ) (fault : LineFault) → line ≢ [] → Answers (IsCappedLine line) (Err fault)
    → IsStep table line (Err fault)
line_fault table line Bad full none = formless table line full
    (λ entry says. none (record { key = entry.key; written = entry.written; number = capped entry.number })
    (record { number = entry.number; says = says; number_is = refl }))
line_fault table line Past full none = absurd none
line_fault table line NoMemory full none = tt

-- the line gives the number that is known
pub known_again : (table : List TokenEntry) (line : List ℕ) (entry : TokenEntry) (known : ℕ) → IsCappedLine line entry
    → number_of table entry.key ≡ Some known → known ≤ MOST_TYPES → known ≡ entry.number → After table line table
known_again table line entry known is has small same =
    let number_is : is.number ≡ known = omega (arith, is.number_is, same, small) in
    repeated table line (record { key = entry.key; written = entry.written; number = is.number }) is.says (has ∙ ap Some (sym number_is))

-- the line gives another number
pub known_other : (table : List TokenEntry) (line : List ℕ) (entry : TokenEntry) (known : ℕ) → IsCappedLine line entry
    → number_of table entry.key ≡ Some known → known ≤ MOST_TYPES → known ≢ entry.number → IsBad table line
known_other table line entry known is has small differs =
    second table line (record { key = entry.key; written = entry.written; number = is.number }) known is.says has
    (λ same. differs (omega (arith, is.number_is, same, small)))

-- the line gives a number past the limit
pub past_limit : (table : List TokenEntry) (line : List ℕ) (entry : TokenEntry) → IsCappedLine line entry
    → number_of table entry.key ≡ None → MOST_TYPES < entry.number → IsPast table line
past_limit table line entry is fresh past = record {
  entry = record { key = entry.key; written = entry.written; number = is.number };
  says = is.says;
  fresh = fresh;
  past = omega (arith, is.number_is, past);
}

-- the line gives a number to something new
pub one_more : (table next : List TokenEntry) (line : List ℕ) (entry : TokenEntry) → IsCappedLine line entry
    → number_of table entry.key ≡ None → entry.number ≤ MOST_TYPES → next ≡ table ++ entry ∷ [] → After table line next
one_more table next line entry is fresh small next_is =
    let number_is : is.number ≡ entry.number = omega (arith, is.number_is, small) in
    let whole : IsTokenLine line entry =
    subst (λ (n : ℕ). IsTokenLine line (record { key = entry.key; written = entry.written; number = n })) number_is is.says in
    subst (After table line) (sym next_is) (added table line entry whole fresh small)

-- What is known while lines are read: these are left, and what they give is what all give.
pub record Reading (lines rest : List (List ℕ)) (number : ℕ) (table : List TokenEntry) : Type 0 where
  pub onward : (answer : Result (List TokenEntry) TokenFileFault) → Reads table (number + 1) rest answer → Reads [] 1 lines answer
  pub few : number + length rest ≤ MOST_BYTES
  pub short : AreWithin MOST_BYTES rest

-- nothing is read
pub reading_start : (lines : List (List ℕ)) → length lines ≤ MOST_BYTES → AreWithin MOST_BYTES lines → Reading lines lines 0 []
reading_start lines few short = record { onward = λ answer reads. reads; few = omega (arith, few); short = short }

-- nothing is read of a file
pub reading_begins : (bytes : List ℕ) (lines : List (List ℕ)) (table : List TokenEntry) → lines ≡ file_lines bytes → table ≡ []
    → length lines ≤ MOST_BYTES → length bytes ≤ MOST_BYTES → Reading (file_lines bytes) lines 0 table
reading_begins bytes lines table all none few small =
    subst (λ (ts : List TokenEntry). Reading (file_lines bytes) lines 0 ts) (sym none)
    (subst (λ (ls : List (List ℕ)). Reading (file_lines bytes) ls 0 []) (sym all)
    (reading_start (file_lines bytes) (subst (λ (ls : List (List ℕ)). length ls ≤ MOST_BYTES) all few)
    (file_lines_within MOST_BYTES bytes small)))

-- a line is next
pub reading_next : (lines before rest : List (List ℕ)) (line : List ℕ) (number : ℕ) (table : List TokenEntry) → before ≡ line ∷ rest
    → Reading lines before number table → Reading lines (line ∷ rest) number table
reading_next lines before rest line number table left r =
    subst (λ (ls : List (List ℕ)). Reading lines ls number table) left r

-- the line that is next has a number, and is short
pub next_number : (lines rest : List (List ℕ)) (line : List ℕ) (number : ℕ) (table : List TokenEntry)
    → Reading lines (line ∷ rest) number table → number + 1 ≤ MOST_BYTES
next_number lines rest line number table r = omega (arith, r.few)

-- a line is read
pub reading_more : (lines rest : List (List ℕ)) (line : List ℕ) (number : ℕ) (table next : List TokenEntry)
    → Reading lines (line ∷ rest) number table → After table line next → Reading lines rest (number + 1) next
reading_more lines rest line number table next r after = record {
  onward = λ answer reads. r.onward answer (past_line table next (number + 1) line rest answer after reads);
  few = omega (arith, r.few);
  short = r.short.1;
}

-- all lines are read
pub reading_end : (lines rest : List (List ℕ)) (number : ℕ) (table : List TokenEntry) → rest ≡ [] → Reading lines rest number table
    → Reads [] 1 lines (Ok table)
reading_end lines rest number table left r = r.onward (Ok table)
    (subst (λ (ls : List (List ℕ)). Reads table (number + 1) ls (Ok table)) (sym left) (at_end table (number + 1)))

-- reading stops at a line
pub reading_stops : (bytes : List ℕ) (rest : List (List ℕ)) (line : List ℕ) (number : ℕ) (table : List TokenEntry) (fault : LineFault)
    → Reading (file_lines bytes) (line ∷ rest) number table → IsStep table line (Err fault)
    → IsTokenFile bytes (Err (fault_at fault (number + 1)))
reading_stops bytes rest line number table Bad r bad = r.onward (Err (BadTokensLine (number + 1)))
    (stopped table (number + 1) line rest (BadTokensLine (number + 1)) (refl, bad))
reading_stops bytes rest line number table Past r past = r.onward (Err Types) (stopped table (number + 1) line rest Types past)
reading_stops bytes rest line number table NoMemory r none = tt
