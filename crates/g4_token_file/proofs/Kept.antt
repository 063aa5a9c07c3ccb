-- The table of a file has what its lines say, and nothing else.
use Rattle.std.proofs.Common.{◌≡◌, ℕ, zero, suc, ◌+◌, ◌<◌, ◌⊎◌, inl, inr, Bool, true, false, cond, List, [], ◌∷◌, ◌++◌, Option, Some, None, Result, Ok, Err, length, get_or, refl, ap, sym, ◌∙◌, subst, arith}
use Rattle.std.specs.List.{Contains}
use Rattle.std.proofs.lemmas.List.Elements.{Contains-push_cases}
use Rattle.g4_token_file.specs.Files.{Passes, empty, repeated, added, Reads, at_end, past_line, stopped, IsTokenFile, file_lines}
use Rattle.g4_token_file.specs.Keys.{is_key, number_of}
use Rattle.g4_token_file.specs.Lines.{IsTokenLine}
use Rattle.g4_token_file.specs.declared.entry.TokenKey.{TokenKey}
use Rattle.g4_token_file.specs.declared.entry.TokenEntry.{TokenEntry}
use Rattle.g4_token_file.specs.declared.fault.TokenFileFault.{TokenFileFault}
use Rattle.g4_token_file.proofs.Keyed.{key_refl, key_same, number_of-push}
use Rattle.g4_token_file.proofs.OneTable.{not_empty, one_line}

tables_same : (a b : List TokenEntry) (c d : Result (List TokenEntry) TokenFileFault) → c ≡ Ok a → d ≡ Ok b → c ≡ d → a ≡ b
tables_same a b c d is also same = cc

table_is : (a b : List TokenEntry) (answer : Result (List TokenEntry) TokenFileFault) → answer ≡ Ok a → answer ≡ Ok b → a ≡ b
table_is a b answer is also = tables_same a b answer answer is also refl

no_table : (fault : TokenFileFault) (table : List TokenEntry) (answer : Result (List TokenEntry) TokenFileFault) → answer ≡ Err fault
    → answer ≡ Ok table → ⊥
no_table fault table answer is also = absurd cc

still_there : (table : List TokenEntry) (entry : TokenEntry) (key : TokenKey) (known : ℕ) (b : Bool) → is_key entry.key key ≡ b
    → number_of table entry.key ≡ None → number_of table key ≡ Some known
    → cond b (Some entry.number) (number_of table key) ≡ Some known
still_there table entry key known true same fresh has =
    let none : number_of table key ≡ None = ap (number_of table) (sym (key_same entry.key key same)) ∙ fresh in absurd cc
still_there table entry key known false same fresh has = has

-- a key keeps its number over a line
stays_over : (table : List TokenEntry) (line : List ℕ) (next : List TokenEntry) (key : TokenKey) (known : ℕ) → Passes table line next
    → number_of table key ≡ Some known → number_of next key ≡ Some known
stays_over _ _ _ key known (empty table) has = has
stays_over _ _ _ key known (repeated table line entry says number) has = has
stays_over _ _ _ key known (added table line entry says fresh small) has =
    number_of-push table entry key fresh ∙ still_there table entry key known (is_key entry.key key) refl fresh has

-- a key keeps its number
stays : (table : List TokenEntry) (number : ℕ) (lines : List (List ℕ)) (answer : Result (List TokenEntry) TokenFileFault)
    (end : List TokenEntry) (key : TokenKey) (known : ℕ) → Reads table number lines answer → answer ≡ Ok end
    → number_of table key ≡ Some known → number_of end key ≡ Some known
stays _ _ _ _ end key known (at_end table number) is has =
    subst (λ (ts : List TokenEntry). number_of ts key ≡ Some known) (table_is table end (Ok table) refl is) has
stays _ _ _ _ end key known (past_line table next number line rest answer after reads) is has =
    stays next (number + 1) rest answer end key known reads is (stays_over table line next key known after has)
stays _ _ _ _ end key known (stopped table number line rest fault stops) is has = absurd (no_table fault end (Err fault) refl is)

chosen_first : (b : Bool) (x y : Option ℕ) → b ≡ true → cond b x y ≡ x
chosen_first true x y is = refl
chosen_first false x y is = absurd cc

-- after its line a key has its number
given : (table : List TokenEntry) (line : List ℕ) (next : List TokenEntry) (entry : TokenEntry) → Passes table line next
    → IsTokenLine line entry → number_of next entry.key ≡ Some entry.number
given _ _ _ entry (empty table) says = absurd (not_empty [] entry refl says)
given _ _ _ entry (repeated table line other also has) says =
    subst (λ (e : TokenEntry). number_of table e.key ≡ Some e.number) (one_line line other entry also says) has
given _ _ _ entry (added table line other also fresh small) says =
    subst (λ (e : TokenEntry). number_of (table ++ other ∷ []) e.key ≡ Some e.number) (one_line line other entry also says)
    (number_of-push table other other.key fresh
    ∙ chosen_first (is_key other.key other.key) (Some other.number) (number_of table other.key) (key_refl other.key))

kept_at : (table : List TokenEntry) (number : ℕ) (lines : List (List ℕ)) (answer : Result (List TokenEntry) TokenFileFault)
    (end : List TokenEntry) (k : ℕ) (line : List ℕ) (entry : TokenEntry) → Reads table number lines answer → answer ≡ Ok end
    → k < length lines → get_or lines k line ≡ line → IsTokenLine line entry → number_of end entry.key ≡ Some entry.number
kept_at _ _ _ _ end k line entry (at_end table number) is within here says = absurd (omega arith)
kept_at _ _ _ _ end zero line entry (past_line table next number first rest answer after reads) is within here says =
    stays next (number + 1) rest answer end entry.key entry.number reads is
    (given table line next entry (subst (λ (l : List ℕ). Passes table l next) here after) says)
kept_at _ _ _ _ end (suc k) line entry (past_line table next number first rest answer after reads) is within here says =
    kept_at next (number + 1) rest answer end k line entry reads is (omega arith) here says
kept_at _ _ _ _ end k line entry (stopped table number first rest fault stops) is within here says =
    absurd (no_table fault end (Err fault) refl is)

-- what a line says is in the table
pub numbers_kept : (bytes : List ℕ) (table : List TokenEntry) (line : List ℕ) (entry : TokenEntry) → IsTokenFile bytes (Ok table)
    → Contains (file_lines bytes) line → IsTokenLine line entry → number_of table entry.key ≡ Some entry.number
numbers_kept bytes table line entry reads there says =
    kept_at [] 1 (file_lines bytes) (Ok table) table there.0 line entry reads refl there.1 there.2 says

-- a line that says this
abbrev pub Said : List (List ℕ) → TokenEntry → Type 0
Said lines entry = (line : List ℕ) × Contains lines line × IsTokenLine line entry

said_later : (first : List ℕ) (lines : List (List ℕ)) (entry : TokenEntry) → Said lines entry → Said (first ∷ lines) entry
said_later first lines entry said = (said.0, (suc said.1.0, omega (arith, said.1.1), said.1.2), said.2)

said_first : (line : List ℕ) (rest : List (List ℕ)) (entry : TokenEntry) → IsTokenLine line entry → Said (line ∷ rest) entry
said_first line rest entry says = (line, (0, omega arith, refl), says)

pushed : (table : List TokenEntry) (line : List ℕ) (rest : List (List ℕ)) (entry other : TokenEntry) → IsTokenLine line other
    → Contains table entry ⊎ (other ≡ entry) → Contains table entry ⊎ Said (line ∷ rest) entry
pushed table line rest entry other says (inl there) = inl there
pushed table line rest entry other says (inr same) =
    inr (said_first line rest entry (subst (λ (e : TokenEntry). IsTokenLine line e) same says))

said_over : (table : List TokenEntry) (line : List ℕ) (next : List TokenEntry) (rest : List (List ℕ)) (entry : TokenEntry)
    → Passes table line next → Contains next entry → Contains table entry ⊎ Said (line ∷ rest) entry
said_over _ _ _ rest entry (empty table) there = inl there
said_over _ _ _ rest entry (repeated table line other says has) there = inl there
said_over _ _ _ rest entry (added table line other says fresh small) there =
    pushed table line rest entry other says (Contains-push_cases table other entry there)

said_before : (table : List TokenEntry) (line : List ℕ) (next : List TokenEntry) (rest : List (List ℕ)) (entry : TokenEntry)
    → Passes table line next → Contains next entry ⊎ Said rest entry → Contains table entry ⊎ Said (line ∷ rest) entry
said_before table line next rest entry after (inl there) = said_over table line next rest entry after there
said_before table line next rest entry after (inr said) = inr (said_later line rest entry said)

came : (table : List TokenEntry) (number : ℕ) (lines : List (List ℕ)) (answer : Result (List TokenEntry) TokenFileFault)
    (end : List TokenEntry) (entry : TokenEntry) → Reads table number lines answer → answer ≡ Ok end → Contains end entry
    → Contains table entry ⊎ Said lines entry
came _ _ _ _ end entry (at_end table number) is there =
    inl (subst (λ (ts : List TokenEntry). Contains ts entry) (sym (table_is table end (Ok table) refl is)) there)
came _ _ _ _ end entry (past_line table next number line rest answer after reads) is there =
    said_before table line next rest entry after (came next (number + 1) rest answer end entry reads is there)
came _ _ _ _ end entry (stopped table number line rest fault stops) is there = absurd (no_table fault end (Err fault) refl is)

not_in_none : (lines : List (List ℕ)) (entry : TokenEntry) → Contains [] entry ⊎ Said lines entry → Said lines entry
not_in_none lines entry (inl there) = absurd (omega (arith, there.1))
not_in_none lines entry (inr said) = said

-- each entry of the table is what a line says
pub numbers_given : (bytes : List ℕ) (table : List TokenEntry) (entry : TokenEntry) → IsTokenFile bytes (Ok table)
    → Contains table entry → Said (file_lines bytes) entry
numbers_given bytes table entry reads there =
    not_in_none (file_lines bytes) entry (came [] 1 (file_lines bytes) (Ok table) table entry reads refl there)
