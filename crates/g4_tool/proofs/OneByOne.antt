-- The outcomes of files one by one, their lines and how many are accepted.
use Rattle.std.proofs.Common.{◌≡◌, ◌+◌, ℕ, suc, List, [], ◌∷◌, ◌++◌, length, count_by, cond, ◌≤◌, ◌&&◌, Bool, true, false, ◌==◌, sym, ap, ◌∙◌, arith, refl}
use Rattle.std.specs.List.{list_all}
use Rattle.std.proofs.lemmas.List.{append_assoc}
use Rattle.std.proofs.lemmas.List.Sums.{count_by-le-length, sum_by-append, sum_by-cons}
use Rattle.g4_tool.specs.declared.files.Parsed.{Parsed}
use Rattle.g4_outcome.specs.declared.input.Input.{Input}
use Rattle.g4_load.specs.declared.interpreter.Interpreter.{Interpreter}
use Rattle.g4_outcome.specs.declared.outcome.Outcome.{Outcome}
use Rattle.g4_words.specs.declared.command.Output.{Output}
use Rattle.g4_outcome.specs.declared.line.Line.{Line}
use Rattle.g4_tool.proofs.Meant.{one_more_meant}
use Rattle.g4_outcome.specs.Outcomes.{IsOutcome, AreOutcomes, is_accepted, outcome_lines, lines_of_files}
use Rattle.g4_tool.specs.Files.{AreParsed, IsOneMore}

-- there are as many outcomes as inputs
pub as_many : (interpreter : Interpreter) (is : List Input) (os : List Outcome) → AreOutcomes interpreter is os → length os ≡ length is
as_many interpreter [] [] h = refl
as_many interpreter [] (o ∷ os) h = absurd h
as_many interpreter (i ∷ is) [] h = absurd h
as_many interpreter (i ∷ is) (o ∷ os) h = ap suc (as_many interpreter is os h.1)

-- one more outcome
more_outcomes : (interpreter : Interpreter) (is : List Input) (os : List Outcome) (input : Input) (outcome : Outcome)
    → AreOutcomes interpreter is os → IsOutcome interpreter input outcome →
    AreOutcomes interpreter (is ++ input ∷ []) (os ++ outcome ∷ [])
more_outcomes interpreter [] [] input outcome h k = (k, tt)
more_outcomes interpreter [] (o ∷ os) input outcome h k = absurd h
more_outcomes interpreter (i ∷ is) [] input outcome h k = absurd h
more_outcomes interpreter (i ∷ is) (o ∷ os) input outcome h k = (h.0, more_outcomes interpreter is os input outcome h.1 k)

-- and its lines
more_lines : (output : Output) (interpreter : Interpreter) (names : List (List ℕ)) (os : List Outcome) (name : List ℕ)
    (outcome : Outcome) → length names ≡ length os →
    lines_of_files output interpreter (names ++ name ∷ []) (os ++ outcome ∷ [])
    ≡ lines_of_files output interpreter names os ++ outcome_lines output interpreter name outcome
more_lines output interpreter [] [] name outcome same = append_nothing (outcome_lines output interpreter name outcome)
  where
    append_nothing : (ls : List Line) → ls ++ [] ≡ ls
    append_nothing [] = refl
    append_nothing (l ∷ ls) = ap (λ xs. l ∷ xs) (append_nothing ls)
more_lines output interpreter [] (o ∷ os) name outcome same = absurd (omega (arith, same))
more_lines output interpreter (n ∷ names) [] name outcome same = absurd (omega (arith, same))
more_lines output interpreter (n ∷ names) (o ∷ os) name outcome same =
    ap (λ ls. outcome_lines output interpreter n o ++ ls) (more_lines output interpreter names os name outcome (omega (arith, same)))
    ∙ sym (append_assoc (outcome_lines output interpreter n o) (lines_of_files output interpreter names os)
    (outcome_lines output interpreter name outcome))

-- the files so far, and one more
pub one_more_file : (output : Output) (interpreter : Interpreter) (names : List (List ℕ)) (is : List Input) (name : List ℕ)
    (input : Input) (before now : Parsed) → length names ≡ length is →
    AreParsed output interpreter names is before → IsOneMore output interpreter name input before now
    → AreParsed output interpreter (names ++ name ∷ []) (is ++ input ∷ []) now
one_more_file output interpreter names is name input before now same h k = record {
  outcomes = h.outcomes ++ k.outcome ∷ [];
  are = more_outcomes interpreter is h.outcomes input k.outcome h.are k.is;
  lines = k.lines ∙ ap (λ ls. ls ++ outcome_lines output interpreter name k.outcome) h.lines
      ∙ sym (more_lines output interpreter names h.outcomes name k.outcome (same ∙ sym (as_many interpreter is h.outcomes h.are)));
  accepted = k.accepted ∙ ap (λ n. n + count_by is_accepted (k.outcome ∷ [])) h.accepted
      ∙ sym (sum_by-append (λ o. cond (is_accepted o) 1 0) h.outcomes (k.outcome ∷ []));
  meant = one_more_meant interpreter h.outcomes k.outcome h.meant k.meant;
}

-- all are accepted where as many are as there are
one_counted : (b r : Bool) (n m : ℕ) → n ≤ m → (n == m) ≡ r → (cond b 1 0 + n == suc m) ≡ (b && r)
one_counted true r n m few same = grind (arith, few, same)
one_counted false r n m few same = grind (arith, few)

pub all_counted : (os : List Outcome) → (count_by is_accepted os == length os) ≡ list_all is_accepted os
all_counted [] = refl
all_counted (o ∷ os) =
    ap (λ n. n == suc (length os)) (sum_by-cons (λ x. cond (is_accepted x) 1 0) o os)
    ∙ one_counted (is_accepted o) (list_all is_accepted os) (count_by is_accepted os) (length os) (count_by-le-length is_accepted os)
    (all_counted os)
