-- Reports of files, gathered one by one.
use Rattle.std.proofs.Common.{◌≡◌, ◌<◌, ◌≤◌, ◌+◌, Bool, true, false, ℕ, zero, suc, List, [], ◌∷◌, ◌++◌, Some, length, take, get_or, count_by, cond, slice_get, sym, ap, subst, ◌∙◌, arith, refl, length-append}
use Rattle.std.proofs.lemmas.List.{length-take-le, take_all, take_more}
use Rattle.std.proofs.lemmas.List.Sums.{sum_by-cons}
use Rattle.std.proofs.lemmas.Option.{get_or_from_slice_get, slice_get_within}
use Rattle.g4_outcome.specs.Outcomes.{is_accepted, outcome_lines}
use Rattle.g4_outcome.specs.Reported.{IsFileReport}
use Rattle.g4_outcome.specs.declared.file_report.FileReport.{FileReport}
use Rattle.g4_outcome.specs.declared.input.Input.{Input}
use Rattle.g4_outcome.specs.declared.line.Line.{Line}
use Rattle.g4_outcome.specs.declared.outcome.Outcome.{Outcome}
use Rattle.g4_pool.specs.Files.{AreReports, Files, IsReportAt}
use Rattle.g4_tool.proofs.Meant.{none_meant}
use Rattle.g4_tool.proofs.OneByOne.{one_more_file}
use Rattle.g4_tool.specs.Files.{AreParsed, IsOneMore}
use Rattle.g4_tool.specs.declared.files.Parsed.{Parsed}

get_last : {X : Type 0} (xs : List X) (x : X) → slice_get (xs ++ x ∷ []) (length xs) ≡ Some x
get_last [] x = refl
get_last (y ∷ ys) x = get_last ys x

get_front : {X : Type 0} (xs : List X) (x y : X) (k : ℕ) → slice_get xs k ≡ Some y → slice_get (xs ++ x ∷ []) k ≡ Some y
get_front [] x y k e = absurd (let no_way : ⊥ = cc in no_way)
get_front (z ∷ zs) x y zero e = e
get_front (z ∷ zs) x y (suc k) e = get_front zs x y k e

-- the list up to a place, and its item there
take_then : {X : Type 0} (xs : List X) (k : ℕ) (x : X) → slice_get xs k ≡ Some x → take (k + 1) xs ≡ take k xs ++ x ∷ []
take_then xs k x e = take_more xs k x (slice_get_within xs k x e) ∙ ap (λ y. take k xs ++ y ∷ []) (get_or_from_slice_get xs k x x e)

-- from reports of the first files: their lines, and how many are accepted
abbrev pub Gathers : List FileReport → Parsed → Type 0
Gathers done parsed = (files : Files) → length files.names ≡ length files.inputs
    → ((k : ℕ) (report : FileReport) → slice_get done k ≡ Some report → IsReportAt files k report)
    → AreParsed files.output files.interpreter (take (length done) files.names) (take (length done) files.inputs) parsed

-- at most one more
pub one_or_none : (b : Bool) → cond b 1 0 ≤ 1
one_or_none true = omega arith
one_or_none false = omega arith

-- one more accepted, or not
counted : (outcome : Outcome) → count_by is_accepted (outcome ∷ []) ≡ cond (is_accepted outcome) 1 0
counted outcome = omega (arith, sum_by-cons (λ x. cond (is_accepted x) 1 0) outcome [])

-- what is reported of a file, added
adds_report : (files : Files) (name : List ℕ) (input : Input) (report : FileReport) (before now : Parsed)
    → IsFileReport files.output files.interpreter name input report → now.lines.items ≡ before.lines.items ++ report.lines.items
    → now.accepted ≡ before.accepted + cond report.accepted 1 0 → IsOneMore files.output files.interpreter name input before now
adds_report files name input report before now is lines accepted = record {
  outcome = is.outcome;
  is = is.is;
  lines = lines ∙ ap (λ (ls : List Line). before.lines.items ++ ls) is.lines;
  accepted = accepted ∙ ap (λ b. before.accepted + cond b 1 0) is.accepted ∙ ap (λ n. before.accepted + n) (sym (counted is.outcome));
  meant = is.meant;
}

pub gathers_none : (parsed : Parsed) → parsed.lines.items ≡ [] → parsed.accepted ≡ 0 → Gathers [] parsed
gathers_none parsed lines accepted files paired each =
    record { outcomes = []; are = tt; lines = lines; accepted = accepted; meant = none_meant files.interpreter }

pub gathers_more : (done : List FileReport) (report : FileReport) (before now : Parsed) → Gathers done before
    → now.lines.items ≡ before.lines.items ++ report.lines.items → now.accepted ≡ before.accepted + cond report.accepted 1 0
    → Gathers (done ++ report ∷ []) now
gathers_more done report before now h lines accepted files paired each =
    let n = length done in
    let r : IsReportAt files n report = each n report (get_last done report) in
    let in_names : n < length files.names = slice_get_within files.names n r.name r.named in
    let in_inputs : n < length files.inputs = slice_get_within files.inputs n r.input r.given in
    let long : length (done ++ report ∷ []) ≡ n + 1 = length-append done (report ∷ []) in
    let had = h files paired (λ k x e. each k x (get_front done report x k e)) in
    let more = adds_report files r.name r.input report before now r.is lines accepted in
    let same : length (take n files.names) ≡ length (take n files.inputs) =
    length-take-le n files.names (omega (arith, in_names)) ∙ sym (length-take-le n files.inputs (omega (arith, in_inputs))) in
    let all = one_more_file files.output files.interpreter (take n files.names) (take n files.inputs) r.name r.input before now same had
    more in
    subst (λ m. AreParsed files.output files.interpreter (take m files.names) (take m files.inputs) now) (sym long)
    (subst (λ (ns : List (List ℕ)). AreParsed files.output files.interpreter ns (take (n + 1) files.inputs) now)
    (sym (take_then files.names n r.name r.named))
    (subst (λ (is : List Input). AreParsed files.output files.interpreter (take n files.names ++ r.name ∷ []) is now)
    (sym (take_then files.inputs n r.input r.given)) all))

-- from reports of all files
pub gathers_all : (reports : List FileReport) (parsed : Parsed) → Gathers reports parsed → (files : Files)
    → length files.names ≡ length files.inputs → AreReports files reports
    → AreParsed files.output files.interpreter files.names files.inputs parsed
gathers_all reports parsed h files paired are =
    subst (λ (ns : List (List ℕ)). AreParsed files.output files.interpreter ns files.inputs parsed)
    (take_all (length reports) files.names (omega (arith, paired, are.long)))
    (subst (λ (is : List Input). AreParsed files.output files.interpreter (take (length reports) files.names) is parsed)
    (take_all (length reports) files.inputs (omega (arith, are.long))) (h files paired are.each))
