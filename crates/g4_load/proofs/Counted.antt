-- A call that fetches nothing counts nothing.
use Rattle.std.proofs.Common.{◌≡◌, ◌≤◌, ◌∙◌, ℕ, List, [], ◌∷◌, Option, Result, Ok, Err, refl, sym, subst, arith}
use Rattle.g4_fetch.specs.Counting.{HaltCounts as FetchHaltCounts, StopMisses as FetchMisses}
use Rattle.g4_fetch.specs.declared.closure.Fetched.{Fetched}
use Rattle.g4_fetch.specs.declared.closure.WithImports.{WithImports}
use Rattle.g4_fetch.specs.declared.stop.Halt.{Halt as FetchHalt}
use Rattle.g4_fetch.specs.declared.stop.Halt.TheVariants as halting
use Rattle.g4_fetch.specs.declared.stop.Stop.{Stop as FetchStop}
use Rattle.g4_fetch.specs.declared.stop.Stop.TheVariants as fetching
use Rattle.g4_imports.specs.declared.fault.ImportFault.{ImportFault}
use Rattle.g4_imports.specs.declared.fault.ImportFault.TheVariants as importing
use Rattle.g4_load.specs.Counting.{Counts, HaltCounts, StopMisses}
use Rattle.g4_load.specs.Loading.{Composes, LoadsUnited, Merges}
use Rattle.g4_load.specs.Locating.{passes, fails}
use Rattle.g4_load.specs.Stages.{IsStopOf, OfFile, goes_on, stops}
use Rattle.g4_load.specs.Stages as of_file
use Rattle.g4_load.specs.Stopping.{IsHaltOfFetch, stop_of_fetch, stop_of_import}
use Rattle.g4_load.specs.Uniting.{Unites}
use Rattle.g4_load.specs.declared.fault.GrammarFault.{GrammarFault}
use Rattle.g4_load.specs.declared.loading.Loaded.{Loaded}
use Rattle.g4_load.specs.declared.stop.Stop.{Stop}
use Rattle.g4_load.specs.declared.stop.Stop.TheVariants as stopping
use Rattle.g4_load.specs.declared.stop.Halt.{Halt}
use Rattle.g4_load.specs.declared.stop.Halt.TheVariants as halts
use Rattle.g4_load.specs.declared.whole.United.{United}

module _ (before now : ℕ) (more : before ≤ now) where
  -- a fault of a file adds nothing to the count of misses
  fault_misses : (stop : Stop) (file : List ℕ) (fault : GrammarFault) → stop ≡ stopping.Fault file fault → StopMisses ⊥ before now stop
  fault_misses stop file fault same = subst (λ (s : Stop). StopMisses ⊥ before now s) (sym same) more

  import_misses : (fault : ImportFault) (stop : Stop) → stop ≡ stop_of_import fault → StopMisses ⊥ before now stop
  import_misses (importing.RuleTwice file rule) stop h = fault_misses stop file _ h
  import_misses (importing.BadImport file name) stop h = fault_misses stop file _ h

  composes_misses : (grammar : WithImports) (lexer : Option ℕ) (stop : Stop) → Composes grammar lexer (Err stop)
      → StopMisses ⊥ before now stop
  composes_misses grammar lexer stop (fault, is, same) = import_misses fault stop same

  file_misses : {X : Type 0} (name : List ℕ) (Stage : Result X GrammarFault → Type 0) (stop : Stop) → OfFile name Stage (Err stop)
      → StopMisses ⊥ before now stop
  file_misses {X} name Stage stop h = by (Err stop) h refl
    where
      by : (r : Result X Stop) → OfFile name Stage r → r ≡ Err stop → StopMisses ⊥ before now stop
      by r (of_file.passes x is) same = absurd (let no_way : ⊥ = cc in no_way)
      by r (of_file.fails fault is) same =
          let here : stopping.Fault name fault ≡ stop = cc in fault_misses stop name fault (sym here)

  merges_misses : (name : List ℕ) (fetched : Fetched) (stop : Stop) → Merges name fetched (Err stop) → StopMisses ⊥ before now stop
  merges_misses name fetched stop h = by (Err stop) h refl
    where
      by : (r : Result United Stop) → Merges name fetched r → r ≡ Err stop → StopMisses ⊥ before now stop
      by r (stops fault is) same =
          let here : fault ≡ stop = cc in
          composes_misses fetched.grammar fetched.lexer stop
          (subst (λ (s : Stop). Composes fetched.grammar fetched.lexer (Err s)) here is)
      by r (goes_on x s is on) same =
          file_misses name (Unites fetched.table x x.grammar.merged.source.kind) stop
          (subst (λ (t : Result United Stop). OfFile name (Unites fetched.table x x.grammar.merged.source.kind) t) same on)

  united_misses : (main : List ℕ) (united : United) (stop : Stop) → LoadsUnited main united (Err stop) → StopMisses ⊥ before now stop
  united_misses main united stop h = by (Err stop) h refl
    where
      by : (r : Result Loaded Stop) → LoadsUnited main united r → r ≡ Err stop → StopMisses ⊥ before now stop
      by r (passes x is) same = absurd (let no_way : ⊥ = cc in no_way)
      by r (fails fault s is (file, of, at)) same =
          let here : s ≡ stop = cc in
          fault_misses stop file fault (sym here ∙ at)

  module _ (faults_before faults_now : ℕ) (same : faults_now ≡ faults_before) where
    stop_counts : {X : Type 0} (Stage : Result X Stop → Type 0) → ((stop : Stop) → Stage (Err stop) → StopMisses ⊥ before now stop)
        → (halt : Halt) → IsStopOf Stage halt → HaltCounts ⊥ faults_before faults_now before now halt
    stop_counts Stage misses (halts.Stop stop) h = (same, misses stop h)
    stop_counts Stage misses halts.Failed h = absurd h
    stop_counts Stage misses halts.NoMemory h = (same, more)

module _ (faults_before faults_now before now : ℕ) (grammar : Fetched)
    (counts : Counts {X = Fetched} ⊥ faults_before faults_now before now (Ok grammar)) where
  -- where a grammar does not become one with its files
  pub merging_counts : (name : List ℕ) (halt : Halt) → IsStopOf (Merges name grammar) halt
      → HaltCounts ⊥ faults_before faults_now before now halt
  merging_counts name =
      stop_counts before now counts.1 faults_before faults_now counts.0 (Merges name grammar)
      (merges_misses before now counts.1 name grammar)

  -- or has a fault
  pub united_counts : (main : List ℕ) (united : United) (halt : Halt) → IsStopOf (LoadsUnited main united) halt
      → HaltCounts ⊥ faults_before faults_now before now halt
  united_counts main united =
      stop_counts before now counts.1 faults_before faults_now counts.0 (LoadsUnited main united)
      (united_misses before now counts.1 main united)

module _ (faults_before faults_now before now : ℕ) (main : List ℕ) where
  stop_told : (stop : FetchStop) → FetchMisses before now stop → StopMisses ⊥ before now (stop_of_fetch main stop)
  stop_told (fetching.Absent name) h = h
  stop_told (fetching.TooLarge name size) h = h
  stop_told (fetching.Unreadable name fault) h = h

  -- where fetching halts
  pub fetch_counts : (halt : FetchHalt) (told : Halt) → FetchHaltCounts faults_before faults_now before now halt
      → IsHaltOfFetch main halt told → HaltCounts ⊥ faults_before faults_now before now told
  fetch_counts (halting.Stop stop) (halts.Stop other) counts is =
      (counts.0, subst (λ (s : Stop). StopMisses ⊥ before now s) (sym is) (stop_told stop counts.1))
  fetch_counts (halting.Stop stop) halts.Failed counts is = absurd is
  fetch_counts (halting.Stop stop) halts.NoMemory counts is = (counts.0, no_fewer stop counts.1)
    where
      no_fewer : (stop : FetchStop) → FetchMisses before now stop → before ≤ now
      no_fewer (fetching.Absent name) h = omega (arith, h.0)
      no_fewer (fetching.TooLarge name size) h = omega (arith, h.0)
      no_fewer (fetching.Unreadable name fault) h = h
  fetch_counts halting.Failed told counts is =
      subst (λ (h : Halt). HaltCounts ⊥ faults_before faults_now before now h) (sym is) counts
  fetch_counts halting.NoMemory told counts is =
      subst (λ (h : Halt). HaltCounts ⊥ faults_before faults_now before now h) (sym is) counts
