-- A grammar with all that it imports and with its vocabulary becomes one, and is loaded.
use Rattle.std.specs.Prelude.{⊤}
use Rattle.std.proofs.Common.{◌≡◌, ℕ, List, Option, Result, Ok, Err, refl, sym, subst}
use Rattle.g4_source.specs.declared.refused.Refused.{Refused}
use Rattle.g4_source.specs.declared.refused.Refused.TheVariants as refusals
use Rattle.g4_source.specs.Refusals.{Answers}
use Rattle.g4_fetch.specs.Fetching.{FetchesAll}
use Rattle.g4_fetch.specs.Files.{Files}
use Rattle.g4_fetch.specs.Reading.{AfterFetches as AfterAll, IsHaltOf as IsFetchHaltOf}
use Rattle.g4_fetch.specs.declared.closure.Fetched.{Fetched}
use Rattle.g4_fetch.specs.declared.closure.WithImports.{WithImports}
use Rattle.g4_fetch.specs.declared.stop.Halt.{Halt as FetchHalt}
use Rattle.g4_fetch.specs.declared.stop.Halt.TheVariants as halting
use Rattle.g4_imports.specs.Composites.{AreComposites}
use Rattle.g4_imports.specs.Faults.{HasNoFault, IsFault}
use Rattle.g4_imports.specs.declared.composite.Composites.{Composites}
use Rattle.g4_imports.specs.declared.fault.ImportFault.{ImportFault}
use Rattle.g4_load.specs.Loading.{Composes, Loads, LoadsUnited, Merges, Reads, reads}
use Rattle.g4_load.specs.Loading as loading
use Rattle.g4_load.specs.Stages.{AfterFetches, IsHaltOf, IsStopOf, OfFile, Then, fails, goes_on, passes, stops}
use Rattle.g4_load.specs.Stopping.{IsHaltOfFetch, halt_of_import, stop_of_import}
use Rattle.g4_load.specs.Uniting.{Unites}
use Rattle.g4_load.specs.declared.fault.GrammarFault.{GrammarFault}
use Rattle.g4_load.specs.declared.loading.Loaded.{Loaded}
use Rattle.g4_load.specs.declared.stop.Stop.{Stop}
use Rattle.g4_load.specs.declared.stop.Stop.TheVariants as stopping
use Rattle.g4_load.specs.declared.stop.Halt.{Halt}
use Rattle.g4_load.specs.declared.stop.Halt.TheVariants as halts
use Rattle.g4_load.specs.declared.whole.United.{United}

module _ (files : Files) (library : Option (List ℕ)) (name : List ℕ) where
  -- a grammar that is not fetched
  pub not_read : (halt : FetchHalt) (told : Halt) → IsFetchHaltOf (AfterAll (FetchesAll files library name)) halt
      → IsHaltOfFetch name halt told → IsHaltOf (AfterFetches (Reads files library name)) told
  not_read (halting.Stop stop) (halts.Stop other) h is =
      (h.0, subst (λ (s : Stop). Reads files library name h.0 (Err s)) (sym is) (loading.stops h.0 stop h.1))
  not_read (halting.Stop stop) halts.Failed h is = absurd is
  not_read (halting.Stop stop) halts.NoMemory h is = tt
  not_read halting.Failed told h is = subst (IsHaltOf (AfterFetches (Reads files library name))) (sym is) tt
  not_read halting.NoMemory told h is = subst (IsHaltOf (AfterFetches (Reads files library name))) (sym is) tt

  -- one that is
  pub is_read : (grammar : Fetched) → AfterAll (FetchesAll files library name) (Ok grammar)
      → AfterFetches (Reads files library name) (Ok grammar)
  is_read grammar h = (h.0, reads h.0 grammar h.1)

  -- a grammar that is not read is not loaded
  pub read_halts : (halt : Halt) → IsHaltOf (AfterFetches (Reads files library name)) halt
      → IsHaltOf (AfterFetches (Loads files library name)) halt
  read_halts (halts.Stop stop) h = (h.0, stops stop (stops stop h.1))
  read_halts halts.Failed h = tt
  read_halts halts.NoMemory h = tt

  module _ (grammar : Fetched) (read : AfterFetches (Reads files library name) (Ok grammar)) where
    -- nor is one that does not become one
    pub merge_halts : (halt : Halt) → IsStopOf (Merges name grammar) halt → IsHaltOf (AfterFetches (Loads files library name)) halt
    merge_halts (halts.Stop stop) h = (read.0, stops stop (goes_on grammar (Err stop) read.1 h))
    merge_halts halts.Failed h = absurd h
    merge_halts halts.NoMemory h = tt

    module _ (united : United) (merges : Merges name grammar (Ok united)) where
      loads : (r : Result Loaded Stop) → LoadsUnited name united r → AfterFetches (Loads files library name) r
      loads r h = (read.0, goes_on united r (goes_on grammar (Ok united) read.1 merges) h)

      pub united_halts : (halt : Halt) → IsStopOf (LoadsUnited name united) halt → IsHaltOf (AfterFetches (Loads files library name)) halt
      united_halts (halts.Stop stop) h = loads (Err stop) h
      united_halts halts.Failed h = absurd h
      united_halts halts.NoMemory h = tt

      pub united_loads : (loaded : Loaded) → LoadsUnited name united (Ok loaded) → AfterFetches (Loads files library name) (Ok loaded)
      united_loads loaded h = loads (Ok loaded) h

module _ (grammar : WithImports) (lexer : Option ℕ) where
  -- a grammar with a fault of its imports
  pub import_halts : (refused : Refused ImportFault)
      → Answers {T = Composites} (λ composites. HasNoFault grammar × AreComposites grammar.files lexer composites) (IsFault grammar)
      (Err refused)
      → IsStopOf (Composes grammar lexer) (halt_of_import refused)
  import_halts (refusals.Fault fault) h = (fault, h, refl)
  import_halts refusals.NoMemory h = tt

module _ (name : List ℕ) (fetched : Fetched) where
  -- a grammar whose files are not put together
  pub composes_halts : (halt : Halt) → IsStopOf (Composes fetched.grammar fetched.lexer) halt → IsStopOf (Merges name fetched) halt
  composes_halts (halts.Stop stop) h = stops stop h
  composes_halts halts.Failed h = absurd h
  composes_halts halts.NoMemory h = tt

  module _ (composites : Composites) (composes : Composes fetched.grammar fetched.lexer (Ok composites)) where
    -- a parser grammar without a lexer grammar
    pub unites_not : (fault : GrammarFault)
        → Unites fetched.table composites composites.grammar.merged.source.kind (Err fault)
        → Merges name fetched (Err (stopping.Fault name fault))
    unites_not fault h = goes_on composites (Err (stopping.Fault name fault)) composes (fails fault h)

    -- a grammar as one
    pub unites_all : (united : United) → Unites fetched.table composites composites.grammar.merged.source.kind (Ok united)
        → Merges name fetched (Ok united)
    unites_all united h = goes_on composites (Ok united) composes (passes united h)
