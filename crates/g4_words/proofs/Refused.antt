-- An error of `clap` that is not want of memory: the words have a fault.
use Rattle.std.proofs.Common.{◌≡◌, ◌≢◌, List, [], inl, inr, subst, true, refl}
use Rattle.clap.specs.Words.{App, HasKind, IsAmong, Kinds, Text, fault_of, is_simple_and_free, kind_of}
use Rattle.clap.specs.declared.error.Error.{Error}
use Rattle.clap.specs.declared.error.kind.ErrorKind.TheVariants.{OutOfMemory}
use Rattle.g4_words.specs.App.{g4_app}

-- a list that holds the kind of an error is not empty
pub some_kind : (kinds : Kinds) (e : Error) → HasKind kinds e → kind_of e ≢ OutOfMemory → kinds ≢ []
some_kind kinds e (inl memory) other none = other memory
some_kind kinds e (inr among) other none = subst (IsAmong (kind_of e)) none among

-- the words have a fault for the command line that the app is
pub refused : (app : App) (words : List Text) (e : Error) → app ≡ g4_app
    → (is_simple_and_free app ≡ true → HasKind (fault_of app words) e) → kind_of e ≢ OutOfMemory → fault_of g4_app words ≢ []
refused app words e is kinds other = some_kind (fault_of g4_app words) e
    (subst (λ (a : App). is_simple_and_free a ≡ true → HasKind (fault_of a words) e) is kinds refl) other
