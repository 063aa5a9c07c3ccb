-- There is a main grammar, and each block of each grammar has an alternative.
use Rattle.std.proofs.Common.{◌≡◌, ◌<◌, List, [], ◌∷◌, ◌++◌, length, sym, subst, ap, arith}
use Rattle.std.specs.List.{All}
use Rattle.std.proofs.lemmas.List.{length_push}
use Rattle.std.proofs.lemmas.List.Elements.{All-nil, All-cons, All-push}
use Rattle.g4_source.specs.Blocks.{HaveAlternatives}
use Rattle.g4_fetch.specs.declared.closure.GrammarFile.{GrammarFile}

-- the file's blocks have alternatives
abbrev pub IsFilled : GrammarFile → Type 0
IsFilled file = HaveAlternatives file.source

abbrev pub AreFilled : List GrammarFile → Type 0
AreFilled files = (0 < length files) × All IsFilled files

pub filled_alone : (main : GrammarFile) (files : List GrammarFile) → files ≡ main ∷ [] → IsFilled main → AreFilled files
filled_alone main files is full = subst AreFilled (sym is) (omega arith, All-cons IsFilled main [] full (All-nil IsFilled))

pub filled_more : (old new : List GrammarFile) (file : GrammarFile) → new ≡ old ++ file ∷ [] → IsFilled file → AreFilled old → AreFilled new
filled_more old new file is full h =
    subst AreFilled (sym is) ((let l = length_push old file in omega (arith, l)), All-push IsFilled old file h.1 full)
