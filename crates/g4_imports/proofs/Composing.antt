-- Files are one grammar, the first being the main one.
use Rattle.std.proofs.Common.{◌≡◌, ℕ, ◌<◌, List, [], ◌∷◌, ◌++◌, length, map, take, drop, get_or, refl, sym, ap, ◌∙◌, subst, arith}
use Rattle.std.specs.List.{remove}
use Rattle.g4_source.specs.declared.source.Source.{Source}
use Rattle.g4_merge.specs.Merging.{merged_of}
use Rattle.g4_merge.specs.declared.merging.Merged.{Merged}
use Rattle.g4_fetch.specs.Closures.{file_names}
use Rattle.g4_fetch.specs.declared.closure.GrammarFile.{GrammarFile}
use Rattle.g4_imports.specs.Composites.{IsComposite, sources_of}

pub composed : (files : List GrammarFile) (names : List (List ℕ)) (sources rest : List Source) (main : Source) (merged : Merged)
    → 0 < length files → names ≡ file_names files → sources ≡ sources_of files → main ≡ get_or sources 0 main → rest ≡ remove sources 0
    → merged ≡ merged_of main rest → IsComposite files (record { merged = merged; names = names })
composed [] names sources rest main merged some named apart first others is = absurd (omega (arith, some))
composed (file ∷ files) names sources rest main merged some named apart first others is =
    let main_is : main ≡ file.source = first ∙ ap (λ (ss : List Source). get_or ss 0 main) apart in
    let rest_is : rest ≡ sources_of files = others ∙ ap (λ (ss : List Source). remove ss 0) apart in record {
      main = file;
      imports = files;
      parts = refl;
      merged = is ∙ (ap (λ (m : Source). merged_of m rest) main_is ∙ ap (merged_of file.source) rest_is);
      names = named;
    }
