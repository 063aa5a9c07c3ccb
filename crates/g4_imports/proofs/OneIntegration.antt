-- Of a grammar with its imports one thing is reported: the grammar that they are together, or the first fault.
use Rattle.std.proofs.Common.{◌≡◌, List, [], ◌∷◌, ℕ, Option, Some, Ok, Err, map, take, drop, refl, sym, ap, ◌∙◌, subst}
use Rattle.std.specs.List.{slice_get}
use Rattle.std.proofs.lemmas.Option.{same_Some}
use Rattle.g4_source.proofs.OneFirst.{IsOne, one_first, not_both}
use Rattle.g4_source.specs.declared.source.Source.{Source}
use Rattle.g4_merge.specs.Merging.{merged_of}
use Rattle.g4_merge.specs.declared.merging.Merged.{Merged}
use Rattle.g4_vocab.specs.Names.{first_repeated}
use Rattle.g4_fetch.specs.declared.closure.GrammarFile.{GrammarFile}
use Rattle.g4_fetch.specs.declared.closure.Import.{Import}
use Rattle.g4_fetch.specs.declared.closure.WithImports.{WithImports}
use Rattle.g4_imports.specs.Composites.{AreComposites, IsComposite, apart, as_one, sources_of}
use Rattle.g4_imports.specs.Faults.{CannotImport, HasNoFault, IsFault, RepeatsRule}
use Rattle.g4_imports.specs.declared.composite.Composite.{Composite}
use Rattle.g4_imports.specs.declared.composite.Composites.{Composites}
use Rattle.g4_imports.specs.declared.fault.ImportFault.{ImportFault}
use Rattle.g4_imports.specs.declared.fault.ImportFault.TheVariants.{RuleTwice, BadImport}

-- of a file one repeated name is reported
one_repeated : IsOne RepeatsRule
one_repeated file a b h k =
    let rule : h.0 ≡ k.0 = let both = sym h.1 ∙ k.1 in cc in
    h.2 ∙ (ap (RuleTwice file.name) rule ∙ sym k.2)

-- of an import one fault
one_bad : (grammar : WithImports) → IsOne (CannotImport grammar)
one_bad grammar import a b h k =
    let file : h.importer ≡ k.importer = same_Some h.importer k.importer (sym h.importer_there ∙ k.importer_there) in
    h.told ∙ (ap (λ (f : GrammarFile). BadImport f.name import.name) file ∙ sym k.told)

module _ (grammar : WithImports) where
  pub one_fault : (a b : ImportFault) → IsFault grammar a → IsFault grammar b → a ≡ b
  one_fault (RuleTwice file rule) (RuleTwice other second) h k = one_first RepeatsRule one_repeated grammar.files _ _ h k
  one_fault (RuleTwice file rule) (BadImport other name) h k = absurd (not_both RepeatsRule grammar.files _ k.0 h)
  one_fault (BadImport file name) (RuleTwice other rule) h k = absurd (not_both RepeatsRule grammar.files _ h.0 k)
  one_fault (BadImport file name) (BadImport other second) h k =
      one_first (CannotImport grammar) (one_bad grammar) grammar.imports _ _ h.1 k.1

  pub no_fault : (a : ImportFault) → HasNoFault grammar → IsFault grammar a → ⊥
  no_fault (RuleTwice file rule) none h = not_both RepeatsRule grammar.files _ none.0 h
  no_fault (BadImport file name) none h = not_both (CannotImport grammar) grammar.imports _ none.1 h.1

same_first : (x y : GrammarFile) (xs ys : List GrammarFile) → x ∷ xs ≡ y ∷ ys → x ≡ y
same_first x y xs ys e = cc

same_others : (x y : GrammarFile) (xs ys : List GrammarFile) → x ∷ xs ≡ y ∷ ys → xs ≡ ys
same_others x y xs ys e = cc

same_composite : (a b : Composite) → a.merged ≡ b.merged → a.names ≡ b.names → a ≡ b
same_composite a b merged names =
    ap (λ (m : Merged). record { merged = m; names = a.names }) merged
    ∙ ap (λ (ns : List (List ℕ)). record { merged = b.merged; names = ns }) names

-- files are one grammar
pub one_composite : (files : List GrammarFile) (a b : Composite) → IsComposite files a → IsComposite files b → a ≡ b
one_composite files a b h k =
    let both = sym h.parts ∙ k.parts in
    let main = same_first h.main k.main h.imports k.imports both in
    let imports = same_others h.main k.main h.imports k.imports both in
    same_composite a b
    (h.merged
    ∙ (ap (λ (f : GrammarFile). merged_of f.source (sources_of h.imports)) main
    ∙ (ap (λ (fs : List GrammarFile). merged_of k.main.source (sources_of fs)) imports ∙ sym k.merged)))
    (h.names ∙ sym k.names)

same_composites : (a b : Composites) → a.grammar ≡ b.grammar → a.lexer ≡ b.lexer → a ≡ b
same_composites a b grammar lexer =
    ap (λ (g : Composite). record { grammar = g; lexer = a.lexer }) grammar
    ∙ ap (λ (l : Option Composite). record { grammar = b.grammar; lexer = l }) lexer

-- a grammar and its lexer grammar are these
pub one_composites : (files : List GrammarFile) (lexer : Option ℕ) (a b : Composites) → AreComposites files lexer a
    → AreComposites files lexer b → a ≡ b
one_composites files _ a b (as_one _ is none) (as_one _ also nothing) =
    same_composites a b (one_composite files a.grammar b.grammar is also) (none ∙ sym nothing)
one_composites files _ a b (apart number _ lexer is there at) (apart _ _ other also here on) =
    same_composites a b (one_composite (take number files) a.grammar b.grammar is also)
    (there ∙ (ap (λ (l : Composite). Some l) (one_composite (drop number files) lexer other at on) ∙ sym here))
