-- The clauses of a grammar with its imports, one after another.
use Rattle.std.proofs.Common.{◌≡◌, ◌+◌, ℕ, ◌<◌, ◌≤◌, List, [], ◌∷◌, ◌++◌, length, Bool, true, false, Some, inl, inr, refl, sym, ap, ◌∙◌, subst, arith}
use Rattle.std.specs.List.{All, Contains, slice_get}
use Rattle.std.proofs.lemmas.Bool.{cases_lt}
use Rattle.std.proofs.lemmas.List.Elements.{All-nil, All-push, Contains-append_left, Contains-push, Contains-push_cases}
use Rattle.std.proofs.lemmas.Option.{slice_get_within, same_Some}
use Rattle.g4_horn.specs.declared.clause.Clause.{Clause}
use Rattle.g4_fetch.specs.declared.closure.GrammarFile.{GrammarFile}
use Rattle.g4_fetch.specs.declared.closure.Import.{Import}
use Rattle.g4_fetch.specs.declared.closure.WithImports.{WithImports}
use Rattle.g4_imports.specs.Clauses.{Covers, Declares, HasClause, IsRight}
use Rattle.g4_imports.specs.Modes.{declares_mode}

-- a clause among these is among more
has_more : (clauses : List Clause) (c : Clause) (head : ℕ) (needs : List ℕ) → HasClause clauses head needs
    → HasClause (clauses ++ c ∷ []) head needs
has_more clauses c head needs h = record {
  clause = h.clause;
  among = Contains-append_left clauses (c ∷ []) h.clause h.among;
  head_is = h.head_is;
  needs_are = h.needs_are;
}

-- the last one is among them
has_last : (clauses : List Clause) (c : Clause) (head : ℕ) (needs : List ℕ) → c.head ≡ head → c.needs.items ≡ needs
    → HasClause (clauses ++ c ∷ []) head needs
has_last clauses c head needs at is = record { clause = c; among = Contains-push clauses c; head_is = at; needs_are = is }

-- nothing is among none
none_there : {A : Type 0} (x : A) → Contains [] x → ⊥
none_there x h = omega (arith, h.1)

module _ (grammar : WithImports) where
  -- no clause
  pub covers_none : Covers grammar 0 [] []
  covers_none = record {
    right = All-nil (IsRight grammar);
    declared = λ number less declares. absurd (omega (arith, less));
    imported = λ import has. absurd (none_there import has);
  }

  -- more clauses, but for those of more imports
  grown : (count : ℕ) (imports : List Import) (clauses : List Clause) (c : Clause) → IsRight grammar c
      → Covers grammar count imports clauses
      → Covers grammar count imports (clauses ++ c ∷ [])
  grown count imports clauses c right h = record {
    right = All-push (IsRight grammar) clauses c h.right right;
    declared = λ number less declares. has_more clauses c number [] (h.declared number less declares);
    imported = λ import has within inside.
        has_more clauses c import.importer (import.imported ∷ []) (h.imported import has within inside);
  }

  -- the next file
  module _ (number : ℕ) (file : GrammarFile) (there : slice_get grammar.files number ≡ Some file) (clauses : List Clause)
      (h : Covers grammar number [] clauses) where
    -- declares a mode
    pub declared_more : (c : Clause) (new : List Clause) → declares_mode file.source ≡ true → c.head ≡ number → c.needs.items ≡ []
        → new ≡ clauses ++ c ∷ [] → Covers grammar (number + 1) [] new
    declared_more c new is at needs made = subst (Covers grammar (number + 1) []) (sym made) (record {
      right = more.right;
      declared = λ other less declares. elim (cases_lt other number) [
        | inl early ↦ more.declared other early declares
        | inr late ↦ subst (λ (n : ℕ). HasClause (clauses ++ c ∷ []) n [])
            (let e : number ≡ other = omega (arith, less, late) in e) (has_last clauses c number [] at needs)
      ];
      imported = more.imported;
    })
      where
        inside : c.head < length grammar.files
        inside = let w = slice_get_within grammar.files number file there in omega (arith, w, at)

        right : IsRight grammar c
        right = record {
          within = inside;
          why = inl (record {
            needs = needs;
            has = record { file = file; there = ap (slice_get grammar.files) at ∙ there; declared = is };
          });
        }

        more : Covers grammar number [] (clauses ++ c ∷ [])
        more = grown number [] clauses c right h

    -- declares none
    pub declared_skip : declares_mode file.source ≡ false → Covers grammar (number + 1) [] clauses
    declared_skip is = record {
      right = h.right;
      declared = λ other less declares. elim (cases_lt other number) [
        | inl early ↦ h.declared other early declares
        | inr late ↦ (
            let e : other ≡ number = omega (arith, less, late) in
            let same : declares.file ≡ file = same_Some declares.file file
            (sym declares.there ∙ (ap (slice_get grammar.files) e ∙ there)) in
            let both : true ≡ false =
            sym declares.declared ∙ (ap (λ (f : GrammarFile). declares_mode f.source) same ∙ is) in
            absurd (let no_way : ⊥ = cc in no_way)
            )
      ];
      imported = h.imported;
    }

  -- the next import
  module _ (count : ℕ) (before : List Import) (import : Import) (all : length grammar.files ≡ count)
      (of : Contains grammar.imports import) (clauses : List Clause) (h : Covers grammar count before clauses) where
    -- is between files
    pub imported_more : (c : Clause) (new : List Clause) → import.importer < count → c.head ≡ import.importer
        → c.needs.items ≡ import.imported ∷ [] → new ≡ clauses ++ c ∷ [] → Covers grammar count (before ++ import ∷ []) new
    imported_more c new inside at needs made = subst (Covers grammar count (before ++ import ∷ [])) (sym made) (record {
      right = more.right;
      declared = more.declared;
      imported = λ other has within imported. elim (Contains-push_cases before import other has) [
        | inl early ↦ more.imported other early within imported
        | inr same ↦ subst (λ (i : Import). HasClause (clauses ++ c ∷ []) i.importer (i.imported ∷ [])) same
            (has_last clauses c import.importer (import.imported ∷ []) at needs)
      ];
    })
      where
        right : IsRight grammar c
        right = record {
          within = omega (arith, inside, at, all);
          why = inr (record {
            imported = import.imported;
            needs = needs;
            has = record { import = import; of = of; from = sym at; to = refl };
          });
        }

        more : Covers grammar count before (clauses ++ c ∷ [])
        more = grown count before clauses c right h

    -- is not
    pub imported_skip : (import.importer < count → import.imported < count → ⊥) → Covers grammar count (before ++ import ∷ []) clauses
    imported_skip outside = record {
      right = h.right;
      declared = h.declared;
      imported = λ other has within imported. elim (Contains-push_cases before import other has) [
        | inl early ↦ h.imported other early within imported
        | inr same ↦ absurd (outside
            (let w : import.importer < count = omega (arith, within, ap (λ (i : Import). i.importer) same, all) in w)
            (let w : import.imported < count = omega (arith, imported, ap (λ (i : Import). i.imported) same, all) in w))
      ];
    }
