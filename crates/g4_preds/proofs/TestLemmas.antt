-- A test that is found is one of the grammar.
use Rattle.std.proofs.Common.{◌≡◌, ℕ, Bool, true, false, cond, List, [], ◌∷◌, ◌++◌, Option, Some, None, option_map, drop, codes, refl, ap, sym, ◌∙◌, subst}
use Rattle.std.specs.Str.{bytes_eq}
use Rattle.std.proofs.lemmas.Slice.Eq.{bytes_eq-Decides}
use Rattle.g4_preds.specs.declared.node.Test.{Test}
use Rattle.g4_preds.specs.declared.node.Test.TheVariants.{Constant, Flag, Inside, TextIs}
use Rattle.g4_preds.specs.declared.test_reader.Keyword.{Keyword}
use Rattle.g4_preds.specs.declared.test_reader.Keyword.TheVariants as keywords
use Rattle.g4_preds.specs.declared.test_reader.Found.{Found}
use Rattle.g4_preds.specs.declared.token.Token.{Token}
use Rattle.g4_preds.specs.declared.token.Token.TheVariants.{Name, Digit, Literal, LeftParenthesis, RightParenthesis, DoubleEquals}
use Rattle.g4_preds.specs.Grammar.{IsTest, always, never, flag, inside, text_is}
use Rattle.g4_preds.specs.Tests.{keyword, argument, comparison, test_after, test_at}

some_is : {A : Type 0} (x y : A) → Some x ≡ Some y → x ≡ y
some_is x y is = cc

none_some : {A : Type 0} (x : A) → None ≡ Some x → ⊥
none_some x is = absurd cc

-- how a keyword is spelled
abbrev pub word_of : Keyword → List ℕ
word_of keywords.True = codes "true"
word_of keywords.False = codes "false"
word_of keywords.Flag = codes "flag"
word_of keywords.Inside = codes "inside"
word_of keywords.Text = codes "text"

-- one keyword, or one of those after it
one_keyword : (name : List ℕ) (k found : Keyword) (rest : Option Keyword) (b : Bool) → bytes_eq name (word_of found) ≡ b
    → (rest ≡ Some k → name ≡ word_of k) → cond b (Some found) rest ≡ Some k → name ≡ word_of k
one_keyword name k found rest true same onward is = (bytes_eq-Decides name (word_of found)).0 same ∙ ap word_of (some_is found k is)
one_keyword name k found rest false other onward is = onward is

-- a name that is a keyword is spelled so
keyword_is : (name : List ℕ) (k : Keyword) → keyword name ≡ Some k → name ≡ word_of k
keyword_is name k is =
    one_keyword name k keywords.True _ (bytes_eq name (codes "true")) refl
    (one_keyword name k keywords.False _ (bytes_eq name (codes "false")) refl
    (one_keyword name k keywords.Flag _ (bytes_eq name (codes "flag")) refl
    (one_keyword name k keywords.Inside _ (bytes_eq name (codes "inside")) refl
    (one_keyword name k keywords.Text None (bytes_eq name (codes "text")) refl
    (λ none. absurd (none_some k none)))))) is

argument_is : (rest : List Token) (name : List ℕ) → argument rest ≡ Some name
    → rest ≡ LeftParenthesis ∷ Name name ∷ RightParenthesis ∷ drop 3 rest
argument_is (LeftParenthesis ∷ Name n ∷ RightParenthesis ∷ rest) name is =
    ap (λ m. LeftParenthesis ∷ Name m ∷ RightParenthesis ∷ rest) (some_is n name is)
argument_is rest name is = absurd (none_some name is)

-- a comparison that is found
record Compared (rest : List Token) (t : Test) : Type 0 where
  nth : ℕ
  text : List ℕ
  is : t ≡ TextIs nth text
  are : rest ≡ LeftParenthesis ∷ Digit nth ∷ RightParenthesis ∷ DoubleEquals ∷ Literal text ∷ drop 5 rest

comparison_is : (rest : List Token) (t : Test) → comparison rest ≡ Some t → Compared rest t
comparison_is (LeftParenthesis ∷ Digit n ∷ RightParenthesis ∷ DoubleEquals ∷ Literal cs ∷ rest) t is =
    record { nth = n; text = cs; is = sym (some_is (TextIs n cs) t is); are = refl }
comparison_is rest t is = absurd (none_some t is)

-- a test that the tokens begin with
pub record Tested (token : Token) (rest : List Token) (found : Found) : Type 0 where
  pub front : List Token
  pub are : token ∷ rest ≡ front ++ drop found.more rest
  pub is : IsTest front found.test

by_flag : (rest : List Token) (f : Found) (o : Option (List ℕ)) → argument rest ≡ o
    → option_map {U = Found} (λ name. record { test = Flag name; more = 3 }) o ≡ Some f → Tested (Name (codes "flag")) rest f
by_flag rest f None found is = absurd (none_some f is)
by_flag rest f (Some name) found is =
    let here : Found = record { test = Flag name; more = 3 } in
    subst (Tested (Name (codes "flag")) rest) (some_is here f is) (record {
      front = Name (codes "flag") ∷ LeftParenthesis ∷ Name name ∷ RightParenthesis ∷ [];
      are = ap (λ ts. Name (codes "flag") ∷ ts) (argument_is rest name found);
      is = flag name;
    })

by_inside : (rest : List Token) (f : Found) (o : Option (List ℕ)) → argument rest ≡ o
    → option_map {U = Found} (λ rule. record { test = Inside rule; more = 3 }) o ≡ Some f → Tested (Name (codes "inside")) rest f
by_inside rest f None found is = absurd (none_some f is)
by_inside rest f (Some rule) found is =
    let here : Found = record { test = Inside rule; more = 3 } in
    subst (Tested (Name (codes "inside")) rest) (some_is here f is) (record {
      front = Name (codes "inside") ∷ LeftParenthesis ∷ Name rule ∷ RightParenthesis ∷ [];
      are = ap (λ ts. Name (codes "inside") ∷ ts) (argument_is rest rule found);
      is = inside rule;
    })

compared_test : (rest : List Token) (t : Test) → Compared rest t → Tested (Name (codes "text")) rest (record { test = t; more = 5 })
compared_test rest t c = record {
  front = Name (codes "text") ∷ LeftParenthesis ∷ Digit c.nth ∷ RightParenthesis ∷ DoubleEquals ∷ Literal c.text ∷ [];
  are = ap (λ ts. Name (codes "text") ∷ ts) c.are;
  is = subst (IsTest (Name (codes "text") ∷ LeftParenthesis ∷ Digit c.nth ∷ RightParenthesis ∷ DoubleEquals ∷ Literal c.text ∷ []))
      (sym c.is) (text_is c.nth c.text);
}

by_text : (rest : List Token) (f : Found) (o : Option Test) → comparison rest ≡ o
    → option_map {U = Found} (λ t. record { test = t; more = 5 }) o ≡ Some f → Tested (Name (codes "text")) rest f
by_text rest f None found is = absurd (none_some f is)
by_text rest f (Some t) found is =
    let here : Found = record { test = t; more = 5 } in
    subst (Tested (Name (codes "text")) rest) (some_is here f is) (compared_test rest t (comparison_is rest t found))

by_word : (k : Keyword) (rest : List Token) (f : Found) → test_after k rest ≡ Some f → Tested (Name (word_of k)) rest f
by_word keywords.True rest f is =
    let here : Found = record { test = Constant true; more = 0 } in
    subst (Tested (Name (codes "true")) rest) (some_is here f is) (record { front = Name (codes "true") ∷ []; are = refl; is = always })
by_word keywords.False rest f is =
    let here : Found = record { test = Constant false; more = 0 } in
    subst (Tested (Name (codes "false")) rest) (some_is here f is) (record { front = Name (codes "false") ∷ []; are = refl; is = never })
by_word keywords.Flag rest f is = by_flag rest f (argument rest) refl is
by_word keywords.Inside rest f is = by_inside rest f (argument rest) refl is
by_word keywords.Text rest f is = by_text rest f (comparison rest) refl is

by_keyword : (name : List ℕ) (rest : List Token) (f : Found) (o : Option Keyword) → keyword name ≡ o
    → ◌≡◌ {A = Option Found} (elim o [ Some k ↦ test_after k rest | None ↦ None ]) (Some f) → Tested (Name name) rest f
by_keyword name rest f None key is = absurd (none_some f is)
by_keyword name rest f (Some k) key is = subst (λ (n : List ℕ). Tested (Name n) rest f) (sym (keyword_is name k key)) (by_word k rest f is)

-- what is found is a test that the tokens begin with
pub test_found : (token : Token) (rest : List Token) (f : Found) → test_at token rest ≡ Some f → Tested token rest f
test_found (Name name) rest f is = by_keyword name rest f (keyword name) refl is
test_found token rest f is = absurd (none_some f is)
