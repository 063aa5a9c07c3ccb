-- The numbers that two maps have for keys, with one more.
use Rattle.std.proofs.Common.{◌≡◌, ℕ, List, [], Bool, true, false, cond, Option, Some, None, refl, sym, ap, ◌∙◌, subst, string_bytes}
use Rattle.std.specs.BTreeMap.{BTreeMap, get_by, get_by_text, is_at, UpdatesBy}
use Rattle.std.specs.Cmp.{eq_by_cmp_equiv}
use Rattle.std.specs.Cmp.Lexicographic.{slice_cmp, nat_list_cmp_total, nat_list_eq_equiv}
use Rattle.std.specs.Map.{KeepsOthers, lookup}
use Rattle.std.specs.Ordering.{is_eq, nat_cmp}
use Rattle.std.specs.Str.{bytes_eq}
use Rattle.std.specs.Prelude.{String, Vec}
use Rattle.std.specs.String.{string_cmp}
use Rattle.std.specs.declared.cmp.Ordering.{Ordering}
use Rattle.std.proofs.lemmas.Map.Text.{btree_map_updates_text, is_eq-slice_cmp, text_cmp}
use Rattle.std.proofs.lemmas.Slice.Eq.{bytes_eq-Decides}
use Rattle.g4_token_file.specs.Indexed.{numbered}
use Rattle.g4_token_file.specs.Keys.{is_key}
use Rattle.g4_token_file.specs.declared.entry.TokenKey.{TokenKey}
use Rattle.g4_token_file.specs.declared.entry.TokenKey.TheVariants.{Name, Literal}
use Rattle.g4_token_file.specs.declared.numbers.Numbers.{Numbers}

-- the order of a key and these characters
abbrev at_characters : {Z : Type 0} → List ℕ → Vec ℕ Z → Ordering
at_characters characters key = slice_cmp nat_cmp characters key.items

apart : (bs cs ks : List ℕ) → bytes_eq bs cs ≡ false → is_eq (slice_cmp nat_cmp bs ks) ≡ true → is_eq (slice_cmp nat_cmp cs ks) ≡ false
apart bs cs ks other here =
    is_eq-slice_cmp cs ks
    ∙ (nat_list_eq_equiv.symm cs ks
    ∙ (sym (nat_list_eq_equiv.congr bs ks cs (sym (is_eq-slice_cmp bs ks) ∙ here)) ∙ other))

-- the value at any characters, after a change at these
updated : {Z X : Type 0} (bs : List ℕ) (m n : BTreeMap (Vec ℕ Z) X) (w : Option X)
    → UpdatesBy (λ x y. slice_cmp nat_cmp x.items y.items) (λ k. slice_cmp nat_cmp bs k.items) m n w → (cs : List ℕ)
    → get_by (λ k. slice_cmp nat_cmp cs k.items) n ≡ cond (bytes_eq bs cs) w (get_by (λ k. slice_cmp nat_cmp cs k.items) m)
unfolding KeepsOthers
updated {Z} {X} bs m n w h cs = by (bytes_eq bs cs) refl
  where
    by : (b : Bool) → bytes_eq bs cs ≡ b
        → get_by (λ (k : Vec ℕ Z). slice_cmp nat_cmp cs k.items) n ≡ cond b w (get_by (λ (k : Vec ℕ Z). slice_cmp nat_cmp cs k.items) m)
    by true e = let P : List ℕ → Type 0 = λ ds. get_by (λ (k : Vec ℕ Z). slice_cmp nat_cmp ds k.items) n ≡ w in
        subst P ((bytes_eq-Decides bs cs).0 e) h.1
    by false e = h.3 (is_at (λ (k : Vec ℕ Z). slice_cmp nat_cmp cs k.items))
        (λ x y. (eq_by_cmp_equiv nat_list_cmp_total).congr cs x.items y.items) (λ k. apart bs cs k.items e)

-- nothing has a number
pub none_numbered : (numbers : Numbers) → numbers.names.entries ≡ [] → numbers.literals.entries ≡ [] → (key : TokenKey)
    → numbered numbers key ≡ None
unfolding numbered
none_numbered numbers names literals (Name name) = ap (lookup (is_at (text_cmp name))) names
none_numbered numbers names literals (Literal characters) = ap (lookup (is_at (at_characters characters))) literals

-- a name is given a number
pub name_more : {Y : Type 0} (old new : Numbers) (name : List ℕ) (key : String Y) (number : ℕ) → string_bytes key ≡ name
    → UpdatesBy string_cmp (λ k. slice_cmp nat_cmp (string_bytes key) (string_bytes k)) old.names new.names (Some number)
    → new.literals ≡ old.literals → (other : TokenKey)
    → numbered new other ≡ cond (is_key (Name name) other) (Some number) (numbered old other)
unfolding numbered
name_more old new name key number key_is updates same (Name other) =
    btree_map_updates_text (string_bytes key) old.names new.names (Some number) updates other
    ∙ ap (λ (n : List ℕ). cond (bytes_eq n other) (Some number) (get_by_text old.names other)) key_is
name_more old new name key number key_is updates same (Literal characters) =
    ap (λ m. get_by (λ k. slice_cmp nat_cmp characters k.items) m) same

-- a literal is given a number
pub literal_more : {Z : Type 0} (old new : Numbers) (characters : List ℕ) (key : Vec ℕ Z) (number : ℕ) → key.items ≡ characters
    → UpdatesBy (λ x y. slice_cmp nat_cmp x.items y.items) (λ k. slice_cmp nat_cmp key.items k.items) old.literals new.literals
    (Some number) → new.names ≡ old.names → (other : TokenKey)
    → numbered new other ≡ cond (is_key (Literal characters) other) (Some number) (numbered old other)
unfolding numbered
literal_more old new characters key number key_is updates same (Name other) =
    ap (λ m. get_by (λ k. slice_cmp nat_cmp other (string_bytes k)) m) same
literal_more old new characters key number key_is updates same (Literal other) =
    updated key.items old.literals new.literals (Some number) updates other
    ∙ ap (λ (cs : List ℕ). cond (bytes_eq cs other) (Some number) (get_by (λ k. slice_cmp nat_cmp other k.items) old.literals)) key_is
