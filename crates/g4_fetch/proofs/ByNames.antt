-- The values of names, with one more.
use Rattle.std.proofs.Common.{◌≡◌, ℕ, List, [], cond, Some, None, ap, ◌∙◌, string_bytes}
use Rattle.std.specs.BTreeMap.{get_by_text, is_at, UpdatesBy}
use Rattle.std.specs.Cmp.Lexicographic.{slice_cmp}
use Rattle.std.specs.Map.{lookup}
use Rattle.std.specs.Ordering.{nat_cmp}
use Rattle.std.specs.Str.{bytes_eq}
use Rattle.std.specs.Prelude.{String}
use Rattle.std.specs.String.{string_cmp}
use Rattle.std.proofs.lemmas.Map.Text.{btree_map_updates_text, text_cmp}
use Rattle.g4_fetch.specs.ByNames.{value_of}
use Rattle.g4_fetch.specs.declared.by_name.ByName.{ByName}

-- no name has a value
pub no_value : {T : Type 0} (values : ByName T) → values.entries.entries ≡ [] → (name : List ℕ) → value_of values name ≡ None
unfolding value_of
no_value values empty name = ap (lookup (is_at (text_cmp name))) empty

-- a name is given a value
pub one_more : {T Y : Type 0} (old new : ByName T) (name : List ℕ) (key : String Y) (value : T) → string_bytes key ≡ name
    → UpdatesBy string_cmp (λ k. slice_cmp nat_cmp (string_bytes key) (string_bytes k)) old.entries new.entries (Some value)
    → (other : List ℕ) → value_of new other ≡ cond (bytes_eq name other) (Some value) (value_of old other)
unfolding value_of
one_more old new name key value key_is updates other =
    btree_map_updates_text (string_bytes key) old.entries new.entries (Some value) updates other
    ∙ ap (λ (n : List ℕ). cond (bytes_eq n other) (Some value) (get_by_text old.entries other)) key_is
