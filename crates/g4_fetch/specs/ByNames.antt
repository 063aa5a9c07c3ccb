-- Values by names.
use Rattle.std.specs.Prelude.{ℕ, List, Option}
use Rattle.std.specs.BTreeMap.{get_by_text}
use Rattle.g4_fetch.specs.declared.by_name.ByName.{ByName}

-- the value of a name
unfoldable pub value_of : {T : Type 0} → ByName T → List ℕ → Option T
value_of values name = get_by_text values.entries name
