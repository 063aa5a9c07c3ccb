use Rattle.std.proofs.Common.{◌≡◌, ℕ, List, ap, Bor}
use Rattle.std.specs.BTreeMap.{is_at}
use Rattle.std.specs.Cmp.Lexicographic.{slice_cmp}
use Rattle.std.specs.Map.{lookup}
use Rattle.std.specs.Ordering.{nat_cmp}
use Rattle.g4_names.specs.Places.{place_in}
use Rattle.g4_names.proofs.places.Places.new.Goals as goal

pub returns : goal.returns
unfolding place_in
returns c = λ name. ap (λ (entries : List (Bor (List ℕ) × ℕ)).
    lookup (is_at (λ (other : Bor (List ℕ)). slice_cmp nat_cmp name other.now)) entries) c.new.ensures.empty
