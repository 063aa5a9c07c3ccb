use Rattle.std.proofs.Common.{◌≡◌, ℕ, ◌+◌, ◌-◌, ◌*◌, ◌<◌, List, length, get_or, take, drop, ap, arith, subst, sym, ◌∙◌}
use Rattle.std.proofs.lemmas.List.{get_or-drop, get_or-take, length-drop, length-take}
use Rattle.g4_store.specs.Words.{Stands}
use Rattle.g4_tally.specs.Counts.{IsEdgeOf, IsRowOf}
use Rattle.g4_tally.specs.Sizes.{HasSize}
use Rattle.g4_tally.proofs.Counting.{edges_size, rows_size}
use Rattle.g4_tally.proofs.counts.counts_of.Goals as goal

pub returns : goal.returns
returns g c =
    let p = c.args.listing.now.plan in
    let words = c.args.listing.now.words.items in
    let rows = c.args.listing.now.rows.items in
    let read = c.deref.result.now in
    let closes = c.requires.1 in
    let count = c.len.result - p.starts - p.rows in
    let size : count ≡ p.rows * p.columns = omega (arith, c.len.ensures, closes.shows.size) in
    let long : length (take count (drop p.rows read)) ≡ p.rows * p.columns =
    omega (arith, size, length-take count (drop p.rows read), length-drop p.rows read, c.deref.ensures.len, closes.shows.size) in
    let same : (k : ℕ) → k < p.rows * p.columns → get_or (take count (drop p.rows read)) k 0 ≡ get_or words (p.rows + k) 0 =
    λ k within. get_or-take count (drop p.rows read) k 0 (omega (arith, size, within))
    ∙ (get_or-drop p.rows read k 0 ∙ ap (λ (ws : List ℕ). get_or ws (p.rows + k) 0) c.deref.ensures.value) in
    record {
      rows = subst (HasSize (IsRowOf (Stands p words rows))) (sym (ap length c.as_slice.ensures.value))
          (rows_size g.A.Automaton.starts g.A.Automaton.leads p c.requires.0 words rows closes);
      edges = subst (HasSize (IsEdgeOf (Stands p words rows))) (sym c.filled_among.ensures)
          (edges_size g.A.Automaton.starts g.A.Automaton.leads p c.requires.0 words rows closes (take count (drop p.rows read)) long same);
    }
