-- Paths as they are stored, an entry at a time.
use Rattle.std.proofs.Common.{◌≡◌, ◌≤◌, ◌-◌, ℕ, zero, suc, List, [], ◌∷◌, ◌++◌, map, sym, ◌∙◌, ap, arith}
use Rattle.std.proofs.lemmas.List.{map-append}
use Rattle.g4_net.specs.Configurations.{Config}
use Rattle.g4_net.specs.Prediction as prediction
use Rattle.g4_predict.specs.declared.path.Looked as code
use Rattle.g4_predict.specs.Paths.{looked_of}
use Rattle.g4_store.specs.declared.path.Looked as stored
use Rattle.g4_learned.specs.Automata.{verdict_at}
use Rattle.g4_learned.specs.Stored.{stored_entry}
use Rattle.g4_learned.specs.Tables.{Tables}

pub entries_more : (t : Tables) (before after : List (stored.Looked (List Config))) (entries : List code.Looked)
    (entry : code.Looked) (x : stored.Looked (List Config)) → after ≡ before ++ x ∷ [] → x ≡ stored_entry t (looked_of entry)
    → before ≡ map (stored_entry t) (map looked_of entries)
    → after ≡ map (stored_entry t) (map looked_of (entries ++ entry ∷ []))
entries_more t before after entries entry x is one all =
    let parts : map (stored_entry t) (map looked_of (entries ++ entry ∷ []))
    ≡ map (stored_entry t) (map looked_of entries) ++ stored_entry t (looked_of entry) ∷ [] =
    ap (map (stored_entry t)) (map-append looked_of entries (entry ∷ []))
    ∙ map-append (stored_entry t) (map looked_of entries) (looked_of entry ∷ []) in
    is ∙ (ap (λ (xs : List (stored.Looked (List Config))). xs ++ x ∷ []) all
    ∙ (ap (λ (y : stored.Looked (List Config)). map (stored_entry t) (map looked_of entries) ++ y ∷ []) one ∙ sym parts))

-- a code that is neither of an error nor sensitive is that of an answer
pub answer_at : (code k : ℕ) → 2 ≤ code → prediction.answer (code - 2) ≡ verdict_at code k
answer_at zero k least = absurd (omega arith)
answer_at (suc zero) k least = absurd (omega arith)
answer_at (suc (suc i)) k least = let e : suc (suc i) - 2 ≡ i = omega arith in ap prediction.answer e
