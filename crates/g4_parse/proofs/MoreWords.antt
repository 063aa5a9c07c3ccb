-- Where atoms read some words more, elements still derive what they derived.
use Rattle.std.proofs.Common.{List, []}
use Rattle.g4_source.specs.Elements.{Element, Elements, Alternatives}
use Rattle.g4_grammar.specs.Derives.{NoCalls, Derives, an_atom, a_call, a_block, left_out, taken, no_turn, a_turn, turns, DerivesAll, nothing, one_more, DerivesOne, this, another}

module _ {A W : Type 0} (Reads More : A → List W → Type 0) (more : (a : A) (w : List W) → Reads a w → More a w) where
  mutual
    -- an element
    derives_more : {x : Element A} {w : List W} → Derives Reads NoCalls [] x w → Derives More NoCalls [] x w
    derives_more (an_atom a w reads) = an_atom a w (more a w reads)
    derives_more (a_call a rule xs w calls is d) = absurd calls
    derives_more (a_block label xs w d) = a_block label xs w (one_derives_more d)
    derives_more (left_out label sign xs) = left_out label sign xs
    derives_more (taken label sign xs w d) = taken label sign xs w (one_derives_more d)
    derives_more (no_turn label sign xs) = no_turn label sign xs
    derives_more (a_turn label sign xs u v w d again parts) = a_turn label sign xs u v w (one_derives_more d) (derives_more again) parts
    derives_more (turns label sign xs u v w d again parts) = turns label sign xs u v w (one_derives_more d) (derives_more again) parts

    -- elements one after another
    pub all_derive_more : {xs : Elements A} {w : List W} → DerivesAll Reads NoCalls [] xs w → DerivesAll More NoCalls [] xs w
    all_derive_more nothing = nothing
    all_derive_more (one_more x xs u v w d ds parts) = one_more x xs u v w (derives_more d) (all_derive_more ds) parts

    -- alternatives
    one_derives_more : {xs : Alternatives A} {w : List W} → DerivesOne Reads NoCalls [] xs w → DerivesOne More NoCalls [] xs w
    one_derives_more (this x xs w d) = this x xs w (all_derive_more d)
    one_derives_more (another x xs w d) = another x xs w (one_derives_more d)
