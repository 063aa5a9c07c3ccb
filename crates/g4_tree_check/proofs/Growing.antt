-- What is left to be read, item by item.
use Rattle.std.proofs.Common.{◌≡◌, ◌↔◌, ℕ, ◌+◌, List, [], ◌∷◌, ◌++◌, length, refl, sym, ap, ◌∙◌, subst, append_assoc, arith}
use Rattle.std.proofs.lemmas.List.{append-nil, length-append}
use Rattle.g4_grammar.specs.StepRules.{StepRule}
use Rattle.g4_trees.specs.declared.tree.Item.{Item}
use Rattle.g4_trees.specs.declared.tree.Item.TheVariants as items
use Rattle.g4_trees.specs.Trees.{leaf, node, no_tree, a_tree, items_of, items_of_all, tokens_of_all}
use Rattle.g4_tree_check.specs.declared.standing.OpenNode.{OpenNode}
use Rattle.g4_tree_check.specs.Standing.{IsOneNode, FitsBody, Grows, Closes, Completes}
use Rattle.g4_tree_check.specs.TreesOf.{heads_of, ArePlaced, IsTreeOf}

module _ (rules : List StepRule) (word : List ℕ) where
  module _ (May : List Item → ℕ → List Item → Type 0) where
    -- nothing more of these children
    pub grown : (heads : List Item) (next : ℕ) (rest : List Item) → May heads next rest → Grows rules word May heads next rest
    grown heads next rest may =
        let same : heads ≡ heads ++ [] = sym (append-nil heads) in
        let still : next ≡ next + 0 = omega arith in (
          no_tree,
          rest,
          refl,
          tt,
          tt,
          subst (λ (n : ℕ). May (heads ++ []) n rest) still
              (subst (λ (h : List Item). May h next rest) same may),
        )

    -- and back
    stays : (heads : List Item) (next : ℕ) (rest after : List Item) → rest ≡ after → May (heads ++ []) (next + 0) after
        → May heads next rest
    stays heads next rest after is may =
        let still : next + 0 ≡ next = omega arith in
        subst (λ (r : List Item). May heads next r) (sym is)
        (subst (λ (n : ℕ). May heads n after) still (subst (λ (h : List Item). May h (next + 0) after) (append-nil heads) may))

    -- a token
    pub token_to : (heads : List Item) (next at : ℕ) (rest : List Item) → (May heads next (items.Token at ∷ rest) → ⊥)
        → Grows rules word May heads next (items.Token at ∷ rest)
        → (at ≡ next) × Grows rules word May (heads ++ items.Token at ∷ []) (next + 1) rest
    token_to heads next at rest never (no_tree, after, is, counts, fit, may) =
        absurd (never (stays heads next (items.Token at ∷ rest) after is may))
    token_to heads next at rest never (a_tree (node rule alt place children) ts, after, is, counts, fit, may) = absurd (let n : ⊥ = cc in n)
    token_to heads next at rest never (a_tree (leaf k) ts, after, is, counts, fit, may) =
        let here : k ≡ at = cc in
        let others : rest ≡ items_of_all ts ++ after = cc in
        let first : at ≡ next = sym here ∙ counts.0 in
        let more : next + length (k ∷ tokens_of_all ts) ≡ (next + 1) + length (tokens_of_all ts) = omega arith in
        let one : next + length (k ∷ []) ≡ next + 1 = omega arith in
        let joined : heads ++ items.Token k ∷ heads_of ts ≡ (heads ++ items.Token at ∷ []) ++ heads_of ts =
        ap (λ (n : ℕ). heads ++ items.Token n ∷ heads_of ts) here ∙ sym (append_assoc heads (items.Token at ∷ []) (heads_of ts)) in (
          first,
          (
            ts,
            after,
            others,
            subst (λ (n : ℕ). ArePlaced n ts) one counts.1,
            fit.1,
            subst (λ (n : ℕ). May ((heads ++ items.Token at ∷ []) ++ heads_of ts) n after) more
                (subst (λ (h : List Item). May h (next + length (k ∷ tokens_of_all ts)) after) joined may),
          ),
        )

    pub token_from : (heads : List Item) (next at : ℕ) (rest : List Item) → at ≡ next
        → Grows rules word May (heads ++ items.Token at ∷ []) (next + 1) rest → Grows rules word May heads next (items.Token at ∷ rest)
    token_from heads next at rest first (ts, after, is, counts, fit, may) =
        let more : (next + 1) + length (tokens_of_all ts) ≡ next + length (at ∷ tokens_of_all ts) = omega arith in
        let one : next + 1 ≡ next + length (at ∷ []) = omega arith in
        let joined : (heads ++ items.Token at ∷ []) ++ heads_of ts ≡ heads ++ items.Token at ∷ heads_of ts =
        append_assoc heads (items.Token at ∷ []) (heads_of ts) in (
          a_tree (leaf at) ts,
          after,
          ap (λ (r : List Item). items.Token at ∷ r) is,
          (first, subst (λ (n : ℕ). ArePlaced n ts) one counts),
          (tt, fit),
          subst (λ (n : ℕ). May (heads ++ items.Token at ∷ heads_of ts) n after) more
              (subst (λ (h : List Item). May h ((next + 1) + length (tokens_of_all ts)) after) joined may),
        )

    -- what comes after the last child of a node that begins among these children
    abbrev pub Inside : ℕ → ℕ → ℕ → List Item → List Item → ℕ → List Item → Type 0
    Inside rule alt at heads inner next rest = (after : List Item) × (rest ≡ items.Exit ∷ after) × FitsBody rules word rule alt inner
        × Grows rules word May (heads ++ items.Enter rule alt at ∷ []) next after

    -- the beginning of a node
    pub enter_to : (heads : List Item) (next rule alt at : ℕ) (rest : List Item)
        → (May heads next (items.Enter rule alt at ∷ rest) → ⊥) → Grows rules word May heads next (items.Enter rule alt at ∷ rest) →
        (at ≡ next) × Grows rules word (Inside rule alt at heads) [] next rest
    enter_to heads next rule alt at rest never (no_tree, after, is, counts, fit, may) =
        absurd (never (stays heads next (items.Enter rule alt at ∷ rest) after is may))
    enter_to heads next rule alt at rest never (a_tree (leaf k) ts, after, is, counts, fit, may) = absurd (let n : ⊥ = cc in n)
    enter_to heads next rule alt at rest never (a_tree (node r a p children) ts, after, is, counts, fit, may) =
        let same_rule : r ≡ rule = cc in
        let same_alt : a ≡ alt = cc in
        let same_at : p ≡ at = cc in
        let inner = items_of_all children in
        let others : rest ≡ ((inner ++ items.Exit ∷ []) ++ items_of_all ts) ++ after = cc in
        let parts : ((inner ++ items.Exit ∷ []) ++ items_of_all ts) ++ after ≡ inner ++ items.Exit ∷ (items_of_all ts ++ after) =
        append_assoc (inner ++ items.Exit ∷ []) (items_of_all ts) after
        ∙ append_assoc inner (items.Exit ∷ []) (items_of_all ts ++ after) in
        let more : next + length (tokens_of_all children ++ tokens_of_all ts)
        ≡ (next + length (tokens_of_all children)) + length (tokens_of_all ts) =
        omega (arith, length-append (tokens_of_all children) (tokens_of_all ts)) in
        let joined : heads ++ items.Enter r a p ∷ heads_of ts ≡ (heads ++ items.Enter rule alt at ∷ []) ++ heads_of ts =
        ap (λ (i : Item). heads ++ i ∷ heads_of ts)
        (ap (λ (n : ℕ). items.Enter n a p) same_rule ∙ ap (λ (n : ℕ). items.Enter rule n p) same_alt
        ∙ ap (λ (n : ℕ). items.Enter rule alt n) same_at) ∙ sym (append_assoc heads (items.Enter rule alt at ∷ []) (heads_of ts)) in
        let body : FitsBody rules word rule alt (heads_of children) =
        subst (λ (n : ℕ). FitsBody rules word n alt (heads_of children)) same_rule
        (subst (λ (n : ℕ). FitsBody rules word r n (heads_of children)) same_alt fit.0.0) in (
          sym same_at ∙ counts.0.0,
          (
            children,
            items.Exit ∷ (items_of_all ts ++ after),
            others ∙ parts,
            counts.0.1,
            fit.0.1,
            (
              items_of_all ts ++ after,
              refl,
              body,
              (
                ts,
                after,
                refl,
                counts.1,
                fit.1,
                subst
                    (λ (n : ℕ). May ((heads ++ items.Enter rule alt at ∷ []) ++ heads_of ts) n after) more
                    (subst (λ (h : List Item). May h (next + length (tokens_of_all children ++ tokens_of_all ts)) after) joined may),
              ),
            ),
          ),
        )

    pub enter_from : (heads : List Item) (next rule alt at : ℕ) (rest : List Item) → at ≡ next
        → Grows rules word (Inside rule alt at heads) [] next rest → Grows rules word May heads next (items.Enter rule alt at ∷ rest)
    enter_from heads next rule alt at rest first
        (children, middle, is, counts, fit, (outer, ends, body, (ts, after, rest_is, more_counts, more_fit, may))) =
        let inner = items_of_all children in
        let parts : inner ++ items.Exit ∷ (items_of_all ts ++ after) ≡ ((inner ++ items.Exit ∷ []) ++ items_of_all ts) ++ after =
        sym (append_assoc (inner ++ items.Exit ∷ []) (items_of_all ts) after
        ∙ append_assoc inner (items.Exit ∷ []) (items_of_all ts ++ after)) in
        let whole : rest ≡ ((inner ++ items.Exit ∷ []) ++ items_of_all ts) ++ after =
        is ∙ ap (λ (z : List Item). inner ++ z) (ends ∙ ap (λ (z : List Item). items.Exit ∷ z) rest_is) ∙ parts in
        let more : (next + length (tokens_of_all children)) + length (tokens_of_all ts)
        ≡ next + length (tokens_of_all children ++ tokens_of_all ts) =
        omega (arith, length-append (tokens_of_all children) (tokens_of_all ts)) in
        let joined : (heads ++ items.Enter rule alt at ∷ []) ++ heads_of ts ≡ heads ++ items.Enter rule alt at ∷ heads_of ts =
        append_assoc heads (items.Enter rule alt at ∷ []) (heads_of ts) in (
          a_tree (node rule alt at children) ts,
          after,
          ap (λ (z : List Item). items.Enter rule alt at ∷ z) whole,
          ((first, counts), more_counts),
          ((body, fit), more_fit),
          subst (λ (n : ℕ). May (heads ++ items.Enter rule alt at ∷ heads_of ts) n after) more
              (subst (λ (h : List Item). May h ((next + length (tokens_of_all children)) + length (tokens_of_all ts)) after) joined may),
        )

    -- an end, or no item
    pub exit_to : (heads : List Item) (next : ℕ) (rest : List Item) → Grows rules word May heads next (items.Exit ∷ rest)
        → May heads next (items.Exit ∷ rest)
    exit_to heads next rest (no_tree, after, is, counts, fit, may) = stays heads next (items.Exit ∷ rest) after is may
    exit_to heads next rest (a_tree (leaf k) ts, after, is, counts, fit, may) = absurd (let n : ⊥ = cc in n)
    exit_to heads next rest (a_tree (node r a p children) ts, after, is, counts, fit, may) = absurd (let n : ⊥ = cc in n)

    pub nothing_to : (heads : List Item) (next : ℕ) → Grows rules word May heads next [] → May heads next []
    nothing_to heads next (no_tree, after, is, counts, fit, may) = stays heads next [] after is may
    nothing_to heads next (a_tree (leaf k) ts, after, is, counts, fit, may) = absurd (let n : ⊥ = cc in n)
    nothing_to heads next (a_tree (node r a p children) ts, after, is, counts, fit, may) = absurd (let n : ⊥ = cc in n)

  -- only an end can come after the last child
  not_token : (nodes : List OpenNode) (heads : List Item) (next at : ℕ) (rest : List Item)
      → Closes rules word nodes heads next (items.Token at ∷ rest) → ⊥
  not_token [] heads next at rest h = let e = h.0 in let n : ⊥ = cc in n
  not_token (opened ∷ more) heads next at rest h = let e = h.1 in let n : ⊥ = cc in n

  not_enter : (nodes : List OpenNode) (heads : List Item) (next rule alt at : ℕ) (rest : List Item)
      → Closes rules word nodes heads next (items.Enter rule alt at ∷ rest) → ⊥
  not_enter [] heads next rule alt at rest h = let e = h.0 in let n : ⊥ = cc in n
  not_enter (opened ∷ more) heads next rule alt at rest h = let e = h.1 in let n : ⊥ = cc in n

  -- a token is read
  pub read_token : (nodes : List OpenNode) (heads : List Item) (next at : ℕ) (rest : List Item)
      → Completes rules word nodes heads next (items.Token at ∷ rest)
      ↔ ((at ≡ next) × Completes rules word nodes (heads ++ items.Token at ∷ []) (next + 1) rest)
  read_token nodes heads next at rest = (
    token_to (Closes rules word nodes) heads next at rest (not_token nodes heads next at rest),
    λ h. token_from (Closes rules word nodes) heads next at rest h.0 h.1,
  )

  -- the beginning of a node is read
  pub read_enter : (nodes : List OpenNode) (heads : List Item) (next : ℕ) (opened : OpenNode) (rest : List Item)
      → opened.before.items ≡ heads →
      Completes rules word nodes heads next (items.Enter opened.rule opened.alt opened.at ∷ rest)
      ↔ ((opened.at ≡ next) × Completes rules word (opened ∷ nodes) [] next rest)
  read_enter nodes heads next opened rest is =
      subst (λ (h : List Item). Completes rules word nodes h next (items.Enter opened.rule opened.alt opened.at ∷ rest)
      ↔ ((opened.at ≡ next) × Completes rules word (opened ∷ nodes) [] next rest)) is (
        enter_to (Closes rules word nodes) opened.before.items next opened.rule opened.alt opened.at rest
            (not_enter nodes opened.before.items next opened.rule opened.alt opened.at rest),
        λ h. enter_from (Closes rules word nodes) opened.before.items next opened.rule opened.alt opened.at rest h.0 h.1,
      )

  -- a node that begins elsewhere
  pub no_enter : (nodes : List OpenNode) (heads : List Item) (next rule alt at : ℕ) (rest : List Item)
      → Completes rules word nodes heads next (items.Enter rule alt at ∷ rest) → at ≡ next
  no_enter nodes heads next rule alt at rest h =
      (enter_to (Closes rules word nodes) heads next rule alt at rest (not_enter nodes heads next rule alt at rest) h).0

  -- the end of a node is read
  pub read_exit : (opened : OpenNode) (nodes : List OpenNode) (heads : List Item) (next : ℕ) (rest : List Item) →
      Completes rules word (opened ∷ nodes) heads next (items.Exit ∷ rest)
      ↔ (FitsBody rules word opened.rule opened.alt heads
      × Completes rules word nodes (opened.before.items ++ items.Enter opened.rule opened.alt opened.at ∷ []) next rest)
  read_exit opened nodes heads next rest = (to, from)
    where
      to : Completes rules word (opened ∷ nodes) heads next (items.Exit ∷ rest)
          → FitsBody rules word opened.rule opened.alt heads
          × Completes rules word nodes (opened.before.items ++ items.Enter opened.rule opened.alt opened.at ∷ []) next rest
      to h =
          let closes = exit_to (Closes rules word (opened ∷ nodes)) heads next rest h in
          let is : items.Exit ∷ rest ≡ items.Exit ∷ closes.0 = closes.1 in
          let same : closes.0 ≡ rest = cc in (
            closes.2,
            subst (λ (z : List Item). Completes rules word nodes
                (opened.before.items ++ items.Enter opened.rule opened.alt opened.at ∷ []) next z) same closes.3,
          )

      from : FitsBody rules word opened.rule opened.alt heads
          × Completes rules word nodes (opened.before.items ++ items.Enter opened.rule opened.alt opened.at ∷ []) next rest
          → Completes rules word (opened ∷ nodes) heads next (items.Exit ∷ rest)
      from h = grown (Closes rules word (opened ∷ nodes)) heads next (items.Exit ∷ rest) (rest, refl, h.0, h.1)

  -- an end that ends no node
  pub no_exit : (heads : List Item) (next : ℕ) (rest : List Item) → Completes rules word [] heads next (items.Exit ∷ rest) → ⊥
  no_exit heads next rest h = let e = (exit_to (Closes rules word []) heads next rest h).0 in let n : ⊥ = cc in n

  -- all items are read
  pub read_all : (heads : List Item) (next : ℕ) → IsOneNode heads ↔ Completes rules word [] heads next []
  read_all heads next = (
    λ one. grown (Closes rules word []) heads next [] (refl, one),
    λ h. (nothing_to (Closes rules word []) heads next h).1,
  )

  pub still_open : (opened : OpenNode) (nodes : List OpenNode) (heads : List Item) (next : ℕ)
      → Completes rules word (opened ∷ nodes) heads next [] → ⊥
  still_open opened nodes heads next h = let e = (nothing_to (Closes rules word (opened ∷ nodes)) heads next h).1 in let n : ⊥ = cc in n

  -- no item is read
  pub read_none : (xs : List Item) → IsTreeOf rules word xs ↔ Completes rules word [] [] 0 xs
  read_none xs = (to, from)
    where
      to : IsTreeOf rules word xs → Completes rules word [] [] 0 xs
      to (rule, alt, at, children, is, counts, fits) =
          let t = node rule alt at children in
          let whole : items_of t ≡ (items_of t ++ []) ++ [] = sym (append-nil (items_of t ++ []) ∙ append-nil (items_of t)) in
          (a_tree t no_tree, [], is ∙ whole, (counts, tt), (fits, tt), (refl, (rule, alt, at, refl)))

      from : Completes rules word [] [] 0 xs → IsTreeOf rules word xs
      from (no_tree, after, is, counts, fit, may) = absurd (let e = may.1.3 in let n : ⊥ = cc in n)
      from (a_tree (leaf k) ts, after, is, counts, fit, may) = absurd (let e = may.1.3 in let n : ⊥ = cc in n)
      from (a_tree t (a_tree u us), after, is, counts, fit, may) = absurd (let e = may.1.3 in let n : ⊥ = cc in n)
      from (a_tree (node rule alt at children) no_tree, after, is, counts, fit, may) =
          let t = node rule alt at children in
          let whole : xs ≡ items_of t = is ∙ ap (λ (z : List Item). (items_of t ++ []) ++ z) may.0 ∙ append-nil (items_of t ++ [])
          ∙ append-nil (items_of t) in
          (rule, alt, at, children, whole, counts.0, fit.0)
