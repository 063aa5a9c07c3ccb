-- What holds of every pattern.
use Rattle.std.proofs.Common.{◌≡◌, ◌+◌, ℕ, suc, List, [], ◌++◌, length, Bool, true, false, ◌==◌, refl, sym, ◌∙◌, ap, subst}
use Rattle.std.specs.Prelude.{◌↔◌, Option, Some, None, slice_get, cond}
use Rattle.std.proofs.lemmas.Bool.Decides.{Decides-eqb}
use Rattle.g4_tokens.specs.declared.token.Token.{Token}
use Rattle.g4_tokens.specs.declared.token.Tokens.{Tokens}
use Rattle.g4_trees.specs.declared.tree.Item.{Item}
use Rattle.g4_trees.specs.Trees.{Tree, leaf, node, Forest, no_tree, a_tree, only, items_of}
use Rattle.g4_patterns.specs.declared.token.PatternToken.{PatternToken}
use Rattle.g4_patterns.specs.declared.token.PatternToken.TheVariants as patterns
use Rattle.g4_patterns.specs.declared.binding.Binding.{Binding}
use Rattle.g4_patterns.specs.Alike.{AreAlike, HasNoTags, HaveNoTags, IsAlike, IsNodeOf, IsPlain, IsSameToken}
use Rattle.g4_patterns.specs.Lasts.{read}
use Rattle.g4_patterns.specs.Matching.{bound, Matches, any_node, same_rule, same_token, any_token, MatchAll, none_left, one_more, MatchesAt}
use Rattle.g4_patterns.specs.Walking.{starting, walk}
use Rattle.g4_patterns.proofs.Bindings.{bindings, complete}
use Rattle.g4_patterns.proofs.Exact.{at_tree}
use Rattle.g4_patterns.proofs.Read.{are_lasts}

-- the bindings of a match at a place are those of the walk
the_walk : (ps : List Item) (pattern : List PatternToken) (xs : List Item) (tokens : Tokens) (k : ℕ) (bs : List Binding)
    → MatchesAt ps pattern xs tokens k bs → walk xs (read 0 xs).lasts tokens pattern (starting k) ps ≡ Some bs
the_walk ps pattern xs tokens k bs m =
    ap (walk xs (read 0 xs).lasts tokens pattern (starting k)) m.2
    ∙ at_tree pattern xs (read 0 xs).lasts tokens (are_lasts xs) m.0 m.1 k m.3 ∙ complete pattern tokens m.5

-- one list of bindings
pub one_list : (ps : List Item) (pattern : List PatternToken) (xs : List Item) (tokens : Tokens) (k : ℕ) (bs cs : List Binding)
    → MatchesAt ps pattern xs tokens k bs → MatchesAt ps pattern xs tokens k cs → bs ≡ cs
one_list ps pattern xs tokens k bs cs m n =
    let both : Some bs ≡ Some cs = sym (the_walk ps pattern xs tokens k bs m) ∙ the_walk ps pattern xs tokens k cs n in cc

module _ (pattern : List PatternToken) (tokens : Tokens) where
  mutual
    -- what matches without tags is alike, and nothing is bound
    alike : {p : Tree} {k : ℕ} {t : Tree} {bs : List Binding} → Matches pattern tokens p k t bs → HasNoTags pattern p
        → IsAlike pattern tokens p t × (bs ≡ [])
    alike (any_node rule alt at alt' at' place k name children is) plain = absurd (subst IsPlain is plain.0)
    alike (same_rule rule alt at alt' at' k ps ts bs h) plain = let inner = all_alike h plain in ((refl, inner.0), inner.1)
    alike (same_token place at k symbol text token is there type_is text_is) plain =
        (rw (is, there) (type_is, text_is), refl)
    alike (any_token place at k symbol name token is there type_is) plain = absurd (subst IsPlain is plain)

    all_alike : {ps : Forest} {k : ℕ} {ts : Forest} {bs : List Binding} → MatchAll pattern tokens ps k ts bs → HaveNoTags pattern ps
        → AreAlike pattern tokens ps ts × (bs ≡ [])
    all_alike (none_left k) plain = (tt, refl)
    all_alike (one_more p t ps ts k first rest all h more is) plain =
        let one = alike h plain.0 in
        let others = all_alike more plain.1 in
        ((one.0, others.0), is ∙ ap (λ (bs : List Binding). bs ++ rest) one.1 ∙ others.1)

  -- a leaf that is alike matches
  leaf_alike : (place at k : ℕ) (o : Option PatternToken) (token : Option Token) → slice_get pattern place ≡ o
      → slice_get tokens.list at ≡ token → IsSameToken tokens.bytes o token → Matches pattern tokens (leaf place) k (leaf at) []
  leaf_alike place at k None token is there h = absurd h
  leaf_alike place at k (Some (patterns.Plain symbol text)) None is there h = absurd h
  leaf_alike place at k (Some (patterns.Plain symbol text)) (Some token) is there h =
      same_token place at k symbol text token is there h.0 h.1
  leaf_alike place at k (Some (patterns.TokenTag symbol name)) token is there h = absurd h
  leaf_alike place at k (Some (patterns.RuleTag rule name)) token is there h = absurd h

  mutual
    -- what is alike matches
    matches_alike : (p : Tree) (k : ℕ) (t : Tree) → IsAlike pattern tokens p t → Matches pattern tokens p k t []
    matches_alike (leaf place) k (leaf at) h =
        leaf_alike place at k (slice_get pattern place) (slice_get tokens.list at) refl refl h
    matches_alike (leaf place) k (node rule alt at ts) h = absurd h
    matches_alike (node rule alt at ps) k (leaf place) h = absurd h
    matches_alike (node rule alt at ps) k (node other alt' at' ts) h =
        subst (λ (r : ℕ). Matches pattern tokens (node rule alt at ps) k (node r alt' at' ts) []) h.0
        (same_rule rule alt at alt' at' k ps ts [] (match_all_alike ps (suc k) ts h.1))

    match_all_alike : (ps : Forest) (k : ℕ) (ts : Forest) → AreAlike pattern tokens ps ts → MatchAll pattern tokens ps k ts []
    match_all_alike no_tree k no_tree h = none_left k
    match_all_alike no_tree k (a_tree t ts) h = absurd h
    match_all_alike (a_tree p ps) k no_tree h = absurd h
    match_all_alike (a_tree p ps) k (a_tree t ts) h =
        one_more p t ps ts k [] [] [] (matches_alike p k t h.0) (match_all_alike ps (k + length (items_of t)) ts h.1) refl

  -- without tags exactly what is alike matches
  pub plain_matches : (p : Tree) (k : ℕ) (t : Tree) (bs : List Binding) → HasNoTags pattern p
      → Matches pattern tokens p k t bs ↔ (IsAlike pattern tokens p t × (bs ≡ []))
  plain_matches p k t bs plain = (
    λ (h : Matches pattern tokens p k t bs). alike h plain,
    λ (h : IsAlike pattern tokens p t × (bs ≡ [])).
        subst (λ (cs : List Binding). Matches pattern tokens p k t cs) (sym h.1) (matches_alike p k t h.0),
  )

  -- a tag of its own rule, by its bindings
  tag_node : (rule alt at place k : ℕ) (name : List ℕ) (t : Tree) (bs : List Binding)
      → slice_get pattern place ≡ Some (patterns.RuleTag rule name)
      → bindings pattern tokens (node rule alt at (only (leaf place))) k t ≡ Some bs → IsNodeOf rule t × (bs ≡ bound name k)
  tag_node rule alt at place k name (leaf token) bs is e = absurd (cc)
  tag_node rule alt at place k name (node other alt' at' ts) bs is e =
      let same : (rule == rule) ≡ true = (Decides-eqb rule rule).1 refl in
      by_test (other == rule) refl (rw (is, same) at e)
    where
      by_test : (b : Bool) → (other == rule) ≡ b → cond b (Some (bound name k)) None ≡ Some bs → (other ≡ rule) × (bs ≡ bound name k)
      by_test true test f = ((Decides-eqb other rule).0 test, cc)
      by_test false test f = absurd (cc)

  -- a tree that is a node of the rule
  node_tag : (rule alt at place k : ℕ) (name : List ℕ) (t : Tree) → slice_get pattern place ≡ Some (patterns.RuleTag rule name)
      → IsNodeOf rule t → Matches pattern tokens (node rule alt at (only (leaf place))) k t (bound name k)
  node_tag rule alt at place k name (leaf token) is h = absurd h
  node_tag rule alt at place k name (node other alt' at' ts) is h =
      subst (λ (r : ℕ). Matches pattern tokens (node rule alt at (only (leaf place))) k (node r alt' at' ts) (bound name k)) (sym h)
      (any_node rule alt at alt' at' place k name ts is)

  -- exactly the nodes of the rule
  pub own_rule : (rule alt at place : ℕ) (name : List ℕ) (k : ℕ) (t : Tree) (bs : List Binding)
      → slice_get pattern place ≡ Some (patterns.RuleTag rule name)
      → Matches pattern tokens (node rule alt at (only (leaf place))) k t bs ↔ (IsNodeOf rule t × (bs ≡ bound name k))
  own_rule rule alt at place name k t bs is = (
    λ (h : Matches pattern tokens (node rule alt at (only (leaf place))) k t bs).
        tag_node rule alt at place k name t bs is (complete pattern tokens h),
    λ (h : IsNodeOf rule t × (bs ≡ bound name k)).
        subst (λ (cs : List Binding). Matches pattern tokens (node rule alt at (only (leaf place))) k t cs) (sym h.1)
        (node_tag rule alt at place k name t is h.0),
  )
