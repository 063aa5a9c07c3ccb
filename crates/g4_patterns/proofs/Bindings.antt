-- The bindings with which a tree of a pattern matches: there are these and no others.
use Rattle.std.proofs.Common.{◌≡◌, ◌+◌, ℕ, suc, List, [], ◌++◌, length, Bool, true, false, ◌==◌, refl, sym, ◌∙◌, ap, subst}
use Rattle.std.specs.Prelude.{Option, Some, None, slice_get, cond, ◌&&◌}
use Rattle.std.specs.Str.{bytes_eq}
use Rattle.std.proofs.lemmas.Slice.Eq.{bytes_eq-Decides}
use Rattle.std.proofs.lemmas.Bool.Decides.{Decides-eqb}
use Rattle.g4_tokens.specs.declared.token.Token.{Token}
use Rattle.g4_tokens.specs.declared.token.Tokens.{Tokens}
use Rattle.g4_trees.specs.Trees.{Tree, leaf, node, Forest, no_tree, a_tree, items_of}
use Rattle.g4_patterns.specs.declared.token.PatternToken.{PatternToken}
use Rattle.g4_patterns.specs.declared.token.PatternToken.TheVariants as patterns
use Rattle.g4_patterns.specs.declared.binding.Binding.{Binding}
use Rattle.g4_patterns.specs.Matching.{text_in, bound, Matches, any_node, same_rule, same_token, any_token, MatchAll, none_left, one_more}
use Rattle.g4_patterns.specs.Walking.{is_type, is_token, before}

-- one after the other, where both are there
abbrev pub both : Option (List Binding) → Option (List Binding) → Option (List Binding)
both None cs = None
both (Some bs) cs = before bs cs

-- those of a leaf of the pattern, by what was looked up
abbrev pub of_leaf : List ℕ → Option PatternToken → ℕ → Option Token → Option (List Binding)
of_leaf bytes None k token = None
of_leaf bytes (Some (patterns.Plain symbol text)) k token = cond (is_token bytes symbol text token) (Some []) None
of_leaf bytes (Some (patterns.TokenTag symbol name)) k token = cond (is_type symbol token) (Some (bound name k)) None
of_leaf bytes (Some (patterns.RuleTag rule name)) k token = None

-- the name of the tag of the rule that was looked up
abbrev pub tag_by : ℕ → Option PatternToken → Option (List ℕ)
tag_by rule None = None
tag_by rule (Some (patterns.Plain symbol text)) = None
tag_by rule (Some (patterns.TokenTag symbol name)) = None
tag_by rule (Some (patterns.RuleTag other name)) = cond (rule == other) (Some name) None

-- those of a node, by the name of its tag
abbrev pub by_tag : Option (List ℕ) → ℕ → Option (List Binding) → Option (List Binding)
by_tag None k inner = inner
by_tag (Some name) k inner = Some (bound name k)

module _ (pattern : List PatternToken) (tokens : Tokens) where
  -- the name of the tag of the rule that is the one child
  abbrev pub tag_in : ℕ → Forest → Option (List ℕ)
  tag_in rule no_tree = None
  tag_in rule (a_tree (leaf place) no_tree) = tag_by rule (slice_get pattern place)
  tag_in rule (a_tree (leaf place) (a_tree t ts)) = None
  tag_in rule (a_tree (node other alt at children) ts) = None

  abbrev mutual
    -- those of a tree of the pattern at a tree
    pub bindings : Tree → ℕ → Tree → Option (List Binding)
    bindings (leaf place) k (leaf at) = of_leaf tokens.bytes (slice_get pattern place) k (slice_get tokens.list at)
    bindings (leaf place) k (node rule alt at ts) = None
    bindings (node rule alt at ps) k (leaf place) = None
    bindings (node rule alt at ps) k (node other alt' at' ts) =
        cond (other == rule) (by_tag (tag_in rule ps) k (all_bindings ps (suc k) ts)) None

    -- those of trees one by one
    pub all_bindings : Forest → ℕ → Forest → Option (List Binding)
    all_bindings no_tree k no_tree = Some []
    all_bindings no_tree k (a_tree t ts) = None
    all_bindings (a_tree p ps) k no_tree = None
    all_bindings (a_tree p ps) k (a_tree t ts) = both (bindings p k t) (all_bindings ps (k + length (items_of t)) ts)

  -- tests
  same : (n : ℕ) → (n == n) ≡ true
  same n = (Decides-eqb n n).1 refl

  same_text : (xs ys : List ℕ) → xs ≡ ys → bytes_eq xs ys ≡ true
  same_text xs ys e = (bytes_eq-Decides xs ys).1 e

  -- the tag of a rule alone matches no token
  no_tag_by : (rule k : ℕ) (o : Option PatternToken) (token : Option Token) (more : Option (List Binding)) (bs : List Binding)
      → both (of_leaf tokens.bytes o k token) more ≡ Some bs → tag_by rule o ≡ None
  no_tag_by rule k None token more bs e = refl
  no_tag_by rule k (Some (patterns.Plain symbol text)) token more bs e = refl
  no_tag_by rule k (Some (patterns.TokenTag symbol name)) token more bs e = refl
  no_tag_by rule k (Some (patterns.RuleTag other name)) token more bs e = absurd (cc)

  -- where children match one by one, they are not the tag of the rule
  no_tag : (rule k : ℕ) (ps ts : Forest) (bs : List Binding) → all_bindings ps k ts ≡ Some bs → tag_in rule ps ≡ None
  no_tag rule k no_tree ts bs e = refl
  no_tag rule k (a_tree (leaf place) no_tree) no_tree bs e = absurd (cc)
  no_tag rule k (a_tree (leaf place) no_tree) (a_tree (leaf at) ts) bs e =
      no_tag_by rule k (slice_get pattern place) (slice_get tokens.list at)
      (all_bindings no_tree (k + length (items_of (leaf at))) ts) bs e
  no_tag rule k (a_tree (leaf place) no_tree) (a_tree (node other alt at us) ts) bs e = absurd (cc)
  no_tag rule k (a_tree (leaf place) (a_tree p ps)) ts bs e = refl
  no_tag rule k (a_tree (node other alt at children) ps) ts bs e = refl

  mutual
    -- a match has these bindings
    pub complete : {p : Tree} {k : ℕ} {t : Tree} {bs : List Binding} → Matches pattern tokens p k t bs → bindings p k t ≡ Some bs
    complete (any_node rule alt at alt' at' place k name children is) = rw (same rule, is, same rule) refl
    complete (same_rule rule alt at alt' at' k ps ts bs h) =
        let inner = complete_all h in
        let none : tag_in rule ps ≡ None = no_tag rule (suc k) ps ts bs inner in
        rw (same rule, none) inner
    complete (same_token place at k symbol text token is there type_is text_is) =
        let one : (token.symbol == symbol) ≡ true = (Decides-eqb token.symbol symbol).1 type_is in
        let two : bytes_eq (text_in tokens.bytes token) text ≡ true = same_text (text_in tokens.bytes token) text text_is in
        rw (is, there, one, two) refl
    complete (any_token place at k symbol name token is there type_is) =
        let one : (token.symbol == symbol) ≡ true = (Decides-eqb token.symbol symbol).1 type_is in
        rw (is, there, one) refl

    pub complete_all : {ps : Forest} {k : ℕ} {ts : Forest} {bs : List Binding} → MatchAll pattern tokens ps k ts bs
        → all_bindings ps k ts ≡ Some bs
    complete_all (none_left k) = refl
    complete_all (one_more p t ps ts k first rest all h more is) =
        ap (λ (o : Option (List Binding)). both o (all_bindings ps (k + length (items_of t)) ts)) (complete h)
        ∙ ap (before first) (complete_all more) ∙ ap (λ (bs : List Binding). Some bs) (sym is)

  -- a test that has this answer
  test : {A : Type 0} (b : Bool) (x y : A) → cond b (Some x) None ≡ Some y → (b ≡ true) × (x ≡ y)
  test true x y e = (refl, cc)
  test false x y e = absurd (cc)

  -- a leaf
  leaf_sound : (place at k : ℕ) (o : Option PatternToken) (token : Option Token) (bs : List Binding) → slice_get pattern place ≡ o
      → slice_get tokens.list at ≡ token → of_leaf tokens.bytes o k token ≡ Some bs → Matches pattern tokens (leaf place) k (leaf at) bs
  leaf_sound place at k None token bs is there e = absurd (cc)
  leaf_sound place at k (Some (patterns.Plain symbol text)) None bs is there e = absurd (cc)
  leaf_sound place at k (Some (patterns.Plain symbol text)) (Some token) bs is there e =
      let t = test (is_token tokens.bytes symbol text (Some token)) [] bs e in
      let parts : ((token.symbol == symbol) ≡ true) × (bytes_eq (text_in tokens.bytes token) text ≡ true) =
      and_true (token.symbol == symbol) (bytes_eq (text_in tokens.bytes token) text) t.0 in
      subst (λ (cs : List Binding). Matches pattern tokens (leaf place) k (leaf at) cs) t.1
      (same_token place at k symbol text token is there ((Decides-eqb token.symbol symbol).0 parts.0)
      ((bytes_eq-Decides (text_in tokens.bytes token) text).0 parts.1))
    where
      and_true : (a b : Bool) → (a && b) ≡ true → (a ≡ true) × (b ≡ true)
      and_true true true f = (refl, refl)
      and_true true false f = absurd (cc)
      and_true false b f = absurd (cc)
  leaf_sound place at k (Some (patterns.TokenTag symbol name)) None bs is there e = absurd (cc)
  leaf_sound place at k (Some (patterns.TokenTag symbol name)) (Some token) bs is there e =
      let t = test (is_type symbol (Some token)) (bound name k) bs e in
      subst (λ (cs : List Binding). Matches pattern tokens (leaf place) k (leaf at) cs) t.1
      (any_token place at k symbol name token is there ((Decides-eqb token.symbol symbol).0 t.0))
  leaf_sound place at k (Some (patterns.RuleTag rule name)) token bs is there e = absurd (cc)

  -- the tag of the rule, looked up
  pub tag_found : (rule : ℕ) (o : Option PatternToken) (name : List ℕ) → tag_by rule o ≡ Some name → o ≡ Some (patterns.RuleTag rule name)
  tag_found rule None name e = absurd (cc)
  tag_found rule (Some (patterns.Plain symbol text)) name e = absurd (cc)
  tag_found rule (Some (patterns.TokenTag symbol other)) name e = absurd (cc)
  tag_found rule (Some (patterns.RuleTag other found)) name e =
      let t = test (rule == other) found name e in
      let same_rules : rule ≡ other = (Decides-eqb rule other).0 t.0 in
      let same_names : found ≡ name = t.1 in cc

  -- a node whose one child is the tag of its rule
  tagged : (rule alt at alt' at' k : ℕ) (ps ts : Forest) (name : List ℕ) → tag_in rule ps ≡ Some name
      → Matches pattern tokens (node rule alt at ps) k (node rule alt' at' ts) (bound name k)
  tagged rule alt at alt' at' k no_tree ts name e = absurd (cc)
  tagged rule alt at alt' at' k (a_tree (leaf place) no_tree) ts name e =
      any_node rule alt at alt' at' place k name ts (tag_found rule (slice_get pattern place) name e)
  tagged rule alt at alt' at' k (a_tree (leaf place) (a_tree p ps)) ts name e = absurd (cc)
  tagged rule alt at alt' at' k (a_tree (node other alt'' at'' children) ps) ts name e = absurd (cc)

  -- a node, by its tag
  node_sound : (rule alt at alt' at' k : ℕ) (ps ts : Forest) (bs : List Binding) (o : Option (List ℕ)) → tag_in rule ps ≡ o
      → by_tag o k (all_bindings ps (suc k) ts) ≡ Some bs
      → ((cs : List Binding) → all_bindings ps (suc k) ts ≡ Some cs → MatchAll pattern tokens ps (suc k) ts cs)
      → Matches pattern tokens (node rule alt at ps) k (node rule alt' at' ts) bs
  node_sound rule alt at alt' at' k ps ts bs None is e all = same_rule rule alt at alt' at' k ps ts bs (all bs e)
  node_sound rule alt at alt' at' k ps ts bs (Some name) is e all =
      let same_bindings : bound name k ≡ bs = cc in
      subst (λ (cs : List Binding). Matches pattern tokens (node rule alt at ps) k (node rule alt' at' ts) cs) same_bindings
      (tagged rule alt at alt' at' k ps ts name is)

  -- the same, by whether the rules are the same
  rule_sound : (rule alt at other alt' at' k : ℕ) (ps ts : Forest) (bs : List Binding) (b : Bool) → (other == rule) ≡ b
      → cond b (by_tag (tag_in rule ps) k (all_bindings ps (suc k) ts)) None ≡ Some bs
      → ((cs : List Binding) → all_bindings ps (suc k) ts ≡ Some cs → MatchAll pattern tokens ps (suc k) ts cs)
      → Matches pattern tokens (node rule alt at ps) k (node other alt' at' ts) bs
  rule_sound rule alt at other alt' at' k ps ts bs true is e all =
      let same_rules : rule ≡ other = sym ((Decides-eqb other rule).0 is) in
      subst (λ (r : ℕ). Matches pattern tokens (node rule alt at ps) k (node r alt' at' ts) bs) same_rules
      (node_sound rule alt at alt' at' k ps ts bs (tag_in rule ps) refl e all)
  rule_sound rule alt at other alt' at' k ps ts bs false is e all = absurd (cc)

  -- both are there
  parts : (first rest : Option (List Binding)) (bs : List Binding) → both first rest ≡ Some bs
      → (xs ys : List Binding) × (first ≡ Some xs) × (rest ≡ Some ys) × (bs ≡ xs ++ ys)
  parts None rest bs e = absurd (cc)
  parts (Some xs) None bs e = absurd (cc)
  parts (Some xs) (Some ys) bs e = (xs, ys, refl, refl, cc)

  mutual
    -- bindings are those of a match
    pub sound : (p : Tree) (k : ℕ) (t : Tree) (bs : List Binding) → bindings p k t ≡ Some bs → Matches pattern tokens p k t bs
    sound (leaf place) k (leaf at) bs e = leaf_sound place at k (slice_get pattern place) (slice_get tokens.list at) bs refl refl e
    sound (leaf place) k (node rule alt at ts) bs e = absurd (cc)
    sound (node rule alt at ps) k (leaf place) bs e = absurd (cc)
    sound (node rule alt at ps) k (node other alt' at' ts) bs e =
        rule_sound rule alt at other alt' at' k ps ts bs (other == rule) refl e (λ cs g. sound_all ps (suc k) ts cs g)

    pub sound_all : (ps : Forest) (k : ℕ) (ts : Forest) (bs : List Binding) → all_bindings ps k ts ≡ Some bs
        → MatchAll pattern tokens ps k ts bs
    sound_all no_tree k no_tree bs e =
        let none : [] ≡ bs = cc in subst (λ (cs : List Binding). MatchAll pattern tokens no_tree k no_tree cs) none (none_left k)
    sound_all no_tree k (a_tree t ts) bs e = absurd (cc)
    sound_all (a_tree p ps) k no_tree bs e = absurd (cc)
    sound_all (a_tree p ps) k (a_tree t ts) bs e =
        let h = parts (bindings p k t) (all_bindings ps (k + length (items_of t)) ts) bs e in
        one_more p t ps ts k h.0 h.1 bs (sound p k t h.0 h.2) (sound_all ps (k + length (items_of t)) ts h.1 h.3) h.4
