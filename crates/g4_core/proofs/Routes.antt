-- Facts of paths: where they lead, their contents, their starts and cells.
use Rattle.std.proofs.Common.{◌≡◌, ◌⊎◌, ℕ, zero, suc, ◌+◌, ◌<◌, List, [], ◌∷◌, ◌++◌, drop, refl, sym, ap, ◌∙◌, subst, inl, inr, arith}
use mathlib.Core.Option.{some, some-injective}
use lib.ListN.{get_elem?}
use Rattle.g4_store.specs.declared.automaton.Led.{Led}
use Rattle.g4_store.specs.declared.automaton.Led.TheVariants.{Row, End}
use Rattle.g4_store.specs.declared.automaton.Fact.{Fact}
use Rattle.g4_store.specs.declared.automaton.Fact.TheVariants.{Start, Cell}
use Rattle.g4_store.specs.declared.automaton.Plan.{Plan}
use Rattle.g4_store.specs.declared.path.Looked.{Looked}
use Rattle.g4_store.specs.declared.path.Path.{Path}
use Rattle.g4_store.specs.Numbers.{Among}
use Rattle.g4_store.specs.Paths.{Within, Next, LeadsOn, IsPath, facts_of, cells_of, next_facts}
use Rattle.g4_core.specs.States.{IsAt, with_target, targets_of, contents_of, IsQuestion}
use Rattle.g4_core.specs.Consistent.{LeadsToEnd}

module _ {C : Type 0} where
  -- a question has one path
  pub one_path : (files : List (List (Path C))) (file question : ℕ) (a b : Path C) → IsAt files file question a
      → IsAt files file question b → a ≡ b
  one_path files file question a b p q = some-injective a b (sym p ∙ q)

  -- the items from a place on
  pub drop_there : (ls : List (Looked C)) (k : ℕ) (l : Looked C) (rest : List (Looked C)) → drop k ls ≡ l ∷ rest
      → (get_elem? ls k ≡ some l) × (drop (k + 1) ls ≡ rest)
  drop_there ls k l rest e = go ls k e
    where
      go : (ls : List (Looked C)) (k : ℕ) → drop k ls ≡ l ∷ rest → (get_elem? ls k ≡ some l) × (drop (k + 1) ls ≡ rest)
      go [] zero e = absurd cc
      go [] (suc k) e = absurd cc
      go (m ∷ ms) zero e = ((let h : m ≡ l = cc in ap some h), (let h : ms ≡ rest = cc in h))
      go (m ∷ ms) (suc k) e =
          let h = go ms k e in
          let n : suc k + 1 ≡ suc (k + 1) = omega arith in
          (h.0, ap (λ (j : ℕ). drop j (m ∷ ms)) n ∙ h.1)

  -- what is within all contents of a path
  pub cells_within : (P : C → Type 0) (x : C) (ls : List (Looked C)) → P x → ((y : C) → Among y (targets_of ls) → P y)
      → (f : Fact C) → Among f (cells_of x ls) → Within P f
  cells_within P x [] px all f m = absurd m
  cells_within P x (l ∷ ls) px all f m = go (λ y. cells_within P y ls) l.led all m
    where
      go : ((y : C) → P y → ((z : C) → Among z (targets_of ls) → P z) → (f : Fact C) → Among f (cells_of y ls) → Within P f)
          → (led : Led C) → ((y : C) → Among y (with_target led (targets_of ls)) → P y)
          → Among f (Cell x l.column led ∷ next_facts led (λ y. cells_of y ls)) → Within P f
      go further (Row y mark) all (inl h) = subst (Within P) (sym h) (px, all y (inl refl))
      go further (Row y mark) all (inr h) = further y (all y (inl refl)) (λ z n. all z (inr n)) f h
      go further (End code) all (inl h) = subst (Within P) (sym h) (px, tt)
      go further (End code) all (inr h) = absurd h

  pub facts_within : (P : C → Type 0) (path : Path C) → ((y : C) → Among y (contents_of path) → P y)
      → (f : Fact C) → Among f (facts_of path) → Within P f
  facts_within P path all f (inl e) = subst (Within P) (sym e) (all path.content (inl refl))
  facts_within P path all f (inr m) = cells_within P path.content path.looked.items (all path.content (inl refl)) (λ y n. all y (inr n)) f m

  -- the contents of a path's facts are on the path
  pub contents_within : (path : Path C) (f : Fact C) → Among f (facts_of path) → Within (λ y. Among y (contents_of path)) f
  contents_within path f m = facts_within (λ y. Among y (contents_of path)) path (λ y n. n) f m

module _ {N C : Type 0} (starts : N → ℕ → C → Type 0) (leads : N → C → ℕ → Led C → Type 0) where
  -- a path that ends leads to its end
  pub leads_to_end : (p : Plan N) (x : C) (ls front : List (Looked C)) (column code : ℕ) → LeadsOn starts leads p x ls
      → ls ≡ front ++ record { column = column; led = End code } ∷ [] → LeadsToEnd starts leads p x ls
  leads_to_end p x [] [] column code h e = absurd cc
  leads_to_end p x [] (f ∷ fs) column code h e = absurd cc
  leads_to_end p x (l ∷ ls) front column code h e =
      (h.0, h.1, go (λ y fs. leads_to_end p y ls fs column code) front e l.led refl h.2)
    where
      go : ((y : C) (fs : List (Looked C)) → LeadsOn starts leads p y ls → ls ≡ fs ++ record { column = column; led = End code } ∷ []
          → LeadsToEnd starts leads p y ls)
          → (front : List (Looked C)) → l ∷ ls ≡ front ++ record { column = column; led = End code } ∷ [] → (led : Led C) → l.led ≡ led
          → Next starts leads led (λ y. LeadsOn starts leads p y ls) (ls ≡ [])
          → Next starts leads led (λ y. LeadsToEnd starts leads p y ls) (ls ≡ [])
      go further [] e (Row y mark) is n =
          let same : l ≡ record { column = column; led = End code } = cc in
          absurd (let bad : Row y mark ≡ End code = sym is ∙ ap (λ (k : Looked C). k.led) same in cc)
      go further (f ∷ fs) e (Row y mark) is n =
          let tail : ls ≡ fs ++ record { column = column; led = End code } ∷ [] = cc in further y fs n tail
      go further front e (End c) is n = n

  pub question_leads : (p : Plan N) (path : Path C) → IsQuestion starts leads p path
      → LeadsToEnd starts leads p path.content path.looked.items
  question_leads p path (h, (code, at, (front, column, e, n))) = leads_to_end p path.content path.looked.items front column code h.2 e

  -- the path's start and cells are what the automaton says
  abbrev pub IsRight : Plan N → Fact C → Type 0
  IsRight p (Start i y) = (i < p.starts) × starts p.net i y
  IsRight p (Cell x column led) = (column < p.columns) × leads p.net x column led

  cells_right : (p : Plan N) (x : C) (ls : List (Looked C)) → LeadsOn starts leads p x ls
      → (f : Fact C) → Among f (cells_of x ls) → IsRight p f
  cells_right p x [] h f m = absurd m
  cells_right p x (l ∷ ls) h f (inl e) = subst (IsRight p) (sym e) (h.0, h.1)
  cells_right p x (l ∷ ls) h f (inr m) = go (λ y n. cells_right p y ls n f) l.led h.2 m
    where
      go : ((y : C) → LeadsOn starts leads p y ls → Among f (cells_of y ls) → IsRight p f)
          → (led : Led C) → Next starts leads led (λ y. LeadsOn starts leads p y ls) (ls ≡ [])
          → Among f (next_facts led (λ y. cells_of y ls)) → IsRight p f
      go further (Row y mark) n m = further y n m
      go further (End code) n m = absurd m

  pub facts_right : (p : Plan N) (path : Path C) → IsPath starts leads p path → (f : Fact C) → Among f (facts_of path) → IsRight p f
  facts_right p path h f (inl e) = subst (IsRight p) (sym e) (h.0, h.1)
  facts_right p path h f (inr m) = cells_right p path.content path.looked.items h.2 f m

  -- a content on the path is that of a start, or one before it leads to it
  abbrev pub IsFollowing : Plan N → (C → Type 0) → C → Type 0
  IsFollowing p P y =
      ((i : ℕ) × (i < p.starts) × starts p.net i y)
      ⊎ ((column mark : ℕ) × (x : C) × P x × (column < p.columns) × leads p.net x column (Row y mark))

  targets_follow : (p : Plan N) (x : C) (ls : List (Looked C)) → LeadsOn starts leads p x ls → (P : C → Type 0) → P x
      → (front rest : List C) (y : C) → targets_of ls ≡ front ++ y ∷ rest → ((z : C) → Among z front → P z) → IsFollowing p P y
  targets_follow p x [] h P px [] rest y e all = absurd cc
  targets_follow p x [] h P px (f ∷ fs) rest y e all = absurd cc
  targets_follow p x (l ∷ ls) h P px front rest y e all =
      go (λ z n pz fs. targets_follow p z ls n P pz fs rest y) l.led refl h.2 front e all
    where
      nothing : (front : List C) → [] ≡ front ++ y ∷ rest → IsFollowing p P y
      nothing [] e = absurd cc
      nothing (f ∷ fs) e = absurd cc

      go : ((z : C) → LeadsOn starts leads p z ls → P z → (fs : List C) → targets_of ls ≡ fs ++ y ∷ rest
          → ((w : C) → Among w fs → P w) → IsFollowing p P y)
          → (led : Led C) → l.led ≡ led → Next starts leads led (λ z. LeadsOn starts leads p z ls) (ls ≡ [])
          → (front : List C) → with_target led (targets_of ls) ≡ front ++ y ∷ rest → ((z : C) → Among z front → P z) → IsFollowing p P y
      go further (Row z mark) is n [] e all =
          let same : z ≡ y = cc in
          inr (l.column, mark, x, px, h.0, subst (λ (led : Led C). leads p.net x l.column led) (is ∙ ap (λ (w : C). Row w mark) same) h.1)
      go further (Row z mark) is n (f ∷ fs) e all =
          let same : z ≡ f = cc in
          let rest_is : targets_of ls ≡ fs ++ y ∷ rest = cc in
          further z n (all z (inl same)) fs rest_is (λ w m. all w (inr m))
      go further (End code) is n front e all =
          let none : targets_of ls ≡ [] = ap targets_of n in
          nothing front (sym none ∙ e)

  pub content_follows : (p : Plan N) (path : Path C) → IsPath starts leads p path → (P : C → Type 0)
      → (front rest : List C) (y : C) → contents_of path ≡ front ++ y ∷ rest → ((z : C) → Among z front → P z) → IsFollowing p P y
  content_follows p path h P [] rest y e all =
      let same : path.content ≡ y = cc in
      inl (path.start, h.0, subst (starts p.net path.start) same h.1)
  content_follows p path h P (f ∷ fs) rest y e all =
      let same : path.content ≡ f = cc in
      let rest_is : targets_of path.looked.items ≡ fs ++ y ∷ rest = cc in
      targets_follow p path.content path.looked.items h.2 P (all path.content (inl same)) fs rest y rest_is (λ w m. all w (inr m))
