-- What the closure's loops keep, and why they end.
use Rattle.std.proofs.Common.{◌≡◌, ◌+◌, ◌<◌, ◌↔◌, ◌⊎◌, inl, inr, List, [], ◌∷◌, ◌++◌, Contains, length, refl, sym, ap, subst, arith}
use Rattle.g4_stacks.specs.Graph.{Content, IsNode, Keeps}
use Rattle.g4_net.specs.Network.{ParserNetwork}
use Rattle.g4_net.specs.Configurations.{Config}
use Rattle.g4_net.specs.Leads.{Leads, Reaches, here, further}
use Rattle.g4_net.proofs.Pigeons.{In, In-from, In-to}
use Rattle.g4_configs.specs.declared.group.Group.{Group}
use Rattle.g4_configs.specs.Configs.{AreGroups, Holds, View}
use Rattle.g4_configs.specs.Groups.{AreKnown, AreParts, InGroup, InSome, Same}
use Rattle.g4_closure.specs.Missing.{dec_holds, lacks}
use Rattle.g4_closure.specs.Joined.{Joined}
use Rattle.g4_closure.specs.Steps.{IsClosed, LedFrom, ReachedFrom}
use Rattle.g4_closure.specs.Waiting.{IsExtended, IsLater, IsSpent, IsWaiting}
use Rattle.g4_configs.proofs.Adding.{keeps_then}
use Rattle.g4_closure.proofs.Missing.{no_more}
use Rattle.g4_closure.proofs.Joining.{known_kept, known_left, known_right, some_append, some_kept}

-- a group is followed: u is the set where the stacks of what is found have been made
pub extended_by : (net : ParserNetwork) (x : Group) (v u v' : View) (work found work' : List Group) → AreKnown v.graph work
    → Keeps v.graph u.graph → Same (Holds u) (Holds v)
    → Same (InSome u.graph found) (LedFrom net (InGroup v.graph x)) → Joined u work found v' work' → IsExtended net x v work v' work'
extended_by net x v u v' work found work' known kept same leads j = record {
  keeps = keeps_then v.graph u.graph v'.graph kept j.keeps;
  known = j.known;
  members = λ c. (
    (λ h. elim (let f : Holds u c ⊎ InSome u.graph found c = (j.members c).0 h in f)
        [ inl a ↦ inl ((same c).0 a) | inr a ↦ inr ((leads c).0 a) ]),
    (λ o. (j.members c).1 (elim o [ inl a ↦ inl ((same c).1 a) | inr a ↦ inr ((leads c).1 a) ])),
  );
  waits = λ c h. elim (let f : Holds u c ⊎ InSome v'.graph work' c = j.waits c h in f) [ inl a ↦ inl ((same c).0 a) | inr a ↦ inr a ];
  stays = λ c a. j.stays c ((some_kept v.graph u.graph work kept known c).0 a);
  only = λ c a. elim (let f : InSome u.graph work c ⊎ InSome u.graph found c = j.only c a in f)
      [ inl b ↦ inl ((some_kept v.graph u.graph work kept known c).1 b) | inr b ↦ inr ((leads c).0 b) ];
  spent = λ all bounds.
      let a = j.spent all bounds in
      let b = no_more (Holds v) (Holds u) (dec_holds v) (dec_holds u) (λ c w. (same c).1 w) all in
      omega (arith, a, b);
}

-- Two lists of groups wait, and the set v is later than v0.
pub record AreWaiting (net : ParserNetwork) (v0 v : View) (aside work : List Group) : Type 0 where
  pub aside_known : AreKnown v.graph aside
  pub known : AreKnown v.graph work
  pub aside_held : (c : Config) → InSome v.graph aside c → Holds v c
  pub held : (c : Config) → InSome v.graph work c → Holds v c
  pub closed : (c d : Config) → Holds v c → Leads net c d → Holds v d ⊎ (InSome v.graph aside c ⊎ InSome v.graph work c)
  pub later : IsLater net v0 v

-- Two lists and one group more wait.
pub record IsTaken (net : ParserNetwork) (v0 v : View) (aside work : List Group) (x : Group) : Type 0 where
  pub aside_known : AreKnown v.graph aside
  pub known : AreKnown v.graph work
  pub stacks : IsNode v.graph x.stacks
  pub aside_held : (c : Config) → InSome v.graph aside c → Holds v c
  pub held : (c : Config) → InSome v.graph work c → Holds v c
  pub own : (c : Config) → InGroup v.graph x c → Holds v c
  pub closed : (c d : Config) → Holds v c → Leads net c d
      → Holds v d ⊎ (InSome v.graph aside c ⊎ (InSome v.graph work c ⊎ InGroup v.graph x c))
  pub later : IsLater net v0 v

pub later_at_once : (net : ParserNetwork) (v : View) → IsLater net v v
later_at_once net v = record {
  keeps = λ n lt. (lt, (λ s. ((λ x. x), (λ x. x))));
  has = λ c h. h;
  reached = λ c h. (c, h, here);
}

-- the last group of a list
last_of : (g : List Content) (all rest : List Group) (x : Group) → all ≡ rest ++ x ∷ [] → (c : Config) → InSome g all c
    → InSome g rest c ⊎ InGroup g x c
last_of g all rest x taken c a = elim (let f : InSome g rest c ⊎ InSome g (x ∷ []) c =
    (some_append g rest (x ∷ []) c).0 (subst (λ (w : List Group). InSome g w c) taken a) in f) [
      | inl b ↦ inl b
      | inr b ↦ elim b [ inl y ↦ inr y | inr y ↦ absurd y ]
    ]

rest_in : (g : List Content) (all rest : List Group) (x : Group) → all ≡ rest ++ x ∷ [] → (c : Config) → InSome g rest c → InSome g all c
rest_in g all rest x taken c a = subst (λ (w : List Group). InSome g w c) (sym taken) ((some_append g rest (x ∷ []) c).1 (inl a))

last_in : (g : List Content) (all rest : List Group) (x : Group) → all ≡ rest ++ x ∷ [] → (c : Config) → InGroup g x c → InSome g all c
last_in g all rest x taken c a = subst (λ (w : List Group). InSome g w c) (sym taken) ((some_append g rest (x ∷ []) c).1 (inr (inl a)))

-- a group is taken from the one list, or from the other
module _ (net : ParserNetwork) (v0 v : View) (all other rest : List Group) (x : Group) (taken : all ≡ rest ++ x ∷ []) where
  pub taken_from_work : AreWaiting net v0 v other all → IsTaken net v0 v other rest x
  taken_from_work i = record {
    aside_known = i.aside_known;
    known = known_left v.graph rest (x ∷ []) (subst (AreKnown v.graph) taken i.known);
    stacks = (known_right v.graph rest (x ∷ []) (subst (AreKnown v.graph) taken i.known)).0;
    aside_held = i.aside_held;
    held = λ c a. i.held c (rest_in v.graph all rest x taken c a);
    own = λ c a. i.held c (last_in v.graph all rest x taken c a);
    closed = λ c d h l. elim (let f : Holds v d ⊎ (InSome v.graph other c ⊎ InSome v.graph all c) = i.closed c d h l in f) [
      | inl a ↦ inl a
      | inr a ↦ elim a [ inl b ↦ inr (inl b) | inr b ↦ inr (inr (last_of v.graph all rest x taken c b)) ]
    ];
    later = i.later;
  }

  pub taken_from_aside : AreWaiting net v0 v all other → IsTaken net v0 v rest other x
  taken_from_aside i = record {
    aside_known = known_left v.graph rest (x ∷ []) (subst (AreKnown v.graph) taken i.aside_known);
    known = i.known;
    stacks = (known_right v.graph rest (x ∷ []) (subst (AreKnown v.graph) taken i.aside_known)).0;
    aside_held = λ c a. i.aside_held c (rest_in v.graph all rest x taken c a);
    held = i.held;
    own = λ c a. i.aside_held c (last_in v.graph all rest x taken c a);
    closed = λ c d h l. elim (let f : Holds v d ⊎ (InSome v.graph all c ⊎ InSome v.graph other c) = i.closed c d h l in f) [
      | inl a ↦ inl a
      | inr a ↦ elim a [
        | inl b ↦ elim (last_of v.graph all rest x taken c b) [ inl y ↦ inr (inl y) | inr y ↦ inr (inr (inr y)) ]
        | inr b ↦ inr (inr (inl b))
      ]
    ];
    later = i.later;
  }

-- The group that was taken has been followed: v' is the set after it.
module _ (net : ParserNetwork) (v0 v v' : View) (aside work work' : List Group) (x : Group) (t : IsTaken net v0 v aside work x)
    (f : IsExtended net x v work v' work') where
  grown : (c : Config) → Holds v c → Holds v' c
  grown c h = (f.members c).1 (inl h)

  aside_back : (c : Config) → InSome v'.graph aside c → InSome v.graph aside c
  aside_back c a = (some_kept v.graph v'.graph aside f.keeps t.aside_known c).1 a

  pub waiting_goes_on : AreWaiting net v0 v' aside work'
  waiting_goes_on = record {
    aside_known = known_kept v.graph v'.graph aside f.keeps t.aside_known;
    known = f.known;
    aside_held = λ c a. grown c (t.aside_held c (aside_back c a));
    held = λ c a. elim (let g : InSome v.graph work c ⊎ LedFrom net (InGroup v.graph x) c = f.only c a in g)
        [ inl b ↦ grown c (t.held c b) | inr b ↦ (f.members c).1 (inr b) ];
    closed = λ c d h l. elim (let g : Holds v c ⊎ InSome v'.graph work' c = f.waits c h in g) [ inl a ↦ old c d a l | inr a ↦ inr (inr a) ];
    later = record {
      keeps = keeps_then v0.graph v.graph v'.graph t.later.keeps f.keeps;
      has = λ c h. grown c (t.later.has c h);
      reached = λ c h. elim (let g : Holds v c ⊎ LedFrom net (InGroup v.graph x) c = (f.members c).0 h in g) [
        | inl a ↦ t.later.reached c a
        | inr a ↦ let r = t.later.reached a.0 (t.own a.0 a.1) in (r.0, r.1, further a.0 c r.2 a.2)
      ];
    };
  }
    where
      old : (c d : Config) → Holds v c → Leads net c d → Holds v' d ⊎ (InSome v'.graph aside c ⊎ InSome v'.graph work' c)
      old c d h l = elim (let g : Holds v d ⊎ (InSome v.graph aside c ⊎ (InSome v.graph work c ⊎ InGroup v.graph x c)) =
          t.closed c d h l in g) [
            | inl a ↦ inl (grown d a)
            | inr a ↦ elim a [
              | inl b ↦ inr (inl ((some_kept v.graph v'.graph aside f.keeps t.aside_known c).0 b))
              | inr b ↦ elim b [ inl y ↦ inr (inr (f.stays c y)) | inr y ↦ inl ((f.members d).1 (inr (c, y, l))) ]
            ]
          ]

  pub spending_goes_on : IsSpent v0 v work → IsSpent v0 v' work'
  spending_goes_on spent all bounds =
      let a = spent all (λ c h. bounds c (grown c h)) in
      let b = f.spent all bounds in
      omega (arith, a, b)

pub waiting_begins : (net : ParserNetwork) (v : View) (work : List Group) → IsWaiting net v work → AreWaiting net v v [] work
waiting_begins net v work i = record {
  aside_known = tt;
  known = i.known;
  aside_held = λ c a. absurd a;
  held = i.held;
  closed = λ c d h l. elim (let f : Holds v d ⊎ InSome v.graph work c = i.closed c d h l in f) [ inl a ↦ inl a | inr a ↦ inr (inr a) ];
  later = later_at_once net v;
}

-- nothing is left aside
pub waiting_ends : (net : ParserNetwork) (v0 v : View) (aside work : List Group) → aside ≡ [] → AreWaiting net v0 v aside work
    → IsWaiting net v work
waiting_ends net v0 v aside work none i = record {
  known = i.known;
  held = i.held;
  closed = λ c d h l. elim (let f : Holds v d ⊎ (InSome v.graph aside c ⊎ InSome v.graph work c) = i.closed c d h l in f) [
    | inl a ↦ inl a
    | inr a ↦ elim a [
      | inl b ↦ absurd (let y : InSome v.graph [] c = subst (λ (w : List Group). InSome v.graph w c) none b in y)
      | inr
          b ↦ inr b
    ]
  ];
}

parts_known : (g : List Content) (xs : List Group) → AreParts g xs → AreKnown g xs
parts_known g xs parts = all xs parts.known
  where
    all : (ys : List Group) → ((x : Group) → Contains ys x → IsNode g x.stacks) → AreKnown g ys
    all [] each = tt
    all (y ∷ ys) each = (each y (In-to (y ∷ ys) y (inl refl)), all ys (λ x i. each x (In-to (y ∷ ys) x (inr (In-from ys x i.0 i.1 i.2)))))

-- What waits is merged: u is the set where the stacks of that have been made.
module _ (net : ParserNetwork) (v u : View) (work round none : List Group) (i : IsWaiting net v work) (kept : Keeps v.graph u.graph)
    (same : Same (Holds u) (Holds v))
    (parts : AreParts u.graph round) (means : Same (InSome u.graph round) (InSome v.graph work)) (empty : none ≡ []) where
  pub round_begins : AreWaiting net v u round none
  round_begins = record {
    aside_known = parts_known u.graph round parts;
    known = subst (AreKnown u.graph) (sym empty) tt;
    aside_held = λ c a. (same c).1 (i.held c ((means c).0 a));
    held = λ c a. absurd (let y : InSome u.graph [] c = subst (λ (w : List Group). InSome u.graph w c) empty a in y);
    closed = λ c d h l. elim (let f : Holds v d ⊎ InSome v.graph work c = i.closed c d ((same c).0 h) l in f)
        [ inl a ↦ inl ((same d).1 a) | inr a ↦ inr (inl ((means c).1 a)) ];
    later = record { keeps = kept; has = λ c h. (same c).1 h; reached = λ c h. (c, (same c).0 h, here) };
  }

  pub round_spent : IsSpent v u none
  round_spent all bounds =
      let l : length none ≡ 0 = ap length empty in
      let b = no_more (Holds v) (Holds u) (dec_holds v) (dec_holds u) (λ c w. (same c).1 w) all in
      omega (arith, l, b)

-- The set has nothing but members of R, and has the members of B.
pub record IsClosing (net : ParserNetwork) (R B : Config → Type 0) (g0 : List Content) (v : View) (work : List Group) : Type 0 where
  pub keeps : Keeps g0 v.graph
  pub sound : (c : Config) → Holds v c → R c
  pub begun : (c : Config) → B c → Holds v c
  pub waiting : IsWaiting net v work

-- a set of which some groups wait
pub closing_here : (net : ParserNetwork) (R : Config → Type 0) (v : View) (work : List Group) → ((c : Config) → Holds v c → R c)
    → IsWaiting net v work → IsClosing net R (Holds v) v.graph v work
closing_here net R v work sound waiting = record {
  keeps = λ n lt. (lt, (λ s. ((λ x. x), (λ x. x))));
  sound = sound;
  begun = λ c h. h;
  waiting = waiting;
}

-- groups are added to an empty set
pub closing_begins : (net : ParserNetwork) (starts : List Group) (v0 : View) (w0 : List Group) (v : View) (work : List Group)
    → ((c : Config) → Holds v0 c → ⊥) → w0 ≡ [] → Joined v0 w0 starts v work
    → IsClosing net (ReachedFrom net (InSome v0.graph starts)) (InSome v0.graph starts) v0.graph v work
closing_begins net starts v0 w0 v work empty none j = record {
  keeps = j.keeps;
  sound = λ c h. elim (let f : Holds v0 c ⊎ InSome v0.graph starts c = (j.members c).0 h in f)
      [ inl a ↦ absurd (empty c a) | inr a ↦ (c, a, here) ];
  begun = λ c i. (j.members c).1 (inr i);
  waiting = record {
    known = j.known;
    held = λ c a. elim (let f : InSome v0.graph w0 c ⊎ InSome v0.graph starts c = j.only c a in f) [
      | inl b ↦ absurd (let y : InSome v0.graph [] c = subst (λ (w : List Group). InSome v0.graph w c) none b in y)
      | inr b ↦ (j.members c).1 (inr b)
    ];
    closed = λ c d h l. elim (let f : Holds v0 c ⊎ InSome v.graph work c = j.waits c h in f)
        [ inl a ↦ absurd (empty c a) | inr a ↦ inr a ];
  };
}

-- all groups of a set wait, and the starts are added to it
pub all_wait : (net : ParserNetwork) (v0 : View) (xs starts : List Group) (v : View) (work : List Group) → AreGroups v0 xs
    → Joined v0 xs starts v work → IsWaiting net v work
all_wait net v0 xs starts v work groups j = record {
  known = j.known;
  held = λ c a. elim (let f : InSome v0.graph xs c ⊎ InSome v0.graph starts c = j.only c a in f) [
    | inl b ↦ (j.members c).1 (inl ((groups.members c).0 b))
    | inr b ↦ (j.members c).1 (inr b)
  ];
  closed = λ c d h l. elim (let f : Holds v0 c ⊎ InSome v.graph work c = j.waits c h in f)
      [ inl a ↦ inr (j.stays c ((groups.members c).1 a)) | inr a ↦ inr a ];
}

-- what is reached from groups is reached from the same groups in a graph that has grown
pub reached_kept : (net : ParserNetwork) (g h : List Content) (xs : List Group) → Keeps g h → AreKnown g xs → (c : Config)
    → ReachedFrom net (InSome g xs) c ↔ ReachedFrom net (InSome h xs) c
reached_kept net g h xs kept known c = (
  (λ r. (r.0, (some_kept g h xs kept known r.0).0 r.1, r.2)),
  λ r. (r.0, (some_kept g h xs kept known r.0).1 r.1, r.2),
)

-- so the starts lead to all of it
pub all_sound : (net : ParserNetwork) (v0 : View) (xs starts : List Group) (v : View) (work : List Group) → AreKnown v0.graph starts
    → ((c : Config) → Holds v0 c → ReachedFrom net (InSome v0.graph starts) c) → Joined v0 xs starts v work
    → (c : Config) → Holds v c → ReachedFrom net (InSome v.graph starts) c
all_sound net v0 xs starts v work known sound j c h = (reached_kept net v0.graph v.graph starts j.keeps known c).0
    (elim (let f : Holds v0 c ⊎ InSome v0.graph starts c = (j.members c).0 h in f) [ inl a ↦ sound c a | inr a ↦ (c, a, here) ])

-- a closed set has all that its members reach
pub closed_has : (net : ParserNetwork) (C : Config → Type 0) → IsClosed net C → (c d : Config) → C c → Reaches net c d → C d
closed_has net C closed c d in_c here = in_c
closed_has net C closed c d in_c (further e _ r l) = closed e d (closed_has net C closed c e in_c r) l

-- the set is later
pub closing_goes_on : (net : ParserNetwork) (R B : Config → Type 0) (g0 : List Content) (v v' : View) (work work' : List Group)
    → IsClosed net R → IsClosing net R B g0 v work → IsLater net v v' → IsWaiting net v' work' → IsClosing net R B g0 v' work'
closing_goes_on net R B g0 v v' work work' on i later waiting = record {
  keeps = keeps_then g0 v.graph v'.graph i.keeps later.keeps;
  sound = λ c h. let r = later.reached c h in closed_has net R on r.0 c (i.sound r.0 r.1) r.2;
  begun = λ c b. later.has c (i.begun c b);
  waiting = waiting;
}

-- what is reached is closed
pub reached_on : (net : ParserNetwork) (C : Config → Type 0) → IsClosed net (ReachedFrom net C)
reached_on net C c d r l = (r.0, r.1, further c d r.2 l)

-- groups were added to an empty set, and were followed for a while
pub closing_first : (net : ParserNetwork) (starts : List Group) (v0 v1 v2 : View) (w0 w1 w2 : List Group)
    → ((c : Config) → Holds v0 c → ⊥) → w0 ≡ [] → Joined v0 w0 starts v1 w1 → IsLater net v1 v2 → IsWaiting net v2 w2
    → IsClosing net (ReachedFrom net (InSome v0.graph starts)) (InSome v0.graph starts) v0.graph v2 w2
closing_first net starts v0 v1 v2 w0 w1 w2 empty none j later waiting =
    closing_goes_on net (ReachedFrom net (InSome v0.graph starts)) (InSome v0.graph starts) v0.graph v1 v2 w1 w2
    (reached_on net (InSome v0.graph starts)) (closing_begins net starts v0 w0 v1 w1 empty none j) later waiting

-- what the set lacks of all that is reached, and what waits, are together fewer
pub closing_smaller : (net : ParserNetwork) (R B : Config → Type 0) (g0 : List Content) (v v' : View) (work work' : List Group)
    → 0 < length work → IsSpent v v' work' → IsClosing net R B g0 v' work'
    → (all : List Config) → ((d : Config) → R d → In d all) → lacks v' all + length work' < lacks v all + length work
closing_smaller net R B g0 v v' work work' some spent i all bounds =
    let a = spent all (λ c h. bounds c (i.sound c h)) in
    omega (arith, a, some)

-- with nothing left to do the set is closed
pub closing_ends : (net : ParserNetwork) (R B : Config → Type 0) (g0 : List Content) (v : View) (work : List Group) → work ≡ []
    → IsClosing net R B g0 v work → IsClosed net (Holds v)
closing_ends net R B g0 v work done i c d in_c l = elim (let f : Holds v d ⊎ InSome v.graph work c = i.waiting.closed c d in_c l in f) [
  | inl a ↦ a
  | inr a ↦ absurd (let b : InSome v.graph [] c = subst (λ (w : List Group). InSome v.graph w c) done a in b)
]

-- a closed set that has the starts, and nothing that they do not lead to
pub closed_members : (net : ParserNetwork) (g : List Content) (starts : List Group) (v : View) → IsClosed net (Holds v)
    → ((c : Config) → InSome g starts c → Holds v c) → ((c : Config) → Holds v c → ReachedFrom net (InSome g starts) c)
    → Same (Holds v) (ReachedFrom net (InSome g starts))
closed_members net g starts v closed begun sound d = (sound d, λ (c, s, r). closed_has net (Holds v) closed c d (begun c s) r)

pub none_left : (xs : List Group) → length xs ≡ 0 → xs ≡ []
none_left [] e = refl
none_left (x ∷ xs) e = absurd (omega (arith, e))
