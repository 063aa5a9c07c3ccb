-- Groups added one after another.
use Rattle.std.proofs.Common.{◌≡◌, ℕ, zero, suc, ◌+◌, ◌<◌, ◌↔◌, ◌⊎◌, inl, inr, List, [], ◌∷◌, ◌++◌, length, length-append, get_or, take, Contains, refl, sym, ◌∙◌, ap, subst, arith}
use Rattle.std.proofs.Math.Seq.{take-suc}
use Rattle.g4_stacks.specs.Graph.{Content, IsNode, Keeps}
use Rattle.g4_net.specs.Configurations.{Config}
use Rattle.g4_net.proofs.Pigeons.{In, In-from, In-to}
use Rattle.g4_configs.specs.declared.group.Group.{Group}
use Rattle.g4_configs.specs.Configs.{AreGroups, Holds, View}
use Rattle.g4_configs.specs.Groups.{InGroup, InSome, AreKnown, Subset, Same}
use Rattle.g4_closure.specs.Missing.{dec_holds, lacks}
use Rattle.g4_closure.specs.Joined.{Joined}
use Rattle.g4_configs.proofs.Adding.{keeps_then, group_kept}
use Rattle.g4_closure.proofs.Missing.{no_more, fewer}

pub some_append : (g : List Content) (xs ys : List Group) (c : Config) → InSome g (xs ++ ys) c ↔ (InSome g xs c ⊎ InSome g ys c)
some_append g [] ys c = ((λ h. inr h), (λ h. elim h [ inl k ↦ absurd k | inr k ↦ k ]))
some_append g (x ∷ xs) ys c = (
  (λ h. elim h [ inl i ↦ inl (inl i) | inr i ↦ elim ((some_append g xs ys c).0 i) [ inl k ↦ inl (inr k) | inr k ↦ inr k ] ]),
  (λ h. elim h [
    | inl i ↦ elim i [ inl k ↦ inl k | inr k ↦ inr ((some_append g xs ys c).1 (inl k)) ]
    | inr k ↦ inr
        ((some_append g xs ys c).1 (inr k))
  ]),
)

pub known_append : (g : List Content) (xs ys : List Group) → AreKnown g xs → AreKnown g ys → AreKnown g (xs ++ ys)
known_append g [] ys a b = b
known_append g (x ∷ xs) ys a b = (a.0, known_append g xs ys a.1 b)

pub known_left : (g : List Content) (xs ys : List Group) → AreKnown g (xs ++ ys) → AreKnown g xs
known_left g [] ys a = tt
known_left g (x ∷ xs) ys a = (a.0, known_left g xs ys a.1)

pub known_right : (g : List Content) (xs ys : List Group) → AreKnown g (xs ++ ys) → AreKnown g ys
known_right g [] ys a = a
known_right g (x ∷ xs) ys a = known_right g xs ys a.1

pub some_kept : (g h : List Content) (xs : List Group) → Keeps g h → AreKnown g xs → (c : Config) → InSome g xs c ↔ InSome h xs c
some_kept g h [] kept known c = ((λ i. i), (λ i. i))
some_kept g h (x ∷ xs) kept known c = (
  (λ i. elim i [ inl k ↦ inl ((group_kept g h x kept known.0 c).0 k) | inr k ↦ inr ((some_kept g h xs kept known.1 c).0 k) ]),
  (λ i. elim i [ inl k ↦ inl ((group_kept g h x kept known.0 c).1 k) | inr k ↦ inr ((some_kept g h xs kept known.1 c).1 k) ]),
)

pub known_kept : (g h : List Content) (xs : List Group) → Keeps g h → AreKnown g xs → AreKnown h xs
known_kept g h [] kept known = tt
known_kept g h (x ∷ xs) kept known = ((kept x.stacks known.0).0, known_kept g h xs kept known.1)

-- the groups of a set have numbers of sets of stacks
pub groups_known : (v : View) (xs : List Group) → AreGroups v xs → AreKnown v.graph xs
groups_known v xs groups = all xs groups.parts.known
  where
    all : (ys : List Group) → ((x : Group) → Contains ys x → IsNode v.graph x.stacks) → AreKnown v.graph ys
    all [] each = tt
    all (y ∷ ys) each = (each y (In-to (y ∷ ys) y (inl refl)), all ys (λ x i. each x (In-to (y ∷ ys) x (inr (In-from ys x i.0 i.1 i.2)))))

-- a group of the list
pub known_at : (g : List Content) (xs : List Group) (k : ℕ) (d : Group) → AreKnown g xs → k < length xs → IsNode g (get_or xs k d).stacks
known_at g [] k d known lt = absurd (omega (arith, lt))
known_at g (x ∷ xs) zero d known lt = known.0
known_at g (x ∷ xs) (suc k) d known lt = known_at g xs k d known.1 (omega (arith, lt))

pub take_next : (xs : List Group) (k : ℕ) (d : Group) → k < length xs → take (k + 1) xs ≡ take k xs ++ get_or xs k d ∷ []
take_next xs k d lt = let n : k + 1 ≡ suc k = omega arith in ap (λ (m : ℕ). take m xs) n ∙ take-suc xs k d lt

pub joined_as : (v v' : View) (w w' w'' xs ys : List Group) → ys ≡ xs → w'' ≡ w' → Joined v w xs v' w' → Joined v w ys v' w''
joined_as v v' w w' w'' xs ys e f j = subst (λ (zs : List Group). Joined v w zs v' w'') (sym e)
    (subst (λ (u : List Group). Joined v w xs v' u) (sym f) j)

pub joined_none : (v : View) (w : List Group) → AreKnown v.graph w → Joined v w [] v w
joined_none v w known = record {
  keeps = λ n lt. (lt, (λ s. ((λ x. x), (λ x. x))));
  known = known;
  members = λ c. ((λ i. inl i), (λ i. elim i [ inl k ↦ k | inr k ↦ absurd k ]));
  waits = λ c i. inl i;
  stays = λ c i. i;
  only = λ c i. inl i;
  spent = λ all within. omega arith;
}

-- One group more: u is the set before it, v' after it.
module _ (v u v' : View) (w w1 xs : List Group) (x : Group) (j : Joined v w xs u w1) (kept : Keeps u.graph v'.graph)
    (members : (c : Config) → Holds v' c ↔ (Holds u c ⊎ InGroup u.graph x c)) (in' : IsNode v.graph x.stacks) where
  at_u : IsNode u.graph x.stacks
  at_u = (j.keeps x.stacks in').0

  grown : Subset (Holds u) (Holds v')
  grown c i = (members c).1 (inl i)

  more_members : Same (Holds v') (λ c. Holds v c ⊎ InSome v.graph (xs ++ x ∷ []) c)
  more_members c = (to, from)
    where
      to : Holds v' c → Holds v c ⊎ InSome v.graph (xs ++ x ∷ []) c
      to i = elim ((members c).0 i) [
        | inl a ↦ elim (let f : Holds v c ⊎ InSome v.graph xs c = (j.members c).0 a in f)
            [ inl b ↦ inl b | inr b ↦ inr ((some_append v.graph xs (x ∷ []) c).1 (inl b)) ]
        | inr a ↦ inr ((some_append v.graph xs (x ∷ []) c).1 (inr (inl ((group_kept v.graph u.graph x j.keeps in' c).1 a))))
      ]

      from : Holds v c ⊎ InSome v.graph (xs ++ x ∷ []) c → Holds v' c
      from (inl a) = (members c).1 (inl ((j.members c).1 (inl a)))
      from (inr a) = elim (let f : InSome v.graph xs c ⊎ InSome v.graph (x ∷ []) c = (some_append v.graph xs (x ∷ []) c).0 a in f) [
        | inl b ↦ (members c).1 (inl ((j.members c).1 (inr b)))
        | inr b ↦ elim b [ inl i ↦ (members c).1 (inr ((group_kept v.graph u.graph x j.keeps in' c).0 i)) | inr i ↦ absurd i ]
      ]

  only_old : (c : Config) → InSome v'.graph w1 c → InSome v.graph w c ⊎ InSome v.graph (xs ++ x ∷ []) c
  only_old c i = elim (let f : InSome v.graph w c ⊎ InSome v.graph xs c =
      j.only c ((some_kept u.graph v'.graph w1 kept j.known c).1 i) in f)
      [ inl a ↦ inl a | inr a ↦ inr ((some_append v.graph xs (x ∷ []) c).1 (inl a)) ]

  within_all : (all : List Config) → ((c : Config) → Holds v' c → In c all) → (c : Config) → Holds u c → In c all
  within_all all in_all c i = in_all c (grown c i)

  -- the set did not grow
  pub joined_same : Subset (InGroup u.graph x) (Holds u) → Joined v w (xs ++ x ∷ []) v' w1
  joined_same sub = record {
    keeps = keeps_then v.graph u.graph v'.graph j.keeps kept;
    known = known_kept u.graph v'.graph w1 kept j.known;
    members = more_members;
    waits = λ c i. elim (j.waits c (before c i)) [ inl a ↦ inl a | inr a ↦ inr ((some_kept u.graph v'.graph w1 kept j.known c).0 a) ];
    stays = λ c i. (some_kept u.graph v'.graph w1 kept j.known c).0 (j.stays c i);
    only = only_old;
    spent = λ all in_all.
        let a = j.spent all (within_all all in_all) in
        let b = no_more (Holds u) (Holds v') (dec_holds u) (dec_holds v') grown all in
        omega (arith, a, b);
  }
    where
      before : (c : Config) → Holds v' c → Holds u c
      before c i = elim ((members c).0 i) [ inl a ↦ a | inr a ↦ sub c a ]

  -- it grew
  pub joined_more : (Subset (InGroup u.graph x) (Holds u) → ⊥) → Joined v w (xs ++ x ∷ []) v' (w1 ++ x ∷ [])
  joined_more differ = record {
    keeps = keeps_then v.graph u.graph v'.graph j.keeps kept;
    known = known_append v'.graph w1 (x ∷ []) (known_kept u.graph v'.graph w1 kept j.known) ((kept x.stacks at_u).0, tt);
    members = more_members;
    waits = λ c i. elim ((members c).0 i) [
      | inl a ↦ elim (let f : Holds v c ⊎ InSome u.graph w1 c = j.waits c a in f) [
        | inl b ↦ inl b
        | inr b ↦ inr ((some_append v'.graph w1 (x ∷ []) c).1
            (inl ((some_kept u.graph v'.graph w1 kept j.known c).0 b)))
      ]
      | inr a ↦ inr ((some_append v'.graph w1 (x ∷ []) c).1 (inr (inl ((group_kept u.graph v'.graph x kept at_u c).0 a))))
    ];
    stays = λ c i. (some_append v'.graph w1 (x ∷ []) c).1 (inl ((some_kept u.graph v'.graph w1 kept j.known c).0 (j.stays c i)));
    only = λ c i. elim (let f : InSome v'.graph w1 c ⊎ InSome v'.graph (x ∷ []) c = (some_append v'.graph w1 (x ∷ []) c).0 i in f) [
      | inl a ↦ only_old c a
      | inr a ↦ elim a [
        | inl b ↦ inr ((some_append v.graph xs (x ∷ []) c).1
            (inr (inl ((group_kept v.graph u.graph x j.keeps in' c).1 ((group_kept u.graph v'.graph x kept at_u c).1 b)))))
        | inr b ↦ absurd b
      ]
    ];
    spent = λ all in_all.
        let a = j.spent all (within_all all in_all) in
        let b = less all in_all in
        let l = length-append w1 (x ∷ []) in
        omega (arith, a, b, l);
  }
    where
      less : (all : List Config) → ((c : Config) → Holds v' c → In c all) → lacks v' all < lacks u all
      less all in_all = elim (fewer (Holds u) (Holds v') (dec_holds u) (dec_holds v') grown all) [
        | inl lt ↦ lt
        | inr same ↦ absurd (differ (λ c i. let w2 = (members c).1 (inr i) in same c (in_all c w2) w2))
      ]
