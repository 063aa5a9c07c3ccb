-- A set whose configurations are all in some list has a row.
use Rattle.std.proofs.Common.{inl, inr, List, [], ◌∷◌, length, sym, subst}
use Rattle.g4_stacks.specs.Graph.{Content}
use Rattle.g4_stacks.specs.Canonical.{IsCanonical}
use Rattle.g4_net.specs.Configurations.{Config, IsRow, IsWithin}
use Rattle.g4_net.specs.Leads.{Reaches, WellFormed}
use Rattle.g4_net.specs.Lookahead.{Rest}
use Rattle.g4_net.specs.Network.{ParserNetwork}
use Rattle.g4_net.proofs.Pigeons.{In, In-from, In-to}
use Rattle.g4_net.proofs.Rows.{row_of, row_of_is}
use Rattle.g4_configs.specs.declared.group.Group.{Group}
use Rattle.g4_configs.specs.Configs.{Holds, View}
use Rattle.g4_configs.specs.Groups.{InSome, Same}
use Rattle.g4_closure.specs.Missing.{dec_holds}
use Rattle.g4_closure.proofs.Bounding.{universe_of, bounded_by}

-- those of a list for which a fact holds
module _ (P : Config → Type 0) (dec : (c : Config) → Dec (P c)) where
  abbrev keep : (c : Config) → Dec (P c) → List Config → List Config
  keep c (yes h) cs = c ∷ cs
  keep c (no h) cs = cs

  abbrev those : List Config → List Config
  those [] = []
  those (c ∷ cs) = keep c (dec c) (those cs)

  in_those : (cs : List Config) (d : Config) → In d (those cs) → P d
  in_those [] d i = absurd i
  in_those (c ∷ cs) d i = by (in_those cs d) (dec c) i
    where
      by : (In d (those cs) → P d) → (o : Dec (P c)) → In d (keep c o (those cs)) → P d
      by more (yes h) (inl e) = subst P (sym e) h
      by more (yes h) (inr j) = more j
      by more (no h) j = more j

  those_in : (cs : List Config) (d : Config) → In d cs → P d → In d (those cs)
  those_in [] d i h = absurd i
  those_in (c ∷ cs) d i h = by (λ j. those_in cs d j h) (dec c) i
    where
      by : (In d cs → In d (those cs)) → (o : Dec (P c)) → In d (c ∷ cs) → In d (keep c o (those cs))
      by more (yes k) (inl e) = inl e
      by more (yes k) (inr j) = inr (more j)
      by more (no k) (inl e) = absurd (k (subst P e h))
      by more (no k) (inr j) = more j

  row_in : (cs : List Config) → ((c : Config) → P c → In c cs) → IsRow (row_of (those cs)) P
  row_in cs all =
      let is = row_of_is (those cs) in
      record {
        rising = is.rising;
        exactly = λ d. (
          (λ x. let i = (is.exactly d).0 x in in_those cs d (In-from (those cs) d i.0 i.1 i.2)),
          λ h. (is.exactly d).1 (In-to (those cs) d (those_in cs d (all d h) h)),
        );
      }

pub listed_has_row : (v : View) (cs : List Config) → ((c : Config) → Holds v c → In c cs) → (row : List Config) × IsRow row (Holds v)
listed_has_row v cs all = (row_of (those (Holds v) (dec_holds v) cs), row_in (Holds v) (dec_holds v) cs all)

-- so has one whose configurations are reached from groups
pub reached_has_row : (net : ParserNetwork) (g : List Content) (starts : List Group) (v : View) → WellFormed net → IsCanonical g
    → ((c : Config) → InSome g starts c → IsWithin net c)
    → ((d : Config) → Holds v d → (c : Config) × InSome g starts c × Reaches net c d) → (row : List Config) × IsRow row (Holds v)
reached_has_row net g starts v well canon within from =
    listed_has_row v (universe_of (length net.states) starts)
    (λ d h. let r = from d h in bounded_by net well g canon starts r.0 d r.1 (within r.0 r.1) r.2)

pub rest_has_row : (net : ParserNetwork) (g : List Content) (starts : List Group) (v : View) → WellFormed net → IsCanonical g
    → ((c : Config) → InSome g starts c → IsWithin net c) → Same (Holds v) (Rest net (InSome g starts))
    → (row : List Config) × IsRow row (Holds v)
rest_has_row net g starts v well canon within rest =
    reached_has_row net g starts v well canon within (λ d h. let r = (rest d).0 h in (r.0, r.1, r.2))
