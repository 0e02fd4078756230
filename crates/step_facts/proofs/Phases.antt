-- How the phase of a node may change in one step, and what of it lasts: a ready node stays ready, and attempts only grow.
use Rattle.std.proofs.Common.{◌≡◌, ◌≤◌, ◌<◌, ◌⊎◌, inr, ◌+◌, Bool, true, Option, Some, None, List, refl, sym, subst, arith}
use Rattle.ring_math.specs.Names.{Id, Attempt, Number}
use Rattle.coverage.specs.GapFiles.{Lists}
use Rattle.overlay_rules.specs.State.{State, Phase, Waiting, Asking, Probing, Leasing, Ready, attempt_of, is_ready}
use Rattle.overlay_rules.specs.Outcome.{Outcome, Input}
use Rattle.overlay_rules.proofs.Seat.{Seat}
use Rattle.overlay_rules.proofs.Seat as rule

pub data Moves : Phase → Phase → Type 0 where
  stays : (p : Phase) → Moves p p
  begins : (a : Attempt) (n : Number) → Moves (Waiting a) (Asking a n)
  probes : (a : Attempt) (n : Number) (probed : List (Id × Bool)) → Moves (Asking a n) (Probing a n probed)
  probes_on : (a : Attempt) (n : Number) (old new : List (Id × Bool)) → Moves (Probing a n old) (Probing a n new)
  leases : (a : Attempt) (n : Number) (old : List (Id × Bool)) (l r : Id) → Moves (Probing a n old) (Leasing a n l r None None)
  keeps : (a : Attempt) (n : Number) (l r : Id) (from_left from_right then_left then_right : Option Lists) →
      Moves (Leasing a n l r from_left from_right) (Leasing a n l r then_left then_right)
  readies : (a : Attempt) (n : Number) (l r : Id) (from_left from_right : Option Lists) → Moves (Leasing a n l r from_left from_right) (Ready a l r)
  relinks : (a : Attempt) (l r m o : Id) → Moves (Ready a l r) (Ready a m o)
  stops_asking : (a : Attempt) (n : Number) → Moves (Asking a n) (Waiting (a + 1))
  stops_probing : (a : Attempt) (n : Number) (probed : List (Id × Bool)) → Moves (Probing a n probed) (Waiting (a + 1))
  stops_leasing : (a : Attempt) (n : Number) (l r : Id) (from_left from_right : Option Lists) → Moves (Leasing a n l r from_left from_right) (Waiting (a + 1))

pub seat_moves : (s : State) (i : Input) (o : Outcome) → Seat s i o → Moves s.phase o.state.phase
seat_moves _ _ _ (rule.serves s i o e f g q) = subst (λ q. Moves s.phase q) (sym e.phase) (stays s.phase)
seat_moves _ _ _ (rule.begins s n via a e f) = rw e (begins a n)
seat_moves _ _ _ (rule.stops_asking s n a m e) = rw e (stops_asking a m)
seat_moves _ _ _ (rule.stops_probing s n a m probed e) = rw e (stops_probing a m probed)
seat_moves _ _ _ (rule.stops_leasing s n a m l r fl fr e) = rw e (stops_leasing a m l r fl fr)
seat_moves _ _ _ (rule.refused s from a m w e) = rw e (stops_asking a m)
seat_moves _ _ _ (rule.probes s from a m heard known y ys e f g) = rw e (probes a m _)
seat_moves _ _ _ (rule.probes_on s from a m heard known old probed new e f g h) = rw e (probes_on a m old _)
seat_moves _ _ _ (rule.leases s from a m heard known old e f) = rw e (leases a m old _ _)
seat_moves _ _ _ (rule.denied s from a m l r fl fr w e) = rw e (stops_leasing a m l r fl fr)
seat_moves _ _ _ (rule.grant_kept s from a m l r fl fr manifest tombs e w) = rw e (keeps a m l r fl fr _ _)
seat_moves _ _ _ (rule.grant_readies s t from a m l r fl fr left right manifest tombs e f g h i) = rw e (readies a m l r fl fr)
seat_moves _ _ _ (rule.file_readies s from a m l r left right file bytes e f g h) = rw e (readies a m l r (Some left) (Some right))
seat_moves _ _ _ (rule.confirms s from a b x y e f) = rw e (relinks b x y _ _)
seat_moves s _ _ m = stays s.phase

-- ---- what lasts

pub Moves-attempt : (p q : Phase) → Moves p q → attempt_of p ≤ attempt_of q
Moves-attempt _ _ (stays p) = omega arith
Moves-attempt _ _ m = omega arith

pub Moves-ready : (p q : Phase) → Moves p q → is_ready p ≡ true → is_ready q ≡ true
Moves-ready _ _ (stays p) h = h
Moves-ready _ _ (relinks a l r m o) h = refl
Moves-ready _ _ m h = cc

-- a ready node keeps its attempt
pub Moves-settled : (p q : Phase) → Moves p q → is_ready p ≡ true → attempt_of q ≡ attempt_of p
Moves-settled _ _ (stays p) h = refl
Moves-settled _ _ (relinks a l r m o) h = refl
Moves-settled _ _ m h = cc

-- ready with this attempt
abbrev pub IsReadyWith : Attempt → Phase → Type 0
IsReadyWith a (Ready b l r) = a ≡ b
IsReadyWith a (Waiting b) = ⊥
IsReadyWith a (Asking b n) = ⊥
IsReadyWith a (Probing b n probed) = ⊥
IsReadyWith a (Leasing b n l r from_left from_right) = ⊥

-- leasing with this attempt between these two, or ready with it, or past it
abbrev pub HasLeased : Attempt → Id → Id → Phase → Type 0
HasLeased a l r (Leasing b n x y from_left from_right) = ((a ≡ b) × (l ≡ x) × (r ≡ y)) ⊎ (a < b)
HasLeased a l r (Ready b x y) = a ≤ b
HasLeased a l r (Waiting b) = a < b
HasLeased a l r (Asking b n) = a < b
HasLeased a l r (Probing b n probed) = a < b

pub IsReadyWith-moves : (a : Attempt) (p q : Phase) → Moves p q → IsReadyWith a p → IsReadyWith a q
IsReadyWith-moves a _ _ (stays p) h = h
IsReadyWith-moves a _ _ (relinks b l r m o) h = h
IsReadyWith-moves a _ _ m h = absurd h

pub IsReadyWith-ready : (a : Attempt) (p : Phase) → IsReadyWith a p → is_ready p ≡ true
IsReadyWith-ready a (Ready b l r) h = refl
IsReadyWith-ready a (Waiting b) h = absurd h
IsReadyWith-ready a (Asking b n) h = absurd h
IsReadyWith-ready a (Probing b n probed) h = absurd h
IsReadyWith-ready a (Leasing b n l r from_left from_right) h = absurd h

pub HasLeased-moves : (a : Attempt) (l r : Id) (p q : Phase) → Moves p q → HasLeased a l r p → HasLeased a l r q
HasLeased-moves a l r _ _ (stays p) h = h
HasLeased-moves a l r _ _ (keeps b n x y fl fr gl gr) h = h
HasLeased-moves a l r _ _ (leases b n old x y) h = inr h
HasLeased-moves a l r _ _ m h = omega arith

pub HasLeased-attempt : (a : Attempt) (l r : Id) (p : Phase) → HasLeased a l r p → a ≤ attempt_of p
HasLeased-attempt a l r (Leasing b n x y fl fr) h = omega arith
HasLeased-attempt a l r (Ready b x y) h = h
HasLeased-attempt a l r (Waiting b) h = omega arith
HasLeased-attempt a l r (Asking b n) h = omega arith
HasLeased-attempt a l r (Probing b n probed) h = omega arith
