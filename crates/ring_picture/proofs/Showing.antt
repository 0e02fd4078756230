-- The ready nodes of a picture are those of the world.
use Rattle.std.proofs.Common.{◌≡◌, Bool, true, false, List, [], ◌∷◌, Contains, refl, sym, ap, subst}
use Rattle.std.specs.Prelude.{is_some, filter, Some}
use Rattle.ring_math.specs.Names.{Id, Key}
use Rattle.ring_math.specs.Members.{IsClosest}
use Rattle.ring_math.proofs.Membership.{Contains-filter, Contains-from_filter}
use Rattle.coverage.proofs.Nearest.{closest_in-closest}
use Rattle.overlay_rules.specs.State.{State, Phase, is_ready}
use Rattle.overlay_rules.specs.State as phase
use Rattle.overlay_rules.specs.Record.{Setting, World}
use Rattle.overlay_rules.specs.Ready.{IsReadyIn}
use Rattle.node_parts.specs.Seats.{links_in}
use Rattle.node_parts.specs.Views.{reach_by, reach_of}
use Rattle.ring_picture.specs.Seats.{owner_of, ready_ids, seats_of}

shown_by : (s : State) (p : Phase) → is_some (reach_by s (links_in p)) ≡ is_ready p
shown_by s (phase.Waiting a) = refl
shown_by s (phase.Asking a n) = refl
shown_by s (phase.Probing a n probed) = refl
shown_by s (phase.Leasing a n l r from_left from_right) = refl
shown_by s (phase.Ready a l r) = refl

-- whether a node of these states is ready
abbrev ready_in : (Id → State) → Id → Bool
ready_in states x = is_ready (states x).phase

one_more : (states : Id → State) (x : Id) (xs : List Id) (b : Bool) → is_some (reach_of (states x)) ≡ b → ready_in states x ≡ b →
    ready_ids (seats_of states xs) ≡ filter (ready_in states) xs → ready_ids (seats_of states (x ∷ xs)) ≡ filter (ready_in states) (x ∷ xs)
one_more states x xs true shown is rest = rw (shown, is) (ap (λ ys. x ∷ ys) rest)
one_more states x xs false shown is rest = rw (shown, is) rest

pub ready_ids-filter : (states : Id → State) (xs : List Id) → ready_ids (seats_of states xs) ≡ filter (ready_in states) xs
ready_ids-filter states [] = refl
ready_ids-filter states (x ∷ xs) =
    one_more states x xs (is_ready (states x).phase) (shown_by (states x) (states x).phase) refl (ready_ids-filter states xs)

pub shown_ready : (g : Setting) (w : World) (x : Id) → Contains (ready_ids (seats_of w.states g.nodes)) x → IsReadyIn g w x
shown_ready g w x h =
    Contains-from_filter (ready_in w.states) g.nodes x (subst (λ xs. Contains xs x) (ready_ids-filter w.states g.nodes) h)

pub ready_shown : (g : Setting) (w : World) (x : Id) → IsReadyIn g w x → Contains (ready_ids (seats_of w.states g.nodes)) x
ready_shown g w x h =
    subst (λ xs. Contains xs x) (sym (ready_ids-filter w.states g.nodes)) (Contains-filter (ready_in w.states) g.nodes x h.0 h.1)

pub owner-closest : (g : Setting) (w : World) (key : Key) (y : Id) → owner_of (ready_ids (seats_of w.states g.nodes)) key ≡ Some y →
    IsClosest (IsReadyIn g w) key y
owner-closest g w key y is =
    let closest : IsClosest (Contains (ready_ids (seats_of w.states g.nodes))) key y = closest_in-closest (ready_ids (seats_of w.states g.nodes)) key y is in
    record { member = shown_ready g w y closest.member; nearest = λ z ready other. closest.nearest z (ready_shown g w z ready) other }
