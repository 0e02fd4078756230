-- What a node shows, by its links: its reach, the next hop and the way of a key.
use Rattle.std.proofs.Common.{◌≡◌, ℕ, Option, Some, None, List, refl, sym, ap, ◌∙◌, subst}
use Rattle.coverage.specs.declared.Reach.{Reach}
use Rattle.coverage.specs.declared.Hop.{Hop}
use Rattle.coverage.specs.Known.{KnowsLinks}
use Rattle.overlay_rules.specs.declared.request.Way.{Way}
use Rattle.overlay_rules.specs.declared.request.Way.TheVariants as way
use Rattle.overlay_rules.specs.State.{State, Phase, Waiting, Asking, Probing, Leasing, Ready, reach}
use Rattle.overlay_rules.specs.Routed.{way_by, way_of, way_in}
use Rattle.node_parts.specs.declared.change.Wait.{Wait}
use Rattle.node_parts.specs.declared.node.Node.{Node}
use Rattle.node_parts.specs.Change.{waited}
use Rattle.node_parts.specs.Seats.{links_in}
use Rattle.node_parts.specs.Seen.{seen, Shows, Stands}
use Rattle.node_parts.specs.Sound.{IsSound, PhaseIsSound}
use Rattle.node_parts.specs.Views.{reach_of, reach_by, hop_of, hop_by}

-- what a node shows it stands for
pub stands : (n : Node) (known : List ℕ) → Shows n known → Stands n (seen n known)
stands n known h = record { shows = h; same = refl }

pub sound : (n : Node) (s : State) → Stands n s → IsSound s
sound n s st = subst IsSound (sym st.same) st.shows.sound

pub reach-some : (n : Node) (s : State) (l r : ℕ) (x : Reach) → Stands n s → Some (l, r) ≡ links_in n.seat → x ≡ reach (seen n s.known) l r →
    Some x ≡ reach_of s
reach-some n s l r x st e h =
    subst (λ (t : State). Some x ≡ reach_of t) (sym st.same) (ap Some h ∙ ap (reach_by (seen n s.known)) e)

-- a state that is sound knows the links of its reach
pub knows_links : (s : State) (r : Reach) → IsSound s → Some r ≡ reach_of s → KnowsLinks r s.known
knows_links s r so e = by_phase s.phase so.phase e where
  by_phase : (p : Phase) → PhaseIsSound s.me s.known p → Some r ≡ reach_by s (links_in p) → KnowsLinks r s.known
  by_phase (Ready a x y) h q =
      let same : r ≡ reach s x y = cc in
      subst (λ z. KnowsLinks z s.known) (sym same) (record { me = so.me; in_ring = so.in_ring; others = so.others; left = h.left; right = h.right })
  by_phase (Waiting a) h q = cc
  by_phase (Asking a n) h q = cc
  by_phase (Probing a n probed) h q = cc
  by_phase (Leasing a n x y from_left from_right) h q = cc

abbrev pub way_from : Option Hop → Way
way_from None = way.NotReady
way_from (Some hop) = way_by hop

-- the way is that of the next hop, whatever waits
pub way-hop : (s : State) (w : Wait) (key : ℕ) → way_from (hop_of s key) ≡ way_of (waited w s) key
way-hop s w key = by_phase s.phase where
  by_phase : (p : Phase) → way_from (hop_by s key (reach_by s (links_in p))) ≡ way_in (waited w s) key p
  by_phase (Ready a x y) = refl
  by_phase (Waiting a) = refl
  by_phase (Asking a n) = refl
  by_phase (Probing a n probed) = refl
  by_phase (Leasing a n x y from_left from_right) = refl
