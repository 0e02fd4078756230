-- The woven record of histories of cells is legal, and each history is its node's part of it.
use Rattle.std.proofs.Common.{inl, inr, ◌==◌, List, [], All, Contains, sym, subst}
use Rattle.ring_math.specs.Names.{Id}
use Rattle.overlay_rules.specs.declared.entry.Record.{Record}
use Rattle.overlay_rules.specs.State.{start}
use Rattle.overlay_rules.specs.Record.{Setting, Legal, sent_in}
use Rattle.overlay_rules.proofs.Each.{Each-contains, Each-weaker, Each-from_all, Each-all}
use Rattle.weave_laws.specs.Cells.{History, AreSteps}
use Rattle.weave_laws.specs.Histories.{IsHistoryIn, AreHistories}
use Rattle.weave_laws.specs.Woven.{Act, part, IsWovenOrder, IsWoven}
use Rattle.weave_laws.proofs.Interleaved.{legal_interleaving}
use Rattle.weave_laws.proofs.Sendings.{IsStamped, cell_stamped, all_taken}
use Rattle.weave_laws.proofs.Parts.{StandsIn, stand_in, part_is, of_entries}
use Rattle.weave_laws.proofs.Fresh.{all_fresh}

pub history_in : (g : Setting) (hs : List History) → AreHistories g hs → (h : History) → Contains hs h → IsHistoryIn g h
history_in g hs a h c = Each-contains (IsHistoryIn g) hs h (Each-from_all (IsHistoryIn g) hs a.each) c

members : (g : Setting) (hs : List History) (acts : List Act) → AreHistories g hs → IsWovenOrder hs acts → All (λ (a : Act). Contains g.nodes a.node) acts
members g hs acts h o =
    Each-all (λ (a : Act). Contains g.nodes a.node) acts
    (Each-weaker (λ (a : Act). StandsIn hs a.node a.entry) (λ (a : Act). Contains g.nodes a.node) acts
    (λ a s. subst (Contains g.nodes) s.node (history_in g hs h s.history s.among).member) (stand_in hs acts o))

parts_are_steps : (g : Setting) (hs : List History) (acts : List Act) → AreHistories g hs → IsWovenOrder hs acts →
    (x : Id) → AreSteps x (start x (x == g.founder)) (part x acts)
parts_are_steps g hs acts h o x =
    elim (part_is hs acts o x) [
      | inl none ↦ subst (AreSteps x (start x (x == g.founder))) (sym none) tt
      | inr p ↦ subst (AreSteps x (start x (x == g.founder))) (sym p.is)
          (subst (λ y. AreSteps y (start y (y == g.founder)) p.history.entries) p.node (history_in g hs h p.history p.among).cell.steps)
    ]

pub woven_is_legal : (g : Setting) (hs : List History) (r : Record) → AreHistories g hs → IsWoven hs r → Legal g r.entries
woven_is_legal g hs r h w =
    legal_interleaving g w.acts r.entries (members g hs w.acts h w.order) (parts_are_steps g hs w.acts h w.order)
    (all_taken [] w.acts r.entries w.order.in_order
    (of_entries IsStamped hs w.acts w.order (λ k c. cell_stamped k.node _ k.entries (history_in g hs h k c).cell)) w.entries)
    (all_fresh (sent_in r.entries) hs w.acts r.entries w.order h.apart (λ k c. (history_in g hs h k c).numbers) w.entries)
