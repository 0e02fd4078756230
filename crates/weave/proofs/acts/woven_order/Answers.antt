use Rattle.std.proofs.Common.{rules, ◌≡◌, true, List, IsPermutation, map}
use Rattle.std.proofs.lemmas.List.Sorted.{IsPermutation-map, IsPermutation-sym, IsNonDecreasingBy-from_sort, All-permutation, answers_always}
use Rattle.overlay_rules.specs.Record.{all_differ}
use Rattle.weave_laws.specs.Cells.{History, nodes_of}
use Rattle.weave.specs.declared.acts.Act.{Act}
use Rattle.weave.specs.Cells.{AreKept, IsKept}
use Rattle.weave.specs.Placed.{IsWithin, acts_in, placed}
use Rattle.weave.proofs.Order.{stamp_of}
use Rattle.weave.proofs.Ordered.{entries_sorted, order_sorted}
use Rattle.weave.proofs.Permuting.{differ-permuted, entries-permuted, order-permuted}
use Rattle.weave.proofs.Placing.{NodesRise}
use Rattle.weave.proofs.Strands.{nodes_rise}
use Rattle.weave.proofs.acts.woven_order.Goals as goal

pub returns-clause-order : goal.returns-clause-order
returns-clause-order g c =
    let history = g.S.Strand.history in
    let hs : List History = map history c.args.strands.now in
    let ks : List History = map history c.sort_by_key.new.self in
    let listed : List Act = c.in_ok-acts.acts.items in
    let sorted : List Act = c.sort_by_key-2.new.self.items in
    let same : IsPermutation hs ks = IsPermutation-map history c.args.strands.now c.sort_by_key.new.self c.sort_by_key.ensures.permutation in
    let differ : all_differ (nodes_of ks) ≡ true =
    differ-permuted (nodes_of hs) (nodes_of ks) (IsPermutation-map (λ (h : History). h.node) hs ks same) c.requires.differ in
    let kept : AreKept ks = All-permutation IsKept hs ks same c.requires.kept in
    let rise : NodesRise ks =
    nodes_rise history c.sort_by_key.new.self
    (IsNonDecreasingBy-from_sort (λ s. (history s).node) c.sort_by_key.new.self
    (c.in_ok-sort_by_key.ensures.sorted (λ s. (history s).node) (answers_always _ _ _ (λ f a r h k. search rules)))) in
    order-permuted ks hs (acts_in (map (placed ks) sorted)) (IsPermutation-sym hs ks same)
    (order_sorted ks listed sorted c.in_ok-acts.ensures.acts c.sort_by_key-2.ensures.permutation differ kept rise
    (c.in_ok-sort_by_key-2.ensures.sorted stamp_of (answers_always _ _ _ (λ f a r h k. search rules)))
    (c.sort_by_key-2.ensures.stable stamp_of (answers_always _ _ _ (λ f a r h k. search rules))))

pub returns-clause-entries : goal.returns-clause-entries
returns-clause-entries g c =
    let history = g.S.Strand.history in
    let hs : List History = map history c.args.strands.now in
    let ks : List History = map history c.sort_by_key.new.self in
    let same : IsPermutation hs ks = IsPermutation-map history c.args.strands.now c.sort_by_key.new.self c.sort_by_key.ensures.permutation in
    entries-permuted ks hs (map (placed ks) c.sort_by_key-2.new.self.items) (IsPermutation-sym hs ks same)
    (entries_sorted ks c.in_ok-acts.acts.items c.sort_by_key-2.new.self.items c.in_ok-acts.ensures.acts c.sort_by_key-2.ensures.permutation)

pub returns-clause-within : goal.returns-clause-within
returns-clause-within g c =
    All-permutation (IsWithin (map g.S.Strand.history c.sort_by_key.new.self)) c.in_ok-acts.acts.items c.sort_by_key-2.new.self.items
    c.sort_by_key-2.ensures.permutation c.in_ok-acts.ensures.within
