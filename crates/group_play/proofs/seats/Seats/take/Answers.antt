use Rattle.std.proofs.Common.{rules, ◌≡◌, ◌∙◌, ℕ, Some, List, length, ap, sym, subst}
use Rattle.std.specs.Prelude.{cond, nat_eq}
use Rattle.std.specs.HashMap.{get}
use Rattle.ring_math.specs.Ring.{cw_of}
use Rattle.group_play.specs.declared.seats.Seat.{Seat}
use Rattle.group_play.specs.Seats.{AreLinked, NoneFrom, slot_of}
use Rattle.group_play.proofs.Seating.{linked_more, shown_more}
use Rattle.group_play.proofs.seats.Seats.take.Goals as goal

pub returns-clause-parts : goal.returns-clause-parts
returns-clause-parts c = λ parts h.
    shown_more c.args.self.now (record { items = c.push.new.self; parts = c.push-2.new.self; last = c.insert.new.self })
    (record { node = c.args.at.now.node; group = c.in_ok-group.group; before = c.in_ok-before.before }) c.new.result parts h
    c.requires.seats.count
    (subst (λ (name : List ℕ). NoneFrom c.args.self.now.items.items 0 c.args.at.now.node name) (sym c.in_ok-group.ensures) c.requires.new)
    c.new.ensures c.in_ok-push.ensures.items c.in_ok-push-2.ensures.items

pub returns-clause-seats : goal.returns-clause-seats
returns-clause-seats c =
    let seats : List Seat = c.args.self.now.items.items in
    let seat : Seat = record { node = c.args.at.now.node; group = c.in_ok-group.group; before = c.in_ok-before.before } in
    let slot : c.cw.result ≡ slot_of seat = c.cw.ensures ∙ ap (cw_of c.args.at.now.node) c.key.ensures in
    let place : c.len-place.result ≡ length seats = search rules in
    let own : seat.before ≡ get nat_eq c.args.self.now.last (slot_of seat) = c.in_ok-before.ensures.old ∙ ap (get nat_eq c.args.self.now.last) slot in
    record {
      linked = subst (λ (all : List Seat). AreLinked all c.insert.new.self) (sym c.in_ok-push.ensures.items)
          (linked_more seats seat c.args.self.now.last c.insert.new.self c.requires.seats.linked own
          (λ q. c.in_ok-before.ensures.updates.0 q
          ∙ ap (λ (n : ℕ). cond (nat_eq n q) (Some c.len-place.result) (get nat_eq c.args.self.now.last q)) slot
          ∙ ap (λ (n : ℕ). cond (nat_eq (slot_of seat) q) (Some n) (get nat_eq c.args.self.now.last q)) place));
      single = search rules;
      count = search rules;
    }
