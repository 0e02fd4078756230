use Rattle.std.proofs.Common.{◌≡◌, ◌+◌, ◌++◌, ◌∷◌, [], ◌<◌, List, get_or, length, take, subst, sym, ap, ◌∙◌, arith}
use Rattle.std.proofs.lemmas.List.{take_all, take_more}
use Rattle.std.proofs.lemmas.Option.{get_or_from_slice_get, slice_get_within}
use Rattle.wire_msg.specs.Words.{Envelope}
use Rattle.overlay_rules.specs.declared.entry.Entry.{Entry}
use Rattle.overlay_rules.specs.Record.{sent_in}
use Rattle.overlay_rules.specs.Seen.{entry_seen}
use Rattle.overlay_harness.specs.Enough.{AreCountedDown, AreLeftOf, IsOfThese}
use Rattle.overlay_harness.proofs.Counting.{counted_more, counted_none}
use Rattle.overlay_harness.proofs.TooOften.{came_too_often, left_more}
use Rattle.overlay_harness.proofs.enough.count_all.Goals as goal

pub loop-place-init : goal.loop-place-init
loop-place-init c = record { counted = counted_none c.args.left.now (sent_in c.args.entries.now) c.requires.long; left = λ copies k. k }

pub loop-place-preserved : goal.loop-place-preserved
loop-place-preserved c =
    let es : List Entry = c.args.entries.now in
    let sent : List Envelope = sent_in es in
    let i = c.loop-place.place in
    let e : Entry = entry_seen c.at-entry.result in
    let next : take (i + 1) es ≡ take i es ++ e ∷ [] =
    take_more es i e (slice_get_within es i e c.at-entry.ensures)
    ∙ ap (λ (d : Entry). take i es ++ d ∷ []) (get_or_from_slice_get es i e e c.at-entry.ensures) in
    let down = c.count_down.ensures.kept c.if-not-count_down.false in
    record {
      counted = subst (λ (ds : List Entry). AreCountedDown c.args.left.now sent ds c.count_down.new.left) (sym next)
          (counted_more c.args.left.now c.loop-place.left c.count_down.new.left sent (take i es) e c.loop-place.invariant.counted down);
      left = λ copies k.
          subst (λ (ds : List Entry). AreLeftOf copies ds c.count_down.new.left) (sym next)
          (left_more copies (take i es) e c.loop-place.left c.count_down.new.left (c.loop-place.invariant.left copies k) down);
    }

pub returns-clause-kept : goal.returns-clause-kept
returns-clause-kept c = λ yes. subst (λ (ds : List Entry). AreCountedDown c.args.left.now (sent_in c.args.entries.now) ds c.loop-place.left)
    (take_all c.loop-place.place c.args.entries.now (omega arith)) c.loop-place.invariant.counted

pub returns-then-not-count_down-clause-more : goal.returns-then-not-count_down-clause-more
returns-then-not-count_down-clause-more c = λ copies k _.
    let es : List Entry = c.args.entries.now in
    let i = c.loop-place.place in
    let e : Entry = entry_seen c.at-entry.result in
    let there : e ≡ get_or es i e = sym (get_or_from_slice_get es i e e c.at-entry.ensures) in
    let lt : i < length es = slice_get_within es i e c.at-entry.ensures in
    let these : IsOfThese (length c.loop-place.left) e.event =
    subst (λ n. IsOfThese n e.event) (sym c.loop-place.invariant.counted.each)
    (subst (λ (d : Entry). IsOfThese (length (sent_in es)) d.event) (sym there) (c.requires.these i e lt)) in
    came_too_often copies es i e c.loop-place.left lt there (c.loop-place.invariant.left copies k) these (c.count_down.ensures.more c.if-not-count_down.true)
