use Rattle.std.proofs.Common.{◌≡◌, ◌∙◌, ℕ, [], List, length, replicate, sym, subst, ap}
use Rattle.std.proofs.lemmas.List.{length-map, length-replicate}
use Rattle.wire_msg.specs.Words.{Envelope, plain_envelope}
use Rattle.overlay_rules.specs.Record.{sent_in}
use Rattle.overlay_harness.specs.Enough.{AreCountedDown, AreLeftOf}
use Rattle.overlay_harness.proofs.Counting.{came_at_most, filled_with}
use Rattle.overlay_harness.proofs.TooOften.{left_at_first}
use Rattle.overlay_harness.proofs.enough.came_at_most.Goals as goal

pub count_all-requires-clause-long : goal.count_all-requires-clause-long
count_all-requires-clause-long c =
    let sent : List Envelope = sent_in c.args.entries.now in
    let n : ℕ = length c.sent.result.now in
    let long : n ≡ length sent = sym (length-map c.sent.result.now plain_envelope) ∙ ap length c.sent.ensures in
    let all : c.deref_mut.result.now ≡ replicate n c.args.copies =
    c.deref_mut.ensures.value
    ∙ filled_with c.new-left.result.items c.resize.new.self.items _ n c.args.copies c.new-left.ensures.items c.new-left.ensures.len
    c.in_ok-resize.ensures.items in
    ap length all ∙ length-replicate n c.args.copies ∙ long

pub returns-clause-kept : goal.returns-clause-kept
returns-clause-kept c = λ yes.
    let es = c.args.entries.now in
    let sent : List Envelope = sent_in es in
    let n : ℕ = length c.sent.result.now in
    let long : n ≡ length sent = sym (length-map c.sent.result.now plain_envelope) ∙ ap length c.sent.ensures in
    let all : c.deref_mut.result.now ≡ replicate (length sent) c.args.copies =
    c.deref_mut.ensures.value
    ∙ filled_with c.new-left.result.items c.resize.new.self.items _ n c.args.copies c.new-left.ensures.items c.new-left.ensures.len
    c.in_ok-resize.ensures.items
    ∙ ap (λ (k : ℕ). replicate k c.args.copies) long in
    came_at_most c.args.copies sent es c.count_all.new.left
    (subst (λ (old : List ℕ). AreCountedDown old sent es c.count_all.new.left) all (c.count_all.ensures.kept yes))

pub returns-clause-more : goal.returns-clause-more
returns-clause-more c =
    let n : ℕ = length c.sent.result.now in
    let all : c.deref_mut.result.now ≡ replicate n c.args.copies =
    c.deref_mut.ensures.value
    ∙ filled_with c.new-left.result.items c.resize.new.self.items _ n c.args.copies c.new-left.ensures.items c.new-left.ensures.len
    c.in_ok-resize.ensures.items in
    c.count_all.ensures.more c.args.copies (subst (AreLeftOf c.args.copies []) (sym all) (left_at_first c.args.copies n))
