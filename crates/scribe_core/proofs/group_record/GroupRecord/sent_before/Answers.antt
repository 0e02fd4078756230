use Rattle.std.proofs.Common.{◌≤◌, ◌∙◌, ℕ, List, ap, arith, length, length-take-le, subst, sym, take}
use Rattle.scribe_core.specs.Entry.{GroupEntry}
use Rattle.scribe_core.specs.declared.message.GroupSent.{GroupSent}
use Rattle.scribe_core.specs.Flat.{sent_ends, start_of}
use Rattle.scribe_core.specs.Record.{sent_in}
use Rattle.scribe_core.proofs.Cut.{cut-sent_before, place-within, start-within}
use Rattle.scribe_core.proofs.group_record.GroupRecord.sent_before.Goals as goal

pub starts-starts-requires : goal.starts-starts-requires
starts-starts-requires c = let lt = place-within c.self.inside.lists c.args.self.now c.args.place c.self.view_is c.requires in omega arith

pub slice_bounds-result-end : goal.slice_bounds-result-end
slice_bounds-result-end c =
    let lt = place-within c.self.inside.lists c.args.self.now c.args.place c.self.view_is c.requires in
    let within = start-within c.self.inside.lists c.args.place c.self.invariant.order (omega arith) in
    sym (length-take-le c.starts-starts.result.sent c.deref.result.now
    (subst (λ (k : ℕ). k ≤ length c.deref.result.now) (sym c.starts-starts.ensures.sent)
    (subst (λ (ms : List GroupSent). start_of 0 (sent_ends c.self.inside.lists.entries.items) c.args.place ≤ length ms) (sym c.deref.ensures.value) within)))

pub returns : goal.returns
returns c =
    let lt = place-within c.self.inside.lists c.args.self.now c.args.place c.self.view_is c.requires in
    ap (λ (k : ℕ). take k c.deref.result.now) c.starts-starts.ensures.sent
    ∙ ap (λ (ms : List GroupSent). take (start_of 0 (sent_ends c.self.inside.lists.entries.items) c.args.place) ms) c.deref.ensures.value
    ∙ cut-sent_before c.self.inside.lists c.args.place c.self.invariant.order (omega arith)
    ∙ ap (λ (es : List GroupEntry). sent_in (take c.args.place es)) c.self.view_is
