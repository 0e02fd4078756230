use Rattle.std.proofs.Common.{◌≡◌, ◌+◌, List, [], sym, subst, map, take, get_or, refl, arith}
use Rattle.std.specs.List.{AllZip}
use Rattle.wire_msg.specs.Words.{Envelope}
use Rattle.overlay_rules.specs.declared.entry.Entry.{Entry}
use Rattle.overlay_rules.specs.Record.{sent_in}
use Rattle.weave_laws.specs.Cells.{History}
use Rattle.weave_laws.specs.Woven.{Act, IsEntryOf}
use Rattle.weave.specs.declared.acts.Act.{Act as CodeAct}
use Rattle.weave.specs.declared.fault.WeaveFault.{WeaveFault}
use Rattle.weave.specs.ByStamp.{AreByStamp}
use Rattle.weave.specs.Growing.{HasOneMore}
use Rattle.weave.specs.Placed.{IsWithin, act_at, acts_in, placed, sent_by}
use Rattle.weave.specs.Stops.{IsHaltAt, IsStopAt}
use Rattle.weave.specs.declared.fault.WeaveFault.TheVariants as fault
use Rattle.weave.specs.declared.stop.Stop.{Stop}
use Rattle.weave.specs.declared.stop.Stop.TheVariants as halt
use Rattle.weave.proofs.Following.{next-by_stamp, next-entry, next-stop}
use Rattle.weave.proofs.Stopping.{at_turn, entries-push, is_at_turn, stops}
use Rattle.weave.proofs.Strands.{still_stand}
use Rattle.weave.proofs.weaving.entries_of.Goals as goal

-- the fault at an entry that is as it was where the weaving stopped
stopped : (sent : List Envelope) (x : CodeAct) (now then : List History) (stop : Stop) (f : WeaveFault) → IsHaltAt sent (placed now x) stop →
    (stop ≡ halt.Stray → then ≡ now) → (stop ≡ halt.Stray → IsHaltAt sent (placed then x) stop → IsStopAt sent (placed then x) f) →
    (stop ≡ halt.OutOfMemory → f ≡ fault.OutOfMemory) → IsStopAt sent (placed now x) f
stopped sent x now then halt.Stray f h same found memory =
    subst (λ (hs : List History). IsStopAt sent (placed hs x) f) (same refl)
    (found refl (subst (λ (hs : List History). IsHaltAt sent (placed hs x) halt.Stray) (sym (same refl)) h))
stopped sent x now then halt.OutOfMemory f h same found memory =
    subst (IsStopAt sent (placed now x)) (sym (memory refl)) tt

pub loop-act-init : goal.loop-act-init
loop-act-init g c =
    let sent : List Envelope = sent_by (acts_in (map (placed (map g.S.Strand.history c.args.strands.now)) c.args.acts.now)) in
    record {
      became = subst (λ (es : List Entry). AllZip (IsEntryOf sent) [] es) (sym c.in_ok-weaving.ensures.entries) tt;
      emptied = c.in_ok-weaving.ensures.emptied;
      tabled = c.in_ok-weaving.ensures.tabled;
      others = record { within = λ k d le lt. c.requires.within k d lt; same = λ k d le lt. refl };
    }

pub add-requires-clause-sorted : goal.add-requires-clause-sorted
add-requires-clause-sorted g c =
    let acts : List CodeAct = c.args.acts.now in
    let i = c.loop-act.act-index in
    subst (λ (es : List Entry). AreByStamp (sent_in es)) (sym c.look_ahead.ensures.entries)
    (next-by_stamp (map g.S.Strand.history c.args.strands.now) acts i (at_turn acts i) c.loop-act.weaving.entries c.loop-act-test.true
    (is_at_turn acts i c.loop-act-test.true) c.loop-act.invariant.became c.requires.follow)

pub add-requires-clause-within : goal.add-requires-clause-within
add-requires-clause-within g c =
    c.loop-act.invariant.others.within c.loop-act.act-index (record { stamp = 0; history = 0; place = 0 }) (omega arith) c.loop-act-test.true

pub loop-act-preserved : goal.loop-act-preserved
loop-act-preserved g c =
    let first : List History = map g.S.Strand.history c.args.strands.now in
    let now : List History = map g.S.Strand.history c.loop-act.strands in
    let acts : List CodeAct = c.args.acts.now in
    let i = c.loop-act.act-index in
    let x : CodeAct = at_turn acts i in
    let is : x ≡ get_or acts i x = is_at_turn acts i c.loop-act-test.true in
    let sent : List Envelope = sent_by (acts_in (map (placed first) acts)) in
    let still : act_at now x ≡ act_at first x =
    c.loop-act.invariant.others.same i (record { stamp = 0; history = 0; place = 0 }) (omega arith) c.loop-act-test.true in
    let one : HasOneMore (act_at first x) c.loop-act.weaving.entries c.add.new.self.entries =
    subst (λ (es : List Entry). HasOneMore (act_at first x) es c.add.new.self.entries) c.look_ahead.ensures.entries
    (subst (λ (a : Act). HasOneMore a c.look_ahead.new.self.entries c.add.new.self.entries) still c.in-Ok.ensures.ok) in
    record {
      became = subst (AllZip (IsEntryOf sent) (acts_in (map (placed first) (take (i + 1) acts)))) (sym one.more)
          (entries-push first sent acts i x c.loop-act.weaving.entries one.entry c.loop-act-test.true is c.loop-act.invariant.became
          (next-entry first acts i x c.loop-act.weaving.entries c.loop-act-test.true is c.loop-act.invariant.became one.entry
          one.becomes));
      emptied = c.in-Ok.ensures.emptied;
      tabled = c.in-Ok.ensures.tabled;
      others = still_stand first now (map g.S.Strand.history c.add.new.strands) acts i x c.requires.order c.loop-act-test.true is
          c.in-Ok.ensures.others c.loop-act.invariant.others;
    }

pub fault_at-requires : goal.fault_at-requires
fault_at-requires g c = λ stray.
    subst (λ (hs : List History). IsWithin hs (at_turn c.args.acts.now c.loop-act.act-index)) (sym (c.in-Err.ensures.same stray))
    (c.loop-act.invariant.others.within c.loop-act.act-index (record { stamp = 0; history = 0; place = 0 }) (omega arith) c.loop-act-test.true)

pub returns-in-Err-clause-err : goal.returns-in-Err-clause-err
returns-in-Err-clause-err g c =
    let first : List History = map g.S.Strand.history c.args.strands.now in
    let now : List History = map g.S.Strand.history c.loop-act.strands in
    let then : List History = map g.S.Strand.history c.add.new.strands in
    let acts : List CodeAct = c.args.acts.now in
    let i = c.loop-act.act-index in
    let x : CodeAct = at_turn acts i in
    let is : x ≡ get_or acts i x = is_at_turn acts i c.loop-act-test.true in
    let fault : WeaveFault = c.fault_at.result in
    let sent : List Envelope = sent_by (acts_in (map (placed first) acts)) in
    let still : act_at now x ≡ act_at first x =
    c.loop-act.invariant.others.same i (record { stamp = 0; history = 0; place = 0 }) (omega arith) c.loop-act-test.true in
    let stop : IsStopAt (sent_in c.look_ahead.new.self.entries) (placed now x) fault =
    stopped (sent_in c.look_ahead.new.self.entries) x now then c.in-Err.stop fault c.in-Err.ensures.err c.in-Err.ensures.same
    (c.fault_at.ensures.stray (sent_in c.look_ahead.new.self.entries)) c.fault_at.ensures.memory in
    let stop_there : IsStopAt (sent_in c.loop-act.weaving.entries) (placed first x) fault =
    subst (λ (es : List Entry). IsStopAt (sent_in es) (placed first x) fault) c.look_ahead.ensures.entries
    (subst (λ (a : Act). IsStopAt (sent_in c.look_ahead.new.self.entries) (record { stamp = x.stamp; place = x.place; act = a }) fault) still stop) in
    stops first sent acts i x c.loop-act.weaving.entries fault c.loop-act-test.true is c.loop-act.invariant.became
    (next-stop first acts i x c.loop-act.weaving.entries c.loop-act-test.true is c.loop-act.invariant.became c.requires.follow fault stop_there)
