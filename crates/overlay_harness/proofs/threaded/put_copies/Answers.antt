use Rattle.std.proofs.Common.{◌<◌, ◌∙◌, ℕ, List, length, sym, subst, arith}
use Rattle.std.specs.Prelude.{IsSome}
use Rattle.node_mailbox.specs.Pass.{PassView}
use Rattle.wire_codec.specs.Reading.{refusal}
use Rattle.overlay_harness.specs.Driven.{PutNoise}
use Rattle.overlay_harness.proofs.Driving.{put_none, put_one, put_then}
use Rattle.overlay_harness.proofs.threaded.put_copies.Goals as goal

pub loop-init : goal.loop-init
loop-init g c = record { of = c.requires.of; noise = put_none c.args.own.now }

pub loop-preserved : goal.loop-preserved
loop-preserved g c =
    let own : List PassView = c.loop.own in
    let within : c.args.place < length own =
    (let long = c.loop.invariant.of.count in let lt = c.requires.place in omega arith) in
    let no_frame : IsSome (refusal c.in_ok-copy.copy) =
    subst (λ (bs : List ℕ). IsSome (refusal bs)) (sym (c.in_ok-copy.ensures ∙ c.as_slice.ensures)) c.requires.noise in
    record {
      of = c.put.ensures.of;
      noise = put_then c.args.own.now own c.put.new.self c.loop.invariant.noise
          (subst (PutNoise own) (sym c.in-Ok.ensures.ok) (put_one own c.args.place c.in_ok-copy.copy within no_frame));
    }
