use Rattle.overlay_harness.proofs.Driving.{put_none, put_then}
use Rattle.overlay_harness.proofs.threaded.put_noise.Goals as goal

pub loop-action-init : goal.loop-action-init
loop-action-init g c = record { of = c.requires.of; noise = put_none c.args.own.now }

pub loop-action-preserved : goal.loop-action-preserved
loop-action-preserved g c = record {
  of = c.put_if_noise.ensures.of;
  noise = put_then c.args.own.now c.loop-action.own c.put_if_noise.new.own c.loop-action.invariant.noise c.put_if_noise.ensures.noise;
}
