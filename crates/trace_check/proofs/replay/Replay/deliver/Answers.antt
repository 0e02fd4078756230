use Rattle.std.proofs.lemmas.Option.{slice_get_past}
use Rattle.overlay_rules.specs.declared.entry.Event.TheVariants as event
use Rattle.trace_check.proofs.Following.{no_message, undelivered}
use Rattle.trace_check.proofs.replay.Replay.deliver.Goals as goal

pub returns-in-None : goal.returns-in-None
returns-in-None c = λ g past h all.
    no_message g past (event.Deliver c.args.message) (undelivered c.args.sent.now past c.args.message all
    (slice_get_past c.args.sent.now c.args.message c.in-None.ensures.lookup.3))
