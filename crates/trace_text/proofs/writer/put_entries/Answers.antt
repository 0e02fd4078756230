use Rattle.overlay_rules.specs.Seen.{entry_seen}
use Rattle.trace_text.proofs.Written.{entries_more}
use Rattle.trace_text.proofs.writer.put_entries.Goals as goal

pub loop-place-preserved : goal.loop-place-preserved
loop-place-preserved c =
    entries_more c.args.entries.now c.loop-place.place (entry_seen c.at-entry.result) c.args.text.now _ _ c.at-entry.ensures c.loop-place.invariant
    c.in_ok-put_entry.ensures
