use Rattle.std.proofs.Common.{◌∷◌, ◌++◌, List, map, sym, subst}
use Rattle.wire_msg.specs.Words.{plain_envelope}
use Rattle.overlay_rules.specs.Seen.{event_seen}
use Rattle.trace_text.specs.Lines as lines
use Rattle.trace_text.specs.Lines.{Line}
use Rattle.trace_text.specs.Writing.{WritesLines}
use Rattle.trace_text.proofs.Written.{lines_then, map_twice, on_ok}
use Rattle.trace_text.proofs.writer.put_entry.Goals as goal

pub returns : goal.returns
returns c =
    let e = c.args.entry.now in
    on_ok c.put_notes.result c.put_notes.ensures (λ written.
    subst (λ (sent : List Line). WritesLines c.args.text.now c.put_notes.new.text (lines.Event (event_seen e.event) ∷ (sent ++ map lines.Note e.notes.now)))
    (sym (map_twice plain_envelope lines.Sent e.messages.now)) (lines_then c.in_ok-put_event.ensures (lines_then c.in_ok-put_messages.ensures written)))
