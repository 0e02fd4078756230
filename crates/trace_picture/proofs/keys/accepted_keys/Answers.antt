use Rattle.std.proofs.Common.{List, ℕ, sym, ap, ◌∙◌}
use Rattle.overlay_rules.specs.Seen.{entry_seen}
use Rattle.trace_picture.specs.Keys.{with_notes}
use Rattle.trace_picture.proofs.Following.{keys_next}
use Rattle.trace_picture.proofs.keys.accepted_keys.Goals as goal

pub loop-place-preserved : goal.loop-place-preserved
loop-place-preserved c =
    c.in_ok-add_notes.ensures ∙ ap (λ (keys : List ℕ). with_notes keys c.at-event.result.notes.now) c.loop-place.invariant
    ∙ sym (keys_next c.args.entries.now c.loop-place.place (entry_seen c.at-event.result) c.at-event.ensures)
