use Rattle.std.proofs.Common.{◌≡◌, ◌+◌, count_by, false, is_some, take, sym, ap, ◌∙◌, arith}
use Rattle.overlay_rules.specs.declared.entry.EventRef.{EventRef}
use Rattle.overlay_rules.specs.Seen.{entry_seen, event_seen}
use Rattle.fetch_cache.specs.Text.{is_miss}
use Rattle.fetch_cache.specs.Turns.{fetch_of, fetched}
use Rattle.fetch_cache.proofs.Counting.{is_fetch, misses_few, misses_next, no_fetch, one_at_most}
use Rattle.fetch_cache.proofs.report.misses_in.Goals.{in-Command, in_default}
use Rattle.fetch_cache.proofs.report.misses_in.Goals as goal

pub overflow_add-misses : goal.overflow_add-misses
overflow_add-misses c =
    let few = misses_few c.args.entries.now c.loop-place.place in
    let long = c.len-place-end.ensures in
    let one = one_at_most (is_some (fetched c.in-Command.command.now)) in
    omega (arith, c.loop-place.invariant, c.loop-place-test.true, c.fetches-misses.ensures)

pub loop-place-preserved : goal.loop-place-preserved
loop-place-preserved c =
    let es = c.args.entries.now in
    let i = c.loop-place.place in
    let counted = c.loop-place.invariant in
    elim c.match-entry.branch [
      | in-Command w ↦
          w.misses-is ∙ ap (λ n. n + w.fetches-misses.result) counted ∙ ap (λ n. count_by is_miss (take i es) + n) w.fetches-misses.ensures ∙
          sym (misses_next es i (entry_seen c.at-entry.result) (is_some (fetched w.in-Command.command.now)) c.at-entry.ensures
          (is_fetch w.in-Command.node w.in-Command.number w.in-Command.command.now ∙
          sym (ap (λ (v : EventRef). is_some (fetch_of (event_seen v))) w.in-Command.is)))
      | in_default w ↦
          let zero : count_by is_miss (take i es) ≡ count_by is_miss (take i es) + 0 = omega arith in
          w.misses-is ∙ counted ∙ zero ∙
          sym (misses_next es i (entry_seen c.at-entry.result) false c.at-entry.ensures (no_fetch c.at-entry.result.event w.in_default.not-Command))
    ]
