use Rattle.std.proofs.Common.{◌≡◌, ◌≤◌, ◌-◌, length}
use Rattle.schedule.specs.Cursors.{turn_at}
use Rattle.schedule.proofs.cursor.Cursor.next.Given as goal

abbrev pub invariant-loop-turn : goal.invariant-loop-turn
invariant-loop-turn l = record {
  same : turn_at l.scenario.actions l.self l.sent l.oldest ≡ turn_at l.scenario.actions l.fn.self l.sent l.oldest;
  forward : l.fn.self.place ≤ l.self.place;
}

abbrev pub decreases-loop-turn : goal.decreases-loop-turn
decreases-loop-turn l = length l.actions - l.self.place
