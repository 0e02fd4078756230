use Rattle.std.proofs.Common.{sym, ◌∙◌}
use Rattle.ring_math.specs.Files.{slot_of, has_room}
use Rattle.past_core.proofs.Reclaiming.{row-buried}
use Rattle.past_core.proofs.past.Past.what_reclaim.Goals as goal

pub returns-in_ok-ended_by-in-Buried-clause-row : goal.returns-in_ok-ended_by-in-Buried-clause-row
returns-in_ok-ended_by-in-Buried-clause-row c = λ s o n.
    let files = c.args.store.now.files in
    row-buried (record s { pending = c.args.self.now.asks; files = files }) o n c.args.file.now (slot_of files c.args.file.now) (has_room files) _
    (sym c.would_bury.ensures ∙ c.in-Buried.is) c.in_ok-ended_by-in-Buried.ensures
