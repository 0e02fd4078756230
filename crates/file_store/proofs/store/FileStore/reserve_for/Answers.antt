use Rattle.std.proofs.Common.{◌≡◌, ◌≤◌, ◌<◌, ◌+◌, min, length, true, refl, arith, sym, ◌∙◌}
use Rattle.std.proofs.lemmas.Bool.{lt-ltb}
use Rattle.std.proofs.lemmas.Result.{on_ok_weaker, on_err_weaker}
use Rattle.ring_math.specs.declared.limits.TheConstants.{MOST_ENTRIES}
use Rattle.ring_math.specs.Files.{has_room}
use Rattle.file_store.proofs.Burying.{length-buried_all, length-buried_known, not_all-any}
use Rattle.file_store.proofs.store.FileStore.reserve_for.Goals as goal

pub returns-then-have_entries-clause-ok : goal.returns-then-have_entries-clause-ok
returns-then-have_entries-clause-ok c =
    omega (
      arith,
      length-buried_known c.args.self.now.files c.args.tombs.now c.entries-rest.ensures.rising (sym c.have_entries.ensures
          ∙ c.if-have_entries.true),
    )

pub returns-clause-ok : goal.returns-clause-ok
returns-clause-ok c =
    let bound = length-buried_all c.args.self.now.files c.args.tombs.now c.entries-rest.ensures.rising c.entries-rest.ensures.limit in
    on_ok_weaker c.reserve.result (λ (p : min (length c.args.self.now.files + c.min.result) MOST_ENTRIES ≤ c.reserve.new.self.room). omega
    (arith, bound.0, bound.1)) c.reserve.ensures.ok

pub returns-clause-refused : goal.returns-clause-refused
returns-clause-refused c =
    let missing = not_all-any c.args.self.now.files c.args.tombs.now (sym c.have_entries.ensures ∙ c.if-have_entries.false) in
    on_err_weaker c.reserve.result
    (λ (p : c.args.self.now.room < min (length c.args.self.now.files + c.min.result) MOST_ENTRIES).
    let below : length c.args.self.now.files < MOST_ENTRIES = omega arith in
    let room : has_room c.args.self.now.files ≡ true = lt-ltb _ _ below in
    rw (room, missing) refl)
    c.reserve.ensures.err
