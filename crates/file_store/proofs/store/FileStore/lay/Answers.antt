use Rattle.std.proofs.Common.{◌≡◌, ◌||◌, true, ◌∙◌, arith}
use Rattle.std.proofs.lemmas.Bool.Decides.{nat_tests}
use Rattle.ring_math.specs.Files.{has_entry, has_room}
use Rattle.file_store.proofs.Burying.{set-buries}
use Rattle.file_store.proofs.store.FileStore.lay.Goals as goal
use Rattle.file_store.proofs.store.FileStore.lay.Goals.{then-has_room-via-then-has_room, then-has_room-via-else-has_room+then-is_some}

pub returns-then-has_room-clause-after : goal.returns-then-has_room-clause-after
returns-then-has_room-clause-after c =
    let may : (has_entry c.args.self.now.files c.args.file || has_room c.args.self.now.files) ≡ true =
    elim c.then-has_room.branch [
      | then-has_room-via-then-has_room w ↦ grind (arith, nat_tests)
      | then-has_room-via-else-has_room+then-is_some w ↦ grind
          (arith, nat_tests)
    ] in
    c.set.ensures.files ∙ set-buries c.args.self.now.files c.args.file c.entries-has_room.ensures.rising may
