use Rattle.std.proofs.Common.{◌≤◌, length, ◌+◌, arith, ap, sym, ◌∙◌, List}
use Rattle.ring_math.specs.declared.file.Held.{Held}
use Rattle.ring_math.specs.Files.{buried}
use Rattle.file_store.proofs.Burying.{buried_all-turn, length-buried_part, laid-within}
use Rattle.file_store.proofs.store.FileStore.bury_reserved.Goals as goal

pub lay-requires : goal.lay-requires
lay-requires c = λ laid.
    let turn = buried_all-turn c.args.self.now.files c.args.tombs.now c.loop-tomb.tomb-index c.tomb-item.result (omega arith) c.tomb-item.is in
    let part = length-buried_part c.args.self.now.files c.args.tombs.now (c.loop-tomb.tomb-index + 1) in
    let now : length (buried c.loop-tomb.self.files c.tomb-item.result) ≤ c.loop-tomb.self.room = rw (c.loop-tomb.invariant.files, ← turn) (omega arith) in
    laid-within c.loop-tomb.self.files c.tomb-item.result c.loop-tomb.self.room now laid

pub loop-tomb-preserved : goal.loop-tomb-preserved
loop-tomb-preserved c = record {
  files = c.lay.ensures.files ∙ ap (λ (hs : List Held). buried hs c.tomb-item.result) c.loop-tomb.invariant.files
      ∙ sym (buried_all-turn c.args.self.now.files c.args.tombs.now c.loop-tomb.tomb-index c.tomb-item.result (omega arith) c.tomb-item.is);
  room = omega arith;
}
