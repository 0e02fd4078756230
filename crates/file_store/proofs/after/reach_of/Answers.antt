use Rattle.std.proofs.Common.{length, get_or, take, [], ◌||◌, arith, subst}
use Rattle.ring_math.specs.Files.{has_entry}
use Rattle.file_store.specs.Burial.{is_named}
use Rattle.file_store.proofs.Reached.{Spares, laid-all, reaches-end, spares-none, spares-new, spares-old, not_true, not_false}
use Rattle.file_store.proofs.after.reach_of.Goals as goal
use Rattle.file_store.proofs.after.reach_of.Goals.{then-is_new+else-spare-eq0, else-is_new}

pub returns-then-tombs-spare : goal.returns-then-tombs-spare
returns-then-tombs-spare c =
    reaches-end c.args.store.now.files c.args.tombs.now (length c.args.tombs.now) (omega arith)
    (laid-all c.args.store.now.files c.args.tombs.now (length c.args.tombs.now) c.entries-spare.ensures.rising (omega arith) (omega arith))

pub returns-then-spare-eq0 : goal.returns-then-spare-eq0
returns-then-spare-eq0 c =
    spares-none c.args.store.now.files c.args.tombs.now c.loop-place.place (omega arith)
    (subst (Spares c.args.store.now.files c.args.tombs.now c.loop-place.place) (omega arith) c.loop-place.invariant)

pub loop-place-preserved : goal.loop-place-preserved
loop-place-preserved c =
    let files = c.args.store.now.files in
    let tombs = c.args.tombs.now in
    let i = c.loop-place.place in
    let known = has_entry files (get_or tombs i []) || is_named (take i tombs) (get_or tombs i []) in
    elim c.if-is_new.branch [
      | then-is_new+else-spare-eq0 w ↦
          rw w.spare-is (spares-new files tombs i c.loop-place.spare (omega arith) c.loop-place.invariant (omega (arith, w.if-spare-eq0.false))
          (not_true _ known c.is_new.ensures w.if-is_new.true))
      | else-is_new w ↦
          rw w.spare-is (spares-old files tombs i c.loop-place.spare c.entries-spare.ensures.rising (omega arith) c.loop-place.invariant
          (not_false _ known c.is_new.ensures w.if-is_new.false))
    ]
