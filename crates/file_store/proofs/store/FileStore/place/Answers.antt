use Rattle.std.proofs.Common.{arith, sym, ◌∙◌}
use Rattle.file_store.proofs.Slots.{place-within, beyond, within}
use Rattle.file_store.specs.Spread.{blank}
use Rattle.file_store.proofs.store.FileStore.place.Goals as goal

pub loop-low-init : goal.loop-low-init
loop-low-init c = record { from = omega arith; to = omega (arith, place-within c.self.inside.arena.files c.args.file.now); inside = omega arith }

pub loop-low-preserved-then-comes_before : goal.loop-low-preserved-then-comes_before
loop-low-preserved-then-comes_before c =
    let after = beyond c.self.inside.arena.files c.args.file.now _ blank c.self.invariant (omega arith)
    (sym (c.comes_before.ensures blank) ∙ c.if-comes_before.true) in
    record { from = omega (arith, after); to = omega arith; inside = omega arith }

pub loop-low-preserved : goal.loop-low-preserved
loop-low-preserved c =
    let before = within c.self.inside.arena.files c.args.file.now _ blank (sym (c.comes_before.ensures blank) ∙ c.if-comes_before.false) in
    record { from = omega arith; to = before; inside = omega arith }
