use Rattle.weave_laws.specs.Cells as plain
use Rattle.weave.proofs.Taking.{no_frame}
use Rattle.weave.proofs.relay.take_noise.Goals as goal

pub handle_at-requires : goal.handle_at-requires
handle_at-requires c =
    let own = c.requires.at c.place_of-place.result c.place_of-place.ensures in
    record { input = plain.Noise; are = record { cell = own.cell; there = own.there; is = no_frame own.cell.node }; can = own.can }
