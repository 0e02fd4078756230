-- The halves of an identifier are its 16 bytes.
use Rattle.std.proofs.Common.{ℕ, ◌/◌, ◌%◌, ◌<◌, ◌^◌, [], ◌∷◌, arith, subst}
use Rattle.wire_codec.specs.Fields.{Field}
use Rattle.wire_codec.specs.Writing.{Writes}
use Rattle.wire_codec.proofs.Written.{id_written}
use Rattle.wire_codec.proofs.put.put_id.Goals as goal

pub returns : goal.returns
returns c =
    let id : ℕ = c.id.inside.0 in
    let fits : id < 2 ^ 128 = c.id.invariant in
    subst (λ (n : ℕ). Writes c.args.out.now.items c.put_word-2.new.out.items (Field.Id n ∷ [])) c.id.view_is
    (id_written id (id / 18446744073709551616) (id % 18446744073709551616) fits (omega arith) (omega arith)
    (omega arith) c.in_ok-put_word.ensures c.in_ok-put_word-2.ensures)
