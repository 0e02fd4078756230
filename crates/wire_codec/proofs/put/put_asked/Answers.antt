-- The words are the bytes of the identifier and of the number.
use Rattle.std.proofs.Common.{ℕ, ◌/◌, ◌%◌, ◌<◌, ◌^◌, [], ◌∷◌, arith, subst}
use Rattle.wire_codec.specs.Fields.{Field}
use Rattle.wire_codec.specs.Writing.{Writes}
use Rattle.wire_codec.proofs.Written.{asked_written}
use Rattle.wire_codec.proofs.put.put_asked.Goals as goal

pub returns : goal.returns
returns c =
    let origin : ℕ = c.origin.inside.0 in
    let fits : origin < 2 ^ 128 = c.origin.invariant in
    subst (λ (n : ℕ). Writes c.args.out.now.items c.put_three_words.new.out.items (Field.Id n ∷ (Field.Number c.args.number ∷ []))) c.origin.view_is
    (asked_written origin c.args.number (origin / 18446744073709551616) (origin % 18446744073709551616) fits c.ranges.number.fits (omega arith) (omega arith)
    (omega arith)
    c.in_ok-put_three_words.ensures)
