-- The words are the bytes of both identifiers and of the stamp.
use Rattle.std.proofs.Common.{ℕ, ◌/◌, ◌%◌, ◌<◌, ◌^◌, [], ◌∷◌, arith, subst}
use Rattle.wire_codec.specs.Fields.{Field}
use Rattle.wire_codec.specs.Writing.{Writes}
use Rattle.wire_codec.proofs.Written.{addresses_written}
use Rattle.wire_codec.proofs.put.put_addresses.Goals as goal

pub returns : goal.returns
returns c =
    let sender : ℕ = c.sender.inside.0 in
    let receiver : ℕ = c.receiver.inside.0 in
    let fits : sender < 2 ^ 128 = c.sender.invariant in
    let fits_too : receiver < 2 ^ 128 = c.receiver.invariant in
    subst (λ (n : ℕ). Writes c.args.out.now.items c.put_five_words.new.out.items
    (Field.Id n ∷ (Field.Id c.args.receiver ∷ (Field.Number c.args.stamp ∷ [])))) c.sender.view_is
    (subst (λ (n : ℕ). Writes c.args.out.now.items c.put_five_words.new.out.items (Field.Id sender ∷ (Field.Id n ∷ (Field.Number c.args.stamp ∷ []))))
    c.receiver.view_is
    (addresses_written sender receiver c.args.stamp (sender / 18446744073709551616) (sender % 18446744073709551616) (receiver / 18446744073709551616)
    (receiver % 18446744073709551616)
    fits fits_too c.ranges.stamp.fits (omega arith) (omega arith) (omega arith) (omega arith) (omega arith) (omega arith) c.in_ok-put_five_words.ensures))
