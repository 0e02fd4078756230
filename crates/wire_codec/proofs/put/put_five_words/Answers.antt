use Rattle.std.proofs.Common.{List, ℕ, ◌++◌, ap, ◌∙◌}
use Rattle.wire_codec.proofs.put.put_five_words.Goals as goal

pub returns : goal.returns
returns c =
    let words = rw (c.to_be_bytes.ensures, c.to_be_bytes-2.ensures, c.to_be_bytes-3.ensures, c.to_be_bytes-4.ensures, c.to_be_bytes-5.ensures) at
    c.as_flattened.ensures.value in
    c.in_ok-extend_from_slice.ensures.items ∙ ap (λ (x : List ℕ). c.args.out.now.items ++ x) words
