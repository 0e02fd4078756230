use Rattle.std.proofs.Common.{◌≡◌, ℕ, List, length, length-take, ap, ◌∙◌, arith, slice_range, ◌+◌}
use Rattle.outside.proofs.Copied.{drop-copied}
use Rattle.outside.proofs.feed.Feed.give.Goals as goal

pub returns-clause-bytes : goal.returns-clause-bytes
returns-clause-bytes c =
    let len : length c.copy_from_slice.new.self ≡ c.min-count.result = omega (arith, length-take {A = ℕ}) in
    let copied = c.copy_from_slice.ensures.after
    ∙ ap (λ (bytes : List ℕ). slice_range bytes c.self.inside.given (c.self.inside.given + c.min-count.result)) c.as_slice.ensures.value in
    rw (← c.self.view_is) (drop-copied c.self.inside.bytes.items c.args.buf.now c.copy_from_slice.new.self c.self.inside.given c.min-count.result copied len)
