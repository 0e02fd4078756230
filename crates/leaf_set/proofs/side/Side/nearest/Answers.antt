use Rattle.std.proofs.Common.{◌≡◌, ◌<◌, ◌∙◌, length, get_or, subst, ap, arith}
use Rattle.std.proofs.lemmas.Bool.Decides.{nat_tests}
use Rattle.std.proofs.lemmas.List.{get_or_read}
use Rattle.leaf_set.specs.Beside.{IsBefore, IsFrom}
use Rattle.leaf_set.proofs.Neighbours.{closest_beside}
use Rattle.leaf_set.proofs.side.Side.nearest.Goals as goal

pub returns : goal.returns
returns c =
    let ids = c.as_slice-ids.result.now in
    let xs = c.args.self.now in
    let same : ids ≡ xs = c.as_slice-ids.ensures.value in
    let size : length ids ≡ length xs = ap length same in
    let place = c.place_of-place.result in
    let b : IsBefore c.place_before.result place (length xs) = subst (IsBefore c.place_before.result place) size c.place_before.ensures in
    let a : IsFrom c.place_from.result place (length xs) = subst (IsFrom c.place_from.result place) size c.place_from.ensures in
    let within = c.place_of-place.ensures.within in
    let some = c.is_empty.ensures in
    let not_empty = c.if-is_empty.false in
    let lb : c.place_before.result < length xs = grind (arith, b, within) in
    let la : c.place_from.result < length xs = grind (arith, nat_tests, a, within, size, some, not_empty) in
    let place_before = c.place_before.result in
    let place_from = c.place_from.result in
    let before : c.index-ids-place_before.result ≡ get_or xs place_before 0 =
    get_or_read ids place_before c.index-ids-place_before.result (omega (arith, lb, size)) c.index-ids-place_before.is 0
    ∙ ap (λ zs. get_or zs place_before 0) same in
    let from : c.index-ids-place_from.result ≡ get_or xs place_from 0 =
    get_or_read ids place_from c.index-ids-place_from.result (omega (arith, la, size)) c.index-ids-place_from.is 0
    ∙ ap (λ zs. get_or zs place_from 0) same in
    rw (c.nearer_of.ensures, before, from)
    (closest_beside c.args.me c.args.key c.args.direction place place_before place_from xs (omega arith) (omega arith)
    c.requires.rises c.requires.in_ring c.place_of-place.ensures.first b a lb la)
