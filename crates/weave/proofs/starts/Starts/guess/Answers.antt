use Rattle.std.proofs.Common.{◌≡◌, ◌≢◌, ◌∙◌, ℕ, List, length, get_or, slice_range, ap, subst, arith}
use Rattle.weave.proofs.Tabling.{none_such}
use Rattle.weave.proofs.starts.Starts.guess.Goals as goal

pub returns : goal.returns
returns c = λ vs h.
    let from = c.near-near.result.from in
    let upto = c.near-near.result.upto in
    let behind = c.first_in-behind.result in
    let all : List ℕ = c.args.self.now.marks.items in
    let got = c.in_ok-marks.ensures.lookup.0 in
    let is : c.in_ok-marks.marks.now ≡ slice_range all from upto =
    got.2 ∙ ap (λ (ms : List ℕ). slice_range ms from upto) c.deref.ensures.value in
    let within = c.first_in-behind.ensures.within in
    none_such c.args.self.now c.args.stamp c.args.mark from upto behind got.0 (omega (arith, got.1, ap length c.deref.ensures.value))
    (omega (arith, within, got.3, got.0))
    (λ k lt. subst (λ (ms : List ℕ). get_or ms k 0 ≢ c.args.mark) is (c.first_in-behind.ensures.before k lt)) vs h (c.near-near.ensures vs h)
