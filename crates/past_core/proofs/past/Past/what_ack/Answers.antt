use Rattle.std.proofs.Common.{◌≡◌, ◌<◌, not, ◌==◌, length, filter, get_or, arith, sym, ap, ◌∙◌}
use Rattle.std.proofs.lemmas.Bool.Decides.{nat_tests}
use Rattle.overlay_rules.specs.declared.request.Pending.{Pending}
use Rattle.past_core.proofs.Acking.{is_at, ack-last, ack-heard, none-long, none-short}
use Rattle.past_core.proofs.past.Past.what_ack.Goals as goal

pub returns-then-is_empty-clause-row : goal.returns-then-is_empty-clause-row
returns-then-is_empty-clause-row c = λ s.
    let ask : Pending = c.index-as_slice-place.result in
    let read : ask ≡ get_or c.args.self.now.asks c.in-Some.place ask = rw c.as_slice.ensures at c.index-as_slice-place.is in
    let at = is_at c.args.self.now.asks c.args.sender c.args.origin c.args.number c.args.file.now c.in-Some.place ask c.in-Some.ensures read in
    let left : c.all_but-awaited.result ≡ filter (λ y. not (y == c.args.sender)) (get_or c.as_slice.result.now c.in-Some.place ask).awaited =
    c.all_but-awaited.ensures in
    let rest : c.all_but-awaited.result ≡ filter (λ y. not (y == c.args.sender)) ask.awaited =
    left ∙ ap (λ (p : Pending). filter (λ y. not (y == c.args.sender)) p.awaited) (sym c.index-as_slice-place.is) in
    let none : length c.as_slice-2.result.now ≡ 0 = grind (arith, nat_tests, c.is_empty.ensures, c.if-is_empty.true) in
    ack-last (record s { pending = c.args.self.now.asks }) _ _ _ _ c.in-Some.place ask at
    (sym rest ∙ sym c.as_slice-2.ensures.value ∙ none-long _ none)

pub returns-clause-row : goal.returns-clause-row
returns-clause-row c = λ s.
    let ask : Pending = c.index-as_slice-place.result in
    let read : ask ≡ get_or c.args.self.now.asks c.in-Some.place ask = rw c.as_slice.ensures at c.index-as_slice-place.is in
    let at = is_at c.args.self.now.asks c.args.sender c.args.origin c.args.number c.args.file.now c.in-Some.place ask c.in-Some.ensures read in
    let left : c.all_but-awaited.result ≡ filter (λ y. not (y == c.args.sender)) (get_or c.as_slice.result.now c.in-Some.place ask).awaited =
    c.all_but-awaited.ensures in
    let rest : c.in_ok-awaited.awaited ≡ filter (λ y. not (y == c.args.sender)) ask.awaited =
    c.in_ok-awaited.ensures ∙ left ∙ ap (λ (p : Pending). filter (λ y. not (y == c.args.sender)) p.awaited) (sym c.index-as_slice-place.is) in
    let some : 0 < length c.as_slice-2.result.now = grind (arith, nat_tests, c.is_empty.ensures, c.if-is_empty.false) in
    ack-heard (record s { pending = c.args.self.now.asks }) _ _ _ _ c.in-Some.place ask c.in_ok-awaited.awaited at rest
    (λ e. none-short _ some (c.as_slice-2.ensures.value ∙ sym c.in_ok-awaited.ensures ∙ e))
