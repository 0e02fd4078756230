use Rattle.std.proofs.Common.{◌≡◌, ◌<◌, suc, ◌∙◌, sym, ap, arith, length}
use Rattle.overlay_rules.specs.Flat.{noted_start, sent_start}
use Rattle.overlay_rules.proofs.Cut.{sent-start_next, noted-start_next}
use Rattle.overlay_rules.proofs.flat.Lists.starts.Goals as goal

pub returns-in-Some-clause-sent : goal.returns-in-Some-clause-sent
returns-in-Some-clause-sent c =
    let next : suc c.in-Some.before ≡ c.args.place = let e = c.in-Some.ensures in omega arith in
    let within : c.in-Some.before < length c.args.self.now.entries.items = omega (arith, c.requires) in
    ap (λ e. e.sent_end) c.index-before.ensures ∙ sym (sent-start_next 0 c.args.self.now.entries.items c.in-Some.before c.index-before.result.now within)
    ∙ ap (λ k. sent_start 0 c.args.self.now.entries.items k) next

pub returns-in-Some-clause-noted : goal.returns-in-Some-clause-noted
returns-in-Some-clause-noted c =
    let next : suc c.in-Some.before ≡ c.args.place = let e = c.in-Some.ensures in omega arith in
    let within : c.in-Some.before < length c.args.self.now.entries.items = omega (arith, c.requires) in
    ap (λ e. e.noted_end) c.index-before.ensures ∙ sym (noted-start_next 0 c.args.self.now.entries.items c.in-Some.before c.index-before.result.now within)
    ∙ ap (λ k. noted_start 0 c.args.self.now.entries.items k) next
