use Rattle.std.proofs.Common.{◌≡◌, ◌<◌, suc, ◌∙◌, ap, arith, length}
use Rattle.scribe_core.specs.declared.flat.CompactEntry.{CompactEntry}
use Rattle.scribe_core.specs.Flat.{noted_ends, sent_ends, start_of}
use Rattle.scribe_core.proofs.Cut.{start-next}
use Rattle.scribe_core.proofs.flat.Lists.starts.Goals as goal

pub returns-in-Some-clause-sent : goal.returns-in-Some-clause-sent
returns-in-Some-clause-sent c =
    let next : suc c.in-Some.before ≡ c.args.place = let e = c.in-Some.ensures in omega arith in
    let within : c.in-Some.before < length c.args.self.now.entries.items = omega (arith, c.requires) in
    start-next (λ (e : CompactEntry). e.sent_end) c.args.self.now.entries.items c.in-Some.before c.index-before.result.now within c.index-before.ensures
    ∙ ap (start_of 0 (sent_ends c.args.self.now.entries.items)) next

pub returns-in-Some-clause-noted : goal.returns-in-Some-clause-noted
returns-in-Some-clause-noted c =
    let next : suc c.in-Some.before ≡ c.args.place = let e = c.in-Some.ensures in omega arith in
    let within : c.in-Some.before < length c.args.self.now.entries.items = omega (arith, c.requires) in
    start-next (λ (e : CompactEntry). e.noted_end) c.args.self.now.entries.items c.in-Some.before c.index-before.result.now within c.index-before.ensures
    ∙ ap (start_of 0 (noted_ends c.args.self.now.entries.items)) next
