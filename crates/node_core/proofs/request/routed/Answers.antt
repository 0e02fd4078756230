use Rattle.std.proofs.Common.{ap, sym}
use Rattle.overlay_rules.specs.declared.request.Way.{Way}
use Rattle.overlay_rules.specs.Routed.{served}
use Rattle.node_parts.specs.Change.{waited}
use Rattle.node_parts.specs.Seen.{seen}
use Rattle.node_core.proofs.request.routed.Goals as goal

pub returns-in-Here : goal.returns-in-Here
returns-in-Here c = λ r known h. c.in-Here.ensures known r.wait h

pub returns-in-To : goal.returns-in-To
returns-in-To c = λ r known h. c.in-To.ensures known r.wait h

pub returns-in-NotReady : goal.returns-in-NotReady
returns-in-NotReady c = λ r known h what next here.
    ap (λ (w : Way). served (waited r.wait (seen c.args.node.now known)) what r.origin r.number w next here) (sym (c.in-NotReady.ensures known r.wait h))

pub returns-in-Gap : goal.returns-in-Gap
returns-in-Gap c = λ r known h what next here.
    ap (λ (w : Way). served (waited r.wait (seen c.args.node.now known)) what r.origin r.number w next here) (sym (c.in-Gap.ensures known r.wait h))
