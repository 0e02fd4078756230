use Rattle.std.proofs.Common.{◌≡◌, arith, ap, sym, ◌∙◌, set}
use Rattle.overlay_rules.specs.declared.request.Pending.{Pending}
use Rattle.past_core.specs.Waits.{Waits, heard_at}
use Rattle.past_core.proofs.Places.{heard-set, heard-past}
use Rattle.past_core.proofs.past.Past.hear.Goals as goal

pub returns-then-place-len : goal.returns-then-place-len
returns-then-place-len c =
    let ps = c.self.inside.asks.items in
    let ask : Pending = c.index_mut-ask.result.now in
    ap (λ (y : Pending). set ps c.args.place (record y { awaited = c.args.awaited })) c.index_mut-ask.ensures.value
    ∙ heard-set ps c.args.place c.args.awaited ask (omega (arith, c.self.inside.asks.ok.0))
    ∙ ap (λ (w : Waits). heard_at w.asks c.args.place c.args.awaited) c.self.view_is

pub returns-else-place-len : goal.returns-else-place-len
returns-else-place-len c =
    let e : c.args.self.now.asks ≡ c.self.inside.asks.items = ap (λ (w : Waits). w.asks) (sym c.self.view_is) in
    rw e (heard-past c.self.inside.asks.items c.args.place c.args.awaited (omega (arith, c.self.inside.asks.ok.0)))
