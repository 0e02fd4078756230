use Rattle.std.proofs.Common.{◌≡◌, ◌∙◌, Result, Ok, Err, IfOk, IfErr, List, Contains, map, ap, sym, subst}
use Rattle.wire_msg.specs.Words.{Envelope, plain_envelope}
use Rattle.overlay_rules.specs.declared.flat.CompactEvent.{CompactEvent}
use Rattle.overlay_rules.specs.Flat.{event_kept}
use Rattle.overlay_rules.specs.Record.{sent_in}
use Rattle.weave_laws.specs.Cells.{CellEntry, CellInput, Comes, History}
use Rattle.weave_laws.specs.Woven.{IsEventOf}
use Rattle.node_cell.specs.Entries.{plain_input_of}
use Rattle.weave.specs.Placed.{Placed, act_at, placed}
use Rattle.weave.specs.Stops.{IsHaltAt}
use Rattle.weave.specs.Strands.{entry_seen}
use Rattle.weave.specs.declared.stop.Stop.{Stop}
use Rattle.weave.specs.declared.stop.Stop.TheVariants.{Stray}
use Rattle.weave.proofs.weaving.Weaving.event_of.Goals as goal

-- an entry that took in what was not sent
halts : (sent : List Envelope) (p : Placed) (v : Envelope) (r : Result CompactEvent Stop) → p.act.entry.input ≡ Comes v →
    IfErr r (λ s. (s ≡ Stray) × (Contains sent v → ⊥)) → IfErr r (IsHaltAt sent p)
halts sent p v (Ok e) takes h = h
halts sent p v (Err s) takes h =
    subst (IsHaltAt sent p) (sym h.0) (record { envelope = v; stray = record { takes = takes; unsent = h.1 } })

pub returns-in-Comes-clause-ok : goal.returns-in-Comes-clause-ok
returns-in-Comes-clause-ok g c =
    let hs : List History = map g.S.Strand.history c.args.strands.now in
    let own = act_at hs c.args.act.now in
    let takes : own.entry.input ≡ Comes (plain_envelope c.in-Comes.envelope) =
    sym (ap (λ (e : CellEntry). e.input) c.entry.ensures) ∙ ap (λ r. (entry_seen r).input) c.in-Some.is ∙ ap plain_input_of c.in-Comes.is in
    subst (λ (i : CellInput).
    IfOk c.delivery_of.result (λ (e : CompactEvent). IsEventOf (sent_in c.args.self.now.entries) own.node i (event_kept e)))
    (sym takes) (c.delivery_of.ensures.ok own.node)

pub returns-in-Comes-clause-err : goal.returns-in-Comes-clause-err
returns-in-Comes-clause-err g c =
    let hs : List History = map g.S.Strand.history c.args.strands.now in
    let takes : (act_at hs c.args.act.now).entry.input ≡ Comes (plain_envelope c.in-Comes.envelope) =
    sym (ap (λ (e : CellEntry). e.input) c.entry.ensures) ∙ ap (λ r. (entry_seen r).input) c.in-Some.is ∙ ap plain_input_of c.in-Comes.is in
    halts (sent_in c.args.self.now.entries) (placed hs c.args.act.now) (plain_envelope c.in-Comes.envelope) c.delivery_of.result takes
    c.delivery_of.ensures.err
