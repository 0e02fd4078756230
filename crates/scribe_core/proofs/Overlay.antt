-- The overlay that a legal record has left: its messages hold, and its founder is ready.
use Rattle.std.proofs.Common.{◌≡◌, Bool, List, length, refl, subst, ap, arith}
use Rattle.std.specs.Prelude.{if◌then◌else◌}
use Rattle.std.proofs.lemmas.Bool.Decides.{Decides-eqb}
use Rattle.std.proofs.lemmas.List.{take_all}
use Rattle.overlay_rules.specs.declared.entry.Entry.{Entry}
use Rattle.overlay_rules.specs.State.{Waiting, Ready, is_ready}
use Rattle.overlay_rules.specs.Record.{Setting, IsRecord, World, run, world_at_start, world_after}
use Rattle.overlay_rules.specs.Ready.{IsReadyIn}
use Rattle.step_facts.proofs.Always.{always}
use Rattle.step_facts.proofs.Messages.{MessagesHold, ReadyIn, ready_stays}
use Rattle.ring_laws.proofs.Owner.{joins_hold}
use Rattle.scribe_core.specs.Laws.{overlay_of}

module _ (g : Setting) (es : List Entry) (r : IsRecord g es) where
  whole : world_after g es (length es) ≡ overlay_of g es
  whole = ap (run (world_at_start g)) (take_all (length es) es (omega arith))

  pub messages_hold : MessagesHold g (overlay_of g es)
  messages_hold = subst (MessagesHold g) whole (joins_hold g es r (length es)).messages

  founder_at_first : ReadyIn (world_at_start g).states g.founder
  founder_at_first = ap (λ (t : Bool). is_ready (if t then Ready 0 g.founder g.founder else Waiting 1)) ((Decides-eqb g.founder g.founder).1 refl)

  pub founder_is_ready : IsReadyIn g (overlay_of g es) g.founder
  founder_is_ready = (
    r.setting.founder,
    subst (λ (w : World). ReadyIn w.states g.founder) whole
        (always g (λ (w : World). ReadyIn w.states g.founder) founder_at_first
        (record { keeps = λ w e x i h t. ready_stays w.states x i g.founder h }) es r (length es)),
  )
