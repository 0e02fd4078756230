use Rattle.std.proofs.Common.{◌≡◌, ◌∙◌, List, [], ◌∷◌, ◌++◌, refl, sym, subst, ap, arith}
use Rattle.overlay_rules.specs.declared.entry.Entry.{Entry}
use Rattle.overlay_rules.specs.Record.{Setting}
use Rattle.step_facts.specs.Setting.{setting}
use Rattle.scribe_core.specs.Entry.{GroupEntry, Written}
use Rattle.scribe_core.specs.declared.entry.GroupEvent.TheVariants as event
use Rattle.scribe_core.specs.declared.message.GroupCommand.TheVariants as command
use Rattle.scribe_core.specs.declared.note.GroupNote.TheVariants as note
use Rattle.scribe_core.specs.Laws.{overlay_of}
use Rattle.scribe_core.specs.Parts.{Command}
use Rattle.scribe_core.specs.Record.{Follows, IsGroupRecord, no_groups}
use Rattle.scribe_core.proofs.tests.holds_of_a_node_that_is_not_ready.Goals as goal

pub groups_law-requires-clause-groups : goal.groups_law-requires-clause-groups
groups_law-requires-clause-groups c =
    let g : Setting = setting (7 ∷ 9 ∷ []) 9 in
    let e : GroupEntry = record {
      event = event.Command 7 1 c.in_ok-group.group command.Subscribe;
      messages = c.note.new.self.messages;
      notes = c.note.new.self.notes;
    } in
    let one : c.finish-groups.result ≡ e ∷ [] =
    c.finish-groups.ensures ∙ c.in_ok-close.ensures.entries
    ∙ ap (λ (es : List GroupEntry). es ++ e ∷ []) (c.note.ensures.entries ∙ ap (λ (w : Written). w.entries) c.new-writer.ensures) in
    subst (λ (es : List GroupEntry). IsGroupRecord g (overlay_of g c.new-entries.result) es) (sym one) (
      subst (λ (es : List Entry). Follows g (overlay_of g es) no_groups e) (sym c.new-entries.ensures) (record {
        at = record { node = 7; group = c.in_ok-group.group; input = Command 1 command.Subscribe };
        is_at = refl;
        member = (0, omega arith, refl);
        fresh = λ k d lt. absurd (omega arith);
        messages = c.note.ensures.messages ∙ ap (λ (w : Written). w.messages) c.new-writer.ensures;
        notes = c.in_ok-note.ensures.notes ∙ ap (λ (w : Written). w.notes ++ note.Refused 1 ∷ []) c.new-writer.ensures;
      }),
      tt,
    )
