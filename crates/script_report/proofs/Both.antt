-- Both parts of a script, in the words of its scenario: what a player has left is the overlay of part two.
use Rattle.std.proofs.Common.{◌≡◌, ℕ, List, ap, sym, subst, ◌∙◌}
use Rattle.overlay_rules.specs.declared.entry.Entry.{Entry}
use Rattle.overlay_rules.specs.declared.entry.Record.{Record}
use Rattle.overlay_rules.specs.Record.{IsRecord, Setting, World, run, world_at_start}
use Rattle.play_engine.specs.Progress.{IsWhole, Plays, PlaysOn, Progress}
use Rattle.play_engine.proofs.Starting.{same_setting}
use Rattle.play_engine.proofs.Wholes.{legal_record, whole_record}
use Rattle.scenario_reader.specs.Plain.{PlainScenario, ids}
use Rattle.schedule.specs.Schedule.{setting_of}
use Rattle.scribe_core.specs.Entry.{GroupEntry}
use Rattle.scribe_core.specs.Laws.{overlay_of}
use Rattle.scribe_core.specs.Played.{played}
use Rattle.scribe_core.specs.Record.{IsGroupRecord}
use Rattle.step_facts.specs.Setting.{setting}
use Rattle.world_model.specs.Recorded.{Recorded, world_of}
use Rattle.world_model.specs.Recorded.{setting_of as setting_in}
use Rattle.group_reader.specs.Plain.{PlainScript}
use Rattle.script_report.specs.Whole.{IsPlayedBoth, KeepsLaws, overlay_left, steps_of}

-- the setting that is named by a scenario's nodes and founder
pub setting_named : (s : PlainScenario) (nodes : List ℕ) (founder : ℕ) → nodes ≡ ids s.nodes → founder ≡ s.founder → setting nodes founder ≡ setting_of s
setting_named s nodes founder listed founded =
    ap (λ (xs : List ℕ). setting xs founder) listed ∙ ap (λ (x : ℕ). setting (ids s.nodes) x) founded

-- what a player has left, once its entries are handed out
overlay_same : (s : PlainScenario) (a : Progress) (es : List Entry) → PlaysOn s a → es ≡ a.recorded.entries →
    world_of a.recorded ≡ overlay_of (setting_of s) es
overlay_same s a es on same =
    ap (λ (g : Setting). run (world_at_start g) a.recorded.entries) (same_setting s a on)
    ∙ ap (λ (xs : List Entry). run (world_at_start (setting_of s)) xs) (sym same)

groups_legal : (s : PlainScenario) (a : Progress) (es : List Entry) (steps : List GroupEntry) → PlaysOn s a → es ≡ a.recorded.entries →
    IsGroupRecord (setting_in a.recorded) (world_of a.recorded) steps → IsGroupRecord (setting_of s) (overlay_of (setting_of s) es) steps
groups_legal s a es steps on same legal =
    subst (λ (w : World). IsGroupRecord (setting_of s) w steps) (overlay_same s a es on same)
    (subst (λ (g : Setting). IsGroupRecord g (world_of a.recorded) steps) (same_setting s a on) legal)

steps_same : (s : PlainScript) (a : Progress) (es : List Entry) (steps : List GroupEntry) → PlaysOn s.scenario a → es ≡ a.recorded.entries →
    steps ≡ played (world_of a.recorded) s.actions → steps ≡ steps_of s es
steps_same s a es steps on same is = is ∙ ap (λ (w : World). played w s.actions) (overlay_same s.scenario a es on same)

-- ---- what the law is called with, and what it gives

pub named_record : (s : PlainScenario) (a : Progress) (es : List Entry) (g : Setting) → PlaysOn s a → es ≡ a.recorded.entries → g ≡ setting_of s →
    IsRecord (setting_in a.recorded) a.recorded.entries → IsRecord g es
named_record s a es g on same named legal = subst (λ (h : Setting). IsRecord h es) (sym named) (legal_record s a es on legal same)

pub named_groups : (s : PlainScenario) (a : Progress) (w : Recorded) (es : List Entry) (steps : List GroupEntry) (g : Setting) → PlaysOn s a →
    w ≡ a.recorded → es ≡ a.recorded.entries → g ≡ setting_of s → IsGroupRecord (setting_in w) (world_of w) steps →
    IsGroupRecord g (overlay_of g es) steps
named_groups s a w es steps g on left same named legal =
    subst (λ (h : Setting). IsGroupRecord h (overlay_of h es) steps) (sym named)
    (groups_legal s a es steps on same (subst (λ (r : Recorded). IsGroupRecord (setting_in r) (world_of r) steps) left legal))

pub named_steps : (s : PlainScript) (a : Progress) (w : Recorded) (es : List Entry) (steps : List GroupEntry) → PlaysOn s.scenario a → w ≡ a.recorded →
    es ≡ a.recorded.entries → steps ≡ played (world_of w) s.actions → steps ≡ steps_of s es
named_steps s a w es steps on left same is = steps_same s a es steps on same (is ∙ ap (λ (r : Recorded). played (world_of r) s.actions) left)

pub is_played_both : (s : PlainScript) (a : Progress) (r : Record) (steps : List GroupEntry) (g : Setting) → Plays s.scenario a →
    IsWhole s.scenario a.recorded.entries a.skipped → IsRecord (setting_in a.recorded) a.recorded.entries → r.entries ≡ a.recorded.entries →
    r.skipped ≡ a.skipped → steps ≡ steps_of s r.entries → IsGroupRecord g (overlay_of g r.entries) steps → g ≡ setting_of s.scenario →
    KeepsLaws g (overlay_of g r.entries) steps → IsPlayedBoth s r
is_played_both s a r steps g plays whole legal entries skipped same groups named laws = record {
  whole = whole_record s.scenario a.recorded.entries r.entries a.skipped r.skipped whole entries skipped;
  legal = legal_record s.scenario a r.entries plays.on legal entries;
  groups = subst (λ (es : List GroupEntry). IsGroupRecord (setting_of s.scenario) (overlay_left s r.entries) es) same
      (subst (λ (h : Setting). IsGroupRecord h (overlay_of h r.entries) steps) named groups);
  laws = subst (λ (es : List GroupEntry). KeepsLaws (setting_of s.scenario) (overlay_left s r.entries) es) same
      (subst (λ (h : Setting). KeepsLaws h (overlay_of h r.entries) steps) named laws);
}
