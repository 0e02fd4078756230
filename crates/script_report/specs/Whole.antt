-- A script of groups that was played: the records of both parts, and their report.
use Rattle.std.specs.Prelude.{◌≡◌, ℕ, List, ◌++◌}
use Rattle.overlay_rules.specs.declared.entry.Entry.{Entry}
use Rattle.overlay_rules.specs.declared.entry.Record.{Record}
use Rattle.overlay_rules.specs.Record.{IsRecord, Setting, World}
use Rattle.schedule.specs.Schedule.{setting_of}
use Rattle.scribe_core.specs.Entry.{GroupEntry}
use Rattle.scribe_core.specs.Laws.{CastsFollowGrafts, HeardOnce, MembersHear, ParentsAreNearer, RefusedOnlyWhere, WaysUpEnd, overlay_of}
use Rattle.scribe_core.specs.Played.{played}
use Rattle.scribe_core.specs.Record.{IsGroupRecord}
use Rattle.delivery_report.specs.Texts.{report_text}
use Rattle.group_reader.specs.Plain.{PlainScript}
use Rattle.group_report.specs.Report.{groups_text}
use Rattle.play_engine.specs.Progress.{IsWhole}

-- what every group record keeps
pub record KeepsLaws (g : Setting) (overlay : World) (es : List GroupEntry) : Type 0 where
  pub members_hear : MembersHear overlay es
  pub heard_once : HeardOnce overlay es
  pub parents_are_nearer : ParentsAreNearer g overlay es
  pub ways_up_end : WaysUpEnd g overlay es
  pub casts_follow_grafts : CastsFollowGrafts es
  pub refused_only_where : RefusedOnlyWhere overlay es

-- the overlay that part one leaves
abbrev pub overlay_left : PlainScript → List Entry → World
overlay_left s es = overlay_of (setting_of s.scenario) es

-- the group record of part two, over the record of part one
abbrev pub steps_of : PlainScript → List Entry → List GroupEntry
steps_of s es = played (overlay_left s es) s.actions

-- the record of part one is the played record of its scenario, and legal; that of part two is legal, and the laws hold of it
pub record IsPlayedBoth (s : PlainScript) (r : Record) : Type 0 where
  pub whole : IsWhole s.scenario r.entries r.skipped
  pub legal : IsRecord (setting_of s.scenario) r.entries
  pub groups : IsGroupRecord (setting_of s.scenario) (overlay_left s r.entries) (steps_of s r.entries)
  pub laws : KeepsLaws (setting_of s.scenario) (overlay_left s r.entries) (steps_of s r.entries)

-- the report of part one, and then the lines of part two
abbrev pub script_text : PlainScript → Record → List ℕ
script_text s r = report_text s.scenario r ++ groups_text s (steps_of s r.entries)

pub record IsPlayedScript (s : PlainScript) (r : Record) (text : List ℕ) : Type 0 where
  pub played : IsPlayedBoth s r
  pub is_text : text ≡ script_text s r
