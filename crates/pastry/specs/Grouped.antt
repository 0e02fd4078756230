-- That a script of groups was played.
use Rattle.overlay_rules.specs.declared.entry.Record.{Record}
use Rattle.group_reader.specs.Plain.{PlainScript}
use Rattle.script_report.specs.Whole.{IsPlayedBoth}
use Rattle.pastry.specs.Played.{IsPlayed}

-- The record is that of part one, and the headline holds of it. Part two was played over what part one leaves; its record is legal,
-- and the laws of groups hold of it.
pub record IsGrouped (s : PlainScript) (r : Record) : Type 0 where
  pub played : IsPlayed s.scenario r
  pub both : IsPlayedBoth s r
