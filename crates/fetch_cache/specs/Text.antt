-- The report of a scenario that was played with access points.
use Rattle.std.specs.Prelude.{ℕ, suc, ◌==◌, Bool, is_some, if◌then◌else◌, Option, Some, None, List, [], ◌∷◌, ◌++◌, length, count_by, codes}
use Rattle.std.specs.Prelude.{decimal}
use Rattle.ring_math.specs.Names.{Number, Content}
use Rattle.wire_msg.specs.declared.reply.Answer.{Answer}
use Rattle.overlay_rules.specs.declared.entry.Entry.{Entry}
use Rattle.overlay_rules.specs.declared.entry.Record.{Record}
use Rattle.scenario_reader.specs.Plain.{PlainScenario}
use Rattle.scenario_reader.specs.declared.node.NodeLine.{NodeLine}
use Rattle.schedule.specs.Schedule.{setting_of}
use Rattle.delivery_report.specs.Answers.{bytes_text}
use Rattle.delivery_report.specs.Deliveries.{delivery_lines}
use Rattle.delivery_report.specs.Report.{closings_of, command_line, summary_of, summary_line}
use Rattle.delivery_report.specs.Texts.{commands_of}
use Rattle.fetch_cache.specs.declared.hit.Hit.{Hit}
use Rattle.fetch_cache.specs.Turns.{fetch_of}

-- the bytes that a command hit
abbrev pub hit_of : Number → List Hit → Option Content
hit_of n [] = None
hit_of n (hit ∷ hits) = if hit.number == n then Some hit.bytes else hit_of n hits

abbrev pub point_line : List NodeLine → Number → Option Content → Option Answer → List ℕ
point_line nodes n (Some bytes) closing = decimal n ++ codes " cached " ++ bytes_text bytes ++ codes "\n"
point_line nodes n None closing = command_line nodes n closing

-- a line for each command, the first having number n
abbrev pub point_lines : List NodeLine → List Hit → Number → List (Option Answer) → List ℕ
point_lines nodes hits n [] = []
point_lines nodes hits n (closing ∷ closings) = point_line nodes n (hit_of n hits) closing ++ point_lines nodes hits (suc n) closings

-- a miss is a fetch that came to its node
abbrev pub is_miss : Entry → Bool
is_miss e = is_some (fetch_of e.event)

abbrev pub points_line : ℕ → ℕ → List ℕ
points_line hits misses = codes "points hits " ++ decimal hits ++ codes " misses " ++ decimal misses ++ codes "\n"

abbrev pub points_text : PlainScenario → Record → List Hit → List ℕ
points_text s r hits =
    point_lines s.nodes hits 1 (closings_of (commands_of s) r.entries) ++ delivery_lines s.nodes r.entries
    ++ summary_line (summary_of (setting_of s) r.entries r.skipped) ++ points_line (length hits) (count_by is_miss r.entries)
