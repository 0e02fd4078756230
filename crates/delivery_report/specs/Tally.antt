-- The tally of a record: how many commands were closed in which way.
use Rattle.std.specs.Prelude.{ℕ, Bool, true, false, List, ◌++◌, count_by, Option, Some, None, codes, decimal}
use Rattle.wire_msg.specs.declared.reply.Reply.{Reply}
use Rattle.wire_msg.specs.declared.reply.Reply.TheVariants as reply
use Rattle.wire_msg.specs.declared.reply.Answer.{Answer}
use Rattle.wire_msg.specs.declared.reply.Answer.TheVariants as answer
use Rattle.overlay_rules.specs.declared.entry.Entry.{Entry}
use Rattle.overlay_rules.specs.Record.{Setting}
use Rattle.delivery_report.specs.declared.tally.Outcome.{Outcome}
use Rattle.delivery_report.specs.declared.tally.Outcome.TheVariants.{Joined, Denied, Stored, Found, Missing, Unanswered, Other}
use Rattle.delivery_report.specs.declared.tally.Tally.{Tally}
use Rattle.delivery_report.specs.Report.{closings_of, summary_of, summary_line}

abbrev pub reply_outcome : Reply → Outcome
reply_outcome (reply.Stored holders) = Stored
reply_outcome (reply.Found y bytes) = Found
reply_outcome (reply.NotFound y) = Missing
reply_outcome _ = Other

abbrev pub answer_outcome : Answer → Outcome
answer_outcome (answer.Reply r) = reply_outcome r
answer_outcome (answer.Joined l r) = Joined
answer_outcome (answer.Denied y w) = Denied
answer_outcome (answer.Stopped y o) = Denied
answer_outcome answer.GaveUp = Other
answer_outcome answer.NothingToGiveUp = Other

abbrev pub outcome_of : Option Answer → Outcome
outcome_of None = Unanswered
outcome_of (Some a) = answer_outcome a

abbrev pub is_same : Outcome → Outcome → Bool
is_same Joined Joined = true
is_same Denied Denied = true
is_same Stored Stored = true
is_same Found Found = true
is_same Missing Missing = true
is_same Unanswered Unanswered = true
is_same Other Other = true
is_same _ _ = false

abbrev pub count_of : List (Option Answer) → Outcome → ℕ
count_of closings outcome = count_by (λ c. is_same (outcome_of c) outcome) closings

abbrev pub tally_of : List (Option Answer) → Tally
tally_of closings = record {
  joined = count_of closings Joined;
  denied = count_of closings Denied;
  stored = count_of closings Stored;
  found = count_of closings Found;
  missing = count_of closings Missing;
  unanswered = count_of closings Unanswered;
  other = count_of closings Other;
}

abbrev pub tally_line : Tally → List ℕ
tally_line t =
    codes "tally joined " ++ decimal t.joined ++ codes " denied " ++ decimal t.denied ++ codes " stored " ++ decimal t.stored
    ++ codes " found " ++ decimal t.found ++ codes " missing " ++ decimal t.missing ++ codes " unanswered " ++ decimal t.unanswered
    ++ codes " other " ++ decimal t.other ++ codes "\n"

-- the summary line and the tally, for a setting, a number of commands and a record
abbrev pub brief_of : Setting → ℕ → List Entry → ℕ → List ℕ
brief_of g commands es skipped = summary_line (summary_of g es skipped) ++ tally_line (tally_of (closings_of commands es))
