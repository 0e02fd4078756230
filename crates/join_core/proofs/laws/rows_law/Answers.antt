use Rattle.join_core.proofs.Rows.{begin_row, reply_row, probe_reply_row, grant_row, marks_row, ready_row, refuse_row, deny_row, give_up_row}
use Rattle.join_core.proofs.laws.rows_law.Goals as goal

pub returns : goal.returns
returns c = record {
  begin = begin_row;
  on_reply = reply_row;
  on_probe_reply = probe_reply_row;
  on_grant = grant_row;
  marks = marks_row;
  finish = ready_row;
  on_refuse = refuse_row;
  on_deny = deny_row;
  give_up = give_up_row;
}
