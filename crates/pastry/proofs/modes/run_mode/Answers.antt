use Rattle.cli_words.specs.declared.mode.Mode.TheVariants.{Play, Run, Big, Trace, TraceRun, Check, Points, Large, Messages, Groups, Draw, OneNode}
use Rattle.scenario_reader.specs.Grammar.{scenario_of}
use Rattle.group_reader.specs.Grammar.{groups_of}
use Rattle.pastry.specs.declared.reading.TheConstants.{INPUT_LIMIT, SCRIPT_LIMIT}
use Rattle.pastry.proofs.Endings.{answers, service_is_done, whole_scenario, whole_script}
use Rattle.pastry.proofs.Judging.{judges, judged_legal, judged_wrong}
use Rattle.pastry.specs.declared.outcome.TopFault.TheVariants as fault
use Rattle.pastry.specs.Faults.{IsCheckingFault, IsMakingFault, IsPlayingFault}
use Rattle.pastry.proofs.InMode.{at_its_text_in, done_in, due_in, found_wrong_in, of_kind, refused_in}
use Rattle.pastry.proofs.Played.{HasPlayedLarge-from_made, HasPlayedMade-from_made}
use Rattle.pastry.proofs.Runs.{is_run_rightly}
use Rattle.pastry.proofs.modes.run_mode.Goals as goal

pub returns-in-Play-clause-due : goal.returns-in-Play-clause-due
returns-in-Play-clause-due g c =
    due_in _ Play c.in-Play.is _ _ _ _ (λ source sink. answers scenario_of INPUT_LIMIT whole_scenario _ _ _ _ _ (record {
      kind = c.play_read.ensures.kind;
      done = λ e. let run = c.play_read.ensures.done e in (run.scenario, run.from);
      refused = c.play_read.ensures.refused;
      unread = c.play_read.ensures.unread;
      unwritten = c.play_read.ensures.unwritten;
    }) source sink)

pub returns-in-Run-clause-due : goal.returns-in-Run-clause-due
returns-in-Run-clause-due g c =
    due_in _ Run c.in-Run.is _ _ _ _ (λ source sink. is_run_rightly _ _ _ _ _ (record {
      kind = c.run_read.ensures.kind;
      done = λ e. let run = c.run_read.ensures.done e in record { scenario = run.scenario; read = run.from.0; fit = run.from.1 };
      refused = c.run_read.ensures.refused;
      unfit = c.run_read.ensures.unfit;
      unread = c.run_read.ensures.unread;
      unwritten = c.run_read.ensures.unwritten;
    }) source sink)

pub returns-in-Big-clause-done : goal.returns-in-Big-clause-done
returns-in-Big-clause-done g c = λ e.
    done_in _ (Big c.in-Big.nodes c.in-Big.seed) c.in-Big.is _ _ _ _ _ (HasPlayedMade-from_made _ _ _ _ _ (c.play_made.ensures.done e))

pub returns-in-Big-clause-broken_off : goal.returns-in-Big-clause-broken_off
returns-in-Big-clause-broken_off g c = λ e.
    at_its_text_in _ (Big c.in-Big.nodes c.in-Big.seed) c.in-Big.is _ _ _ _ _ (HasPlayedMade-from_made _ _ _ _ _ (c.play_made.ensures.broken_off e))

pub returns-in-Trace-clause-due : goal.returns-in-Trace-clause-due
returns-in-Trace-clause-due g c =
    due_in _ Trace c.in-Trace.is _ _ _ _ (λ source sink. answers scenario_of INPUT_LIMIT whole_scenario _ _ _ _ _ (record {
      kind = c.play_read-in-Trace.ensures.kind;
      done = λ e. let run = c.play_read-in-Trace.ensures.done e in (run.scenario, run.from);
      refused = c.play_read-in-Trace.ensures.refused;
      unread = c.play_read-in-Trace.ensures.unread;
      unwritten = c.play_read-in-Trace.ensures.unwritten;
    }) source sink)

pub returns-in-Check-clause-due : goal.returns-in-Check-clause-due
returns-in-Check-clause-due g c =
    due_in _ Check c.in-Check.is _ _ _ _ (λ source sink. judges _ _ _ _ _ (record {
      kind = c.check_read.ensures.kind;
      legal = λ e. judged_legal _ _ _ _ _ (c.check_read.ensures.done e);
      wrong = λ entry p e. judged_wrong _ _ _ _ _ entry p (c.check_read.ensures.wrong entry p e);
      refused = c.check_read.ensures.no_trace;
      unread = c.check_read.ensures.unread;
      unwritten = c.check_read.ensures.unwritten;
    }) source sink)

pub returns-in-Points-clause-due : goal.returns-in-Points-clause-due
returns-in-Points-clause-due g c =
    due_in _ (Points c.in-Points.room) c.in-Points.is _ _ _ _ (λ source sink. answers scenario_of INPUT_LIMIT whole_scenario _ _ _ _ _ (record {
      kind = c.point_read.ensures.kind;
      done = λ e. let run = c.point_read.ensures.done e in (run.scenario, run.from);
      refused = c.point_read.ensures.refused;
      unread = c.point_read.ensures.unread;
      unwritten = c.point_read.ensures.unwritten;
    }) source sink)

pub returns-in-Large-clause-done : goal.returns-in-Large-clause-done
returns-in-Large-clause-done g c = λ e.
    done_in _ (Large c.in-Large.nodes c.in-Large.seed c.in-Large.size) c.in-Large.is _ _ _ _ _
    (HasPlayedLarge-from_made _ _ _ _ _ _ (c.play_large.ensures.done e))

pub returns-in-Large-clause-broken_off : goal.returns-in-Large-clause-broken_off
returns-in-Large-clause-broken_off g c = λ e.
    at_its_text_in _ (Large c.in-Large.nodes c.in-Large.seed c.in-Large.size) c.in-Large.is _ _ _ _ _
    (HasPlayedLarge-from_made _ _ _ _ _ _ (c.play_large.ensures.broken_off e))

pub returns-in-Messages-clause-due : goal.returns-in-Messages-clause-due
returns-in-Messages-clause-due g c =
    due_in _ Messages c.in-Messages.is _ _ _ _ (λ source sink. answers scenario_of INPUT_LIMIT whole_scenario _ _ _ _ _ (record {
      kind = c.tell_read.ensures.kind;
      done = λ e. let run = c.tell_read.ensures.done e in (run.scenario, run.from);
      refused = c.tell_read.ensures.refused;
      unread = c.tell_read.ensures.unread;
      unwritten = c.tell_read.ensures.unwritten;
    }) source sink)

pub returns-in-TraceRun-clause-due : goal.returns-in-TraceRun-clause-due
returns-in-TraceRun-clause-due g c =
    due_in _ TraceRun c.in-TraceRun.is _ _ _ _ (λ source sink. is_run_rightly _ _ _ _ _ (record {
      kind = c.run_read-in-TraceRun.ensures.kind;
      done = λ e. let run = c.run_read-in-TraceRun.ensures.done e in record { scenario = run.scenario; read = run.from.0; fit = run.from.1 };
      refused = c.run_read-in-TraceRun.ensures.refused;
      unfit = c.run_read-in-TraceRun.ensures.unfit;
      unread = c.run_read-in-TraceRun.ensures.unread;
      unwritten = c.run_read-in-TraceRun.ensures.unwritten;
    }) source sink)

pub returns-in-Groups-clause-due : goal.returns-in-Groups-clause-due
returns-in-Groups-clause-due g c =
    due_in _ Groups c.in-Groups.is _ _ _ _ (λ source sink. answers groups_of SCRIPT_LIMIT whole_script _ _ _ _ _ (record {
      kind = c.group_read.ensures.kind;
      done = λ e. let run = c.group_read.ensures.done e in (run.scenario, run.from);
      refused = c.group_read.ensures.refused;
      unread = c.group_read.ensures.unread;
      unwritten = c.group_read.ensures.unwritten;
    }) source sink)

pub returns-in-OneNode-clause-due : goal.returns-in-OneNode-clause-due
returns-in-OneNode-clause-due g c =
    due_in _ OneNode c.in-OneNode.is _ _ _ _ (λ source sink.
    service_is_done _ _ _ c.serve_read.ensures.kind c.serve_read.ensures.unread c.serve_read.ensures.unwritten source sink)

pub returns-in-Draw-clause-due : goal.returns-in-Draw-clause-due
returns-in-Draw-clause-due g c =
    due_in _ (Draw c.in-Draw.from c.in-Draw.entries) c.in-Draw.is _ _ _ _ (λ source sink. judges _ _ _ _ _ (record {
      kind = c.check_read-in-Draw.ensures.kind;
      legal = λ e. judged_legal _ _ _ _ _ (c.check_read-in-Draw.ensures.done e);
      wrong = λ entry p e. judged_wrong _ _ _ _ _ entry p (c.check_read-in-Draw.ensures.wrong entry p e);
      refused = c.check_read-in-Draw.ensures.no_trace;
      unread = c.check_read-in-Draw.ensures.unread;
      unwritten = c.check_read-in-Draw.ensures.unwritten;
    }) source sink)

-- ---- faults that can't come in a mode

pub returns-in-Big-clause-refused : goal.returns-in-Big-clause-refused
returns-in-Big-clause-refused g c = λ f e.
    refused_in _ (Big c.in-Big.nodes c.in-Big.seed) c.in-Big.is _ _ f (of_kind IsMakingFault _ (fault.Scenario f) e c.play_made.ensures.kind)

pub returns-in-Big-clause-wrong : goal.returns-in-Big-clause-wrong
returns-in-Big-clause-wrong g c = λ entry p e.
    found_wrong_in _ (Big c.in-Big.nodes c.in-Big.seed) c.in-Big.is _ _ _ _ entry p
    (of_kind IsMakingFault _ (fault.Wrong entry p) e c.play_made.ensures.kind)

pub returns-in-Large-clause-refused : goal.returns-in-Large-clause-refused
returns-in-Large-clause-refused g c = λ f e.
    refused_in _ (Large c.in-Large.nodes c.in-Large.seed c.in-Large.size) c.in-Large.is _ _ f
    (of_kind IsMakingFault _ (fault.Scenario f) e c.play_large.ensures.kind)

pub returns-in-Large-clause-wrong : goal.returns-in-Large-clause-wrong
returns-in-Large-clause-wrong g c = λ entry p e.
    found_wrong_in _ (Large c.in-Large.nodes c.in-Large.seed c.in-Large.size) c.in-Large.is _ _ _ _ entry p
    (of_kind IsMakingFault _ (fault.Wrong entry p) e c.play_large.ensures.kind)

pub returns-in-Points-clause-wrong : goal.returns-in-Points-clause-wrong
returns-in-Points-clause-wrong g c = λ entry p e.
    found_wrong_in _ (Points c.in-Points.room) c.in-Points.is _ _ _ _ entry p
    (of_kind IsPlayingFault _ (fault.Wrong entry p) e c.point_read.ensures.kind)

pub returns-in-Draw-clause-refused : goal.returns-in-Draw-clause-refused
returns-in-Draw-clause-refused g c = λ f e.
    refused_in _ (Draw c.in-Draw.from c.in-Draw.entries) c.in-Draw.is _ _ f
    (of_kind IsCheckingFault _ (fault.Scenario f) e c.check_read-in-Draw.ensures.kind)

pub returns-in-Draw-clause-wrong : goal.returns-in-Draw-clause-wrong
returns-in-Draw-clause-wrong g c = λ entry p e.
    found_wrong_in _ (Draw c.in-Draw.from c.in-Draw.entries) c.in-Draw.is _ _ _ _ entry p (c.check_read-in-Draw.ensures.wrong entry p e)
