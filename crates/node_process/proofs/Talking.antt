-- What a node took in, or was refused, is answered as its cell's steps say.
use Rattle.std.proofs.Common.{◌≡◌, ◌<◌, ◌++◌, ℕ, ◌==◌, Bool, false, List, Result, Ok, Err, max, map, refl, sym, ap, ◌∙◌, subst, arith}
use Rattle.std.specs.Prelude.{if◌then◌else◌, OnErr}
use Rattle.std.specs.List.{flat_map}
use Rattle.std.proofs.lemmas.Bool.Decides.{nat_tests}
use Rattle.weave_laws.specs.Cells.{CellInput, CellEntry, input_stamp}
use Rattle.node_cell.specs.declared.fault.TheConstants.{LAST_STAMP}
use Rattle.node_cell.specs.declared.frames.Addressed.{Addressed}
use Rattle.node_cell.specs.declared.live.Taken.{Taken}
use Rattle.node_cell.specs.Cell.{frame_of}
use Rattle.node_cell.specs.Entries.{plain_entry}
use Rattle.node_cell.specs.Live.{Live, TookNext}
use Rattle.node_lines.specs.declared.refusal.Refusal.{Refusal}
use Rattle.node_lines.specs.declared.refusal.Refusal.TheVariants.{Spent}
use Rattle.node_lines.specs.declared.told.Told.{Told}
use Rattle.node_lines.specs.Commands.{Reading}
use Rattle.node_process.specs.Texts.{send_line, note_line, done_line, entry_lines, refused_line}
use Rattle.node_process.specs.Talk.{Talk, Process, IsAsFar, IsInputTold, IsAnsweredTo, IsAnswer, Added, entry_of, after_input, commands_with}
use Rattle.node_process.specs.Steps.{Stepped, IsSpentTold}

-- what holds holds where there is a fault
pub on_err_from : {T E : Type 0} (r : Result T E) {P : Type 0} → P → OnErr r P
on_err_from (Ok x) p = tt
on_err_from (Err e) p = p

not_last : (m : ℕ) → m < LAST_STAMP → (m == LAST_STAMP) ≡ false
not_last m lt = grind (arith, nat_tests)

-- a node that took an input in
pub stepped_by : (t : Talk) (tell : Told) (i : CellInput) (taken : Taken) (live : Live) (commands : ℕ) → IsInputTold t tell i →
    TookNext t.node t.last t.state i taken live → commands ≡ commands_with t.commands tell →
    Stepped t tell taken (record { live = live; commands = commands })
stepped_by t tell i taken live commands is took count = record {
  input = i;
  is = is;
  in_time = not_last (max t.last (input_stamp i)) took.in_time;
  entry = took.entry;
  frames = took.frames;
  far = record { is_at = took.is_at; commands_are = count };
}

-- what is written of what was taken in
abbrev pub taken_lines : Taken → List ℕ
taken_lines taken = flat_map send_line taken.frames.items ++ flat_map note_line taken.entry.notes ++ done_line taken.entry.stamp

lines_are : (e : CellEntry) (taken : Taken) → plain_entry taken.entry ≡ e → taken.frames.items ≡ map frame_of e.sent → taken_lines taken ≡ entry_lines e
lines_are e taken entry frames =
    ap (λ (fs : List Addressed). flat_map send_line fs ++ flat_map note_line taken.entry.notes ++ done_line taken.entry.stamp) frames
    ∙ ap (λ (d : CellEntry). flat_map send_line (map frame_of e.sent) ++ flat_map note_line d.notes ++ done_line d.stamp) entry

pub added_taken : (t : Talk) (tell : Told) (taken : Taken) (after : Process) (before text : List ℕ) → Stepped t tell taken after →
    text ≡ before ++ taken_lines taken → Added (IsAnsweredTo t tell) after before text
added_taken t tell taken after before text s added = record {
  answer = taken_lines taken;
  later = after_input t tell s.input;
  is = record {
    input = s.input;
    is = s.is;
    answer = subst (λ (b : Bool). taken_lines taken ≡ (if b then refused_line Spent else entry_lines (entry_of t s.input))) (sym s.in_time)
        (lines_are (entry_of t s.input) taken s.entry s.frames);
    after_is = subst (λ (b : Bool). after_input t tell s.input ≡ (if b then t else after_input t tell s.input)) (sym s.in_time) refl;
  };
  far = s.far;
  added = added;
}

pub added_spent : (t : Talk) (tell : Told) (after : Process) (before text : List ℕ) → IsSpentTold t tell → IsAsFar after t →
    text ≡ before ++ refused_line Spent → Added (IsAnsweredTo t tell) after before text
added_spent t tell after before text s far added = record {
  answer = refused_line Spent;
  later = t;
  is = record {
    input = s.input;
    is = s.is;
    answer = subst (λ (b : Bool). refused_line Spent ≡ (if b then refused_line Spent else entry_lines (entry_of t s.input))) (sym s.spent) refl;
    after_is = subst (λ (b : Bool). t ≡ (if b then t else after_input t tell s.input)) (sym s.spent) refl;
  };
  far = far;
  added = added;
}

-- the answer to a line that tells this
pub added_told : (t : Talk) (read : Reading Told) (tell : Told) (after : Process) (before text : List ℕ) → read ≡ Ok tell →
    Added (IsAnsweredTo t tell) after before text → Added (IsAnswer t read) after before text
added_told t read tell after before text is a = record {
  answer = a.answer;
  later = a.later;
  is = subst (λ (r : Reading Told). IsAnswer t r a.answer a.later) (sym is) a.is;
  far = a.far;
  added = a.added;
}

-- and to one that is none
pub added_refused : (t : Talk) (read : Reading Told) (refusal : Refusal) (after : Process) (before text : List ℕ) → read ≡ Err refusal →
    IsAsFar after t → text ≡ before ++ refused_line refusal → Added (IsAnswer t read) after before text
added_refused t read refusal after before text is far added = record {
  answer = refused_line refusal;
  later = t;
  is = subst (λ (r : Reading Told). IsAnswer t r (refused_line refusal) t) (sym is) (refl, refl);
  far = far;
  added = added;
}
