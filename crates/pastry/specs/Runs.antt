-- What a run of the program did: what it read, played and wrote, in the mode that the words ask for.
use Rattle.std.specs.Prelude.{◌≡◌, ℕ, List, Option, None}
use Rattle.overlay_rules.specs.declared.entry.Record.{Record}
use Rattle.schedule.specs.Made.{made}
use Rattle.fragments.specs.Large.{large}
use Rattle.overlay_harness.specs.Fault.{first_unfit_line}
use Rattle.cli_words.specs.declared.mode.Mode.{Mode}
use Rattle.cli_words.specs.declared.mode.Mode.TheVariants.{Play, Run, Big, Trace, TraceRun, Check, Points, Large, Messages, Groups, Draw, OneNode}
use Rattle.pastry.specs.declared.checking.TheConstants.{TRACE_LIMIT}
use Rattle.pastry.specs.declared.output.Output.{Output}
use Rattle.pastry.specs.declared.output.Output.TheVariants as output
use Rattle.pastry.specs.declared.verdict.Telling.TheVariants as telling
use Rattle.pastry.specs.VerdictTexts.{told_by}
use Rattle.trace_check.specs.declared.verdict.Part.{Part}
use Rattle.pastry.specs.declared.reading.TheConstants.{INPUT_LIMIT, SCRIPT_LIMIT}
use Rattle.pastry.specs.Checked.{HasChecked, HasFoundWrong, HasJudged}
use Rattle.pastry.specs.Large.{IsPlayedLarge}
use Rattle.pastry.specs.Outputs.{output_text, played_table}
use Rattle.pastry.specs.Played.{HasTold, IsPlayed, IsRun}
use Rattle.pastry.specs.Pointed.{HasPointed}
use Rattle.pastry.specs.Grouped.{IsGrouped}
use Rattle.pastry.specs.Reading.{IsScenario, IsScript, IsRefused, IsRefusedScript}
use Rattle.scenario_reader.specs.declared.fault.LineFault.{LineFault}
use Rattle.script_report.specs.Whole.{script_text}

-- the modes that run nodes as threads
abbrev pub RunsThreads : Mode → Type 0
RunsThreads Play = ⊥
RunsThreads Run = Unit {0}
RunsThreads (Big nodes seed) = ⊥
RunsThreads Trace = ⊥
RunsThreads TraceRun = Unit {0}
RunsThreads Check = ⊥
RunsThreads (Points room) = ⊥
RunsThreads (Large nodes seed size) = ⊥
RunsThreads Messages = ⊥
RunsThreads Groups = ⊥
RunsThreads (Draw from entries) = ⊥
RunsThreads OneNode = ⊥

-- what was read is refused in a mode that reads a scenario, or a script of groups
abbrev pub IsRefusedIn : Mode → Option (List ℕ) → Option (List ℕ) → LineFault → Type 0
IsRefusedIn Play before after f = IsRefused before after f
IsRefusedIn Run before after f = IsRefused before after f
IsRefusedIn (Big nodes seed) before after f = ⊥
IsRefusedIn Trace before after f = IsRefused before after f
IsRefusedIn TraceRun before after f = IsRefused before after f
IsRefusedIn Check before after f = ⊥
IsRefusedIn (Points room) before after f = IsRefused before after f
IsRefusedIn (Large nodes seed size) before after f = ⊥
IsRefusedIn Messages before after f = IsRefused before after f
IsRefusedIn Groups before after f = IsRefusedScript before after f
IsRefusedIn (Draw from entries) before after f = ⊥
IsRefusedIn OneNode before after f = ⊥

-- the modes that read a trace
abbrev pub ReadsTrace : Mode → Type 0
ReadsTrace Play = ⊥
ReadsTrace Run = ⊥
ReadsTrace (Big nodes seed) = ⊥
ReadsTrace Trace = ⊥
ReadsTrace TraceRun = ⊥
ReadsTrace Check = Unit {0}
ReadsTrace (Points room) = ⊥
ReadsTrace (Large nodes seed size) = ⊥
ReadsTrace Messages = ⊥
ReadsTrace Groups = ⊥
ReadsTrace (Draw from entries) = Unit {0}
ReadsTrace OneNode = ⊥

-- a record was found wrong in a mode that reads a trace, and W says what became of its text: in `check` the line that tells the
-- verdict, in `draw` a picture
abbrev pub IsFoundWrongIn : Mode → Option (List ℕ) → Option (List ℕ) → (List ℕ → Type 0) → Option Record → ℕ → Part → Type 0
IsFoundWrongIn Play before after W checked entry part = ⊥
IsFoundWrongIn Run before after W checked entry part = ⊥
IsFoundWrongIn (Big nodes seed) before after W checked entry part = ⊥
IsFoundWrongIn Trace before after W checked entry part = ⊥
IsFoundWrongIn TraceRun before after W checked entry part = ⊥
IsFoundWrongIn Check before after W checked entry part = HasFoundWrong (told_by telling.Line) before after W checked entry part
IsFoundWrongIn (Points room) before after W checked entry part = ⊥
IsFoundWrongIn (Large nodes seed size) before after W checked entry part = ⊥
IsFoundWrongIn Messages before after W checked entry part = ⊥
IsFoundWrongIn Groups before after W checked entry part = ⊥
IsFoundWrongIn (Draw from entries) before after W checked entry part =
    HasFoundWrong (told_by (telling.Picture from entries)) before after W checked entry part
IsFoundWrongIn OneNode before after W checked entry part = ⊥

-- the modes that read anything
abbrev pub ReadsInput : Mode → Type 0
ReadsInput Play = Unit {0}
ReadsInput Run = Unit {0}
ReadsInput (Big nodes seed) = ⊥
ReadsInput Trace = Unit {0}
ReadsInput TraceRun = Unit {0}
ReadsInput Check = Unit {0}
ReadsInput (Points room) = Unit {0}
ReadsInput (Large nodes seed size) = ⊥
ReadsInput Messages = Unit {0}
ReadsInput Groups = Unit {0}
ReadsInput (Draw from entries) = Unit {0}
ReadsInput OneNode = Unit {0}

-- the modes that read before they write; a node reads on once it has answered
abbrev pub ReadsFirst : Mode → Type 0
ReadsFirst Play = Unit {0}
ReadsFirst Run = Unit {0}
ReadsFirst (Big nodes seed) = ⊥
ReadsFirst Trace = Unit {0}
ReadsFirst TraceRun = Unit {0}
ReadsFirst Check = Unit {0}
ReadsFirst (Points room) = Unit {0}
ReadsFirst (Large nodes seed size) = ⊥
ReadsFirst Messages = Unit {0}
ReadsFirst Groups = Unit {0}
ReadsFirst (Draw from entries) = Unit {0}
ReadsFirst OneNode = ⊥

-- the most bytes that a mode reads before it writes
abbrev pub limit_of : Mode → ℕ
limit_of Play = INPUT_LIMIT
limit_of Run = INPUT_LIMIT
limit_of (Big nodes seed) = 0
limit_of Trace = INPUT_LIMIT
limit_of TraceRun = INPUT_LIMIT
limit_of Check = TRACE_LIMIT
limit_of (Points room) = INPUT_LIMIT
limit_of (Large nodes seed size) = 0
limit_of Messages = INPUT_LIMIT
limit_of Groups = SCRIPT_LIMIT
limit_of (Draw from entries) = TRACE_LIMIT
limit_of OneNode = 0

-- a scenario was read to its end and played, and W says what became of its text
abbrev pub HasPlayedRead : {S : Type 0} → (S → Option (List ℕ)) → S → S → Output → (List ℕ → Type 0) → Option Record → Type 0
HasPlayedRead left before after o W played = HasTold (IsScenario (left before) (left after)) IsPlayed (output_text o) W played

-- the same, with its table as the text
abbrev pub HasPlayedTable : {S : Type 0} → (S → Option (List ℕ)) → S → S → (List ℕ → Type 0) → Option Record → Type 0
HasPlayedTable left before after W played = HasTold (IsScenario (left before) (left after)) IsPlayed played_table W played

-- the scenario that is made of a number of nodes and a seed was played, with the source left as it is
abbrev pub HasPlayedMade : {S : Type 0} → S → S → ℕ → ℕ → (List ℕ → Type 0) → Option Record → Type 0
HasPlayedMade before after nodes seed W played = HasTold (λ s. (s ≡ made nodes seed) × (after ≡ before)) IsPlayed (output_text output.Summary) W played

-- a scenario was read to its end and played with access points of so much room
abbrev pub HasPointedRead : {S : Type 0} → (S → Option (List ℕ)) → S → S → ℕ → (List ℕ → Type 0) → Option Record → Type 0
HasPointedRead left before after room W played = HasPointed (IsScenario (left before) (left after)) room W played

-- the scenario of a large file that is made of a number of nodes, a seed and a size was played, with the source left as it is
abbrev pub HasPlayedLarge : {S : Type 0} → S → S → ℕ → ℕ → ℕ → (List ℕ → Type 0) → Option Record → Type 0
HasPlayedLarge before after nodes seed size W played =
    HasTold (λ s. (s ≡ large nodes seed size) × (after ≡ before)) (IsPlayedLarge seed size) (output_text (output.Large size)) W played

-- a script of groups was read to its end, and both its parts were played
abbrev pub HasPlayedScript : {S : Type 0} → (S → Option (List ℕ)) → S → S → (List ℕ → Type 0) → Option Record → Type 0
HasPlayedScript left before after W played = HasTold (IsScript (left before) (left after)) IsGrouped script_text W played

-- a scenario that can be run was read to its end and run, and W says what became of its report, or its trace
abbrev pub HasRunRead : {S : Type 0} → (S → Option (List ℕ)) → S → S → Output → (List ℕ → Type 0) → Option Record → Type 0
HasRunRead left before after o W told =
    HasTold (λ s. IsScenario (left before) (left after) s × (first_unfit_line s ≡ None)) IsRun (output_text o) W told

-- what a mode is to do was done, and W says what became of its text: `play` writes the report of the scenario that it reads,
-- `run` that of a run of it, `trace` its trace, or that of a run of it, `messages` its table, `points` its report with access
-- points, `groups` the reports of both parts of a script, `big` the summary of the one that it makes, and `large` what became of a
-- large file; `check` finds a trace legal, and `draw` draws it; `node` has no record, and its text is told apart (HasServed)
abbrev pub IsDone : {S : Type 0} → Mode → (S → Option (List ℕ)) → S → S → (List ℕ → Type 0) → Option Record → Type 0
IsDone Play left before after W played = HasPlayedRead left before after output.Report W played
IsDone Run left before after W told = HasRunRead left before after output.Report W told
IsDone (Big nodes seed) left before after W played = HasPlayedMade before after nodes seed W played
IsDone Trace left before after W played = HasPlayedRead left before after output.Trace W played
IsDone TraceRun left before after W told = HasRunRead left before after output.Trace W told
IsDone Check left before after W played = HasChecked (told_by telling.Line) (left before) (left after) W played
IsDone (Points room) left before after W played = HasPointedRead left before after room W played
IsDone (Large nodes seed size) left before after W played = HasPlayedLarge before after nodes seed size W played
IsDone Messages left before after W played = HasPlayedTable left before after W played
IsDone Groups left before after W played = HasPlayedScript left before after W played
IsDone (Draw from entries) left before after W played = HasChecked (told_by (telling.Picture from entries)) (left before) (left after) W played
IsDone OneNode left before after W played = played ≡ None

-- the same, but that `check` and `draw` may also have found a trace wrong
abbrev pub IsAtItsText : {S : Type 0} → Mode → (S → Option (List ℕ)) → S → S → (List ℕ → Type 0) → Option Record → Type 0
IsAtItsText Play left before after W played = HasPlayedRead left before after output.Report W played
IsAtItsText Run left before after W told = HasRunRead left before after output.Report W told
IsAtItsText (Big nodes seed) left before after W played = HasPlayedMade before after nodes seed W played
IsAtItsText Trace left before after W played = HasPlayedRead left before after output.Trace W played
IsAtItsText TraceRun left before after W told = HasRunRead left before after output.Trace W told
IsAtItsText Check left before after W played = HasJudged (told_by telling.Line) (left before) (left after) W played
IsAtItsText (Points room) left before after W played = HasPointedRead left before after room W played
IsAtItsText (Large nodes seed size) left before after W played = HasPlayedLarge before after nodes seed size W played
IsAtItsText Messages left before after W played = HasPlayedTable left before after W played
IsAtItsText Groups left before after W played = HasPlayedScript left before after W played
IsAtItsText (Draw from entries) left before after W played = HasJudged (told_by (telling.Picture from entries)) (left before) (left after) W played
IsAtItsText OneNode left before after W played = played ≡ None
