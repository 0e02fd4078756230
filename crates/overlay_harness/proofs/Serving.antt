-- Cells that were served the stages so far, and are served one more by hand.
use Rattle.std.proofs.Common.{◌≡◌, ◌≢◌, ◌≤◌, ◌⊎◌, inl, inr, ℕ, zero, suc, ◌+◌, ◌==◌, ◌||◌, not, Bool, true, false, Some, List, [], ◌∷◌, ◌++◌, map, filter}
use Rattle.std.proofs.Common.{slice_get, length, All, Contains, refl, sym, subst, ap, ◌∙◌, append_assoc, arith}
use Rattle.std.specs.List.{AllZip, list_any}
use Rattle.std.proofs.lemmas.Bool.{cond-true, cond-false, cases_Bool, and_parts}
use Rattle.std.proofs.lemmas.Bool.Decides.{Decides-eqb}
use Rattle.std.proofs.lemmas.Option.{slice_get-get_or}
use Rattle.ring_math.specs.Names.{Id, Number}
use Rattle.ring_math.specs.Sides.{is_in}
use Rattle.wire_msg.specs.declared.command.Command.{Command as NodeCommand}
use Rattle.wire_msg.specs.Words.{Envelope}
use Rattle.overlay_rules.specs.Record.{all_differ}
use Rattle.overlay_rules.proofs.Each.{Each, Each-all, Each-append, Each-contains, Each-from_all, Each-itself, Each-weaker}
use Rattle.scenario_reader.specs.declared.action.Action.{Action}
use Rattle.scenario_reader.specs.declared.action.What.{What}
use Rattle.scenario_reader.specs.declared.action.What.TheVariants as what
use Rattle.scenario_reader.specs.declared.node.NodeLine.{NodeLine}
use Rattle.scenario_reader.specs.declared.node.FileLine.{FileLine}
use Rattle.scenario_reader.specs.declared.tally.Tally.{Tally}
use Rattle.scenario_reader.specs.Rules.{AreActions}
use Rattle.scenario_reader.specs.Tallies.{tally_from}
use Rattle.weave_laws.specs.Cells.{CellEntry, CellInput, Command, Comes, Noise, History, IsFor, nodes_of}
use Rattle.node_cell.specs.Cell.{Cell, with_input}
use Rattle.weave.specs.Cells.{histories, kept_history}
use Rattle.weave.specs.Unread.{AllRead, IsTakenByNone}
use Rattle.overlay_harness.specs.Along.{RanAlong}
use Rattle.overlay_harness.specs.Stages.{Stage, actions_of, commands_to, is_command_of, said_to}
use Rattle.overlay_harness.specs.Inputs.{frames_in, is_command, is_frame}
use Rattle.overlay_harness.specs.Clauses.{IsMissing, IsServed}
use Rattle.overlay_harness.specs.Hand.{AllTookUpTo, IsDone, ServedWhole, TookUpTo, ends_after}
use Rattle.overlay_harness.specs.Once.{AllTookOnce, TookOnce}
use Rattle.overlay_harness.specs.Served.{ServedTo}
use Rattle.overlay_harness.specs.Ran.{SentInTime, inputs_in}
use Rattle.overlay_harness.specs.Work.{IsNumberedUpTo, told, with_inputs}
use Rattle.overlay_harness.proofs.Along.{all_frames, are_commands, along_more, frames-append}
use Rattle.overlay_harness.proofs.Hands.{told_once}
use Rattle.overlay_harness.proofs.HandOver.{longer}
use Rattle.overlay_harness.proofs.Lasting.{IsOfStage, WasTold, served_anew, served_before}
use Rattle.overlay_harness.proofs.Numbering.{Among, numbers_between, said}
use Rattle.overlay_harness.proofs.Sendings.{grew_by}
use Rattle.overlay_harness.proofs.Working.{founder_after, inputs_after, node_after}

-- ---- the whole stage

pub length_after : (c : Cell) (inputs : List CellInput) → length (with_inputs c inputs).history ≡ length c.history + length inputs
length_after c [] = omega arith
length_after c (i ∷ inputs) = let rest = length_after (with_input c i) inputs in let one = longer c i in omega arith

pub come_as_frames : (vs : List Envelope) → Each (λ (i : CellInput). is_frame i ≡ true) (map Comes vs)
come_as_frames [] = tt
come_as_frames (v ∷ vs) = (refl, come_as_frames vs)

whole_one : (s : Stage) (hs : List History) (old new : Cell) → TookUpTo (length (told s.actions old).history + s.budget) (told s.actions old) new →
    IsDone hs (length (told s.actions old).history + s.budget) new → ServedWhole s hs old new
whole_one s hs old new t d = record {
  work = record {
    frames = map Comes t.envelopes;
    are = Each-all (λ (i : CellInput). is_frame i ≡ true) (map Comes t.envelopes) (come_as_frames t.envelopes);
    few = few t.few;
    took = t.took;
  };
  whole = elim d [
    | inl full ↦ inl (let e = long in omega arith)
    | inr read ↦ inr read
  ];
} where
  long : length new.history ≡ length (told s.actions old).history + length (map Comes t.envelopes)
  long = ap (λ (c : Cell). length c.history) t.took ∙ length_after (told s.actions old) (map Comes t.envelopes)

  few : (length new.history ≤ length (told s.actions old).history + s.budget) ⊎ (t.envelopes ≡ []) → length (map Comes t.envelopes) ≤ s.budget
  few (inl le) = let e = long in omega arith
  few (inr none) = let e : length (map Comes t.envelopes) ≡ 0 = ap (λ vs. length (map Comes vs)) none in omega arith

pub whole_stage : (s : Stage) (hs : List History) (olds news : List Cell) →
    AllTookUpTo (ends_after s.budget (map (told s.actions) olds)) (map (told s.actions) olds) news →
    AllZip (IsDone hs) (ends_after s.budget (map (told s.actions) olds)) news → AllZip (ServedWhole s hs) olds news
whole_stage s hs [] [] t d = tt
whole_stage s hs [] (c ∷ news) t d = absurd t
whole_stage s hs (o ∷ olds) [] t d = absurd t
whole_stage s hs (o ∷ olds) (c ∷ news) t d = (whole_one s hs o c t.0 d.0, whole_stage s hs olds news t.1 d.1)

-- ---- what commands bring

-- commands that are told come to each once
pub all_told_once : (actions : List Action) (cells : List Cell) → AllTookOnce (histories cells) → AllTookOnce (histories (map (told actions) cells))
all_told_once actions cells t = Each-all TookOnce (histories (map (told actions) cells)) (each cells (Each-from_all TookOnce (histories cells) t)) where
  each : (cs : List Cell) → Each TookOnce (histories cs) → Each TookOnce (histories (map (told actions) cs))
  each [] k = tt
  each (c ∷ cs) k = (
    told_once (kept_history c) (kept_history (told actions c)) (commands_to c.node actions) k.0 (inputs_after c (commands_to c.node actions))
        (are_commands c.node actions),
    each cs k.1,
  )

-- the commands of a stage are of it
abbrev HasIt : List Action → CellInput → Type 0
HasIt actions (Command n c) = list_any (λ (a : Action). is_command_of n a.what) actions ≡ true
HasIt actions (Comes v) = ⊥
HasIt actions Noise = ⊥

or_more : (a : Action) (actions : List Action) (i : CellInput) → HasIt actions i → HasIt (a ∷ actions) i
or_more a actions (Command n c) h = behind (is_command_of n a.what) (list_any (λ (d : Action). is_command_of n d.what) actions) h where
  behind : (b d : Bool) → d ≡ true → b || d ≡ true
  behind true d e = refl
  behind false d e = e
or_more a actions (Comes v) h = absurd h
or_more a actions Noise h = absurd h

abbrev IsOne : What → CellInput → Type 0
IsOne w (Command n c) = is_command_of n w ≡ true
IsOne w (Comes v) = ⊥
IsOne w Noise = ⊥

said_one : (x : Id) (w : What) → Each (IsOne w) (said_to x w)
said_one x (what.Command number node command) =
    elim (cases_Bool (node == x)) [
      | inl t ↦ subst (Each (IsOne (what.Command number node command))) (sym (cond-true (node == x) (Command number command ∷ []) [] t))
          ((Decides-eqb number number).1 refl, tt)
      | inr t ↦ subst (Each (IsOne (what.Command number node command))) (sym (cond-false (node == x) (Command number command ∷ []) [] t)) tt
    ]
said_one x (what.Settle n) = tt
said_one x (what.Deliver n) = tt
said_one x (what.Shuffle seed count) = tt
said_one x (what.Dup n) = tt
said_one x (what.Noise node bytes) = tt

or_first : (a : Action) (actions : List Action) (i : CellInput) → IsOne a.what i → HasIt (a ∷ actions) i
or_first a actions (Command n c) h = ap (λ b. b || list_any (λ (d : Action). is_command_of n d.what) actions) h
or_first a actions (Comes v) h = absurd h
or_first a actions Noise h = absurd h

have_them : (x : Id) (actions : List Action) → Each (HasIt actions) (commands_to x actions)
have_them x [] = tt
have_them x (a ∷ actions) =
    Each-append (HasIt (a ∷ actions)) (said_to x a.what) (commands_to x actions)
    (Each-weaker (IsOne a.what) (HasIt (a ∷ actions)) (said_to x a.what) (λ i h. or_first a actions i h) (said_one x a.what))
    (Each-weaker (HasIt actions) (HasIt (a ∷ actions)) (commands_to x actions) (λ i h. or_more a actions i h) (have_them x actions))

of_stage : (x : Id) (s : Stage) → Each (IsOfStage s) (commands_to x s.actions)
of_stage x s = Each-weaker (HasIt s.actions) (IsOfStage s) (commands_to x s.actions) (λ i h. same i h) (have_them x s.actions) where
  same : (i : CellInput) → HasIt s.actions i → IsOfStage s i
  same (Command n c) h = h
  same (Comes v) h = h
  same Noise h = h

of_entries : (s : Stage) (es : List CellEntry) (inputs : List CellInput) → map (λ (e : CellEntry). e.input) es ≡ inputs → Each (IsOfStage s) inputs →
    Each (λ (e : CellEntry). IsOfStage s e.input) es
of_entries s es inputs e h = each es (subst (Each (IsOfStage s)) (sym e) h) where
  each : (es : List CellEntry) → Each (IsOfStage s) (map (λ (d : CellEntry). d.input) es) → Each (λ (d : CellEntry). IsOfStage s d.input) es
  each [] k = tt
  each (d ∷ es) k = (k.0, each es k.1)

-- a stage without a budget tells its commands alone
none_of : (frames : List CellInput) (n : ℕ) → length frames ≤ n → n ≡ 0 → frames ≡ []
none_of [] n le e = refl
none_of (f ∷ frames) n le e = absurd (omega arith)

told_only : (s : Stage) (hs : List History) (old new : Cell) → s.budget ≡ 0 → ServedWhole s hs old new → WasTold s (kept_history old) (kept_history new)
told_only s hs old new e w =
    let none = none_of w.work.frames s.budget w.work.few e in
    let same : new ≡ told s.actions old = w.work.took ∙ ap (with_inputs (told s.actions old)) none in
    subst (λ (c : Cell). WasTold s (kept_history old) (kept_history c)) (sym same)
    (let own = grew_by old (commands_to old.node s.actions) in
    record { grew = own.grew; theirs = of_entries s own.grew.more (commands_to old.node s.actions) own.came (of_stage old.node s) })

all_told_only : (s : Stage) (hs : List History) (olds news : List Cell) → s.budget ≡ 0 → AllZip (ServedWhole s hs) olds news →
    AllZip (WasTold s) (histories olds) (histories news)
all_told_only s hs [] [] e z = tt
all_told_only s hs [] (c ∷ news) e z = absurd z
all_told_only s hs (o ∷ olds) [] e z = absurd z
all_told_only s hs (o ∷ olds) (c ∷ news) e z = (told_only s hs o c e z.0, all_told_only s hs olds news e z.1)

-- ---- nothing unread is missing

apart : (x : Id) (xs : List Id) (y : Id) → not (is_in xs x) ≡ true → Contains xs y → y ≢ x
apart x [] y d (k, lt, e) same = absurd (omega arith)
apart x (z ∷ xs) y d (zero, lt, e) same =
    first (z == x) (is_in xs x) ((Decides-eqb z x).1 (e ∙ same)) d where
      first : (b c : Bool) → b ≡ true → not (b || c) ≡ true → ⊥
      first true c t f = cc
      first false c t f = cc
apart x (z ∷ xs) y d (suc k, lt, e) same = apart x xs y (rest (z == x) (is_in xs x) d) (k, omega arith, e) same where
  rest : (b c : Bool) → not (b || c) ≡ true → not c ≡ true
  rest true c f = cc
  rest false c f = f

node_in : (hs : List History) (h : History) → Contains hs h → Contains (nodes_of hs) h.node
node_in [] h (k, lt, e) = absurd (omega arith)
node_in (i ∷ hs) h (zero, lt, e) = (0, omega arith, ap (λ (j : History). j.node) e)
node_in (i ∷ hs) h (suc k, lt, e) = let rest = node_in hs h (k, omega arith, e) in (suc rest.0, (let l = rest.1 in omega arith), rest.2)

-- a node has one history
one_history : (hs : List History) (h k : History) → all_differ (nodes_of hs) ≡ true → Contains hs h → Contains hs k → k.node ≡ h.node → k ≡ h
one_history [] h k d (i, lt, e) c same = absurd (omega arith)
one_history (j ∷ hs) h k d (zero, lt, e) (zero, lk, f) same = sym f ∙ e
one_history (j ∷ hs) h k d (zero, lt, e) (suc n, lk, f) same =
    let parts = and_parts (not (is_in (nodes_of hs) j.node)) (all_differ (nodes_of hs)) d in
    absurd (apart j.node (nodes_of hs) k.node parts.0 (node_in hs k (n, omega arith, f)) (same ∙ ap (λ (i : History). i.node) (sym e)))
one_history (j ∷ hs) h k d (suc m, lt, e) (zero, lk, f) same =
    let parts = and_parts (not (is_in (nodes_of hs) j.node)) (all_differ (nodes_of hs)) d in
    absurd (apart j.node (nodes_of hs) h.node parts.0 (node_in hs h (m, omega arith, e)) (sym same ∙ ap (λ (i : History). i.node) (sym f)))
one_history (j ∷ hs) h k d (suc m, lt, e) (suc n, lk, f) same =
    let parts = and_parts (not (is_in (nodes_of hs) j.node)) (all_differ (nodes_of hs)) d in
    one_history hs h k parts.1 (m, omega arith, e) (n, omega arith, f) same

abbrev AreAddressed : List History → Type 0
AreAddressed hs = Each (λ (h : History). Each (λ (e : CellEntry). IsFor h.node e.input) h.entries) hs

at_index : {A : Type 0} (xs : List A) (x : A) (c : Contains xs x) → slice_get xs c.0 ≡ Some x
at_index xs x c = slice_get-get_or xs c.0 x c.1 ∙ ap Some c.2

never_here : (v : Envelope) (es : List CellEntry) (e : CellEntry) → All (λ (i : CellInput). i ≢ Comes v) (map (λ (d : CellEntry). d.input) es) → Contains es e →
    e.input ≢ Comes v
never_here v es e none c = Each-contains (λ (d : CellEntry). d.input ≢ Comes v) es e (each es (Each-from_all (λ (i : CellInput). i ≢ Comes v) _ none)) c where
  each : (es : List CellEntry) → Each (λ (i : CellInput). i ≢ Comes v) (map (λ (d : CellEntry). d.input) es) → Each (λ (d : CellEntry). d.input ≢ Comes v) es
  each [] k = tt
  each (d ∷ es) k = (k.0, each es k.1)

pub none_missing : (stages : List Stage) (hs : List History) (h : History) → all_differ (nodes_of hs) ≡ true → AreAddressed hs → Contains hs h →
    AllRead hs h.node → (v : Envelope) → SentInTime stages hs v → IsMissing h.node (inputs_in h) v → ⊥
none_missing stages hs h d addressed c read v s m =
    read.none s.history.node s.stands.0 s.sent.0 v
    (record {
      entry = s.entry;
      stands = record { history = s.history; among = s.among; node = refl; there = at_index s.history.entries s.entry s.stands };
      sent = at_index s.entry.sent v s.sent;
      addressed = m.addressed;
      untaken = untaken;
    }) where
      other : (k : History) → Contains hs k → (e : CellEntry) → Contains k.entries e → e.input ≢ Comes v
      other k ck e ce is =
          let for : IsFor k.node e.input =
          Each-contains (λ (f : CellEntry). IsFor k.node f.input) k.entries e
          (Each-contains (λ (j : History). Each (λ (f : CellEntry). IsFor j.node f.input) j.entries) hs k addressed ck) ce in
          let own : v.receiver ≡ k.node = subst (IsFor k.node) is for in
          let same : k ≡ h = one_history hs h k d c ck (sym own ∙ m.addressed) in
          never_here v h.entries e m.never (subst (λ (j : History). Contains j.entries e) same ce) is

      untaken : IsTakenByNone hs v
      untaken =
          Each-all (λ (k : History). All (λ (e : CellEntry). e.input ≢ Comes v) k.entries) hs
          (Each-weaker (Contains hs) (λ (k : History). All (λ (e : CellEntry). e.input ≢ Comes v) k.entries) hs
          (λ k ck. Each-all (λ (e : CellEntry). e.input ≢ Comes v) k.entries
          (Each-weaker (Contains k.entries) (λ (e : CellEntry). e.input ≢ Comes v) k.entries (λ e ce. other k ck e ce) (Each-itself k.entries)))
          (Each-itself hs))

-- ---- the facts after one stage more

-- what the rules of a scenario say of stages and one more
pub record AreStages (stages : List Stage) (s : Stage) : Type 0 where
  pub nodes : List NodeLine
  pub files : List FileLine
  pub tally : Tally
  pub rules : AreActions nodes files tally (actions_of stages ++ s.actions)

inputs_whole : (s : Stage) (hs : List History) (old new : Cell) → (w : ServedWhole s hs old new) →
    inputs_in (kept_history new) ≡ inputs_in (kept_history old) ++ (commands_to old.node s.actions ++ w.work.frames)
inputs_whole s hs old new w =
    ap (λ (c : Cell). inputs_in (kept_history c)) w.work.took
    ∙ inputs_after (told s.actions old) w.work.frames
    ∙ ap (λ is. is ++ w.work.frames) (inputs_after old (commands_to old.node s.actions))
    ∙ append_assoc (inputs_in (kept_history old)) (commands_to old.node s.actions) w.work.frames

node_whole : (s : Stage) (hs : List History) (old new : Cell) → ServedWhole s hs old new → new.node ≡ old.node
node_whole s hs old new w =
    ap (λ (c : Cell). c.node) w.work.took ∙ node_after (told s.actions old) w.work.frames ∙ node_after old (commands_to old.node s.actions)

abbrev frame_list : List CellInput → Type 0
frame_list frames = Each (λ (i : CellInput). is_frame i ≡ true) frames

along_one : (stages : List Stage) (s : Stage) (hs ks : List History) (old new : Cell) → AreStages stages s → ServedWhole s ks old new →
    ServedTo stages hs (kept_history old) → RanAlong (stages ++ s ∷ []) new.node (inputs_in (kept_history new))
along_one stages s hs ks old new a w h =
    let frames : frame_list w.work.frames = Each-from_all (λ (i : CellInput). is_frame i ≡ true) w.work.frames w.work.are in
    subst (λ x. RanAlong (stages ++ s ∷ []) x (inputs_in (kept_history new))) (sym (node_whole s ks old new w))
    (subst (RanAlong (stages ++ s ∷ []) old.node) (sym (inputs_whole s ks old new w))
    (along_more a.nodes a.files a.tally stages s old.node (inputs_in (kept_history old)) w.work.frames a.rules h.along frames w.work.few))

served_one : (stages : List Stage) (s : Stage) (olds news : List Cell) (old new : Cell) → all_differ (nodes_of (histories news)) ≡ true →
    AreAddressed (histories news) → AllZip (ServedWhole s (histories news)) olds news → Contains (histories news) (kept_history new) →
    ServedWhole s (histories news) old new → ServedTo stages (histories olds) (kept_history old) →
    IsServed (stages ++ s ∷ []) (SentInTime (stages ++ s ∷ []) (histories news)) new.node (inputs_in (kept_history new))
served_one stages s olds news old new d addressed z c w h = by s.budget refl where
  ks : List History
  ks = histories news

  frames : frame_list w.work.frames
  frames = Each-from_all (λ (i : CellInput). is_frame i ≡ true) w.work.frames w.work.are

  counted : length w.work.frames ≤ frames_in (inputs_in (kept_history new))
  counted =
      let all = ap frames_in (inputs_whole s ks old new w) in
      let one = frames-append (inputs_in (kept_history old)) (commands_to old.node s.actions ++ w.work.frames) in
      let two = frames-append (commands_to old.node s.actions) w.work.frames in
      let own = all_frames w.work.frames frames in
      omega arith

  anew : (s.budget ≤ length w.work.frames) ⊎ AllRead ks new.node →
      (s.budget ≤ frames_in (inputs_in (kept_history new)))
      ⊎ ((v : Envelope) → SentInTime (stages ++ s ∷ []) ks v → IsMissing new.node (inputs_in (kept_history new)) v → ⊥)
  anew (inl full) = inl (let some = counted in omega arith)
  anew (inr read) = inr (none_missing (stages ++ s ∷ []) ks (kept_history new) d addressed c read)

  by : (n : ℕ) → s.budget ≡ n → IsServed (stages ++ s ∷ []) (SentInTime (stages ++ s ∷ []) ks) new.node (inputs_in (kept_history new))
  by zero e =
      subst (λ x. IsServed (stages ++ s ∷ []) (SentInTime (stages ++ s ∷ []) ks) x (inputs_in (kept_history new))) (sym (node_whole s ks old new w))
      (subst (IsServed (stages ++ s ∷ []) (SentInTime (stages ++ s ∷ []) ks) old.node) (sym (inputs_whole s ks old new w))
      (served_before stages s (histories olds) ks old.node (inputs_in (kept_history old)) (commands_to old.node s.actions ++ w.work.frames) e
      (all_told_only s ks olds news e z) h.served))
  by (suc n) e = served_anew stages s ks new.node (inputs_in (kept_history new)) (omega arith) (anew w.whole)

pub served_more : (stages : List Stage) (s : Stage) (olds news : List Cell) → AreStages stages s → all_differ (nodes_of (histories news)) ≡ true →
    AreAddressed (histories news) → AllZip (ServedWhole s (histories news)) olds news →
    Each (ServedTo stages (histories olds)) (histories olds) → Each (ServedTo (stages ++ s ∷ []) (histories news)) (histories news)
served_more stages s olds news a d addressed z h = each olds news z h (Each-itself (histories news)) where
  ks : List History
  ks = histories news

  each : (os ns : List Cell) → AllZip (ServedWhole s ks) os ns → Each (ServedTo stages (histories olds)) (histories os) →
      Each (Contains ks) (histories ns) → Each (ServedTo (stages ++ s ∷ []) ks) (histories ns)
  each [] [] w k c = tt
  each [] (n ∷ ns) w k c = absurd w
  each (o ∷ os) [] w k c = absurd w
  each (o ∷ os) (n ∷ ns) w k c = (
    record {
      along = along_one stages s (histories olds) ks o n a w.0 k.0;
      served = served_one stages s olds news o n d addressed z c.0 w.0 k.0;
    },
    each os ns w.1 k.1 c.1,
  )

-- ---- numbers of the commands so far

up_to : (most : ℕ) (inputs : List CellInput) → ((n : Number) (c : NodeCommand) → Among (Command n c) (filter is_command inputs) → n ≤ most) →
    Each (IsNumberedUpTo most) inputs
up_to most [] f = tt
up_to most (Command n c ∷ inputs) f = (f n c (inl refl), up_to most inputs (λ m d k. f m d (inr k)))
up_to most (Comes v ∷ inputs) f = (tt, up_to most inputs f)
up_to most (Noise ∷ inputs) f = (tt, up_to most inputs f)

pub numbers_up_to : (nodes : List NodeLine) (files : List FileLine) (tally : Tally) (stages : List Stage) (x : Id) (inputs : List CellInput) →
    AreActions nodes files tally (actions_of stages) → RanAlong stages x inputs → Each (IsNumberedUpTo (tally_from tally (actions_of stages)).commands) inputs
numbers_up_to nodes files tally stages x inputs rules r =
    up_to (tally_from tally (actions_of stages)).commands inputs (λ n c k.
    (numbers_between nodes files tally (actions_of stages) x n rules (said x n c (actions_of stages) (subst (Among (Command n c)) r.commands k))).within)

-- ---- they stay the cells of the scenario

pub founders_whole : (founder : Id) (s : Stage) (hs : List History) (olds news : List Cell) → AllZip (ServedWhole s hs) olds news →
    Each (λ (c : Cell). c.is_founder ≡ (c.node == founder)) olds → Each (λ (c : Cell). c.is_founder ≡ (c.node == founder)) news
founders_whole founder s hs [] [] z h = tt
founders_whole founder s hs [] (n ∷ news) z h = absurd z
founders_whole founder s hs (o ∷ olds) [] z h = absurd z
founders_whole founder s hs (o ∷ olds) (n ∷ news) z h = (
  ap (λ (c : Cell). c.is_founder) z.0.work.took
      ∙ founder_after (told s.actions o) z.0.work.frames
      ∙ founder_after o (commands_to o.node s.actions)
      ∙ h.0
      ∙ ap (λ x. x == founder) (sym (node_whole s hs o n z.0)),
  founders_whole founder s hs olds news z.1 h.1,
)
