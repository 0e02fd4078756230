-- A text has at most one reading, and one fault: the lines of a front lead to it alone, and lines are told by their text.
use Rattle.std.proofs.Common.{◌≡◌, ℕ, zero, suc, ◌≤◌, true, false, not, ◌&&◌, ◌||◌, eqb, List, [], ◌∷◌, ◌++◌, length}
use Rattle.std.proofs.Common.{map, Option, Some, None}
use Rattle.std.proofs.Common.{refl, sym, ap, subst, ◌∙◌, arith, append_assoc, length-append}
use Rattle.std.specs.Prelude.{nat_lt, Contains}
use Rattle.std.specs.List.{flat_map}
use Rattle.std.proofs.lemmas.Bool.{and_from, and_parts, lt-ltb, ne_eqb, eqb-false, or_left, or_right}
use Rattle.std.proofs.lemmas.Bool.Decides.{Decides-eqb}
use Rattle.std.proofs.lemmas.List.{append-nil}
use Rattle.std.proofs.lemmas.List.Folds.{list_any-append}
use Rattle.ring_math.specs.Sides.{is_in}
use Rattle.overlay_rules.specs.declared.entry.Entry.{Entry}
use Rattle.overlay_rules.specs.declared.entry.Event.{Event as NodeEvent}
use Rattle.overlay_rules.specs.Record.{all_differ}
use Rattle.wire_msg.specs.declared.note.Note.{Note as NodeNote}
use Rattle.wire_msg.specs.Words.{Envelope}
use Rattle.scenario_reader.specs.declared.limits.TheConstants.{MOST_NODES}
use Rattle.trace_text.specs.Lines.{Line}
use Rattle.trace_text.specs.Lines as line
use Rattle.trace_text.specs.Traces.{trace_of, setting_lines, entry_lines}
use Rattle.trace_text.specs.Fronts.{Front, Nothing, Nodes, Founder, Entries, End, lines_of, after, begun, KeepsSetting}
use Rattle.trace_text.proofs.Fronts.{or_false_parts, whole_lines}

-- ---- the front that lines lead to

abbrev pub then : Option Front → (Front → Option Front) → Option Front
then None next = None
then (Some f) next = next f

abbrev pub follows : Front → List Line → Option Front
follows f [] = Some f
follows f (l ∷ ls) = then (after f l) (λ g. follows g ls)

-- ---- the nodes

-- who is in a list passes the test
pub passes : (xs : List ℕ) (y : ℕ) → Contains xs y → is_in xs y ≡ true
passes [] y c = let lt = c.1 in absurd (omega arith)
passes (x ∷ xs) y (zero, lt, e) = or_left (eqb x y) (is_in xs y) ((Decides-eqb x y).1 e)
passes (x ∷ xs) y (suc n, lt, e) = or_right (eqb x y) (is_in xs y) (passes xs y (n, omega arith, e))

-- none of the nodes before is the next
apart_from : (before : List ℕ) (x : ℕ) (rest : List ℕ) → all_differ (before ++ x ∷ rest) ≡ true → not (is_in before x) ≡ true
apart_from [] x rest differ = refl
apart_from (z ∷ zs) x rest differ =
    let parts = and_parts (not (is_in (zs ++ x ∷ rest) z)) (all_differ (zs ++ x ∷ rest)) differ in
    let split : not (is_in zs z || is_in (x ∷ rest) z) ≡ true = sym (ap not (list_any-append (λ (w : ℕ). eqb w z) zs (x ∷ rest))) ∙ parts.0 in
    let behind = or_false_parts (is_in zs z) (is_in (x ∷ rest) z) split in
    let here = or_false_parts (eqb x z) (is_in rest z) behind.1 in
    let other : eqb z x ≡ false = ne_eqb z x (λ same. eqb-false x z here.0 (sym same)) in
    rw other (apart_from zs x rest parts.1)

nodes_lead : (before xs : List ℕ) (rest : List Line) → all_differ (before ++ xs) ≡ true → length (before ++ xs) ≤ MOST_NODES →
    follows (Nodes before) (map line.Node xs ++ rest) ≡ follows (Nodes (before ++ xs)) rest
nodes_lead before [] rest differ few = ap (λ (ns : List ℕ). follows (Nodes ns) rest) (sym (append-nil before))
nodes_lead before (x ∷ xs) rest differ few =
    let room : nat_lt (length before) MOST_NODES ≡ true = lt-ltb (length before) MOST_NODES (omega (arith, few, length-append before (x ∷ xs))) in
    let apart = apart_from before x xs differ in
    let moved : (before ++ x ∷ []) ++ xs ≡ before ++ x ∷ xs = append_assoc before (x ∷ []) xs in
    let later = nodes_lead (before ++ x ∷ []) xs rest (ap all_differ moved ∙ differ) (subst (λ (ns : List ℕ). length ns ≤ MOST_NODES) (sym moved) few) in
    let may : (nat_lt (length before) MOST_NODES && not (is_in before x)) ≡ true =
    and_from (nat_lt (length before) MOST_NODES) (not (is_in before x)) room apart in
    rw may (later ∙ ap (λ (ns : List ℕ). follows (Nodes ns) rest) moved)

founder_lead : (nodes : List ℕ) (founder : ℕ) (rest : List Line) → all_differ nodes ≡ true → length nodes ≤ MOST_NODES → is_in nodes founder ≡ true →
    follows Nothing (setting_lines nodes founder ++ rest) ≡ follows (Founder nodes founder) rest
founder_lead nodes founder rest differ few member =
    let there : follows (Nodes nodes) (line.Founder founder ∷ rest) ≡ follows (Founder nodes founder) rest = rw member refl in
    ap (λ (ls : List Line). follows (Nodes []) ls) (append_assoc (map line.Node nodes) (line.Founder founder ∷ []) rest)
    ∙ nodes_lead [] nodes (line.Founder founder ∷ rest) differ few ∙ there

-- ---- the entries

abbrev entry_of : NodeEvent → List Envelope → List NodeNote → Entry
entry_of e messages notes = record { event = e; messages = messages; notes = notes }

sent_lead : (nodes : List ℕ) (founder : ℕ) (whole : List Entry) (e : NodeEvent) (before messages : List Envelope) (rest : List Line) →
    follows (Entries nodes founder whole (entry_of e before [])) (map line.Sent messages ++ rest)
    ≡ follows (Entries nodes founder whole (entry_of e (before ++ messages) [])) rest
sent_lead nodes founder whole e before [] rest =
    ap (λ (ms : List Envelope). follows (Entries nodes founder whole (entry_of e ms [])) rest) (sym (append-nil before))
sent_lead nodes founder whole e before (m ∷ messages) rest =
    sent_lead nodes founder whole e (before ++ m ∷ []) messages rest
    ∙ ap (λ (ms : List Envelope). follows (Entries nodes founder whole (entry_of e ms [])) rest) (append_assoc before (m ∷ []) messages)

noted_lead : (nodes : List ℕ) (founder : ℕ) (whole : List Entry) (e : NodeEvent) (messages : List Envelope) (before notes : List NodeNote)
    (rest : List Line) → follows (Entries nodes founder whole (entry_of e messages before)) (map line.Note notes ++ rest)
    ≡ follows (Entries nodes founder whole (entry_of e messages (before ++ notes))) rest
noted_lead nodes founder whole e messages before [] rest =
    ap (λ (ns : List NodeNote). follows (Entries nodes founder whole (entry_of e messages ns)) rest) (sym (append-nil before))
noted_lead nodes founder whole e messages before (n ∷ notes) rest =
    noted_lead nodes founder whole e messages (before ++ n ∷ []) notes rest
    ∙ ap (λ (ns : List NodeNote). follows (Entries nodes founder whole (entry_of e messages ns)) rest) (append_assoc before (n ∷ []) notes)

-- behind its event
parts_lead : (nodes : List ℕ) (founder : ℕ) (whole : List Entry) (e : Entry) (rest : List Line) →
    follows (Entries nodes founder whole (begun e.event)) ((map line.Sent e.messages ++ map line.Note e.notes) ++ rest)
    ≡ follows (Entries nodes founder whole e) rest
parts_lead nodes founder whole e rest =
    ap (λ (ls : List Line). follows (Entries nodes founder whole (begun e.event)) ls)
    (append_assoc (map line.Sent e.messages) (map line.Note e.notes) rest)
    ∙ sent_lead nodes founder whole e.event [] e.messages (map line.Note e.notes ++ rest)
    ∙ noted_lead nodes founder whole e.event e.messages [] e.notes rest

-- whole entries, and the last
later_lead : (nodes : List ℕ) (founder : ℕ) (whole : List Entry) (last : Entry) (es : List Entry) (e : Entry) (rest : List Line) →
    follows (Entries nodes founder whole last) (flat_map entry_lines (es ++ e ∷ []) ++ rest)
    ≡ follows (Entries nodes founder ((whole ++ last ∷ []) ++ es) e) rest
later_lead nodes founder whole last [] e rest =
    ap (λ (ls : List Line). follows (Entries nodes founder whole last) (ls ++ rest)) (append-nil (entry_lines e))
    ∙ parts_lead nodes founder (whole ++ last ∷ []) e rest
    ∙ ap (λ (w : List Entry). follows (Entries nodes founder w e) rest) (sym (append-nil (whole ++ last ∷ [])))
later_lead nodes founder whole last (d ∷ es) e rest =
    ap (λ (ls : List Line). follows (Entries nodes founder whole last) ls) (append_assoc (entry_lines d) (flat_map entry_lines (es ++ e ∷ [])) rest)
    ∙ parts_lead nodes founder (whole ++ last ∷ []) d (flat_map entry_lines (es ++ e ∷ []) ++ rest)
    ∙ later_lead nodes founder (whole ++ last ∷ []) d es e rest
    ∙ ap (λ (w : List Entry). follows (Entries nodes founder w e) rest) (append_assoc (whole ++ last ∷ []) (d ∷ []) es)

first_lead : (nodes : List ℕ) (founder : ℕ) (es : List Entry) (e : Entry) (rest : List Line) →
    follows (Founder nodes founder) (flat_map entry_lines (es ++ e ∷ []) ++ rest) ≡ follows (Entries nodes founder es e) rest
first_lead nodes founder [] e rest =
    ap (λ (ls : List Line). follows (Founder nodes founder) (ls ++ rest)) (append-nil (entry_lines e)) ∙ parts_lead nodes founder [] e rest
first_lead nodes founder (d ∷ es) e rest =
    ap (λ (ls : List Line). follows (Founder nodes founder) ls) (append_assoc (entry_lines d) (flat_map entry_lines (es ++ e ∷ [])) rest)
    ∙ parts_lead nodes founder [] d (flat_map entry_lines (es ++ e ∷ []) ++ rest)
    ∙ later_lead nodes founder [] d es e rest

-- all entries, and the end
ends_later : (nodes : List ℕ) (founder : ℕ) (whole : List Entry) (last : Entry) (es : List Entry) (skipped : ℕ) (rest : List Line) →
    follows (Entries nodes founder whole last) (flat_map entry_lines es ++ line.End skipped ∷ rest)
    ≡ follows (End (trace_of nodes founder ((whole ++ last ∷ []) ++ es) skipped)) rest
ends_later nodes founder whole last [] skipped rest =
    ap (λ (es : List Entry). follows (End (trace_of nodes founder es skipped)) rest) (sym (append-nil (whole ++ last ∷ [])))
ends_later nodes founder whole last (d ∷ es) skipped rest =
    ap (λ (ls : List Line). follows (Entries nodes founder whole last) ls) (append_assoc (entry_lines d) (flat_map entry_lines es) (line.End skipped ∷ rest))
    ∙ parts_lead nodes founder (whole ++ last ∷ []) d (flat_map entry_lines es ++ line.End skipped ∷ rest)
    ∙ ends_later nodes founder (whole ++ last ∷ []) d es skipped rest
    ∙ ap (λ (xs : List Entry). follows (End (trace_of nodes founder xs skipped)) rest) (append_assoc (whole ++ last ∷ []) (d ∷ []) es)

ends : (nodes : List ℕ) (founder : ℕ) (es : List Entry) (skipped : ℕ) (rest : List Line) →
    follows (Founder nodes founder) (flat_map entry_lines es ++ line.End skipped ∷ rest) ≡ follows (End (trace_of nodes founder es skipped)) rest
ends nodes founder [] skipped rest = refl
ends nodes founder (d ∷ es) skipped rest =
    ap (λ (ls : List Line). follows (Founder nodes founder) ls) (append_assoc (entry_lines d) (flat_map entry_lines es) (line.End skipped ∷ rest))
    ∙ parts_lead nodes founder [] d (flat_map entry_lines es ++ line.End skipped ∷ rest)
    ∙ ends_later nodes founder [] d es skipped rest

-- ---- the lines of a front lead to it

pub front_lead : (f : Front) (rest : List Line) → KeepsSetting f → follows Nothing (lines_of f ++ rest) ≡ follows f rest
front_lead Nothing rest keeps = refl
front_lead (Nodes nodes) rest keeps = nodes_lead [] nodes rest keeps.differ keeps.few
front_lead (Founder nodes founder) rest keeps = founder_lead nodes founder rest keeps.nodes_are.differ keeps.nodes_are.few keeps.member
front_lead (Entries nodes founder whole last) rest keeps =
    ap (λ (ls : List Line). follows Nothing ls)
    (append_assoc (setting_lines nodes founder) (flat_map entry_lines whole ++ entry_lines last) rest
    ∙ ap (λ (ls : List Line). setting_lines nodes founder ++ (ls ++ rest)) (sym (whole_lines whole last)))
    ∙ founder_lead nodes founder (flat_map entry_lines (whole ++ last ∷ []) ++ rest) keeps.nodes_are.differ keeps.nodes_are.few keeps.member
    ∙ first_lead nodes founder whole last rest
front_lead (End t) rest keeps =
    ap (λ (ls : List Line). follows Nothing ls)
    (append_assoc (setting_lines t.nodes t.founder) (flat_map entry_lines t.entries ++ line.End t.skipped ∷ []) rest
    ∙ ap (λ (ls : List Line). setting_lines t.nodes t.founder ++ ls) (append_assoc (flat_map entry_lines t.entries) (line.End t.skipped ∷ []) rest))
    ∙ founder_lead t.nodes t.founder (flat_map entry_lines t.entries ++ line.End t.skipped ∷ rest) keeps.nodes_are.differ keeps.nodes_are.few keeps.member
    ∙ ends t.nodes t.founder t.entries t.skipped rest

pub front_again : (f : Front) → KeepsSetting f → follows Nothing (lines_of f) ≡ Some f
front_again f keeps = ap (λ (ls : List Line). follows Nothing ls) (sym (append-nil (lines_of f))) ∙ front_lead f [] keeps
