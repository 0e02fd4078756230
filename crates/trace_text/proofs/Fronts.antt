-- One line more of a front: its lines have this one behind them, and it keeps what fronts keep.
use Rattle.std.proofs.Common.{◌≡◌, ℕ, Bool, true, false, cond, not, ◌&&◌, ◌||◌, eqb, List, [], ◌∷◌, ◌++◌, length, map}
use Rattle.std.proofs.Common.{Some, None}
use Rattle.std.proofs.Common.{refl, sym, ap, subst, ◌∙◌, arith, append_assoc, length-append}
use Rattle.std.specs.Prelude.{nat_lt}
use Rattle.std.specs.List.{flat_map}
use Rattle.std.proofs.lemmas.Bool.{and_from, and_parts, ltb-true, ne_eqb, eqb-false}
use Rattle.std.proofs.lemmas.Grind.{flat_map-append}
use Rattle.std.proofs.lemmas.List.{append-nil, map-append, nil_from_length}
use Rattle.ring_math.specs.Sides.{is_in}
use Rattle.overlay_rules.specs.declared.entry.Entry.{Entry}
use Rattle.overlay_rules.specs.Record.{all_differ}
use Rattle.wire_msg.specs.declared.note.Note.{Note as NodeNote}
use Rattle.wire_msg.specs.Words.{Envelope}
use Rattle.scenario_reader.specs.declared.limits.TheConstants.{MOST_NODES}
use Rattle.trace_text.specs.Lines.{Line}
use Rattle.trace_text.specs.Lines as line
use Rattle.trace_text.specs.Traces.{trace_of, setting_lines, entry_lines}
use Rattle.trace_text.specs.Fronts.{Front, Nothing, Nodes, Founder, Entries, End, lines_of, after, begun, with_sent, with_note}
use Rattle.trace_text.specs.Fronts.{may_send}
use Rattle.trace_text.specs.Fronts.{KeepsSetting}

-- ---- what a test gives

pub some_is : {X : Type 0} (x y : X) → (Some x) ≡ (Some y) → x ≡ y
some_is x y e = cc

pub record IsGuarded {X : Type 0} (test : Bool) (x y : X) : Type 0 where
  pub passed : test ≡ true
  pub same : x ≡ y

pub guarded : {X : Type 0} (test : Bool) (x y : X) → cond test (Some x) None ≡ Some y → IsGuarded test x y
guarded true x y e = record { passed = refl; same = some_is x y e }
guarded false x y e = absurd cc

-- ---- the lines of parts

pub whole_lines : (whole : List Entry) (last : Entry) → flat_map entry_lines (whole ++ last ∷ []) ≡ flat_map entry_lines whole ++ entry_lines last
whole_lines whole last =
    flat_map-append entry_lines whole (last ∷ []) ∙ ap (λ (ls : List Line). flat_map entry_lines whole ++ ls) (append-nil (entry_lines last))

pub no_notes : (e : Entry) → may_send e ≡ true → e.notes ≡ []
no_notes e may = nil_from_length e.notes (omega (arith, ltb-true (length e.notes) 1 may))

sent_lines : (e : Entry) (m : Envelope) → may_send e ≡ true → entry_lines (with_sent e m) ≡ entry_lines e ++ line.Sent m ∷ []
sent_lines e m may =
    let none : map line.Note e.notes ≡ [] = ap (map line.Note) (no_notes e may) in
    let sent = map line.Sent e.messages in
    ap (λ (ls : List Line). line.Event e.event ∷ ls ++ map line.Note e.notes) (map-append line.Sent e.messages (m ∷ []))
    ∙ ap (λ (ls : List Line). line.Event e.event ∷ (sent ++ line.Sent m ∷ []) ++ ls) none
    ∙ ap (λ (ls : List Line). line.Event e.event ∷ ls) (append-nil (sent ++ line.Sent m ∷ []))
    ∙ sym (ap (λ (ls : List Line). line.Event e.event ∷ (sent ++ ls) ++ line.Sent m ∷ []) none
    ∙ ap (λ (ls : List Line). line.Event e.event ∷ ls ++ line.Sent m ∷ []) (append-nil sent))

note_lines : (e : Entry) (n : NodeNote) → entry_lines (with_note e n) ≡ entry_lines e ++ line.Note n ∷ []
note_lines e n =
    let sent = map line.Sent e.messages in
    let noted = map line.Note e.notes in
    ap (λ (ls : List Line). line.Event e.event ∷ sent ++ ls) (map-append line.Note e.notes (n ∷ []))
    ∙ ap (λ (ls : List Line). line.Event e.event ∷ ls) (sym (append_assoc sent noted (line.Note n ∷ [])))

no_whole : (ls : List Line) → flat_map entry_lines [] ++ ls ≡ ls
no_whole ls = refl

-- behind other lines
behind : (setting whole : List Line) (last last_too : List Line) (l : Line) → last_too ≡ last ++ l ∷ [] →
    setting ++ (whole ++ last_too) ≡ (setting ++ (whole ++ last)) ++ l ∷ []
behind setting whole last last_too l is =
    ap (λ (ls : List Line). setting ++ (whole ++ ls)) is
    ∙ ap (λ (ls : List Line). setting ++ ls) (sym (append_assoc whole last (l ∷ [])))
    ∙ sym (append_assoc setting (whole ++ last) (l ∷ []))

-- ---- one line more

pub after_lines : (f : Front) (l : Line) (g : Front) → after f l ≡ Some g → lines_of g ≡ lines_of f ++ l ∷ []
after_lines Nothing line.Trace g e = ap lines_of (sym (some_is (Nodes []) g e))
after_lines (Nodes nodes) (line.Node x) g e =
    let is = guarded (nat_lt (length nodes) MOST_NODES && not (is_in nodes x)) (Nodes (nodes ++ x ∷ [])) g e in
    ap lines_of (sym is.same) ∙ ap (λ (ls : List Line). line.Trace ∷ ls) (map-append line.Node nodes (x ∷ []))
after_lines (Nodes nodes) (line.Founder x) g e =
    let is = guarded (is_in nodes x) (Founder nodes x) g e in
    ap lines_of (sym is.same)
after_lines (Founder nodes founder) (line.Event e) g is =
    ap lines_of (sym (some_is (Entries nodes founder [] (begun e)) g is))
    ∙ ap (λ (ls : List Line). setting_lines nodes founder ++ ls) (no_whole (line.Event e ∷ []))
after_lines (Founder nodes founder) (line.End skipped) g is =
    ap lines_of (sym (some_is (End (trace_of nodes founder [] skipped)) g is))
    ∙ ap (λ (ls : List Line). setting_lines nodes founder ++ ls) (no_whole (line.End skipped ∷ []))
after_lines (Entries nodes founder whole last) (line.Event e) g is =
    ap lines_of (sym (some_is (Entries nodes founder (whole ++ last ∷ []) (begun e)) g is))
    ∙ ap (λ (ls : List Line). setting_lines nodes founder ++ (ls ++ line.Event e ∷ [])) (whole_lines whole last)
    ∙ sym (append_assoc (setting_lines nodes founder) (flat_map entry_lines whole ++ entry_lines last) (line.Event e ∷ []))
after_lines (Entries nodes founder whole last) (line.Sent m) g is =
    let one = guarded (may_send last) (Entries nodes founder whole (with_sent last m)) g is in
    ap lines_of (sym one.same)
    ∙ behind (setting_lines nodes founder) (flat_map entry_lines whole) (entry_lines last) (entry_lines (with_sent last m)) (line.Sent m)
    (sent_lines last m one.passed)
after_lines (Entries nodes founder whole last) (line.Note n) g is =
    ap lines_of (sym (some_is (Entries nodes founder whole (with_note last n)) g is))
    ∙ behind (setting_lines nodes founder) (flat_map entry_lines whole) (entry_lines last) (entry_lines (with_note last n)) (line.Note n) (note_lines last n)
after_lines (Entries nodes founder whole last) (line.End skipped) g is =
    ap lines_of (sym (some_is (End (trace_of nodes founder (whole ++ last ∷ []) skipped)) g is))
    ∙ ap (λ (ls : List Line). setting_lines nodes founder ++ (ls ++ line.End skipped ∷ [])) (whole_lines whole last)
    ∙ sym (append_assoc (setting_lines nodes founder) (flat_map entry_lines whole ++ entry_lines last) (line.End skipped ∷ []))
after_lines f l g e = absurd cc

-- ---- it keeps what fronts keep

pub or_false_parts : (a b : Bool) → not (a || b) ≡ true → (a ≡ false) × (not b ≡ true)
or_false_parts true b h = cc
or_false_parts false b h = (refl, h)

apart_push : (xs : List ℕ) (y x : ℕ) → not (is_in xs y) ≡ true → eqb x y ≡ false → not (is_in (xs ++ x ∷ []) y) ≡ true
apart_push [] y x apart other = rw other refl
apart_push (z ∷ zs) y x apart other =
    let parts = or_false_parts (eqb z y) (is_in zs y) apart in
    let first = parts.0 in
    rw first (apart_push zs y x parts.1 other)

differ_push : (xs : List ℕ) (x : ℕ) → all_differ xs ≡ true → not (is_in xs x) ≡ true → all_differ (xs ++ x ∷ []) ≡ true
differ_push [] x differ apart = refl
differ_push (z ∷ zs) x differ apart =
    let here = and_parts (not (is_in zs z)) (all_differ zs) differ in
    let parts = or_false_parts (eqb z x) (is_in zs x) apart in
    let other : eqb x z ≡ false = ne_eqb x z (λ same. eqb-false z x parts.0 (sym same)) in
    and_from (not (is_in (zs ++ x ∷ []) z)) (all_differ (zs ++ x ∷ [])) (apart_push zs z x here.0 other) (differ_push zs x here.1 parts.1)

pub after_keeps : (f : Front) (l : Line) (g : Front) → KeepsSetting f → after f l ≡ Some g → KeepsSetting g
after_keeps Nothing line.Trace g keeps e = subst KeepsSetting (some_is (Nodes []) g e) (record { few = omega arith; differ = refl })
after_keeps (Nodes nodes) (line.Node x) g keeps e =
    let is = guarded (nat_lt (length nodes) MOST_NODES && not (is_in nodes x)) (Nodes (nodes ++ x ∷ [])) g e in
    let parts = and_parts (nat_lt (length nodes) MOST_NODES) (not (is_in nodes x)) is.passed in
    subst KeepsSetting is.same (record {
      few = omega (arith, ltb-true (length nodes) MOST_NODES parts.0, length-append nodes (x ∷ []));
      differ = differ_push nodes x keeps.differ parts.1;
    })
after_keeps (Nodes nodes) (line.Founder x) g keeps e =
    let is = guarded (is_in nodes x) (Founder nodes x) g e in
    subst KeepsSetting is.same (record { nodes_are = keeps; member = is.passed })
after_keeps (Founder nodes founder) (line.Event e) g keeps is = subst KeepsSetting (some_is (Entries nodes founder [] (begun e)) g is) keeps
after_keeps (Founder nodes founder) (line.End skipped) g keeps is = subst KeepsSetting (some_is (End (trace_of nodes founder [] skipped)) g is) keeps
after_keeps (Entries nodes founder whole last) (line.Event e) g keeps is =
    subst KeepsSetting (some_is (Entries nodes founder (whole ++ last ∷ []) (begun e)) g is) keeps
after_keeps (Entries nodes founder whole last) (line.Sent m) g keeps is =
    subst KeepsSetting (guarded (may_send last) (Entries nodes founder whole (with_sent last m)) g is).same keeps
after_keeps (Entries nodes founder whole last) (line.Note n) g keeps is =
    subst KeepsSetting (some_is (Entries nodes founder whole (with_note last n)) g is) keeps
after_keeps (Entries nodes founder whole last) (line.End skipped) g keeps is =
    subst KeepsSetting (some_is (End (trace_of nodes founder (whole ++ last ∷ []) skipped)) g is) keeps
after_keeps f l g keeps e = absurd cc
