use Rattle.std.proofs.Common.{◌≡◌, ℕ, List, Some, IfOk, sym, ap, ◌∙◌, subst}
use Rattle.overlay_rules.specs.State.{State}
use Rattle.overlay_rules.specs.Outcome.{Outcome, nothing}
use Rattle.node_parts.specs.Seen.{seen}
use Rattle.node_parts.specs.Plans.{Plans}
use Rattle.ring_math.specs.declared.file.Held.{Held}
use Rattle.ring_math.specs.Files.{with_slot}
use Rattle.overlay_rules.specs.Replicas.{holding}
use Rattle.overlay_rules.specs.ReadyTest.{readied}
use Rattle.node_parts.specs.Change.{set_in}
use Rattle.node_core.proofs.Rows.{ready-incomplete, ready-complete, ready-other}
use Rattle.node_core.proofs.Storing.{set-room}
use Rattle.node_core.proofs.joins.finishing.ready_with_file.Goals as goal

pub returns-then-not-is_complete_with : goal.returns-then-not-is_complete_with
returns-then-not-is_complete_with c = λ known h.
    let s : State = seen c.args.node.now known in
    let t : State = holding s c.args.file.now c.args.bytes.now in
    let files : set_in s.files c.args.file.now (Some c.in_ok-copy.field-0) ≡ t.files =
    set-room s.files c.args.file.now (Some c.in_ok-copy.field-0) c.requires
    ∙ ap (λ (b : List ℕ). with_slot s.files c.args.file.now (Some b)) c.in_ok-copy.ensures in
    let state : ◌≡◌ {A = State} (record s { files = set_in s.files c.args.file.now (Some c.in_ok-copy.field-0) }) t =
    ap (λ (fs : List Held). record s { files = fs }) files in
    subst (λ (o : Outcome). IfOk c.keeping_file.result (λ p. Plans s p o))
    (ap (λ (u : State). nothing u) state ∙ ready-incomplete t (sym (c.is_complete_with.ensures c.args.bytes.now) ∙ c.if-not-is_complete_with.true))
    (c.keeping_file.ensures s)

pub returns-in-Leasing : goal.returns-in-Leasing
returns-in-Leasing c = λ known h.
    let s : State = seen c.args.node.now known in
    let t : State = holding s c.args.file.now c.args.bytes.now in
    let files : set_in s.files c.args.file.now (Some c.in_ok-copy.field-0) ≡ t.files =
    set-room s.files c.args.file.now (Some c.in_ok-copy.field-0) c.requires
    ∙ ap (λ (b : List ℕ). with_slot s.files c.args.file.now (Some b)) c.in_ok-copy.ensures in
    let state : ◌≡◌ {A = State} (record s { files = set_in s.files c.args.file.now (Some c.in_ok-copy.field-0) }) t =
    ap (λ (fs : List Held). record s { files = fs }) files in
    subst (λ (o : Outcome). IfOk c.readied.result (λ p. Plans s p o))
    (ap (λ (u : State). readied u c.get.result c.in-Leasing.number c.in-Leasing.left c.in-Leasing.right) state
    ∙ ap (λ a. readied t a c.in-Leasing.number c.in-Leasing.left c.in-Leasing.right) c.get.ensures.value
    ∙ ready-complete t c.in-Leasing.attempt c.in-Leasing.number c.in-Leasing.left c.in-Leasing.right c.in-Leasing.from_left c.in-Leasing.from_right
    (sym c.in-Leasing.is ∙ c.joiner.ensures) (sym (c.is_complete_with.ensures c.args.bytes.now) ∙ c.if-not-is_complete_with.false))
    (c.readied.ensures known h)

pub returns-in_default : goal.returns-in_default
returns-in_default c = λ known h.
    let s : State = seen c.args.node.now known in
    let t : State = holding s c.args.file.now c.args.bytes.now in
    let files : set_in s.files c.args.file.now (Some c.in_ok-copy.field-0) ≡ t.files =
    set-room s.files c.args.file.now (Some c.in_ok-copy.field-0) c.requires
    ∙ ap (λ (b : List ℕ). with_slot s.files c.args.file.now (Some b)) c.in_ok-copy.ensures in
    let state : ◌≡◌ {A = State} (record s { files = set_in s.files c.args.file.now (Some c.in_ok-copy.field-0) }) t =
    ap (λ (fs : List Held). record s { files = fs }) files in
    subst (λ (o : Outcome). IfOk c.keeping_file-in_default.result (λ p. Plans s p o))
    (ap (λ (u : State). nothing u) state ∙ ready-other t (λ a n l r x y e. c.in_default.not-Leasing a n l r x y (c.joiner.ensures ∙ e)))
    (c.keeping_file-in_default.ensures s)
