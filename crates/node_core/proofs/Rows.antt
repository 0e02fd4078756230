-- The rows of joins, by what the calls of the node's joiner answer and by its links.
use Rattle.std.proofs.Common.{◌≡◌, ℕ, Bool, true, false, ◌&&◌, ◌==◌, if◌then◌else◌, Option, Some, None, List, [], ◌∷◌, refl, sym, ap, ◌∙◌}
use Rattle.ring_math.specs.Sides.{learn, learn_all, leaves}
use Rattle.ring_math.specs.declared.file.Held.{Held}
use Rattle.ring_math.specs.Files.{buried_all}
use Rattle.coverage.specs.GapFiles.{Lists}
use Rattle.wire_msg.specs.declared.reply.Why.{Why}
use Rattle.wire_msg.specs.declared.reply.Why.TheVariants as why
use Rattle.overlay_rules.specs.declared.gate.Gate.{Gate}
use Rattle.overlay_rules.specs.State.{State, Phase, Lease}
use Rattle.overlay_rules.specs.State as phase
use Rattle.overlay_rules.specs.Outcome.{nothing, becomes, sent}
use Rattle.overlay_rules.specs.Routed.{members}
use Rattle.wire_msg.specs.Words.{ProbeReply}
use Rattle.overlay_rules.specs.Joining.{on_join, on_give_up, on_join_refuse, on_join_reply, on_probe_reply, on_deny, on_grant, learnt_of, first_left}
use Rattle.overlay_rules.specs.Joining.{first_right, kept_first, with_grant}
use Rattle.overlay_rules.specs.ReadyTest.{ready_test, ready_test_in, readied}
use Rattle.overlay_rules.specs.Gates.{verdict}
use Rattle.overlay_rules.specs.Gatekeeper.{lease_in, lease_by, deny, links_of, confirm_in, probe_in}
use Rattle.join_core.proofs.Rows.{begin_row, give_up_row, refuse_row, deny_row, reply_row, probe_reply_row, grant_row}
use Rattle.join_core.specs.declared.joiner.Joiner.{Joiner}
use Rattle.join_core.specs.declared.joiner.Joiner.TheVariants.{Leasing}
use Rattle.join_core.specs.declared.steps.Begin.{Begin}
use Rattle.join_core.specs.declared.steps.GrantStep.{GrantStep}
use Rattle.join_core.specs.declared.steps.Halted.{Halted}
use Rattle.join_core.specs.declared.steps.ProbeStep.{ProbeStep}
use Rattle.join_core.specs.declared.steps.Finished.{Finished}
use Rattle.join_core.specs.Joining.{joiner_of, begin_of, attempt_of}
use Rattle.join_core.specs.Probes.{reply_of, probe_step_of}
use Rattle.join_core.specs.Leases.{grant_step_of}
use Rattle.join_core.specs.Ends.{refused_of, denied_of, given_up_of}
use Rattle.join_core.specs.Outcomes.{begun_by, replied_by, probed_by, granted_by, ended_by, given_up_by, noted_in}
use Rattle.replica_handover.specs.Taken.{Taken, kept_or, is_done, is_complete}
use Rattle.node_parts.specs.Seats.{links_in, left_lists, right_lists, taken_of, granted_phase}
use Rattle.node_core.specs.Pledged.{noted_at}

-- ---- by the joiner's answers

pub began : (s : State) (n via : ℕ) (j : Joiner) (b : Begin) → j ≡ joiner_of s.phase → b ≡ begin_of j → begun_by s n via b ≡ on_join s n via
began s n via j b e f = ap (begun_by s n via) (f ∙ ap begin_of e) ∙ sym (begin_row s n via s.phase)

pub gave_up : (s : State) (n : ℕ) (j : Joiner) (h : Option Halted) → j ≡ joiner_of s.phase → h ≡ given_up_of j → given_up_by s n h ≡ on_give_up s n
gave_up s n j h e f = ap (given_up_by s n) (f ∙ ap given_up_of e) ∙ sym (give_up_row s n s.phase)

pub was_refused : (s : State) (from a : ℕ) (w : Why) (j : Joiner) (h : Option Halted) → j ≡ joiner_of s.phase → h ≡ refused_of j a →
    ended_by s s.known from w h ≡ on_join_refuse s from a w
was_refused s from a w j h e f =
    ap (ended_by s s.known from w) (f ∙ ap (λ z. refused_of z a) e) ∙ sym (refuse_row s from a w s.phase)

pub was_denied : (s : State) (from a : ℕ) (w : Why) (j : Joiner) (h : Option Halted) → j ≡ joiner_of s.phase → h ≡ denied_of j a →
    ended_by s (learnt_of s w) from w h ≡ on_deny s from a w
was_denied s from a w j h e f =
    ap (ended_by s (learnt_of s w) from w) (f ∙ ap (λ z. denied_of z a) e) ∙ sym (deny_row s from a w s.phase)

pub was_replied : (s : State) (a : ℕ) (heard : List ℕ) (j : Joiner) (leafs : List ℕ) (x : Option (List ℕ)) → j ≡ joiner_of s.phase →
    leafs ≡ leaves s.me (learn_all s.me s.known heard) → x ≡ reply_of j a leafs →
    replied_by s (learn_all s.me s.known heard) j x ≡ on_join_reply s a heard
was_replied s a heard j leafs x e l f =
    let k = learn_all s.me s.known heard in
    ap (λ z. replied_by s k z x) e
    ∙ ap (replied_by s k (joiner_of s.phase)) (f ∙ ap (λ z. reply_of z a leafs) e ∙ ap (reply_of (joiner_of s.phase) a) l)
    ∙ sym (reply_row s a k s.phase)

pub was_probed : (s : State) (from a : ℕ) (heard : List ℕ) (j : Joiner) (leafs : List ℕ) (l r : ℕ) (x : ProbeStep) → j ≡ joiner_of s.phase →
    leafs ≡ leaves s.me (learn_all s.me s.known heard) → l ≡ first_left s (learn_all s.me s.known heard) →
    r ≡ first_right s (learn_all s.me s.known heard) → x ≡ probe_step_of j from a leafs l r →
    probed_by s from (learn_all s.me s.known heard) j x ≡ on_probe_reply s from a heard
was_probed s from a heard j leafs l r x e m p q f =
    let k = learn_all s.me s.known heard in
    let now = joiner_of s.phase in
    ap (λ z. probed_by s from k z x) e
    ∙ ap (probed_by s from k now)
    (f ∙ ap (λ z. probe_step_of z from a leafs l r) e ∙ ap (λ z. probe_step_of now from a z l r) m
    ∙ ap (λ z. probe_step_of now from a (leaves s.me k) z r) p ∙ ap (λ z. probe_step_of now from a (leaves s.me k) (first_left s k) z) q)
    ∙ sym (probe_reply_row s from a k s.phase)

pub was_granted : (s : State) (from a : ℕ) (lists : Lists) (j : Joiner) (step : GrantStep) → j ≡ joiner_of s.phase → step ≡ grant_step_of j from a →
    granted_by s from a lists s.phase step ≡ on_grant s from a lists
was_granted s from a lists j step e f =
    ap (granted_by s from a lists s.phase) (f ∙ ap (λ z. grant_step_of z from a) e) ∙ sym (grant_row s from a lists s.phase)

-- ---- the ready test

-- by what came from each side
pub ready-by : (t : State) (a n l r : ℕ) (x y : Option Lists) →
    ready_test_in t (phase.Leasing a n l r x y) ≡ (if is_done t.files x && is_done t.files y then readied t a n l r else nothing t)
ready-by t a n l r None y = refl
ready-by t a n l r (Some x) None = by_first (is_done t.files (Some x)) where
  by_first : (b : Bool) → nothing t ≡ (if b && false then readied t a n l r else nothing t)
  by_first true = refl
  by_first false = refl
ready-by t a n l r (Some x) (Some y) = refl

-- a phase in which leases are asked for has its lists
pub leasing-is : (p : Phase) (a n l r : ℕ) (x y : Bool) → Leasing a n l r x y ≡ joiner_of p → p ≡ phase.Leasing a n l r (left_lists p) (right_lists p)
leasing-is (phase.Leasing b m u v fl fr) a n l r x y e = cc
leasing-is (phase.Waiting b) a n l r x y e = cc
leasing-is (phase.Asking b m) a n l r x y e = cc
leasing-is (phase.Probing b m probed) a n l r x y e = cc
leasing-is (phase.Ready b u v) a n l r x y e = cc

pub ready-at : (t : State) (a n l r : ℕ) → t.phase ≡ phase.Leasing a n l r (left_lists t.phase) (right_lists t.phase) →
    ready_test t ≡ (if is_complete t.files (taken_of t.phase) then readied t a n l r else nothing t)
ready-at t a n l r e = ap (ready_test_in t) e ∙ ready-by t a n l r (left_lists t.phase) (right_lists t.phase)

-- nothing is complete where no leases are asked for
pub ready-incomplete : (t : State) → is_complete t.files (taken_of t.phase) ≡ false → nothing t ≡ ready_test t
ready-incomplete t e = by_phase t.phase e where
  by_phase : (p : Phase) → is_complete t.files (taken_of p) ≡ false → nothing t ≡ ready_test_in t p
  by_phase (phase.Leasing a n l r x y) f = sym (ready-by t a n l r x y ∙ ap (λ (b : Bool). if b then readied t a n l r else nothing t) f)
  by_phase (phase.Waiting b) f = refl
  by_phase (phase.Asking b m) f = refl
  by_phase (phase.Probing b m probed) f = refl
  by_phase (phase.Ready b u v) f = refl

pub ready-complete : (t : State) (a n l r : ℕ) (x y : Bool) → Leasing a n l r x y ≡ joiner_of t.phase → is_complete t.files (taken_of t.phase) ≡ true →
    readied t a n l r ≡ ready_test t
ready-complete t a n l r x y e f =
    sym (ready-at t a n l r (leasing-is t.phase a n l r x y e) ∙ ap (λ (b : Bool). if b then readied t a n l r else nothing t) f)

-- where no leases are asked for the test does nothing
pub ready-other : (t : State) → ((a n l r : ℕ) (x y : Bool) → joiner_of t.phase ≡ Leasing a n l r x y → ⊥) → nothing t ≡ ready_test t
ready-other t h = by_phase t.phase h where
  by_phase : (p : Phase) → ((a n l r : ℕ) (x y : Bool) → joiner_of p ≡ Leasing a n l r x y → ⊥) → nothing t ≡ ready_test_in t p
  by_phase (phase.Leasing a n l r x y) k = absurd (k a n l r _ _ refl)
  by_phase (phase.Waiting b) k = refl
  by_phase (phase.Asking b m) k = refl
  by_phase (phase.Probing b m probed) k = refl
  by_phase (phase.Ready b u v) k = refl

-- ---- a grant

pub kept-first : (b : Bool) (old : Option Lists) (new : Lists) → kept_or old (if b then Some new else None) ≡ kept_first b old new
kept-first b (Some old) new = refl
kept-first true None new = refl
kept-first false None new = refl

pub noted-leasing : (s : State) (from : ℕ) (lists : Lists) (join : Finished) (p : Phase) →
    p ≡ phase.Leasing join.attempt join.number join.left join.right (left_lists p) (right_lists p) →
    noted_in s from lists p ≡ noted_at s from lists join (left_lists p) (right_lists p)
noted-leasing s from lists join p e = ap (noted_in s from lists) e

pub noted-other : (s : State) (from : ℕ) (lists : Lists) (p : Phase) → ((a n l r : ℕ) (x y : Bool) → joiner_of p ≡ Leasing a n l r x y → ⊥) →
    nothing s ≡ noted_in s from lists p
noted-other s from lists (phase.Leasing a n l r x y) k = absurd (k a n l r _ _ refl)
noted-other s from lists (phase.Waiting b) k = refl
noted-other s from lists (phase.Asking b m) k = refl
noted-other s from lists (phase.Probing b m probed) k = refl
noted-other s from lists (phase.Ready b u v) k = refl

-- ---- by the links

pub lease-ready : (s : State) (g : Gate) (x y : ℕ) → Some (x, y) ≡ links_in s.phase →
    lease_by s x y g (verdict (links_of s x y) s.me g) ≡ lease_in s g s.phase
lease-ready s g x y e = by_phase s.phase e where
  by_phase : (p : Phase) → Some (x, y) ≡ links_in p → lease_by s x y g (verdict (links_of s x y) s.me g) ≡ lease_in s g p
  by_phase (phase.Ready b u v) f =
      let both : (x, y) ≡ (u, v) = cc in
      let p : x ≡ u = ap (λ (z : ℕ × ℕ). z.0) both in
      let q : y ≡ v = ap (λ (z : ℕ × ℕ). z.1) both in
      rw (p, q) refl
  by_phase (phase.Waiting b) f = cc
  by_phase (phase.Asking b m) f = cc
  by_phase (phase.Probing b m probed) f = cc
  by_phase (phase.Leasing b m u v fl fr) f = cc

pub lease-unready : (s : State) (g : Gate) → None ≡ links_in s.phase → deny s g.joiner g.attempt why.NotReady ≡ lease_in s g s.phase
lease-unready s g e = by_phase s.phase e where
  by_phase : (p : Phase) → None ≡ links_in p → deny s g.joiner g.attempt why.NotReady ≡ lease_in s g p
  by_phase (phase.Ready b u v) f = cc
  by_phase (phase.Waiting b) f = refl
  by_phase (phase.Asking b m) f = refl
  by_phase (phase.Probing b m probed) f = refl
  by_phase (phase.Leasing b m u v fl fr) f = refl

pub confirm-unready : (s : State) (from a : ℕ) → None ≡ links_in s.phase → nothing s ≡ confirm_in s from a s.phase
confirm-unready s from a e = by_phase s.phase e where
  by_phase : (p : Phase) → None ≡ links_in p → nothing s ≡ confirm_in s from a p
  by_phase (phase.Ready b u v) f = cc
  by_phase (phase.Waiting b) f = refl
  by_phase (phase.Asking b m) f = refl
  by_phase (phase.Probing b m probed) f = refl
  by_phase (phase.Leasing b m u v fl fr) f = refl

-- a phase with links is Ready
pub ready-is : (p : Phase) (x y : ℕ) → Some (x, y) ≡ links_in p → p ≡ phase.Ready (phase.attempt_of p) x y
ready-is (phase.Ready b u v) x y e =
    let both : (x, y) ≡ (u, v) = cc in
    sym (ap (λ (z : ℕ × ℕ). phase.Ready b z.0 z.1) both)
ready-is (phase.Waiting b) x y e = cc
ready-is (phase.Asking b m) x y e = cc
ready-is (phase.Probing b m probed) x y e = cc
ready-is (phase.Leasing b m u v fl fr) x y e = cc

pub probe-unready : (s : State) (from a : ℕ) (p : Phase) → phase.is_ready p ≡ false → nothing s ≡ probe_in s from a p
probe-unready s from a (phase.Ready b u v) e = cc
probe-unready s from a (phase.Waiting b) e = refl
probe-unready s from a (phase.Asking b m) e = refl
probe-unready s from a (phase.Probing b m probed) e = refl
probe-unready s from a (phase.Leasing b m u v fl fr) e = refl

pub probe-ready : (s : State) (from a : ℕ) (p : Phase) → phase.is_ready p ≡ true →
    becomes s (sent from (ProbeReply a (members s)) ∷ []) [] ≡ probe_in s from a p
probe-ready s from a (phase.Ready b u v) e = refl
probe-ready s from a (phase.Waiting b) e = cc
probe-ready s from a (phase.Asking b m) e = cc
probe-ready s from a (phase.Probing b m probed) e = cc
probe-ready s from a (phase.Leasing b m u v fl fr) e = cc

-- a joiner's attempt is that of its phase
pub attempt-is : (p : Phase) → attempt_of (joiner_of p) ≡ phase.attempt_of p
attempt-is (phase.Ready b u v) = refl
attempt-is (phase.Waiting b) = refl
attempt-is (phase.Asking b m) = refl
attempt-is (phase.Probing b m probed) = refl
attempt-is (phase.Leasing b m u v fl fr) = refl

-- the state once a joiner was learnt that takes a side, part by part
pub by_parts : (s : State) (from a b x l y r : ℕ) (g h i j : Option Lease) → a ≡ b → x ≡ l → y ≡ r → g ≡ h → i ≡ j →
    ◌≡◌ {A = State} (record s { phase = phase.Ready a x y; left_gate = g; right_gate = i; known = learn s.me s.known from })
    (record s { phase = phase.Ready b l r; left_gate = h; right_gate = j; known = learn s.me s.known from })
by_parts s from a b x l y r g h i j e f k m n = rw (e, f, k, m, n) refl

-- the state once a grant was kept
pub keeping-state : (s : State) (from : ℕ) (lists : Lists) (join : Finished) (from_left from_right left right : Option Lists) (given : Taken)
    (files : List Held) →
    s.phase ≡ phase.Leasing join.attempt join.number join.left join.right from_left from_right →
    left ≡ (if from == join.left then Some lists else None) → right ≡ (if from == join.right then Some lists else None) →
    given ≡ record { left = left; right = right } → files ≡ buried_all s.files lists.tombs →
    ◌≡◌ {A = State} (record s { phase = granted_phase given s.phase; files = files })
    (with_grant s from lists (phase.Leasing join.attempt join.number join.left join.right from_left from_right))
keeping-state s from lists join from_left from_right left right given files e f g t h =
    ap (λ (p : Phase). record s { phase = granted_phase given p; files = files }) e
    ∙ ap (λ (x : Taken). record s { phase = leased (kept_or from_left x.left) (kept_or from_right x.right); files = files }) t
    ∙ ap (λ (x : Option Lists). record s { phase = leased (kept_or from_left x) (kept_or from_right right); files = files }) f
    ∙ ap (λ (x : Option Lists). record s { phase = leased x (kept_or from_right right); files = files }) (kept-first (from == join.left) from_left lists)
    ∙ ap (λ (x : Option Lists). record s { phase = leased (kept_first (from == join.left) from_left lists) (kept_or from_right x); files = files }) g
    ∙ ap (λ (x : Option Lists). record s { phase = leased (kept_first (from == join.left) from_left lists) x; files = files })
    (kept-first (from == join.right) from_right lists)
    ∙ ap (λ (x : List Held). record s {
      phase = leased (kept_first (from == join.left) from_left lists) (kept_first (from == join.right) from_right lists);
      files = x;
    }) h where
      leased : Option Lists → Option Lists → Phase
      leased x y = phase.Leasing join.attempt join.number join.left join.right x y
