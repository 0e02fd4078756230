-- Each row of a joiner is what its call answers: by cases on the phase, and on the tests of the row.
use Rattle.std.proofs.Common.{◌≡◌, ℕ, Bool, true, false, ◌&&◌, ◌||◌, ◌==◌, nat_lt, if◌then◌else◌, Option, Some, None, is_none, is_some, List, [], ◌∷◌, refl}
use Rattle.std.proofs.Common.{◌∙◌, ap, arith}
use Rattle.std.specs.List.{list_any}
use Rattle.std.proofs.lemmas.Bool.Decides.{nat_tests}
use Rattle.ring_math.specs.Sides.{leaves}
use Rattle.join_core.specs.declared.steps.GrantStep.{GrantStep}
use Rattle.coverage.specs.GapFiles.{Lists}
use Rattle.wire_msg.specs.declared.limits.TheConstants.{LAST_ATTEMPT}
use Rattle.wire_msg.specs.declared.reply.Why.{Why}
use Rattle.overlay_rules.specs.Joining.{join_in, give_up_in, refuse_in, join_reply_in, probing, probe_reply_in, first_left, first_right, learnt_of, deny_in}
use Rattle.overlay_rules.specs.Joining.{grant_in, older_grant, kept_first, with_grant, is_unanswered}
use Rattle.overlay_rules.specs.Outcome.{Outcome, nothing}
use Rattle.overlay_rules.specs.ReadyTest.{ready_test_in}
use Rattle.overlay_rules.specs.State.{State, Phase}
use Rattle.overlay_rules.specs.State as phase
use Rattle.join_core.specs.declared.joiner.Joiner.TheVariants.{Asking, Probing}
use Rattle.join_core.specs.declared.steps.Begin.TheVariants as begin
use Rattle.join_core.specs.declared.steps.GrantStep.TheVariants as grant
use Rattle.join_core.specs.declared.steps.ProbeStep.TheVariants as probe
use Rattle.join_core.specs.Joining.{joiner_of, begin_of}
use Rattle.join_core.specs.Probes.{reply_of, unless_empty, probe_step_of, step_with, new_of, are_answered, probed_with}
use Rattle.join_core.specs.Leases.{grant_step_of, marked, finished_of}
use Rattle.join_core.specs.Ends.{halt, refused_of, denied_of, given_up_of}
use Rattle.join_core.specs.Outcomes.{begun_by, replied_by, probed_by, granted_by, finished_by, ended_by, given_up_by}

-- a choice of what a function is given is a choice of what it gives
by_test : {A B : Type 0} (f : A → B) (b : Bool) (x y : A) → (if b then f x else f y) ≡ f (if b then x else y)
by_test f true x y = refl
by_test f false x y = refl

pub begin_row : (s : State) (number via : ℕ) (p : Phase) → join_in s number via p ≡ begun_by s number via (begin_of (joiner_of p))
begin_row s number via (phase.Waiting a) = by_test (begun_by s number via) (a == LAST_ATTEMPT) begin.Spent (begin.Started a)
begin_row s number via (phase.Asking a n) = refl
begin_row s number via (phase.Probing a n probed) = refl
begin_row s number via (phase.Leasing a n l r from_left from_right) = refl
begin_row s number via (phase.Ready a l r) = refl

each_probed : (s : State) (a m : ℕ) (known leafs : List ℕ) → probing s a m known leafs ≡ replied_by s known (Asking a m) (unless_empty leafs)
each_probed s a m known [] = refl
each_probed s a m known (y ∷ ys) = refl

pub reply_row : (s : State) (a : ℕ) (known : List ℕ) (p : Phase) →
    join_reply_in s a known p ≡ replied_by s known (joiner_of p) (reply_of (joiner_of p) a (leaves s.me known))
reply_row s a known (phase.Asking b m) =
    ap (λ o. if a == b then o else nothing s) (each_probed s b m known (leaves s.me known))
    ∙ by_test (replied_by s known (Asking b m)) (a == b) (unless_empty (leaves s.me known)) None
reply_row s a known (phase.Waiting b) = refl
reply_row s a known (phase.Probing b m probed) = refl
reply_row s a known (phase.Leasing b m l r from_left from_right) = refl
reply_row s a known (phase.Ready b l r) = refl

pub probe_reply_row : (s : State) (from a : ℕ) (known : List ℕ) (p : Phase) →
    probe_reply_in s from a known p
    ≡ probed_by s from known (joiner_of p) (probe_step_of (joiner_of p) from a (leaves s.me known) (first_left s known) (first_right s known))
probe_reply_row s from a known (phase.Probing b m probed) =
    let step = probed_by s from known (Probing b m probed) in
    let new = new_of probed (leaves s.me known) in
    let asked = probe.Lease b (first_left s known) (first_right s known) in
    ap (λ o. if (a == b) && list_any (is_unanswered from) probed then o else nothing s)
    (by_test step (are_answered (probed_with probed from new)) asked (probe.Probe new))
    ∙ by_test step ((a == b) && list_any (is_unanswered from) probed)
    (step_with b probed from new (first_left s known) (first_right s known)) probe.Dropped
probe_reply_row s from a known (phase.Waiting b) = refl
probe_reply_row s from a known (phase.Asking b m) = refl
probe_reply_row s from a known (phase.Leasing b m l r from_left from_right) = refl
probe_reply_row s from a known (phase.Ready b l r) = refl

older_row : (s : State) (from a b : ℕ) (lists : Lists) (p : Phase) →
    older_grant s from a b ≡ granted_by s from a lists p (if nat_lt a b then grant.Older else grant.Dropped)
older_row s from a b lists p = by_test (granted_by s from a lists p) (nat_lt a b) grant.Older grant.Dropped

-- an attempt is not below itself
timely : {A : Type 0} (a b : ℕ) (x y z : A) → (if a == b then x else (if nat_lt a b then y else z)) ≡ (if nat_lt a b then y else (if a == b then x else z))
timely a b x y z = by_both (a == b) (nat_lt a b) (grind (arith, nat_tests)) where
  by_both : (same below : Bool) → (same ≡ true → below ≡ false) →
      (if same then x else (if below then y else z)) ≡ (if below then y else (if same then x else z))
  by_both true true apart = let never = apart refl in cc
  by_both true false apart = refl
  by_both false true apart = refl
  by_both false false apart = refl

-- who is no neighbour has no side to keep lists on
no_side : {A : Type 0} (on_left on_right no_left no_right : Bool) (x y : A) →
    (if (on_left && no_left) || (on_right && no_right) then x else y)
    ≡ (if on_left || on_right then (if (on_left && no_left) || (on_right && no_right) then x else y) else y)
no_side true on_right no_left no_right x y = refl
no_side false true no_left no_right x y = refl
no_side false false no_left no_right x y = refl

both_tests : {A : Type 0} (b c : Bool) (x y : A) → (if b then (if c then x else y) else y) ≡ (if b && c then x else y)
both_tests true c x y = refl
both_tests false c x y = refl

pub refuse_row : (s : State) (from a : ℕ) (w : Why) (p : Phase) → refuse_in s from a w p ≡ ended_by s s.known from w (refused_of (joiner_of p) a)
refuse_row s from a w (phase.Asking b m) = by_test (ended_by s s.known from w) (a == b) (Some (halt b m None)) None
refuse_row s from a w (phase.Waiting b) = refl
refuse_row s from a w (phase.Probing b m probed) = refl
refuse_row s from a w (phase.Leasing b m l r from_left from_right) = refl
refuse_row s from a w (phase.Ready b l r) = refl

pub deny_row : (s : State) (from a : ℕ) (w : Why) (p : Phase) → deny_in s from a w p ≡ ended_by s (learnt_of s w) from w (denied_of (joiner_of p) a)
deny_row s from a w (phase.Leasing b m l r from_left from_right) =
    by_test (ended_by s (learnt_of s w) from w) (a == b) (Some (halt b m (Some (l, r)))) None
deny_row s from a w (phase.Waiting b) = refl
deny_row s from a w (phase.Asking b m) = refl
deny_row s from a w (phase.Probing b m probed) = refl
deny_row s from a w (phase.Ready b l r) = refl

pub give_up_row : (s : State) (n : ℕ) (p : Phase) → give_up_in s n p ≡ given_up_by s n (given_up_of (joiner_of p))
give_up_row s n (phase.Waiting b) = refl
give_up_row s n (phase.Asking b m) = refl
give_up_row s n (phase.Probing b m probed) = refl
give_up_row s n (phase.Leasing b m l r from_left from_right) = refl
give_up_row s n (phase.Ready b l r) = refl

pub ready_row : (s : State) (p : Phase) → ready_test_in s p ≡ finished_by s p (finished_of (joiner_of p))
ready_row s (phase.Leasing a n l r (Some from_left) (Some from_right)) = refl
ready_row s (phase.Leasing a n l r (Some from_left) None) = refl
ready_row s (phase.Leasing a n l r None (Some from_right)) = refl
ready_row s (phase.Leasing a n l r None None) = refl
ready_row s (phase.Waiting a) = refl
ready_row s (phase.Asking a n) = refl
ready_row s (phase.Probing a n probed) = refl
ready_row s (phase.Ready a l r) = refl

is_some-kept : (is_side : Bool) (old : Option Lists) (new : Lists) → is_some (kept_first is_side old new) ≡ (is_some old || is_side)
is_some-kept is_side (Some old) new = refl
is_some-kept true None new = refl
is_some-kept false None new = refl

-- the marks stand for the lists that are kept
pub marks_row : (s : State) (from : ℕ) (lists : Lists) (a n l r : ℕ) (from_left from_right : Option Lists) →
    joiner_of (with_grant s from lists (phase.Leasing a n l r from_left from_right)).phase ≡ marked
    (joiner_of (phase.Leasing a n l r from_left from_right)) from
marks_row s from lists a n l r from_left from_right =
    rw (is_some-kept (from == l) from_left lists, is_some-kept (from == r) from_right lists) refl

timely_row : (s : State) (from a b : ℕ) (lists : Lists) (p : Phase) (x : Outcome) (step : GrantStep) → x ≡ granted_by s from a lists p step →
    (if a == b then x else older_grant s from a b)
    ≡ granted_by s from a lists p (if nat_lt a b then grant.Older else (if a == b then step else grant.Dropped))
timely_row s from a b lists p x step e =
    let gives = granted_by s from a lists p in
    ap (λ o. if a == b then o else older_grant s from a b) e
    ∙ timely a b (gives step) (gives grant.Older) (gives grant.Dropped)
    ∙ ap (λ o. if nat_lt a b then gives grant.Older else o) (by_test gives (a == b) step grant.Dropped)
    ∙ by_test gives (nat_lt a b) grant.Older (if a == b then step else grant.Dropped)

pub grant_row : (s : State) (from a : ℕ) (lists : Lists) (p : Phase) →
    grant_in s from a lists p ≡ granted_by s from a lists p (grant_step_of (joiner_of p) from a)
grant_row s from a lists (phase.Leasing b m l r from_left from_right) =
    let p = phase.Leasing b m l r from_left from_right in
    let side = (from == l) || (from == r) in
    timely_row s from a b lists p _ (if side then grant.Noted else grant.Dropped)
    (no_side (from == l) (from == r) (is_none from_left) (is_none from_right) _ _ ∙ by_test (granted_by s from a lists p) side grant.Noted grant.Dropped)
    ∙ ap (λ step. granted_by s from a lists p (if nat_lt a b then grant.Older else step)) (both_tests (a == b) side grant.Noted grant.Dropped)
grant_row s from a lists (phase.Ready b l r) = timely_row s from a b lists (phase.Ready b l r) _ grant.Settled refl
grant_row s from a lists (phase.Waiting b) = older_row s from a b lists (phase.Waiting b)
grant_row s from a lists (phase.Asking b m) = older_row s from a b lists (phase.Asking b m)
grant_row s from a lists (phase.Probing b m probed) = older_row s from a b lists (phase.Probing b m probed)
