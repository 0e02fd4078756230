-- An answer that is not awaited does nothing, and one after which the join only goes on is noted.
use Rattle.std.proofs.Common.{◌≡◌, ℕ, Bool, true, false, None, List, [], map, append-nil, refl, sym, ap, ◌∙◌}
use Rattle.ring_math.specs.Sides.{learn_all, leaves}
use Rattle.overlay_rules.specs.State.{State, Phase}
use Rattle.overlay_rules.specs.State as phase
use Rattle.overlay_rules.specs.Outcome.{nothing}
use Rattle.overlay_rules.specs.Joining.{on_join_reply, on_probe_reply, answered_by, first_left, first_right}
use Rattle.join_core.specs.declared.joiner.Joiner.{Joiner}
use Rattle.join_core.specs.declared.steps.ProbeStep.TheVariants.{Dropped, Probe}
use Rattle.join_core.specs.Awaited.{is_asking, is_awaited}
use Rattle.join_core.specs.Joining.{joiner_of}
use Rattle.join_core.specs.Probes.{goes_on_with}
use Rattle.join_core.specs.Outcomes.{probed_by}
use Rattle.join_core.proofs.Awaited as joiner
use Rattle.join_core.proofs.Heard.{goes-on}
use Rattle.node_parts.specs.Seats.{heard_phase}
use Rattle.node_core.specs.Asked.{heard_from}
use Rattle.node_core.proofs.Rows.{was_replied, was_probed}

pub not-asking : (s : State) (a : ℕ) (heard : List ℕ) (j : Joiner) → j ≡ joiner_of s.phase → is_asking j a ≡ false → nothing s ≡ on_join_reply s a heard
not-asking s a heard j e f =
    let k : List ℕ = learn_all s.me s.known heard in
    was_replied s a heard j (leaves s.me k) None e refl (joiner.not-asking j a (leaves s.me k) f)

pub not-awaited : (s : State) (from a : ℕ) (heard : List ℕ) (j : Joiner) → j ≡ joiner_of s.phase → is_awaited j from a ≡ false →
    nothing s ≡ on_probe_reply s from a heard
not-awaited s from a heard j e f =
    let k : List ℕ = learn_all s.me s.known heard in
    was_probed s from a heard j (leaves s.me k) (first_left s k) (first_right s k) Dropped e refl refl refl
    (joiner.not-awaited j from a (leaves s.me k) (first_left s k) (first_right s k) f)

-- one after which the join only goes on
pub only-heard : (s : State) (from a : ℕ) (heard : List ℕ) → is_awaited (joiner_of s.phase) from a ≡ true →
    goes_on_with (joiner_of s.phase) from (leaves s.me (learn_all s.me s.known heard)) ≡ true → heard_from s from heard ≡ on_probe_reply s from a heard
only-heard s from a heard awaited on =
    let k : List ℕ = learn_all s.me s.known heard in
    by_phase k (leaves s.me k) s.phase on
    ∙ was_probed s from a heard (joiner_of s.phase) (leaves s.me k) (first_left s k) (first_right s k) (Probe []) refl refl refl refl
    (goes-on (joiner_of s.phase) from a (leaves s.me k) (first_left s k) (first_right s k) awaited on) where
      by_phase : (known leafs : List ℕ) (p : Phase) → goes_on_with (joiner_of p) from leafs ≡ true →
          nothing (record s { phase = heard_phase from p; known = known }) ≡ probed_by s from known (joiner_of p) (Probe [])
      by_phase known leafs (phase.Probing b m probed) on =
          ap (λ (all : List (ℕ × Bool)). nothing (record s { phase = phase.Probing b m all; known = known })) (sym (append-nil (map (answered_by from) probed)))
      by_phase known leafs (phase.Waiting b) on = cc
      by_phase known leafs (phase.Asking b m) on = cc
      by_phase known leafs (phase.Leasing b m l r from_left from_right) on = cc
      by_phase known leafs (phase.Ready b l r) on = cc
