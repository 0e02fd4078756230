-- What a change makes exactly it makes, and a node that has what it makes stands for the state.
use Rattle.std.proofs.Common.{◌≡◌, IfOk, Ok, Err, refl, ap, ◌∙◌, subst}
use Rattle.std.specs.Prelude.{Result}
use Rattle.ring_math.specs.declared.memory.OutOfMemory.{OutOfMemory}
use Rattle.overlay_rules.specs.Outcome.{Outcome}
use Rattle.overlay_rules.specs.State.{State}
use Rattle.node_parts.specs.declared.change.Change.{Change}
use Rattle.node_parts.specs.declared.change.Prepared.{Prepared}
use Rattle.node_parts.specs.declared.node.Node.{Node}
use Rattle.node_parts.specs.Change.{changed}
use Rattle.node_parts.specs.Makes.{Makes}
use Rattle.node_parts.specs.Plans.{Plans, Prepares}
use Rattle.node_parts.specs.Seen.{seen, Keeps, Stands}
use Rattle.node_parts.specs.Sound.{IsSound}

pub makes : (c : Change) (s t : State) → changed c s ≡ t → Makes c s t
makes c s t e = subst (Makes c s) e (record { same = refl; known = λ k me st. st })

pub prepares : (s : State) (p : Prepared) (o : Outcome) → Plans s p o → Prepares s p o
prepares s p o plans = record { state = makes p.change s o.state plans.state; messages = plans.messages; notes = plans.notes }

-- what is prepared, if it is
pub all-prepared : (s : State) (r : Result Prepared OutOfMemory) (o : Outcome) → IfOk r (λ p. Plans s p o) → IfOk r (λ p. Prepares s p o)
all-prepared s (Ok p) o plans = prepares s p o plans
all-prepared s (Err e) o plans = tt

-- what a node stands for it keeps
pub keeps : (n : Node) (s : State) → Stands n s → Keeps n s
keeps n s st = record { knows = st.shows.keeps; same = st.same }

-- a node that keeps what a change makes of a state stands for each state that the change makes, if that is sound
pub stands-made : (n : Node) (c : Change) (s t : State) → n.known.leafs.me ≡ s.me → Keeps n (changed c s) → Makes c s t → IsSound t → Stands n t
stands-made n c s t me kept made sound =
    let same : t ≡ seen n t.known = made.same ∙ ap (λ (u : State). record u { known = t.known }) kept.same in
    record {
      shows = record { keeps = made.known n.known me kept.knows; sound = subst IsSound same sound };
      same = same;
    }
