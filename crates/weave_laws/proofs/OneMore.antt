-- A history of a cell grows at its end, entry by entry, and is the one that its inputs give.
use Rattle.std.proofs.Common.{◌≡◌, Bool, List, [], ◌∷◌, ◌++◌, map, All, refl, ap, ◌∙◌, arith}
use Rattle.std.proofs.lemmas.List.Elements.{All-head, All-tail, All-push}
use Rattle.ring_math.specs.Names.{Id, Stamp}
use Rattle.wire_msg.specs.Words.{Envelope}
use Rattle.wire_msg.specs.declared.note.Note.{Note}
use Rattle.overlay_rules.specs.State.{State, start}
use Rattle.overlay_rules.specs.Step.{step}
use Rattle.weave_laws.specs.Cells.{CellInput, CellEntry, input_of, stamp_after, IsFor, stepped, replay, AreStampedAfter}
use Rattle.weave_laws.specs.Cells.{last_stamp, IsStep, AreSteps, IsCellHistory}
use Rattle.weave_laws.specs.Given.{entry_stamped, next_entry, history_from, history_of}
use Rattle.weave_laws.specs.Numbers.{IsNumberedAfter, NumbersRise}

-- ---- one entry more

pub replay-push : (s : State) (es : List CellEntry) (e : CellEntry) → replay s (es ++ e ∷ []) ≡ stepped (replay s es) e
replay-push s [] e = refl
replay-push s (d ∷ es) e = replay-push (stepped s d) es e

pub last_stamp-push : (last : Stamp) (es : List CellEntry) (e : CellEntry) → last_stamp last (es ++ e ∷ []) ≡ e.stamp
last_stamp-push last [] e = refl
last_stamp-push last (d ∷ es) e = last_stamp-push d.stamp es e

steps-push : (x : Id) (s : State) (es : List CellEntry) (e : CellEntry) → AreSteps x s es → IsStep x (replay s es) e → AreSteps x s (es ++ e ∷ [])
steps-push x s [] e h f = (f, tt)
steps-push x s (d ∷ es) e h f = (h.0, steps-push x (stepped s d) es e h.1 f)

stamps-push : (last : Stamp) (es : List CellEntry) (e : CellEntry) → AreStampedAfter last es →
    e.stamp ≡ stamp_after (last_stamp last es) e.input → AreStampedAfter last (es ++ e ∷ [])
stamps-push last [] e h f = (f, tt)
stamps-push last (d ∷ es) e h f = (h.0, stamps-push d.stamp es e h.1 f)

-- the entry of an input addressed to the node, as it comes next, makes a longer history of the cell
pub history-push : (x : Id) (founder : Bool) (es : List CellEntry) (i : CellInput) → IsCellHistory x founder es → IsFor x i →
    IsCellHistory x founder (es ++ next_entry x (last_stamp 0 es) (replay (start x founder) es) i ∷ [])
history-push x founder es i h f = record {
  stamps = stamps-push 0 es (next_entry x (last_stamp 0 es) (replay (start x founder) es) i) h.stamps refl;
  steps = steps-push x (start x founder) es (next_entry x (last_stamp 0 es) (replay (start x founder) es) i) h.steps
      (record { addressed = f; sent = refl; notes = refl });
}

-- a number greater than those so far
pub numbers-push : (es : List CellEntry) (e : CellEntry) → NumbersRise es → All (λ (d : CellEntry). IsNumberedAfter d.input e.input) es →
    NumbersRise (es ++ e ∷ [])
numbers-push [] e h f = (λ k d lt. absurd (omega arith), tt)
numbers-push (d ∷ es) e h f = (
  All-push (λ (c : CellEntry). IsNumberedAfter d.input c.input) es e h.0 (All-head (λ (c : CellEntry). IsNumberedAfter c.input e.input) d es f),
  numbers-push es e h.1 (All-tail (λ (c : CellEntry). IsNumberedAfter c.input e.input) d es f),
)

-- ---- the history of given inputs

stamps_given : (x : Id) (last : Stamp) (s : State) (inputs : List CellInput) → AreStampedAfter last (history_from x last s inputs)
stamps_given x last s [] = tt
stamps_given x last s (i ∷ inputs) = (refl, stamps_given x (stamp_after last i) (step s (input_of i)).state inputs)

steps_given : (x : Id) (last : Stamp) (s : State) (inputs : List CellInput) → All (IsFor x) inputs → AreSteps x s (history_from x last s inputs)
steps_given x last s [] h = tt
steps_given x last s (i ∷ inputs) h = (
  record { addressed = All-head (IsFor x) i inputs h; sent = refl; notes = refl },
  steps_given x (stamp_after last i) (step s (input_of i)).state inputs (All-tail (IsFor x) i inputs h),
)

-- it is a cell's history
pub given_is_history : (x : Id) (founder : Bool) (inputs : List CellInput) → All (IsFor x) inputs → IsCellHistory x founder (history_of x founder inputs)
given_is_history x founder inputs h = record { stamps = stamps_given x 0 (start x founder) inputs; steps = steps_given x 0 (start x founder) inputs h }

abbrev pub inputs_of : List CellEntry → List CellInput
inputs_of es = map (λ (e : CellEntry). e.input) es

-- an entry is what its stamp and its step make it
abbrev made : Stamp → CellInput → List Envelope → List Note → CellEntry
made stamp i sent notes = record { stamp = stamp; input = i; sent = sent; notes = notes }

one_given : (x : Id) (last : Stamp) (s : State) (e : CellEntry) → e.stamp ≡ stamp_after last e.input → IsStep x s e →
    e ≡ next_entry x last s e.input
one_given x last s e stamp h =
    (λ k. made e.stamp e.input (h.sent k) (h.notes k)) ∙ ap (entry_stamped x s e.input) stamp

from_inputs : (x : Id) (last : Stamp) (s : State) (es : List CellEntry) → AreStampedAfter last es → AreSteps x s es →
    es ≡ history_from x last s (inputs_of es)
from_inputs x last s [] h t = refl
from_inputs x last s (e ∷ es) h t =
    ap (λ d. d ∷ es) (one_given x last s e h.0 t.0)
    ∙ ap (λ ds. next_entry x last s e.input ∷ ds)
    (from_inputs x e.stamp (stepped s e) es h.1 t.1 ∙ ap (λ n. history_from x n (stepped s e) (inputs_of es)) h.0)

-- and the one history with these inputs
pub history_is_given : (x : Id) (founder : Bool) (es : List CellEntry) → IsCellHistory x founder es → es ≡ history_of x founder (inputs_of es)
history_is_given x founder es h = from_inputs x 0 (start x founder) es h.stamps h.steps
