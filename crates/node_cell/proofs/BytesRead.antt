-- Bytes are one input to a node: what their envelope is to it, and noise if they spell none.
use Rattle.std.proofs.Common.{◌≡◌, ◌==◌, ℕ, List, refl, ap, ◌∙◌}
use Rattle.std.proofs.lemmas.Bool.{cond_both, iff_false}
use Rattle.std.proofs.lemmas.Bool.Decides.{Decides-eqb}
use Rattle.ring_math.specs.Names.{Id}
use Rattle.wire_msg.specs.Words.{Envelope}
use Rattle.wire_codec.specs.Spelling.{Spells}
use Rattle.wire_codec.proofs.Frames.{one_envelope}
use Rattle.weave_laws.specs.Cells.{CellInput, Command, Comes, Noise}
use Rattle.node_cell.specs.Reading.{IsFrameOf, IsInputOf, input_for}

pub envelope_is_read : (x : Id) (bytes : List ℕ) (v : Envelope) → Spells bytes v → IsInputOf x bytes (input_for x v)
envelope_is_read x bytes v spells =
    cond_both (v.receiver == x) (Comes v) Noise (IsInputOf x bytes)
    (λ is. record { spells = spells; addressed = (Decides-eqb v.receiver x).0 is })
    (λ other (w : Envelope) (f : IsFrameOf x bytes w).
    iff_false (Decides-eqb v.receiver x) other
    (ap (λ (u : Envelope). u.receiver) (one_envelope bytes v w spells f.spells) ∙ f.addressed))

-- and no bytes are two inputs
pub one_input : (x : Id) (bytes : List ℕ) (i j : CellInput) → IsInputOf x bytes i → IsInputOf x bytes j → i ≡ j
one_input x bytes (Comes v) (Comes w) h k = ap Comes (one_envelope bytes v w h.spells k.spells)
one_input x bytes (Comes v) Noise h k = absurd (k v h)
one_input x bytes Noise (Comes w) h k = absurd (h w k)
one_input x bytes Noise Noise h k = refl
one_input x bytes (Command n c) j h k = absurd h
one_input x bytes (Comes v) (Command n c) h k = absurd k
one_input x bytes Noise (Command n c) h k = absurd k
