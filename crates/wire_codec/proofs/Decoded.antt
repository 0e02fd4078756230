-- What decode answers of bytes that passed the check, and what the check says of the grammar.
use Rattle.std.proofs.Common.{◌≡◌, ℕ, List, ◌↔◌, IsTrue, Option, None, Result, Ok, Err, refl, ap}
use Rattle.std.specs.Prelude.{IfOk, MatchResult, is_ok}
use Rattle.wire_msg.specs.declared.message.Envelope.{Envelope as CodeEnvelope}
use Rattle.wire_msg.specs.Words.{Envelope, plain_envelope}
use Rattle.wire_codec.specs.declared.fault.FrameFault.{FrameFault}
use Rattle.wire_codec.specs.declared.fault.FrameFault.TheVariants as fault
use Rattle.wire_codec.specs.declared.kind.Kind.{Kind}
use Rattle.wire_codec.specs.Fields.{AreBytes}
use Rattle.wire_codec.specs.Spelling.{Spells, contents_of}
use Rattle.wire_codec.specs.Reading.{Reads, framing, refusal_in, refusal, IsDue}
use Rattle.wire_codec.specs.Values.{Gives, envelope_at}
use Rattle.wire_codec.proofs.Frames.{one_envelope}
use Rattle.wire_codec.proofs.Refusals.{passed_spells, given_spells, given_or_memory, refused_spells_none}

abbrev IsGiven : List ℕ → Kind → Result CodeEnvelope FrameFault → Type 0
IsGiven bytes k r = Gives (λ e. contents_of (plain_envelope e)) r (envelope_at bytes k)

pub decoded_read : (bytes : List ℕ) (k : Kind) (r : Result CodeEnvelope FrameFault) → AreBytes bytes → framing bytes ≡ Ok k → IsGiven bytes k r
    → IfOk r (λ e. Spells bytes (plain_envelope e))
decoded_read bytes k (Ok e) fits pass given = given_spells bytes k (plain_envelope e) fits pass given
decoded_read bytes k (Err f) fits pass given = tt

pub decoded_spelled : (bytes : List ℕ) (k : Kind) (r : Result CodeEnvelope FrameFault) → AreBytes bytes → framing bytes ≡ Ok k → IsGiven bytes k r
    → (e : Envelope) → Spells bytes e → MatchResult r (λ x. plain_envelope x ≡ e) (λ f. f ≡ fault.OutOfMemory)
decoded_spelled bytes k (Ok x) fits pass given e spells = one_envelope bytes (plain_envelope x) e
    (given_spells bytes k (plain_envelope x) fits pass given) spells
decoded_spelled bytes k (Err f) fits pass given e spells = given_or_memory bytes k f pass given

memory_due : (f : FrameFault) (o : Option FrameFault) → f ≡ fault.OutOfMemory → o ≡ None → IsDue f o
memory_due fault.OutOfMemory o is none = none
memory_due f o is none = absurd cc

pub decoded_refused : (bytes : List ℕ) (k : Kind) (r : Result CodeEnvelope FrameFault) → framing bytes ≡ Ok k → IsGiven bytes k r
    → MatchResult r (λ x. refusal bytes ≡ None) (λ f. IsDue f (refusal bytes))
decoded_refused bytes k (Ok x) pass given = ap refusal_in pass
decoded_refused bytes k (Err f) pass given = memory_due f (refusal bytes) (given_or_memory bytes k f pass given) (ap refusal_in pass)

pub tested_spelled : (bytes : List ℕ) (r : Result Kind FrameFault) → AreBytes bytes → Reads (λ k. k) r (framing bytes)
    → IsTrue (is_ok r) ↔ ((e : Envelope) × Spells bytes e)
tested_spelled bytes (Ok k) fits read = (λ yes. passed_spells bytes k fits read, λ found. refl)
tested_spelled bytes (Err f) fits read = (λ no. absurd cc, λ found. absurd (refused_spells_none bytes f found.0 read found.1))

pub tested_refused : (bytes : List ℕ) (r : Result Kind FrameFault) → Reads (λ k. k) r (framing bytes) → IsTrue (is_ok r) ↔ (refusal bytes ≡ None)
tested_refused bytes (Ok k) read = (λ yes. ap refusal_in read, λ none. refl)
tested_refused bytes (Err f) read =
    let due = ap refusal_in read in
    (λ no. absurd cc, λ none. absurd cc)
