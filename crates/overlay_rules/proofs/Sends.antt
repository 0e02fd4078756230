-- What holds of each message that a rule writes: to both neighbours, to each of a list, and the files that go with a Grant.
use Rattle.std.proofs.Common.{◌==◌, Option, Some, None, List, [], ◌∷◌}
use Rattle.std.proofs.lemmas.Bool.{cond_both}
use Rattle.ring_math.specs.Names.{Id, FileId, Content}
use Rattle.ring_math.specs.declared.file.Held.{Held}
use Rattle.ring_math.specs.Files.{Slot, slot_of}
use Rattle.wire_msg.specs.Words.{Message, Handover}
use Rattle.overlay_rules.specs.Outcome.{Sent, sent, to_both, to_each}
use Rattle.overlay_rules.specs.Gatekeeper.{handovers, with_handover}
use Rattle.overlay_rules.proofs.Each.{Each}

module _ (P : Sent → Type 0) where
  pub Each-to_both : (l r : Id) (m : Message) → ((y : Id) → P (sent y m)) → Each P (to_both l r m)
  Each-to_both l r m h = cond_both (l == r) (sent l m ∷ []) (sent l m ∷ (sent r m ∷ [])) (Each P) (λ _. (h l, tt)) (λ _. (h l, (h r, tt)))

  pub Each-to_each : (ys : List Id) (m : Message) → ((y : Id) → P (sent y m)) → Each P (to_each ys m)
  Each-to_each [] m h = tt
  Each-to_each (y ∷ ys) m h = (h y, Each-to_each ys m h)

  pub Each-handovers : (to : Id) (files : List Held) (manifest : List FileId) → ((file : FileId) (bytes : Content) → P (sent to (Handover file bytes))) →
      Each P (handovers to files manifest)
  Each-handovers to files [] h = tt
  Each-handovers to files (f ∷ fs) h = one (slot_of files f) (Each-handovers to files fs h) where
    one : (o : Option Slot) → Each P (handovers to files fs) → Each P (with_handover to f o (handovers to files fs))
    one (Some (Some bytes)) rest = (h f bytes, rest)
    one (Some None) rest = rest
    one None rest = rest
