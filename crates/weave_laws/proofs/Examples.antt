-- Worked examples of weaving, closed by computation: two entries and the envelope between them, two nodes whose stamps are equal,
-- and the same two the other way round.
use Rattle.std.proofs.Common.{◌≡◌, inl, inr, ℕ, ◌*◌, ◌^◌, true, [], ◌∷◌, Contains, refl, arith}
use Rattle.ring_math.specs.Ring.{cw_of, is_between, is_nearer, shared_of}
use Rattle.coverage.specs.Coverage.{in_arcs}
use Rattle.wire_msg.specs.declared.command.Command.TheVariants as command
use Rattle.wire_msg.specs.declared.note.Note.TheVariants.{Delivered, Answered, Closed}
use Rattle.wire_msg.specs.declared.reply.Answer.TheVariants as answer
use Rattle.wire_msg.specs.declared.reply.Reply.TheVariants as reply
use Rattle.wire_msg.specs.Words.{Envelope, LookupReply}
use Rattle.overlay_rules.proofs.Each.{Each-all}
use Rattle.overlay_rules.proofs.ExampleText.{told, came, sent}
use Rattle.weave_laws.specs.Cells.{CellEntry, History, IsCellHistory, Command, Comes, Noise, nodes_of}
use Rattle.weave_laws.specs.Woven.{Act, part, ComesBefore, AreInOrder, IsWoven}

-- ---- the founder, alone, looks up a key, and takes its own reply

abbrev a : ℕ
a = 16 * 256 ^ 15

abbrev key : ℕ
key = 255 * 256 ^ 15

abbrev answered : Envelope
answered = sent 1 a a (LookupReply 1 (reply.Delivered a 0))

abbrev asks : CellEntry
asks = record {
  stamp = 1;
  input = Command 1 (command.Lookup key);
  sent = answered ∷ [];
  notes = Delivered a 1 key 0 ∷ Answered a 1 (reply.Delivered a 0) ∷ [];
}

abbrev hears : CellEntry
hears = record { stamp = 2; input = Comes answered; sent = []; notes = Closed 1 (answer.Reply (reply.Delivered a 0)) ∷ [] }

abbrev alone : History
alone = record { node = a; entries = asks ∷ hears ∷ [] }

-- it is a cell's history: the reply is stamped 1, and taken with stamp 2
cell_of_one : IsCellHistory a true alone.entries
unfolding cw_of is_between is_nearer shared_of in_arcs
cell_of_one = record {
  stamps = (refl, (refl, tt));
  steps = (record { addressed = tt; sent = refl; notes = refl }, (record { addressed = refl; sent = refl; notes = refl }, tt));
}

abbrev by_a : CellEntry → Act
by_a e = record { node = a; entry = e }

-- its woven record, in which the reply is message 0
woven_of_one : IsWoven (alone ∷ []) (record {
  entries = told a 1 (command.Lookup key) asks.sent asks.notes ∷ came 0 hears.sent hears.notes ∷ [];
  skipped = 0;
})
woven_of_one = record {
  acts = by_a asks ∷ by_a hears ∷ [];
  order = record {
    whole = Each-all (λ (h : History). part h.node (by_a asks ∷ by_a hears ∷ []) ≡ h.entries) (alone ∷ []) (refl, tt);
    theirs = Each-all (λ (b : Act). Contains (nodes_of (alone ∷ [])) b.node) (by_a asks ∷ by_a hears ∷ []) (itself, (itself, tt));
    in_order = (Each-all (ComesBefore (by_a asks)) (by_a hears ∷ []) (inl (omega arith), tt), (Each-all (ComesBefore (by_a hears)) [] tt, tt));
  };
  entries = (
    record { event = refl; messages = refl; notes = refl },
    (record { event = (0, refl, record { here = refl; lowest = λ k lt. absurd (omega arith) }); messages = refl; notes = refl }, tt),
  );
  skipped = refl;
} where
  itself : Contains (a ∷ []) a
  itself = (0, omega arith, refl)

-- ---- two nodes that noise comes to, each with stamp 1

abbrev noise_at : ℕ → Act
noise_at x = record { node = x; entry = record { stamp = 1; input = Noise; sent = []; notes = [] } }

-- of equal stamps the lower node is first
lower_first : AreInOrder (noise_at 3 ∷ noise_at 5 ∷ [])
lower_first = (Each-all (ComesBefore (noise_at 3)) (noise_at 5 ∷ []) (inr (refl, omega arith), tt), (Each-all (ComesBefore (noise_at 5)) [] tt, tt))

-- and the other way round they are not in the woven order
not_higher_first : AreInOrder (noise_at 5 ∷ noise_at 3 ∷ []) → ⊥
not_higher_first h = elim (h.0 0 (noise_at 3) (omega arith)) [ inl lt ↦ absurd (omega arith) | inr (same, lt) ↦ absurd (omega arith) ]
