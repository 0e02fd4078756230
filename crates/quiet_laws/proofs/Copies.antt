-- How replicas are asked for and acknowledged: one message for each target, and one back from each that has the file or has room for it.
use Rattle.std.proofs.Common.{◌≡◌, ◌⊎◌, inl, inr, ℕ, zero, suc, not, Option, Some, None, List, [], ◌∷◌, Contains, refl, sym, subst, arith}
use Rattle.std.proofs.lemmas.Bool.{cond_both}
use Rattle.ring_math.specs.Names.{Id, FileId, Content, Number, Hops}
use Rattle.ring_math.specs.Bytewise.{same_bytes}
use Rattle.ring_math.specs.Keys.{key_of}
use Rattle.ring_math.specs.Files.{Slot, slot_of, with_slot, has_room}
use Rattle.wire_msg.specs.declared.command.Command.{Command as NodeCommand}
use Rattle.wire_msg.specs.declared.command.Command.TheVariants as command
use Rattle.wire_msg.specs.declared.note.Note.TheVariants as note
use Rattle.wire_msg.specs.Words.{Message, Insert, Replicate, ReplicaAck}
use Rattle.overlay_rules.specs.declared.request.Asked.TheVariants as asked
use Rattle.overlay_rules.specs.declared.request.Way.{Way}
use Rattle.overlay_rules.specs.declared.request.Way.TheVariants as way
use Rattle.overlay_rules.specs.State.{State}
use Rattle.overlay_rules.specs.Outcome.{Outcome, Input, Comes, Command, Sent, before, to_each}
use Rattle.overlay_rules.specs.Routed.{way_of, one_more, served}
use Rattle.overlay_rules.specs.Roots.{targets_of, replicated, has_too_few, accepted, inserted, on_insert}
use Rattle.overlay_rules.specs.Replicas.{replicate_at}
use Rattle.overlay_rules.specs.Step.{step, waits_for}
use Rattle.step_facts.proofs.Learnt.{IsCons}
use Rattle.table_laws.proofs.Slots.{same-differs}
use Rattle.table_laws.proofs.FileRules.{Requests, told, lookup_came, insert_came, fetch_came, reclaim_came}
use Rattle.quiet_laws.proofs.Has.{Has}
use Rattle.quiet_laws.proofs.Full.{IsFull}

-- this message goes to this node
abbrev pub Is : Id → Message → Sent → Type 0
Is to m s = (s.receiver ≡ to) × (s.message ≡ m)

pub to_each_has : (ts : List Id) (m : Message) (t : Id) → Contains ts t → Has (Is t m) (to_each ts m)
to_each_has [] m t c = let lt = c.1 in absurd (omega arith)
to_each_has (x ∷ xs) m t (zero, lt, e) = inl (e, refl)
to_each_has (x ∷ xs) m t (suc k, lt, e) = inr (to_each_has xs m t (k, omega arith, e))

-- ---- the root

-- no insert more waits, or each of its targets is sent a replica
pub data Copies (s : State) (o : Outcome) (from : Id) (n : Number) (f : FileId) (b : Content) (ts : List Id) : Type 0 where
  none : o.state.pending ≡ s.pending → Copies s o from n f b ts
  copies : IsCons ts → ((t : Id) → Contains ts t → Has (Is t (Replicate from n f b)) o.sends) → Copies s o from n f b ts

module _ (t : State) (from : Id) (n : Number) (f : FileId) (b : Content) where
  replicated_copies : (ts : List Id) → Copies t (replicated t from n f b ts) from n f b ts
  replicated_copies [] = none refl
  replicated_copies (x ∷ xs) = copies tt (λ y c. to_each_has (x ∷ xs) (Replicate from n f b) y c)

module _ (t : State) (from : Id) (n : Number) (f : FileId) (count : ℕ) (b : Content) where
  accepted_copies : Copies t (accepted t from n f count b) from n f b (targets_of t f count)
  accepted_copies =
      cond_both (has_room t.files) _ _ (λ (o : Outcome). Copies t o from n f b (targets_of t f count))
      (λ _. with_note (targets_of t f count)) (λ _. none refl) where
        with_note : (ts : List Id) → Copies t
            (before [] (note.Accepted f b ∷ []) (replicated (record t { files = with_slot t.files f (Some b) }) from n f b ts)) from n f b ts
        with_note [] = none refl
        with_note (x ∷ xs) = copies tt (λ y c. to_each_has (x ∷ xs) (Replicate from n f b) y c)

  inserted_copies : (h : Option Slot) → Copies t (inserted t from n f count b h) from n f b (targets_of t f count)
  inserted_copies (Some None) = none refl
  inserted_copies (Some (Some there)) =
      cond_both (not (same_bytes there b)) _ _ (λ (o : Outcome). Copies t o from n f b (targets_of t f count)) (λ _. none refl)
      (λ _. cond_both (has_too_few t count) _ _ (λ (o : Outcome). Copies t o from n f b (targets_of t f count)) (λ _. none refl)
      (λ _. replicated_copies t from n f b (targets_of t f count)))
  inserted_copies None =
      cond_both (has_too_few t count) _ _ (λ (o : Outcome). Copies t o from n f b (targets_of t f count)) (λ _. none refl) (λ _. accepted_copies)

  insert_copies : (hops : Hops) → Copies t (on_insert t from n hops f count b) from n f b (targets_of t f count)
  insert_copies hops = by (way_of t (key_of f)) where
    by : (w : Way) → Copies t (served t asked.Insert from n w (Insert from n (one_more hops) f count b) (inserted t from n f count b (slot_of t.files f))) from
        n f b
        (targets_of t f count)
    by way.NotReady = none refl
    by way.Here = inserted_copies (slot_of t.files f)
    by (way.Gap j) = none refl
    by (way.To y) = none refl

pub request_copies : (s : State) (i : Input) (from : Id) (n : Number) (f : FileId) (count : ℕ) (b : Content) →
    Requests s.me i from n (command.Insert f count b) → Copies s (step s i) from n f b (targets_of s f count)
request_copies s i from n f count b q = by i from n (command.Insert f count b) q refl where
  by : (j : Input) (o : Id) (m : Number) (c : NodeCommand) → Requests s.me j o m c → c ≡ command.Insert f count b →
      Copies s (step s j) o m f b (targets_of s f count)
  by _ _ _ _ (told m c) e = subst (λ d. Copies s (step s (Command m d)) s.me m f b (targets_of s f count)) (sym e)
      (of_waiting m (insert_copies (waits_for s m) s.me m f count b 0)) where
        of_waiting : (m : Number) → Copies (waits_for s m) (on_insert (waits_for s m) s.me m 0 f count b) s.me m f b (targets_of s f count) →
            Copies s (on_insert (waits_for s m) s.me m 0 f count b) s.me m f b (targets_of s f count)
        of_waiting m (none p) = none p
        of_waiting m (copies p q) = copies p q
  by _ _ _ _ (lookup_came y o m key hops) e = cc
  by _ _ _ _ (insert_came y o m hops g k d) e = subst (λ z. Copies s (step s (Comes y z)) o m f b (targets_of s f count)) (message e)
      (insert_copies s o m f count b hops) where
        message : command.Insert g k d ≡ command.Insert f count b → Insert o m hops f count b ≡ Insert o m hops g k d
        message e = cc
  by _ _ _ _ (fetch_came y o m hops g) e = cc
  by _ _ _ _ (reclaim_came y o m hops g) e = cc

-- ---- a target

-- it has the bytes or puts them, and says so; or it is full
pub replica_goes : (s : State) (from o : Id) (n : Number) (f : FileId) (b : Content) → (slot_of s.files f ≡ Some None → ⊥) →
    ((held : Content) → slot_of s.files f ≡ Some (Some held) → held ≡ b) →
    Has (Is from (ReplicaAck o n f)) (step s (Comes from (Replicate o n f b))).sends
    ⊎ IsFull (step s (Comes from (Replicate o n f b))).state.files f
replica_goes s from o n f b no_tomb right = by (slot_of s.files f) refl where
  by : (h : Option Slot) → slot_of s.files f ≡ h → Has (Is from (ReplicaAck o n f)) (replicate_at s from o n f b h).sends
      ⊎ IsFull (replicate_at s from o n f b h).state.files f
  by None at = cond_both (has_room s.files) _ _ (λ (out : Outcome). Has (Is from (ReplicaAck o n f)) out.sends ⊎ IsFull out.state.files f)
      (λ _. inl (inl (refl, refl))) (λ e. inr (record { full = e; none = at }))
  by (Some None) at = absurd (no_tomb at)
  by (Some (Some held)) at = cond_both (same_bytes held b) _ _ (λ (out : Outcome). Has (Is from (ReplicaAck o n f)) out.sends ⊎ IsFull out.state.files f)
      (λ _. inl (inl (refl, refl))) (λ e. absurd (same-differs held b e (right held at)))
