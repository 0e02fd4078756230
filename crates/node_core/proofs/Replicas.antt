-- The rows of replicas and of files that are handed over, by what a put would answer.
use Rattle.std.proofs.Common.{◌≡◌, ℕ, Bool, true, false, Option, Some, None, List, refl, ap, ◌∙◌, subst}
use Rattle.ring_math.specs.Bytewise.{same_bytes}
use Rattle.ring_math.specs.Files.{Slot, slot_of, has_room}
use Rattle.file_store.specs.declared.answer.Put.{Put}
use Rattle.file_store.specs.declared.answer.Put.TheVariants as put
use Rattle.file_store.specs.Answers.{put_at, put_of}
use Rattle.overlay_rules.specs.State.{State}
use Rattle.overlay_rules.specs.Outcome.{Outcome, nothing}
use Rattle.overlay_rules.specs.ReadyTest.{ready_test}
use Rattle.overlay_rules.specs.Replicas.{holding, acknowledged, replicate_at, on_replicate, handover_at, on_handover}

by_test : {P : Type 0} (b : Bool) → (b ≡ true → P) → (b ≡ false → P) → P
by_test true f g = f refl
by_test false f g = g refl

abbrev pub replica_by : State → ℕ → ℕ → ℕ → List ℕ → List ℕ → Put → Outcome
replica_by s from o n f b put.New = acknowledged (holding s f b) from o n f
replica_by s from o n f b put.Same = acknowledged s from o n f
replica_by s from o n f b put.Differs = nothing s
replica_by s from o n f b put.Gone = nothing s
replica_by s from o n f b put.Full = nothing s

by_slot : (s : State) (from o n : ℕ) (f b : List ℕ) (slot : Option Slot) →
    replica_by s from o n f b (put_at slot b (has_room s.files)) ≡ replicate_at s from o n f b slot
by_slot s from o n f b None = by_test (has_room s.files) (λ t. rw t refl) (λ t. rw t refl)
by_slot s from o n f b (Some None) = refl
by_slot s from o n f b (Some (Some held)) = by_test (same_bytes held b) (λ t. rw t refl) (λ t. rw t refl)

pub replicate-at : (P : Outcome → Type 0) (s : State) (from o n : ℕ) (f b : List ℕ) (x : Put) → x ≡ put_of s.files f b →
    P (replica_by s from o n f b x) → P (on_replicate s from o n f b)
replicate-at P s from o n f b x e y = subst P (ap (replica_by s from o n f b) e ∙ by_slot s from o n f b (slot_of s.files f)) y

abbrev pub handed_by : State → List ℕ → List ℕ → Put → Outcome
handed_by s f b put.New = ready_test (holding s f b)
handed_by s f b put.Same = nothing s
handed_by s f b put.Differs = nothing s
handed_by s f b put.Gone = nothing s
handed_by s f b put.Full = nothing s

handed_slot : (s : State) (f b : List ℕ) (slot : Option Slot) → handed_by s f b (put_at slot b (has_room s.files)) ≡ handover_at s f b slot
handed_slot s f b None = by_test (has_room s.files) (λ t. rw t refl) (λ t. rw t refl)
handed_slot s f b (Some None) = refl
handed_slot s f b (Some (Some held)) = by_test (same_bytes held b) (λ t. rw t refl) (λ t. rw t refl)

pub handover-at : (P : Outcome → Type 0) (s : State) (f b : List ℕ) (x : Put) → x ≡ put_of s.files f b → P (handed_by s f b x) → P (on_handover s f b)
handover-at P s f b x e y = subst P (ap (handed_by s f b) e ∙ handed_slot s f b (slot_of s.files f)) y

pub replica-other : (s : State) (from o n : ℕ) (f b : List ℕ) (x : Put) → (x ≡ put.New → ⊥) → (x ≡ put.Same → ⊥) → nothing s ≡ replica_by s from o n f b x
replica-other s from o n f b put.New new same = absurd (new refl)
replica-other s from o n f b put.Same new same = absurd (same refl)
replica-other s from o n f b put.Differs new same = refl
replica-other s from o n f b put.Gone new same = refl
replica-other s from o n f b put.Full new same = refl

pub handed-other : (s : State) (f b : List ℕ) (x : Put) → (x ≡ put.New → ⊥) → nothing s ≡ handed_by s f b x
handed-other s f b put.New new = absurd (new refl)
handed-other s f b put.Same new = refl
handed-other s f b put.Differs new = refl
handed-other s f b put.Gone new = refl
handed-other s f b put.Full new = refl
