-- The row of an insert, by what the insert meets.
use Rattle.std.proofs.Common.{◌≡◌, ℕ, ◌-◌, Bool, true, false, nat_lt, Option, Some, None, List, length, refl, sym, ap, ◌∙◌}
use Rattle.ring_math.specs.Bytewise.{same_bytes}
use Rattle.ring_math.specs.Files.{Slot, slot_of, has_room}
use Rattle.ring_math.specs.Sides.{leaves}
use Rattle.leaf_set.specs.Leaves.{Leaves, StandsFor, in_order}
use Rattle.file_store.specs.Answers.{put_at, put_of}
use Rattle.overlay_rules.specs.State.{State}
use Rattle.overlay_rules.specs.Roots.{inserted}
use Rattle.past_core.specs.Weighed.{weighed, by_weight}

by_test : {P : Type 0} (b : Bool) → (b ≡ true → P) → (b ≡ false → P) → P
by_test true f g = f refl
by_test false f g = g refl

at-slot : (s : State) (o n : ℕ) (f : List ℕ) (copies : ℕ) (b : List ℕ) (slot : Option Slot) →
    inserted s o n f copies b slot ≡ by_weight s o n f copies b (weighed (put_at slot b (has_room s.files)) (length (leaves s.me s.known)) (copies - 1))
at-slot s o n f copies b (Some None) = refl
at-slot s o n f copies b (Some (Some held)) =
    by_test (same_bytes held b)
    (λ e. rw e (by_test (nat_lt (length (leaves s.me s.known)) (copies - 1)) (λ u. rw u refl) (λ u. rw u refl)))
    (λ e. rw e refl)
at-slot s o n f copies b None =
    by_test (nat_lt (length (leaves s.me s.known)) (copies - 1))
    (λ u. by_test (has_room s.files) (λ e. rw (e, u) refl) (λ e. rw (e, u) refl))
    (λ u. by_test (has_room s.files) (λ e. rw (e, u) refl) (λ e. rw (e, u) refl))

pub leaves-of : (l : Leaves) (me : ℕ) (known : List ℕ) → me ≡ l.me → StandsFor l known → in_order l ≡ leaves me known
leaves-of l me known e st = rw (e, sym st.right, sym st.left) refl

-- the row of an insert, where the leaf set stands for what is known
pub row-weighed : (s : State) (l : Leaves) (o n : ℕ) (f : List ℕ) (copies : ℕ) (b : List ℕ) → s.me ≡ l.me → StandsFor l s.known →
    inserted s o n f copies b (slot_of s.files f) ≡ by_weight s o n f copies b (weighed (put_of s.files f b) (length (in_order l)) (copies - 1))
row-weighed s l o n f copies b e st =
    at-slot s o n f copies b (slot_of s.files f)
    ∙ ap (λ (xs : List ℕ). by_weight s o n f copies b (weighed (put_of s.files f b) (length xs) (copies - 1))) (sym (leaves-of l s.me s.known e st))
