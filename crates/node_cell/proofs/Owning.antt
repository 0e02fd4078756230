-- Passes of a post stay a cell's own ones: as a frame is taken from the node's mailbox, or put into its receiver's.
use Rattle.std.proofs.Common.{◌≡◌, ◌<◌, ℕ, zero, suc, Some, List, [], ◌∷◌, ◌++◌, inl, inr, replicate, length, set, refl, sym, ap, ◌∙◌, subst, arith}
use Rattle.std.specs.Prelude.{slice_get, All, Contains}
use Rattle.std.specs.List.{AllZip}
use Rattle.std.proofs.lemmas.Bool.{cases_eq}
use Rattle.std.proofs.lemmas.List.{get_or-set_same, get_or-set_other}
use Rattle.std.proofs.lemmas.List.Elements.{All-head, All-tail, Contains-append_cases}
use Rattle.std.proofs.lemmas.Option.{slice_get_within}
use Rattle.ring_math.specs.Names.{Id}
use Rattle.wire_msg.specs.Words.{Envelope}
use Rattle.wire_codec.specs.Spelling.{Spells}
use Rattle.wire_codec.proofs.Frames.{one_envelope}
use Rattle.weave_laws.specs.Cells.{CellEntry}
use Rattle.node_mailbox.specs.Pass.{PassView, fresh_pass, after_take}
use Rattle.node_mailbox.specs.Post.{PostView, AreOf, pass_at}
use Rattle.node_cell.specs.Reading.{IsInputOf}
use Rattle.node_cell.specs.Carried.{KeepsPasses, came_in_frames, just_given}
use Rattle.node_cell.specs.Equipped.{IsUnused, AreOwnOf}
use Rattle.node_cell.specs.Posting.{after_puts}
use Rattle.node_cell.proofs.Carrying.{changed-same, only_one}

-- ---- passes that are not used yet

unused_at : (passes : List PassView) → All IsUnused passes → (y : ℕ) → IsUnused (pass_at passes y)
unused_at [] unused y = record { put = refl; taken = refl }
unused_at (p ∷ ps) unused zero = All-head IsUnused p ps unused
unused_at (p ∷ ps) unused (suc y) = unused_at ps (All-tail IsUnused p ps unused) y

none_there : (frame : List ℕ) → Contains [] frame → ⊥
none_there frame has = omega (arith, has.1)

pub own-unused : (post : PostView) (x : Id) (passes : List PassView) → All IsUnused passes → AreOf passes post → AreOwnOf post x passes
own-unused post x passes unused of = record {
  of = of;
  own = λ y other. (unused_at passes unused y).taken;
  addressed = λ y frame v has spells. absurd (none_there frame (subst (λ l. Contains l frame) (unused_at passes unused y).put has));
}

pub keeps-unused : (x : Id) (es : List CellEntry) (passes : List PassView) → es ≡ [] → All IsUnused passes → KeepsPasses x es (just_given passes)
keeps-unused x es passes none unused = record {
  taken = record {
    own = 0;
    frames = [];
    each = subst (λ l. AllZip (IsInputOf x) [] (came_in_frames l)) (sym none) tt;
    taken = (unused_at passes unused 0).taken;
    others = λ y other. (unused_at passes unused y).taken;
  };
  put = record { each = λ y frame has. absurd (none_there frame (subst (λ l. Contains l frame) (unused_at passes unused y).put has)) };
}

-- ---- passes that are used

-- a frame was taken from the node's own mailbox
pub own-taken : (post : PostView) (x : Id) (passes : List PassView) (place : ℕ) (frame : List ℕ) → slice_get post.nodes place ≡ Some x
    → AreOf (set passes place (after_take (pass_at passes place) frame)) post → AreOwnOf post x passes
    → AreOwnOf post x (set passes place (after_take (pass_at passes place) frame))
own-taken post x passes place frame at of own = record {
  of = of;
  own = λ y other. ap (λ (p : PassView). p.taken)
      (get_or-set_other passes place y new (fresh_pass (0, 0) 0) (λ is. other (ap (slice_get post.nodes) is ∙ at)))
      ∙ own.own y other;
  addressed = λ y f v has spells.
      own.addressed y f v (subst (λ l. Contains l f) (changed-same (λ (p : PassView). p.put) passes place y new lt refl) has) spells;
} where
  new : PassView
  new = after_take (pass_at passes place) frame

  lt : place < length passes
  lt = omega (arith, slice_get_within post.nodes place x at, own.of.count)

-- a frame was put into the mailbox of the node that it is addressed to
pub own-put : (post : PostView) (x : Id) (passes : List PassView) (place : ℕ) (frame : List ℕ) (n : ℕ) (v : Envelope) → Spells frame v
    → slice_get post.nodes place ≡ Some v.receiver → AreOf (set passes place (after_puts n frame (pass_at passes place))) post → AreOwnOf post x passes
    → AreOwnOf post x (set passes place (after_puts n frame (pass_at passes place)))
own-put post x passes place frame n v spells at of own = record {
  of = of;
  own = λ y other. changed-same (λ (p : PassView). p.taken) passes place y new lt refl ∙ own.own y other;
  addressed = λ y f w has w_spells. elim (cases_eq place y) [
    | inl here ↦
        let there : Contains ((pass_at passes place).put ++ replicate n frame) f =
        subst (λ (p : PassView). Contains p.put f) (get_or-set_same passes place new (fresh_pass (0, 0) 0) lt)
        (subst (λ k. Contains (pass_at (set passes place new) k).put f) (sym here) has) in
        elim (Contains-append_cases (pass_at passes place).put (replicate n frame) f there) [
          | inl old ↦ subst (λ k. slice_get post.nodes k ≡ Some w.receiver) here (own.addressed place f w old w_spells)
          | inr copy ↦
              let same : v ≡ w = one_envelope frame v w spells (subst (λ b. Spells b w) (only_one n frame f copy) w_spells) in
              subst (λ k. slice_get post.nodes k ≡ Some w.receiver) here (at ∙ ap (λ (u : Envelope). Some u.receiver) same)
        ]
    | inr other ↦
        own.addressed y f w (subst (λ (p : PassView). Contains p.put f)
        (get_or-set_other passes place y new (fresh_pass (0, 0) 0) (λ e. other (sym e))) has) w_spells
  ];
} where
  new : PassView
  new = after_puts n frame (pass_at passes place)

  lt : place < length passes
  lt = omega (arith, slice_get_within post.nodes place v.receiver at, own.of.count)
