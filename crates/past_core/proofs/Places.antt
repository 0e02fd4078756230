-- The insert at a place, replaced.
use Rattle.std.proofs.Common.{◌≡◌, ◌<◌, ◌≤◌, ℕ, List, length, set, get_or, sym, ap, ◌∙◌}
use Rattle.std.proofs.lemmas.List.{set_split}
use Rattle.std.proofs.lemmas.Option.{slice_get-get_or, slice_get_past}
use Rattle.overlay_rules.specs.declared.request.Pending.{Pending}
use Rattle.past_core.specs.Waits.{heard_in, heard_at}

pub heard-set : (ps : List Pending) (place : ℕ) (awaited : List ℕ) (d : Pending) → place < length ps →
    set ps place (record (get_or ps place d) { awaited = awaited }) ≡ heard_at ps place awaited
heard-set ps place awaited d l =
    set_split ps place (record (get_or ps place d) { awaited = awaited }) l
    ∙ sym (ap (heard_in ps place awaited) (slice_get-get_or ps place d l))

pub heard-past : (ps : List Pending) (place : ℕ) (awaited : List ℕ) → length ps ≤ place → ps ≡ heard_at ps place awaited
heard-past ps place awaited l = sym (ap (heard_in ps place awaited) (slice_get_past ps place l))
