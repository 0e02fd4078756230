-- A number that is newer than each command so far stays so where it grows, and past an event of a lesser number.
use Rattle.std.proofs.Common.{◌≡◌, ◌≤◌, ℕ, Option, Some, None, List, refl, sym, subst, arith}
use Rattle.std.proofs.lemmas.List.Elements.{All-push, All-weaker}
use Rattle.overlay_rules.specs.declared.entry.Entry.{Entry}
use Rattle.overlay_rules.specs.declared.entry.Event.{Event}
use Rattle.overlay_rules.specs.declared.entry.Event.TheVariants as event
use Rattle.overlay_rules.specs.Record.{World, Visit, visit, sent_in}
use Rattle.overlay_rules.specs.Played.{entry_at, entry_of}
use Rattle.world_model.specs.Numbers.{IsNumberedBelow, IsNewest}
use Rattle.world_model.specs.Recorded.{Recorded, world_of, with_event}

below_more : (n m : ℕ) (v : Event) → n ≤ m → IsNumberedBelow n v → IsNumberedBelow m v
below_more n m (event.Command x k c) le h = omega arith
below_more n m (event.Deliver k) le h = tt
below_more n m (event.Noise x) le h = tt

pub newest_more : (n m : ℕ) (es : List Entry) → n ≤ m → IsNewest n es → IsNewest m es
newest_more n m es le h =
    All-weaker (λ (e : Entry). IsNumberedBelow n e.event) (λ (e : Entry). IsNumberedBelow m e.event) (λ e. below_more n m e.event le) es h

entry_event : (w : World) (v : Event) (o : Option Visit) → (entry_at w v o).event ≡ v
entry_event w v None = refl
entry_event w v (Some at) = refl

pub newest_push : (n : ℕ) (r : Recorded) (v : Event) → IsNewest n r.entries → IsNumberedBelow n v → IsNewest n (with_event r v).entries
newest_push n r v h below =
    All-push (λ (e : Entry). IsNumberedBelow n e.event) r.entries (entry_of (world_of r) v) h
    (subst (IsNumberedBelow n) (sym (entry_event (world_of r) v (visit (sent_in (world_of r).past) v))) below)
