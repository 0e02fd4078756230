-- What a node has an entry for it keeps an entry for, from each entry of a record to each later one.
use Rattle.std.proofs.Common.{◌≡◌, ◌≢◌, ◌≤◌, inl, inr, ℕ, zero, suc, ◌+◌, ◌-◌, Option, Some, None, List, slice_get, take, refl, sym, subst, ◌∙◌, arith}
use Rattle.ring_math.specs.Names.{Id, FileId, Content}
use Rattle.ring_math.specs.Files.{slot_of}
use Rattle.overlay_rules.specs.declared.entry.Entry.{Entry}
use Rattle.overlay_rules.specs.State.{State}
use Rattle.overlay_rules.specs.Outcome.{Input}
use Rattle.overlay_rules.specs.Step.{step}
use Rattle.overlay_rules.specs.Record.{Setting, World, Follows, IsRecord, world_after}
use Rattle.overlay_rules.specs.Table.{Gone, notes_in, table}
use Rattle.overlay_rules.proofs.Histories.{follows_at, world_after-next, world_after-end, state_at-each}
use Rattle.step_facts.proofs.Always.{after_step, stepped-after}
use Rattle.table_laws.proofs.Slots.{Lasts, Lasts-same, Lasts-trans, Each-slot}
use Rattle.table_laws.proofs.FileRules.{step_filed}
use Rattle.table_laws.proofs.Filing.{rule_lasts}
use Rattle.table_laws.proofs.Holding.{RightEntry}
use Rattle.table_laws.proofs.Stores.{files_hold}

step_lasts : (w : World) (e : Entry) (x : Id) (i : Input) (y : Id) → Lasts (w.states y).files ((after_step w e x i).states y).files
step_lasts w e x i y =
    state_at-each (λ z (s : State). Lasts (w.states z).files s.files) w.states x (step (w.states x) i).state y
    (rule_lasts (w.states x) i (step (w.states x) i) (step_filed (w.states x) i).does) (Lasts-same (w.states y).files (w.states y).files refl)

next_lasts : (g : Setting) (es : List Entry) → IsRecord g es → (i : ℕ) (y : Id) →
    Lasts ((world_after g es i).states y).files ((world_after g es (i + 1)).states y).files
next_lasts g es r i y = by (slice_get es i) refl where
  w : World
  w = world_after g es i

  by : (o : Option Entry) → slice_get es i ≡ o → Lasts (w.states y).files ((world_after g es (i + 1)).states y).files
  by None e = subst (λ v. Lasts (w.states y).files (v.states y).files) (sym (world_after-end g es i e)) (Lasts-same (w.states y).files (w.states y).files refl)
  by (Some e) at =
      let f : Follows g w e = follows_at g es i e r.legal at in
      subst (λ (v : World). Lasts (w.states y).files (v.states y).files) (stepped-after g w e f ∙ sym (world_after-next g es i e at))
      (step_lasts w e f.at.node f.at.input y)

lasts_on : (g : Setting) (es : List Entry) → IsRecord g es → (k i : ℕ) (y : Id) →
    Lasts ((world_after g es i).states y).files ((world_after g es (k + i)).states y).files
lasts_on g es r zero i y = let none : 0 + i ≡ i =
    omega arith in subst (λ n. Lasts ((world_after g es i).states y).files ((world_after g es n).states y).files) (sym none)
    (Lasts-same _ ((world_after g es i).states y).files refl)
lasts_on g es r (suc k) i y =
    let next : suc k + i ≡ (k + i) + 1 = omega arith in
    subst (λ n. Lasts ((world_after g es i).states y).files ((world_after g es n).states y).files) (sym next)
    (Lasts-trans ((world_after g es i).states y).files ((world_after g es (k + i)).states y).files ((world_after g es ((k + i) + 1)).states y).files
    (lasts_on g es r k i y) (next_lasts g es r (k + i) y))

pub lasts_to : (g : Setting) (es : List Entry) → IsRecord g es → (i j : ℕ) (y : Id) → i ≤ j →
    Lasts ((world_after g es i).states y).files ((world_after g es j).states y).files
lasts_to g es r i j y le = let there : (j - i) + i ≡ j =
    omega arith in subst (λ n. Lasts ((world_after g es i).states y).files ((world_after g es n).states y).files) there (lasts_on g es r (j - i) i y)

-- bytes that are held are held as long as the file is not Gone
pub holds_on : (g : Setting) (es : List Entry) → IsRecord g es → (i j : ℕ) (y : Id) (f : FileId) (b : Content) → i ≤ j → table (take j es) f ≢ Gone →
    slot_of ((world_after g es i).states y).files f ≡ Some (Some b) →
    slot_of ((world_after g es j).states y).files f ≡ Some (Some b)
holds_on g es r i j y f b le kept at = elim ((lasts_to g es r i j y le).lasts f (Some b) at) [
  | inl e ↦ e
  | inr e ↦ absurd (kept (Each-slot (RightEntry (notes_in (take j es))) ((world_after g es j).states y).files f None ((files_hold g es r j).entries y) e))
]
