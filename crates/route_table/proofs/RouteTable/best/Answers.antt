use Rattle.std.proofs.Common.{◌≡◌, ℕ, ◌<◌, ◌≤◌, ◌+◌, length, true, false, get_or, take, Some, None, sym, ◌∙◌, subst, arith}
use Rattle.std.specs.Prelude.{◌↔◌}
use Rattle.std.specs.List.{Contains}
use Rattle.std.proofs.lemmas.Bool.{eqb-true, eq-eqb, not-true, not-false}
use Rattle.std.proofs.lemmas.List.{take_all, length-map}
use Rattle.ring_math.specs.Nearer.{improves}
use Rattle.route_table.specs.Filled.{entry_at, entries_at}
use Rattle.route_table.proofs.Found.{Nearest, nearest_kept, nearest_new, nearest_same, none_improves, closest_improves}
use Rattle.route_table.proofs.Places.{entry_is, read_at, read_entry, read_nothing}
use Rattle.route_table.proofs.RouteTable.best.Goals as goal
use Rattle.route_table.proofs.RouteTable.best.Goals.{then-improves_on+then-ne, else-improves_on, else-improves_on-via-then-improves_on+else-ne}
use Rattle.route_table.proofs.RouteTable.best.Goals.{else-improves_on-via-else-improves_on}

pub loop-id-preserved : goal.loop-id-preserved
loop-id-preserved c =
    let ids = c.filled-id-items.result.now in
    let me = c.me-me.result in
    let xs = entries_at me ids in
    let i = c.loop-id.id-index in
    let within = c.loop-id-test.true in
    let inside : i < length xs = omega (arith, within, length-map ids (entry_at me)) in
    elim c.if-improves_on.branch [
      | then-improves_on+then-ne w ↦
          let good : improves c.args.key c.args.least c.loop-id.nearest c.id-item.result ≡ true = sym c.improves_on.ensures ∙ w.if-improves_on.true in
          let read : Some c.id-item.result ≡ get_or xs i (Some c.id-item.result) =
          read_entry me ids i c.id-item.result within c.id-item.is (not-true _ (sym w.ne.ensures ∙ w.if-ne.true)) in
          record {
            so_far = subst (Nearest (take (i + 1) xs) c.args.key c.args.least c.args.than) (sym w.nearest-is)
                (nearest_new c.args.key c.args.least c.args.than xs i c.id-item.result c.loop-id.nearest inside read good c.loop-id.invariant.so_far);
            distance = cc;
          }
      | else-improves_on w ↦ record {
        so_far = subst (Nearest (take (i + 1) xs) c.args.key c.args.least c.args.than) (sym w.nearest-is) (elim w.else-improves_on.branch [
          | else-improves_on-via-then-improves_on+else-ne v ↦
              nearest_kept c.args.key c.args.least c.args.than xs i None c.loop-id.nearest inside
              (read_nothing me ids i c.id-item.result within c.id-item.is (not-false _ (sym v.ne.ensures ∙ v.if-ne.false)))
              (λ x e. cc) c.loop-id.invariant.so_far
          | else-improves_on-via-else-improves_on v ↦
              let bad : improves c.args.key c.args.least c.loop-id.nearest c.id-item.result ≡ false = sym c.improves_on.ensures ∙ v.if-improves_on.false in
              nearest_kept c.args.key c.args.least c.args.than xs i (entry_at me c.id-item.result) c.loop-id.nearest inside
              (read_at me ids i c.id-item.result within c.id-item.is)
              (λ x e. subst (λ y. improves c.args.key c.args.least c.loop-id.nearest y ≡ false) (entry_is me c.id-item.result x e) bad)
              c.loop-id.invariant.so_far
        ]);
        distance = cc;
      }
    ]

pub returns-then-eq : goal.returns-then-eq
returns-then-eq c =
    let xs = entries_at c.me-me.result c.filled-id-items.result.now in
    let end : length xs ≤ c.loop-id.id-index = omega (arith, c.loop-id-test.false, length-map c.filled-id-items.result.now (entry_at c.me-me.result)) in
    none_improves c.args.self.now.entries c.args.key c.args.least c.args.than c.loop-id.nearest
    (nearest_same xs c.args.self.now.entries c.args.key c.args.least c.args.than c.loop-id.nearest
    (subst (λ m. (z : ℕ) → Contains c.args.self.now.entries (Some z) ↔ Contains (entries_at m c.filled-id-items.result.now) (Some z))
    (sym c.me-me.ensures) c.filled-id-items.ensures)
    (subst (λ es. Nearest es c.args.key c.args.least c.args.than c.loop-id.nearest) (take_all _ _ end) c.loop-id.invariant.so_far))
    (eqb-true c.loop-id.nearest c.args.than (sym c.eq.ensures ∙ c.if-eq.true))

pub returns-else-eq : goal.returns-else-eq
returns-else-eq c =
    let xs = entries_at c.me-me.result c.filled-id-items.result.now in
    let end : length xs ≤ c.loop-id.id-index = omega (arith, c.loop-id-test.false, length-map c.filled-id-items.result.now (entry_at c.me-me.result)) in
    closest_improves c.args.self.now.entries c.args.key c.args.least c.args.than c.loop-id.nearest
    (nearest_same xs c.args.self.now.entries c.args.key c.args.least c.args.than c.loop-id.nearest
    (subst (λ m. (z : ℕ) → Contains c.args.self.now.entries (Some z) ↔ Contains (entries_at m c.filled-id-items.result.now) (Some z))
    (sym c.me-me.ensures) c.filled-id-items.ensures)
    (subst (λ es. Nearest es c.args.key c.args.least c.args.than c.loop-id.nearest) (take_all _ _ end) c.loop-id.invariant.so_far))
    (λ same. let equal : c.eq.result ≡ true = c.eq.ensures ∙ eq-eqb c.loop-id.nearest c.args.than same in cc)
