use Rattle.std.proofs.Common.{◌≡◌, ◌∙◌, ◌<◌, ℕ, Some, cond, slice_index, nat_cmp, subst, arith}
use Rattle.std.specs.BTreeMap.{get, is_at}
use Rattle.world_model.proofs.Finding.{FindsTo-more, index-or}
use Rattle.world_model.proofs.cells.places_of.Goals as goal

pub loop-place-preserved : goal.loop-place-preserved
loop-place-preserved c =
    let l : c.loop-place.place < _ = c.loop-place-test.true in
    let key : c.id.inside.0 ≡ slice_index c.args.ids.now c.loop-place.place =
    c.id.view_is ∙ c.index-ids-place.is ∙ index-or c.args.ids.now c.loop-place.place c.index-ids-place.result l in
    FindsTo-more c.loop-place.places c.insert.new.self c.args.ids.now c.loop-place.place c.requires l c.loop-place.invariant
    (subst (λ (x : ℕ). (q : ℕ) → get nat_cmp c.insert.new.self q ≡ cond (is_at (nat_cmp x) q) (Some c.loop-place.place) (get nat_cmp c.loop-place.places q)) key
    c.in_ok-insert.ensures.updates.0)

pub returns : goal.returns
returns c =
    record {
      at = λ k l. c.loop-place.invariant.at k (omega arith);
      only = λ x k e. let o = c.loop-place.invariant.only x k e in (omega (arith, o.0), o.1);
    }
