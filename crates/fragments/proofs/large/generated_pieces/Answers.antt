use Rattle.std.proofs.Common.{◌≡◌, ◌/◌, IfOk, length, ap, sym, subst, ◌∙◌, arith}
use Rattle.schedule.specs.Words.{generator_after, words_to_come, bytes_of}
use Rattle.fragments.specs.declared.piece.Pieces.{Pieces}
use Rattle.fragments.specs.Large.{generated}
use Rattle.fragments.proofs.Pieced.{all_there, fragment_added, few_fragments, starts_inside}
use Rattle.fragments.proofs.Generated.{generated_long, more_taken, none_taken, part_generated}
use Rattle.fragments.proofs.large.generated_pieces.Goals as goal

pub loop-i-init : goal.loop-i-init
loop-i-init c = record { fragments = c.new-fragments.ensures.items; words = c.of_stream-words.ensures ∙ none_taken c.args.seed }

pub loop-i-preserved : goal.loop-i-preserved
loop-i-preserved c = record {
  fragments = fragment_added (generated c.args.seed c.args.size) c.loop-i.i c.loop-i.fragments.items c.push.new.self.items c.in_ok-fragment.field-0 _
      c.loop-i.invariant.fragments c.in_ok-push.ensures.items c.in_ok-fragment.ensures
      (part_generated c.args.seed c.args.size c.loop-i.i c.min.result (length c.loop-i.room / 4) c.fill.new.bytes (omega (arith, c.min.ensures))
      (starts_inside c.args.size c.loop-i.i (omega (arith, c.div_ceil-i-end.ensures))) (omega arith)
      (c.fill.ensures.bytes ∙ ap (λ g. bytes_of (words_to_come g (length c.loop-i.room / 4))) c.loop-i.invariant.words));
  words = c.fill.ensures.after ∙ ap (λ g. generator_after g (length c.loop-i.room / 4)) c.loop-i.invariant.words ∙
      more_taken c.args.seed c.loop-i.i (length c.loop-i.room / 4) (omega arith);
}

pub with_index-requires : goal.with_index-requires
with_index-requires c =
    few_fragments (generated c.args.seed c.args.size) c.loop-i.i c.args.size c.loop-i.fragments.items c.requires
    (omega (arith, c.div_ceil-i-end.ensures)) c.loop-i.invariant.fragments

pub returns : goal.returns
returns c =
    subst (λ (p : Pieces). IfOk c.with_index.result (λ pieces. pieces ≡ p))
    (all_there (generated c.args.seed c.args.size) c.loop-i.i c.args.size c.loop-i.fragments.items
    (sym (generated_long c.args.seed c.args.size c.requires)) (omega (arith, c.div_ceil-i-end.ensures)) c.loop-i.invariant.fragments)
    c.with_index.ensures
