use Rattle.std.proofs.Common.{◌≡◌, length, refl, arith, ◌∙◌}
use Rattle.schedule.proofs.Filling.{word_filled, after_word}
use Rattle.schedule.proofs.words.Words.fill.Goals as goal

pub words-preserved : goal.words-preserved
words-preserved c =
    let wrote = c.copy_from_slice.ensures.after ∙ c.to_be_bytes.ensures in
    let len : length c.copy_from_slice.new.self ≡ 4 = rw wrote refl in
    record {
      filled = word_filled c.args.self.now c.words.self c.words.i _ _ _ c.next-word.result c.words.bytes c.copy_from_slice.new.self
          c.words.invariant.filled c.words.invariant.after c.next-word.ensures.word wrote (omega arith) (omega arith);
      after = after_word c.args.self.now c.words.self c.next-word.new.self c.words.i c.words.invariant.after c.next-word.ensures.after;
    }
