use Rattle.std.proofs.Common.{◌<◌, length, drop, arith, sym, ◌∙◌}
use Rattle.std.proofs.lemmas.Bool.{eqb-true, eqb-false}
use Rattle.std.proofs.lemmas.List.{take_rest}
use Rattle.scenario_reader.proofs.Pieces.{spaces-within, no_word, first_word, first_word-some, first_word-sizes}
use Rattle.scenario_reader.proofs.words.next_word.Goals as goal

pub prove-unreachable-requires : goal.prove-unreachable-requires
prove-unreachable-requires c =
    omega (arith, c.leading_spaces-spaces.ensures, spaces-within c.args.text.now, c.if-prove.true)

pub returns-then-is_empty-clause-none : goal.returns-then-is_empty-clause-none
returns-then-is_empty-clause-none c =
    let text = c.args.text.now in
    let k = c.leading_spaces-spaces.result in
    let empty = eqb-true _ _ (sym c.is_empty.ensures ∙ c.if-is_empty.true) in
    no_word text k c.leading_spaces-spaces.ensures (rw (take_rest text k) at empty)

pub returns-clause-some : goal.returns-clause-some
returns-clause-some c =
    let text = c.args.text.now in
    let k = c.leading_spaces-spaces.result in
    let n = c.word_len-len.result in
    let behind = take_rest text k in
    let filled = eqb-false _ _ (sym c.is_empty.ensures ∙ c.if-is_empty.false) in
    let some : 0 < length (drop k text) = omega (arith, rw behind at filled) in
    rw (behind, take_rest (drop k text) n) (
    first_word text k n c.leading_spaces-spaces.ensures some
    (rw behind at c.word_len-len.ensures.within)
    (rw behind at c.word_len-len.ensures.before)
    (rw behind at c.word_len-len.ensures.ends)
    )

pub returns-clause-sizes : goal.returns-clause-sizes
returns-clause-sizes c =
    let text = c.args.text.now in
    let k = c.leading_spaces-spaces.result in
    let n = c.word_len-len.result in
    let behind = take_rest text k in
    let filled = eqb-false _ _ (sym c.is_empty.ensures ∙ c.if-is_empty.false) in
    let some : 0 < length (drop k text) = omega (arith, rw behind at filled) in
    let within = rw behind at c.word_len-len.ensures.within in
    rw (behind, take_rest (drop k text) n) (
      first_word-some text k n c.leading_spaces-spaces.ensures some within (rw behind at c.word_len-len.ensures.ends),
      first_word-sizes text k n c.if-prove.false within,
    )
