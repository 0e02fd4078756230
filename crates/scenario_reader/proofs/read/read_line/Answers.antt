use Rattle.std.proofs.Common.{◌≡◌, length, map, sym, ◌∙◌, ap}
use Rattle.std.proofs.lemmas.Bool.{le-ltb}
use Rattle.scenario_reader.specs.Words.{plain_word}
use Rattle.scenario_reader.specs.Words.{words_of}
use Rattle.scenario_reader.proofs.read.read_line.Goals as goal

pub returns : goal.returns
returns c =
    let short = le-ltb 9000 (length c.args.text.now) c.if-text-gt-MOST_LINE_BYTES.false in
    let clean = sym c.first_outside_text.ensures.value ∙ c.in_default.is in
    let words : words_of c.args.text.now ≡ map plain_word c.deref.result.now =
    sym c.in_ok-words.ensures.words ∙ ap (map plain_word) (sym c.deref.ensures.value) in
    rw (short, clean, words) c.read_words.ensures
