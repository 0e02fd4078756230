use Rattle.std.proofs.Common.{◌≡◌, ◌++◌, List, ℕ, ap, ◌∙◌}
use Rattle.ring_math.specs.Texts.{text_of}
use Rattle.svg_text.specs.declared.class.Class.TheVariants as class
use Rattle.svg_text.specs.Labels.{short_of}
use Rattle.svg_text.specs.Pieces.{group_end, titled_head, words_text}
use Rattle.course_picture.proofs.Pieces.{group_written}
use Rattle.course_picture.proofs.rows.put_label.Goals as goal

pub returns : goal.returns
returns c =
    let id = c.args.id in
    let at = c.args.at in
    let opened : c.open_titled.new.text ≡ c.args.text.now ++ titled_head (text_of id) =
    c.in_ok-open_titled.ensures ∙ ap (λ (words : List ℕ). c.args.text.now ++ titled_head words) c.id_to_hex.ensures.text in
    let inside : c.put_words.new.text ≡ c.open_titled.new.text ++ words_text class.Label at (short_of id) =
    c.in_ok-put_words.ensures ∙ ap (λ (words : List ℕ). c.open_titled.new.text ++ words_text class.Label at words) c.short_label.ensures in
    group_written c.close_group.result c.args.text.now c.open_titled.new.text c.put_words.new.text c.close_group.new.text (titled_head (text_of id))
    (words_text class.Label at (short_of id)) group_end opened inside c.close_group.ensures
