-- What is said of the ring in its middle, and what its marks mean.
use Rattle.std.specs.Prelude.{ℕ, ◌+◌, ◌-◌, List, ◌++◌, codes, decimal}
use Rattle.svg_text.specs.declared.class.Class.TheVariants as class
use Rattle.svg_text.specs.Picture.{Picture, Then, Line, Circle, Triangle, Words, place}
use Rattle.ring_picture.specs.declared.layout.Layout.{Layout}

abbrev pub after_picture : Layout → ℕ → Picture
after_picture a after = Words class.LabelMiddle (place a.center (a.center - 4)) (codes "after entry " ++ decimal after)

abbrev pub ready_picture : Layout → ℕ → ℕ → Picture
ready_picture a ready nodes =
    Words class.LabelMiddle (place a.center (a.center + 12)) ((codes "ready " ++ decimal ready) ++ (codes " of " ++ decimal nodes))

-- after how many entries, and how many nodes of how many are ready
abbrev pub caption_picture : Layout → ℕ → ℕ → ℕ → Picture
caption_picture a after ready nodes = Then (after_picture a after) (ready_picture a ready nodes)

-- the words beside a mark
abbrev pub legend_words : ℕ → List ℕ → Picture
legend_words y words = Words class.Faint (place 28 y) words

abbrev pub node_legend : Picture
node_legend =
    Then (Then (Circle class.Ready (place 15 12) 4) (legend_words 15 (codes "ready")))
    (Then (Circle class.Joiner (place 15 26) 4) (legend_words 29 (codes "not ready")))

abbrev pub side_legend : Picture
side_legend =
    Then (Then (Line class.Link (place 8 40) (place 22 40)) (legend_words 43 (codes "links")))
    (Then (Line class.Gate (place 8 54) (place 22 54)) (legend_words 57 (codes "gate for a joiner")))

abbrev pub key_legend : Picture
key_legend =
    Then (Triangle class.Key (place 15 62) (place 20 70) (place 10 70)) (legend_words 71 (codes "key of a file, to its owner"))

abbrev pub legend_picture : Picture
legend_picture = Then node_legend (Then side_legend key_legend)
