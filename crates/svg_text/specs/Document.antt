-- The document that a picture stands in: its root, the style sheet with the heads of lines, and the paper.
use Rattle.std.specs.Prelude.{ℕ, List, ◌++◌, codes}
use Rattle.svg_text.specs.declared.class.Class.TheVariants as class
use Rattle.svg_text.specs.declared.document.TheConstants.{STYLE}
use Rattle.svg_text.specs.declared.point.Point.{Point}
use Rattle.svg_text.specs.Pieces.{place_text, rect_text}
use Rattle.svg_text.specs.Picture.{Picture, text_of, place}

abbrev pub root_text : Point → List ℕ
root_text size =
    codes "<?xml version='1.0' encoding='UTF-8'?>\n<svg xmlns='http://www.w3.org/2000/svg' version='1.1'"
    ++ place_text (codes " width='") (codes "' height='") size
    ++ place_text (codes "' viewBox='0 0 ") (codes " ") size ++ codes "'>\n"

abbrev pub document_head : Point → List ℕ
document_head size = root_text size ++ STYLE.now ++ rect_text class.Paper (place 0 0) size

abbrev pub document_end : List ℕ
document_end = codes "</svg>\n"

-- the picture as a document of this size
abbrev pub document : Point → Picture → List ℕ
document size picture = document_head size ++ (text_of picture ++ document_end)
