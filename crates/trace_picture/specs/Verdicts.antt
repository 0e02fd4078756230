-- What a picture says of the verdict, in the words of the check.
use Rattle.std.specs.Prelude.{ℕ, List, ◌++◌, codes, decimal}
use Rattle.trace_check.specs.declared.verdict.Part.{Part}
use Rattle.trace_check.specs.declared.verdict.Verdict.{Verdict}
use Rattle.trace_check.specs.declared.verdict.Verdict.TheVariants as verdict
use Rattle.trace_check.specs.Words.{part_word}
use Rattle.svg_text.specs.declared.class.Class.TheVariants as class
use Rattle.svg_text.specs.declared.point.Point.{Point}
use Rattle.svg_text.specs.Picture.{Picture, Words}

abbrev pub wrong_words : ℕ → Part → List ℕ
wrong_words entry p = codes "wrong entry " ++ decimal entry ++ codes " " ++ part_word p

abbrev pub verdict_picture : Point → Verdict → Picture
verdict_picture at (verdict.Legal ready) = Words class.Label at (codes "legal")
verdict_picture at (verdict.Wrong entry p) = Words class.Wrong at (wrong_words entry p)
