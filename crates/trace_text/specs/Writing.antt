-- Lines written at the end of a text.
use Rattle.std.specs.Prelude.{◌≡◌, ℕ, List, ◌++◌}
use Rattle.std.specs.List.{AllByRecursion}
use Rattle.trace_text.specs.Lines.{Line, FitsLine, text_of_lines}

-- the new text is the old one and these lines, each of which can be spelled
pub record WritesLines (old new : List ℕ) (ls : List Line) : Type 0 where
  pub text : new ≡ old ++ text_of_lines ls
  pub fits : AllByRecursion FitsLine ls
