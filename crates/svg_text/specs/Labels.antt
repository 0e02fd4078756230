-- What nodes and keys are called in pictures, and the order that nodes have there.
use Rattle.std.specs.Prelude.{ℕ, nat_lt, List, take, count_by}
use Rattle.ring_math.specs.Names.{Id}
use Rattle.ring_math.specs.Texts.{text_of}

-- the first 8 digits
abbrev pub short_of : Id → List ℕ
short_of id = take 8 (text_of id)

-- how many of these are less: the place of a node among them, from 0
abbrev pub rank_in : List Id → Id → ℕ
rank_in ids id = count_by (λ x. nat_lt x id) ids
