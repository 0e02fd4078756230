-- Which stamps the envelopes of a record carry.
use Rattle.std.specs.Prelude.{◌≡◌, suc, List, [], ◌∷◌, All}
use Rattle.ring_math.specs.Names.{Stamp}
use Rattle.overlay_rules.specs.declared.entry.Entry.{Entry}

-- those of the first entry carry n, those of the next one n + 1, and so on
abbrev pub AreStampedFrom : Stamp → List Entry → Type 0
AreStampedFrom n [] = Unit {0}
AreStampedFrom n (e ∷ es) = All (λ v. v.stamp ≡ n) e.messages × AreStampedFrom (suc n) es

-- the n-th entry's carry n, counted from 1
abbrev pub AreStamped : List Entry → Type 0
AreStamped es = AreStampedFrom 1 es
