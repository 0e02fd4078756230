-- Where a file stands, or would stand, among entries.
use Rattle.std.specs.Prelude.{◌≡◌, ◌<◌, ◌≤◌, length, ℕ, Bool, true, false, ◌&&◌, if◌then◌else◌, List, [], ◌∷◌, suc}
use Rattle.ring_math.specs.Names.{FileId}
use Rattle.ring_math.specs.declared.file.Held.{Held}
use Rattle.ring_math.specs.Bytewise.{is_before, same_bytes}

-- the first place whose file is not before this one
abbrev pub place_of : List Held → FileId → ℕ
place_of [] file = 0
place_of (h ∷ hs) file = if is_before h.file file then suc (place_of hs file) else 0

-- an entry for the file stands at its place
abbrev pub is_here : List Held → FileId → Bool
is_here [] file = false
is_here (h ∷ hs) file = if is_before h.file file then is_here hs file else same_bytes h.file file

abbrev pub is_before_first : FileId → List Held → Bool
is_before_first file [] = true
is_before_first file (h ∷ hs) = is_before file h.file

-- each file comes before the next one
abbrev pub is_rising : List Held → Bool
is_rising [] = true
is_rising (h ∷ hs) = is_before_first h.file hs && is_rising hs

-- the file has an entry, at place p
pub record StandsAt (hs : List Held) (file : FileId) (p : ℕ) : Type 0 where
  pub place : p ≡ place_of hs file
  pub within : p < length hs
  pub here : is_here hs file ≡ true

-- the file has no entry, and would go in at place p
pub record GoesInAt (hs : List Held) (file : FileId) (p : ℕ) : Type 0 where
  pub place : p ≡ place_of hs file
  pub within : p ≤ length hs
  pub absent : is_here hs file ≡ false
