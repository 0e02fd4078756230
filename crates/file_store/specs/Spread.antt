-- Entries that stay where they came in, and places that give their order.
use Rattle.std.specs.Prelude.{◌≡◌, ◌<◌, ◌≤◌, ℕ, ◌==◌, Bool, true, not, ◌&&◌, None, List, [], ◌∷◌, length, map, slice_index_or}
use Rattle.std.specs.List.{list_all}
use Rattle.ring_math.specs.declared.limits.TheConstants.{MOST_ENTRIES}
use Rattle.ring_math.specs.declared.file.Held.{Held}
use Rattle.file_store.specs.Heads.{IsHead}

-- no entry at all
abbrev pub blank : Held
blank = record { file = []; slot = None }

abbrev pub entry_at : List Held → ℕ → Held
entry_at entries place = slice_index_or entries place blank

-- the entries in the order of their places
abbrev pub spread : List Held → List ℕ → List Held
spread entries places = map (λ place. entry_at entries place) places

-- each place leads to an entry
abbrev pub EachLeads : List Held → List ℕ → Type 0
EachLeads entries [] = Unit {0}
EachLeads entries (p ∷ ps) = (p < length entries) × EachLeads entries ps

-- each entry has the head of its file
abbrev pub EachHead : List Held → List ℕ → Type 0
EachHead [] [] = Unit {0}
EachHead [] (n ∷ ns) = ⊥
EachHead (h ∷ hs) [] = ⊥
EachHead (h ∷ hs) (n ∷ ns) = IsHead h.file n × EachHead hs ns

-- none of the places is this one
abbrev pub is_free : ℕ → List ℕ → Bool
is_free place places = list_all (λ p. not (p == place)) places

-- no two places are one
abbrev pub are_apart : List ℕ → Bool
are_apart [] = true
are_apart (p ∷ ps) = is_free p ps && are_apart ps

-- what an arena keeps
pub record Kept (entries : List Held) (heads places : List ℕ) : Type 0 where
  pub count : length places ≡ length entries
  pub beside : length heads ≡ length entries
  pub limit : length entries ≤ MOST_ENTRIES
  pub leads : EachLeads entries places
  pub begins : EachHead entries heads
  pub apart : are_apart places ≡ true
