-- Access points: what each node's remembers, the file used last first.
use Rattle.std.specs.Prelude.{◌≡◌, ◌≢◌, ◌<◌, ℕ, ◌==◌, nat_eq, length, slice_index_or, Bool, if◌then◌else◌, Option, None, List, [], ◌∷◌, map}
use Rattle.std.specs.Map.{lookup}
use lib.Pointwise.{pointwise}
use Rattle.lru.specs.LruCache.{lru_cache, promoted, put_entries}
use Rattle.ring_math.specs.Names.{Id, FileId, Content}

-- a node's point: files with their bytes, and how many they may be
pub record Point : Type 0 where
  pub node : Id
  pub room : ℕ
  pub pairs : List (FileId × Content)

abbrev pub same_file : FileId → FileId → Bool
same_file a b = pointwise nat_eq a b

abbrev pub point_at_start : ℕ → Id → Point
point_at_start room x = record { node = x; room = room; pairs = [] }

abbrev pub points_at_start : ℕ → List Id → List Point
points_at_start room nodes = map (point_at_start room) nodes

-- the bytes that a node's point remembers of a file
abbrev pub remembered : Id → FileId → List Point → Option Content
remembered x f [] = None
remembered x f (p ∷ points) = if p.node == x then lookup (same_file f) p.pairs else remembered x f points

-- the point of a node is changed
abbrev pub changed_at : Id → (Point → Point) → List Point → List Point
changed_at x change [] = []
changed_at x change (p ∷ points) = if p.node == x then change p ∷ points else p ∷ changed_at x change points

-- a file that is asked for goes to the front
abbrev pub asked : FileId → Point → Point
asked f p = record p { pairs = promoted (same_file f) p.pairs }

-- a file that was found goes to the front, in the place of what was remembered of it; the last one goes where there is no room
abbrev pub told : FileId → Content → Point → Point
told f bytes p = record p { pairs = put_entries same_file (lru_cache p.pairs p.room) f bytes }

-- the first point of a node stands at this place, or nowhere
pub record IsPlace (x : Id) (points : List Point) (place : ℕ) : Type 0 where
  pub within : place < length points
  pub there : (d : Point) → (slice_index_or points place d).node ≡ x
  pub first : (k : ℕ) (d : Point) → k < place → (slice_index_or points k d).node ≢ x

pub record IsNowhere (x : Id) (points : List Point) : Type 0 where
  pub none : (k : ℕ) (d : Point) → k < length points → (slice_index_or points k d).node ≢ x
