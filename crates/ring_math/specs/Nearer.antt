-- The nearer of two identifiers that may be missing, and what is better than another on the way to a key.
use Rattle.std.specs.Prelude.{ℕ, Bool, ◌&&◌, nat_le, if◌then◌else◌, Option, Some, None}
use Rattle.ring_math.specs.Names.{Id, Key}
use Rattle.ring_math.specs.Ring.{is_nearer, shared_of}

-- the second where it is nearer to the key, else the first; of one alone, that one
abbrev pub nearer_of : Option Id → Option Id → Key → Option Id
nearer_of None b key = b
nearer_of (Some x) None key = Some x
nearer_of (Some x) (Some y) key = if is_nearer y x key then Some y else Some x

-- z shares at least so many digits with the key, and is nearer to it than another
abbrev pub improves : Key → ℕ → Id → Id → Bool
improves key least than z = nat_le least (shared_of z key) && is_nearer z than key
