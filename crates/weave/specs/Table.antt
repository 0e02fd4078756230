-- What a table tells of envelopes by which they are searched.
use Rattle.std.specs.Prelude.{◌≡◌, ◌≢◌, ◌<◌, ◌≤◌, ℕ, ◌+◌, ◌*◌, ◌/◌, ◌%◌, ◌^◌, min, Some, IfSome, List, All, length, map, slice_get, slice_index_or}
use Rattle.ring_math.specs.Names.{Id}
use Rattle.ring_math.specs.declared.guess.TheConstants.{SPREAD}
use Rattle.wire_msg.specs.Words.{Envelope}
use Rattle.weave.specs.ByStamp.{kept_in, AreByStamp}
use Rattle.weave.specs.declared.search.Sorted.{Sorted}
use Rattle.weave.specs.declared.starts.Starts.{Starts}
use Rattle.weave.specs.declared.ahead.Ahead.{Ahead}
use Rattle.weave.specs.declared.ahead.Sight.{Sight}

-- the halves of an identifier together
abbrev pub half_sum : Id → ℕ
half_sum x = (x % 2 ^ 64 + x / 2 ^ 64) % 2 ^ 64

-- sixteen bits of an envelope's addresses
abbrev pub mark_of : Envelope → ℕ
mark_of v = (half_sum v.sender + half_sum v.receiver * 3 % 2 ^ 64) % 2 ^ 64 * SPREAD % 2 ^ 64 / 2 ^ 48 % 2 ^ 16

-- the envelope stands nowhere before this place
abbrev pub HasNoneBefore : List Envelope → Envelope → ℕ → Type 0
HasNoneBefore vs w place = (k : ℕ) → k < place → slice_get vs k ≢ Some w

-- none of this stamp and with this mark stands before the place, and it is not past their end
pub record HasNoneSuch (vs : List Envelope) (stamp mark place : ℕ) : Type 0 where
  pub within : place ≤ length vs
  pub none : (k : ℕ) (v : Envelope) → k < place → slice_get vs k ≡ Some v → v.stamp ≡ stamp → mark_of v ≢ mark

-- each envelope has its mark, those before the begin of a row have lower stamps, and each stamp below the last row has begun
pub record IsTableOf (s : Starts) (vs : List Envelope) : Type 0 where
  pub marks : s.marks.items ≡ map mark_of vs
  pub within : (n : ℕ) → slice_index_or s.rows.items n 0 ≤ length vs
  pub lower : (n k : ℕ) (v : Envelope) → k < slice_index_or s.rows.items n 0 → slice_get vs k ≡ Some v → v.stamp < n
  pub begun : (k : ℕ) (v : Envelope) → slice_get vs k ≡ Some v → min v.stamp s.last_row < length s.rows.items

-- what was seen ahead tells of these: where it guesses a place, none such stands before it
abbrev pub AreSeen : List Envelope → Ahead → Type 0
AreSeen vs a = All (λ (s : Sight). IfSome s.guess (HasNoneSuch vs s.stamp s.mark)) a.sights

-- envelopes that stand by stamp and then by sender, with their table
pub record IsSearchable (s : Sorted) : Type 0 where
  pub by_stamp : AreByStamp (kept_in s)
  pub table : IsTableOf s.starts (kept_in s)
