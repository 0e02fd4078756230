-- A source in memory: what each of its calls answers, and what it is afterwards.
use Rattle.std.specs.Prelude.{◌≡◌, ℕ, if◌then◌else◌}
use Rattle.outside.specs.Calls.{Calls, is_next_to_fail, after_call}
use Rattle.outside.specs.Feed.{Feed, next_piece, after_piece}
use Rattle.outside.specs.Source.{is_failed}
use Rattle.outside.specs.declared.traits.Piece.{Piece}
use Rattle.outside.specs.declared.traits.Piece.TheVariants.{Failed}

pub record SourceInMemory : Type 0 where
  pub feed : Feed
  pub calls : Calls

-- what a call with room for so many bytes answers
abbrev pub next_answer : SourceInMemory → ℕ → Piece
next_answer s room = if is_next_to_fail s.calls then Failed else next_piece s.feed room

-- the source once a call answered this
abbrev pub after_answer : SourceInMemory → Piece → SourceInMemory
after_answer s piece = record { feed = after_piece s.feed piece; calls = after_call s.calls (is_failed piece) }

-- one call with room for so many bytes
abbrev pub Gives : SourceInMemory → ℕ → Piece → SourceInMemory → Type 0
Gives s room piece after = (piece ≡ next_answer s room) × (after ≡ after_answer s piece)
