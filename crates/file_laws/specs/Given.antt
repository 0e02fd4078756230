-- What a large scenario's answers show of its file.
use Rattle.std.specs.Prelude.{◌≡◌, ℕ, ◌+◌, ◌-◌, true, Option, Some, List, All, drop, length, take}
use Rattle.ring_math.specs.Names.{Id}
use Rattle.wire_msg.specs.declared.reply.Answer.{Answer}
use Rattle.wire_msg.specs.declared.reply.Answer.TheVariants as answer
use Rattle.wire_msg.specs.declared.reply.Reply.TheVariants as reply
use Rattle.fragments.specs.Joined.{joined}
use Rattle.fragments.specs.Large.{generated_bytes}
use Rattle.fragments.specs.Pieces.{fragment_count}
use Rattle.large_report.specs.Large.{retrieved, is_whole}

-- how the commands were closed that stored so many fragments and the index: behind them stand as many that fetched these
abbrev pub storings : ℕ → List (Option Answer) → List (Option Answer)
storings fragments closings = take (fragments + 1) (drop (length closings - (fragments + 1) - (fragments + 1)) closings)

-- a command was answered Stored
abbrev pub WasStored : Option Answer → Type 0
WasStored closing = (holders : List Id) × (closing ≡ Some (answer.Reply (reply.Stored holders)))

-- Where each piece was answered Stored, and the report says that the file is whole, the fragments that were found are joined to
-- the bytes that were generated.
abbrev pub IsGiven : ℕ → ℕ → List (Option Answer) → Type 0
IsGiven seed size closings =
    All WasStored (storings (fragment_count size) closings) →
    is_whole (retrieved (fragment_count size) closings) ≡ true →
    joined (drop 1 (retrieved (fragment_count size) closings)) ≡ generated_bytes seed size
