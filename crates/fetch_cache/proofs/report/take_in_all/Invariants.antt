use Rattle.std.proofs.Common.{◌≡◌, ◌+◌, ◌<◌, ℕ, None, length, take, get_or}
use Rattle.std.specs.Option.{option_or, option_copied}
use Rattle.fetch_cache.specs.Text.{hit_of}
use Rattle.fetch_cache.proofs.report.take_in_all.Given as goal

abbrev pub invariant-loop-hit : goal.invariant-loop-hit
invariant-loop-hit l = (k : ℕ) → k < length l.initial.slots →
    option_copied (get_or l.slots k None) ≡ option_or (option_copied (get_or l.initial.slots k None)) (hit_of (k + 1) (take l.hit-index l.hits))
