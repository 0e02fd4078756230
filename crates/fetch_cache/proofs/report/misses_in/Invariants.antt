use Rattle.std.proofs.Common.{◌≡◌, count_by, take}
use Rattle.fetch_cache.specs.Text.{is_miss}
use Rattle.fetch_cache.proofs.report.misses_in.Given as goal

-- those among the entries so far
abbrev pub invariant-loop-place : goal.invariant-loop-place
invariant-loop-place l = l.misses ≡ count_by is_miss (take l.place l.entries)
