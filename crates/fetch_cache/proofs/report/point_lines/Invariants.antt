use Rattle.std.proofs.Common.{◌≡◌, ◌+◌, ◌++◌, drop, map}
use Rattle.std.specs.Option.{option_copied}
use Rattle.fetch_cache.specs.Text.{point_lines}
use Rattle.fetch_cache.proofs.report.point_lines.Given as goal

-- the lines so far and those still to come
abbrev pub invariant-loop-place : goal.invariant-loop-place
invariant-loop-place l =
    l.text ++ point_lines l.names l.fn.hits (l.place + 1) (map option_copied (drop l.place l.closings)) ≡
    l.initial.text ++ point_lines l.names l.fn.hits 1 (map option_copied l.closings)
