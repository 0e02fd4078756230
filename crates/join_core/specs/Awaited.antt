-- Whether a joiner waits for an answer: to its request, if it asks with this attempt, and to a probe, if it probes with this
-- attempt, and the sender was probed and has not answered.
use Rattle.std.specs.Prelude.{Bool, false, ◌&&◌, ◌==◌}
use Rattle.std.specs.List.{list_any}
use Rattle.ring_math.specs.Names.{Id, Attempt}
use Rattle.overlay_rules.specs.Joining.{is_unanswered}
use Rattle.join_core.specs.declared.joiner.Joiner.{Joiner}
use Rattle.join_core.specs.declared.joiner.Joiner.TheVariants.{Waiting, Asking, Probing, Leasing, Done}

abbrev pub is_asking : Joiner → Attempt → Bool
is_asking (Asking b n) a = a == b
is_asking (Waiting b) a = false
is_asking (Probing b n probed) a = false
is_asking (Leasing b n l r from_left from_right) a = false
is_asking (Done b) a = false

abbrev pub is_awaited : Joiner → Id → Attempt → Bool
is_awaited (Probing b n probed) from a = (a == b) && list_any (is_unanswered from) probed
is_awaited (Waiting b) from a = false
is_awaited (Asking b n) from a = false
is_awaited (Leasing b n l r from_left from_right) from a = false
is_awaited (Done b) from a = false
