-- A join that ends before the joiner is ready: refused, denied or given up.
use Rattle.std.specs.Prelude.{◌+◌, ◌==◌, if◌then◌else◌, Option, Some, None}
use Rattle.ring_math.specs.Names.{Id, Attempt, Number}
use Rattle.join_core.specs.declared.joiner.Joiner.{Joiner}
use Rattle.join_core.specs.declared.joiner.Joiner.TheVariants.{Waiting, Asking, Probing, Leasing, Done}
use Rattle.join_core.specs.declared.steps.Halted.{Halted}

abbrev pub halt : Attempt → Number → Option (Id × Id) → Halted
halt a n neighbours = record { attempt = a; number = n; neighbours = neighbours }

-- JoinRefuse
abbrev pub refused_of : Joiner → Attempt → Option Halted
refused_of (Asking b n) a = if a == b then Some (halt b n None) else None
refused_of (Waiting b) a = None
refused_of (Probing b n probed) a = None
refused_of (Leasing b n l r from_left from_right) a = None
refused_of (Done b) a = None

-- Deny
abbrev pub denied_of : Joiner → Attempt → Option Halted
denied_of (Leasing b n l r from_left from_right) a = if a == b then Some (halt b n (Some (l, r))) else None
denied_of (Waiting b) a = None
denied_of (Asking b n) a = None
denied_of (Probing b n probed) a = None
denied_of (Done b) a = None

-- GiveUp
abbrev pub given_up_of : Joiner → Option Halted
given_up_of (Asking b n) = Some (halt b n None)
given_up_of (Probing b n probed) = Some (halt b n None)
given_up_of (Leasing b n l r from_left from_right) = Some (halt b n (Some (l, r)))
given_up_of (Waiting b) = None
given_up_of (Done b) = None

-- the next attempt waits
abbrev pub after_halt : Option Halted → Joiner → Joiner
after_halt (Some h) j = Waiting (h.attempt + 1)
after_halt None j = j
