-- The status of each fault, and when it can come.
use Rattle.std.specs.Prelude.{ℕ, Option, Some, None}
use Rattle.pastry.specs.declared.outcome.TopFault.{TopFault}
use Rattle.pastry.specs.declared.outcome.TopFault.TheVariants as fault

abbrev pub status_of : Option TopFault → ℕ
status_of None = 0
status_of (Some fault.Usage) = 2
status_of (Some (fault.Scenario f)) = 3
status_of (Some (fault.Trace f)) = 3
status_of (Some fault.Read) = 4
status_of (Some fault.Write) = 5
status_of (Some fault.OutOfMemory) = 6
status_of (Some (fault.Run f)) = 8
status_of (Some (fault.Wrong entry part)) = 10

-- a fault that can come while a scenario is read
abbrev pub IsReadingFault : TopFault → Type 0
IsReadingFault fault.Usage = ⊥
IsReadingFault (fault.Scenario f) = Unit {0}
IsReadingFault (fault.Trace f) = ⊥
IsReadingFault fault.Read = Unit {0}
IsReadingFault fault.Write = ⊥
IsReadingFault (fault.Run f) = ⊥
IsReadingFault fault.OutOfMemory = Unit {0}
IsReadingFault (fault.Wrong entry part) = ⊥

-- while one is read, played and told
abbrev pub IsPlayingFault : TopFault → Type 0
IsPlayingFault fault.Usage = ⊥
IsPlayingFault (fault.Scenario f) = Unit {0}
IsPlayingFault (fault.Trace f) = ⊥
IsPlayingFault fault.Read = Unit {0}
IsPlayingFault fault.Write = Unit {0}
IsPlayingFault (fault.Run f) = ⊥
IsPlayingFault fault.OutOfMemory = Unit {0}
IsPlayingFault (fault.Wrong entry part) = ⊥

-- while one is read, run and told
abbrev pub IsRunningFault : TopFault → Type 0
IsRunningFault fault.Usage = ⊥
IsRunningFault (fault.Scenario f) = Unit {0}
IsRunningFault (fault.Trace f) = ⊥
IsRunningFault fault.Read = Unit {0}
IsRunningFault fault.Write = Unit {0}
IsRunningFault (fault.Run f) = Unit {0}
IsRunningFault fault.OutOfMemory = Unit {0}
IsRunningFault (fault.Wrong entry part) = ⊥

-- while one is made, played and told
abbrev pub IsMakingFault : TopFault → Type 0
IsMakingFault fault.Usage = ⊥
IsMakingFault (fault.Scenario f) = ⊥
IsMakingFault (fault.Trace f) = ⊥
IsMakingFault fault.Read = ⊥
IsMakingFault fault.Write = Unit {0}
IsMakingFault (fault.Run f) = ⊥
IsMakingFault fault.OutOfMemory = Unit {0}
IsMakingFault (fault.Wrong entry part) = ⊥

-- while a trace is read
abbrev pub IsTraceReadingFault : TopFault → Type 0
IsTraceReadingFault fault.Usage = ⊥
IsTraceReadingFault (fault.Scenario f) = ⊥
IsTraceReadingFault (fault.Trace f) = Unit {0}
IsTraceReadingFault fault.Read = Unit {0}
IsTraceReadingFault fault.Write = ⊥
IsTraceReadingFault (fault.Run f) = ⊥
IsTraceReadingFault fault.OutOfMemory = Unit {0}
IsTraceReadingFault (fault.Wrong entry part) = ⊥

-- while one is read, checked and told
abbrev pub IsCheckingFault : TopFault → Type 0
IsCheckingFault fault.Usage = ⊥
IsCheckingFault (fault.Scenario f) = ⊥
IsCheckingFault (fault.Trace f) = Unit {0}
IsCheckingFault fault.Read = Unit {0}
IsCheckingFault fault.Write = Unit {0}
IsCheckingFault (fault.Run f) = ⊥
IsCheckingFault fault.OutOfMemory = Unit {0}
IsCheckingFault (fault.Wrong entry part) = Unit {0}

-- while a node is served
abbrev pub IsServingFault : TopFault → Type 0
IsServingFault fault.Usage = ⊥
IsServingFault (fault.Scenario f) = ⊥
IsServingFault (fault.Trace f) = ⊥
IsServingFault fault.Read = Unit {0}
IsServingFault fault.Write = Unit {0}
IsServingFault (fault.Run f) = ⊥
IsServingFault fault.OutOfMemory = Unit {0}
IsServingFault (fault.Wrong entry part) = ⊥

-- the ends of a run that has written something, if only a part; a node that is served may have answered by any end
abbrev pub HasWritten : Option TopFault → Type 0
HasWritten None = Unit {0}
HasWritten (Some fault.Usage) = ⊥
HasWritten (Some (fault.Scenario f)) = ⊥
HasWritten (Some (fault.Trace f)) = ⊥
HasWritten (Some fault.Read) = ⊥
HasWritten (Some fault.Write) = Unit {0}
HasWritten (Some (fault.Run f)) = ⊥
HasWritten (Some fault.OutOfMemory) = ⊥
HasWritten (Some (fault.Wrong entry part)) = Unit {0}
