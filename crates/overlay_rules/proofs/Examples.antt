-- The worked examples: whole records that schedules give, entry by entry, as the rules compute them.
pub mod LeastRun
pub mod Tie
pub mod SecondJoin
pub mod CrossingJoins
pub mod StaleRelease
pub mod Handover
pub mod TwoCopies
pub mod ReclaimAlone
pub mod TombstoneHandover
pub mod NeighbouringJoins
