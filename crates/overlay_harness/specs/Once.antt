-- Histories that took each envelope once.
use Rattle.std.specs.Prelude.{◌≡◌, ◌≢◌, List, All, AllPairs}
use Rattle.std.specs.List.{count_by}
use Rattle.weave_laws.specs.Cells.{History}
use Rattle.overlay_harness.specs.Inputs.{envelopes_in, is_noise}
use Rattle.overlay_harness.specs.Ran.{inputs_in}

-- each envelope that came to the node came once, and no noise came
pub record TookOnce (h : History) : Type 0 where
  pub once : AllPairs ◌≢◌ (envelopes_in (inputs_in h))
  pub no_noise : count_by is_noise (inputs_in h) ≡ 0

abbrev pub AllTookOnce : List History → Type 0
AllTookOnce hs = All TookOnce hs
