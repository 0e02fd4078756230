-- What a joiner does not wait for is no reply, and is dropped.
use Rattle.std.proofs.Common.{◌≡◌, ℕ, Bool, false, if◌then◌else◌, None, List, refl, sym, ap}
use Rattle.join_core.specs.declared.joiner.Joiner.{Joiner}
use Rattle.join_core.specs.declared.joiner.Joiner.TheVariants.{Waiting, Asking, Probing, Leasing, Done}
use Rattle.join_core.specs.declared.steps.ProbeStep.TheVariants.{Dropped}
use Rattle.join_core.specs.Awaited.{is_asking, is_awaited}
use Rattle.join_core.specs.Probes.{reply_of, unless_empty, probe_step_of, step_with, new_of}

pub not-asking : (j : Joiner) (a : ℕ) (leafs : List ℕ) → is_asking j a ≡ false → None ≡ reply_of j a leafs
not-asking (Asking b n) a leafs e = sym (ap (λ (t : Bool). if t then unless_empty leafs else None) e)
not-asking (Waiting b) a leafs e = refl
not-asking (Probing b n probed) a leafs e = refl
not-asking (Leasing b n x y from_left from_right) a leafs e = refl
not-asking (Done b) a leafs e = refl

-- whatever was learnt from it
pub not-awaited : (j : Joiner) (from a : ℕ) (leafs : List ℕ) (l r : ℕ) → is_awaited j from a ≡ false → Dropped ≡ probe_step_of j from a leafs l r
not-awaited (Probing b n probed) from a leafs l r e = sym (ap (λ (t : Bool). if t then step_with b probed from (new_of probed leafs) l r else Dropped) e)
not-awaited (Waiting b) from a leafs l r e = refl
not-awaited (Asking b n) from a leafs l r e = refl
not-awaited (Leasing b n x y from_left from_right) from a leafs l r e = refl
not-awaited (Done b) from a leafs l r e = refl
