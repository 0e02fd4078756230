use Rattle.std.proofs.Common.{arith}
use Rattle.weave.proofs.starts.Starts.start.Goals as goal

pub returns-in-None : goal.returns-in-None
returns-in-None c = λ vs h last k v lt e.
    let known = h.begun k v e in
    let past = c.in-None.ensures.lookup in
    omega (arith, known, past, last, c.deref.ensures.len)
