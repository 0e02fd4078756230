-- Entries that follow the sendings of what they take in.
use Rattle.std.specs.Prelude.{◌≡◌, List, ◌++◌, ◌∷◌, Contains}
use Rattle.wire_msg.specs.Words.{Envelope}
use Rattle.weave_laws.specs.Cells.{Comes}
use Rattle.weave.specs.ByStamp.{AreByStamp}
use Rattle.weave.specs.Placed.{Placed, acts_in, sent_by}

-- all that was sent stands by stamp and sender, and what an entry took in, if it was sent, was sent by one before it
pub record FollowSendings (ps : List Placed) : Type 0 where
  pub by_stamp : AreByStamp (sent_by (acts_in ps))
  pub behind : (before : List Placed) (p : Placed) (rest : List Placed) (v : Envelope) → ps ≡ before ++ p ∷ rest → p.act.entry.input ≡ Comes v →
      Contains (sent_by (acts_in ps)) v → Contains (sent_by (acts_in before)) v
