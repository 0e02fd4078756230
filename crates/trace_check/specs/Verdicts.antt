-- The verdict on a record: that it is legal, or which entry is the first that may not stand there, and what of it is wrong.
use Rattle.std.specs.Prelude.{◌≡◌, ℕ, suc, Bool, true, false, List, Some, length, map, take, slice_get, Contains}
use Rattle.overlay_rules.specs.declared.entry.Event.{Event}
use Rattle.overlay_rules.specs.declared.entry.Entry.{Entry}
use Rattle.overlay_rules.specs.Step.{step}
use Rattle.overlay_rules.specs.Record.{Setting, World, Visit, visit, sent_in, unstamped, enveloped, IsFresh, Legal, world_after}
use Rattle.step_facts.specs.ReadyCount.{ready_count}
use Rattle.trace_check.specs.declared.verdict.Part.{Part}
use Rattle.trace_check.specs.declared.verdict.Part.TheVariants as part
use Rattle.trace_check.specs.declared.verdict.Verdict.{Verdict}
use Rattle.trace_check.specs.declared.verdict.Verdict.TheVariants as verdict

-- in this world the event may come next: it comes to a node of the setting, its message was sent, and its number is new
pub record MayCome (g : Setting) (w : World) (v : Event) : Type 0 where
  pub at : Visit
  pub is_at : visit (sent_in w.past) v ≡ Some at
  pub member : Contains g.nodes at.node
  pub fresh : IsFresh w.past v

-- the entry sent, but for stamps, what its step sends
abbrev pub SentRightly : World → Entry → Type 0
SentRightly w e = (at : Visit) → visit (sent_in w.past) e.event ≡ Some at →
    map unstamped e.messages ≡ map (enveloped 0 at.node) (step (w.states at.node) at.input).sends

-- the entry noted what its step notes
abbrev pub NotedRightly : World → Entry → Type 0
NotedRightly w e = (at : Visit) → visit (sent_in w.past) e.event ≡ Some at → e.notes ≡ (step (w.states at.node) at.input).notes

-- this part of the entry is wrong, and no part before it
abbrev pub IsWrongIn : Setting → World → Entry → Part → Type 0
IsWrongIn g w e part.Event = ¬ MayCome g w e.event
IsWrongIn g w e part.Sent = MayCome g w e.event × (¬ SentRightly w e)
IsWrongIn g w e part.Notes = MayCome g w e.event × SentRightly w e × (¬ NotedRightly w e)

-- the first i entries are not legal, and those before the last of them are; this part of it is wrong
pub record IsFirstWrong (g : Setting) (es : List Entry) (i : ℕ) (p : Part) : Type 0 where
  pub place : ℕ
  pub entry : Entry
  pub last : i ≡ suc place
  pub stands : slice_get es place ≡ Some entry
  pub before : Legal g (take place es)
  pub here : ¬ Legal g (take i es)
  pub wrong : IsWrongIn g (world_after g es place) entry p

abbrev pub IsVerdict : Setting → List Entry → Verdict → Type 0
IsVerdict g es (verdict.Legal ready) = Legal g es × (ready ≡ ready_count g (world_after g es (length es)))
IsVerdict g es (verdict.Wrong i p) = IsFirstWrong g es i p

abbrev pub is_legal : Verdict → Bool
is_legal (verdict.Legal ready) = true
is_legal (verdict.Wrong i p) = false
