-- A record that is woven entry by entry.
use Rattle.std.specs.Prelude.{◌≡◌, ◌≢◌, ◌≤◌, ◌<◌, ◌⊎◌, ℕ, List, [], ◌++◌, ◌∷◌, length, slice_index_or}
use Rattle.overlay_rules.specs.declared.entry.Entry.{Entry}
use Rattle.overlay_rules.specs.Record.{sent_in}
use Rattle.weave_laws.specs.Cells.{History}
use Rattle.weave_laws.specs.Woven.{Act, IsEntryOf}
use Rattle.weave.specs.declared.acts.Act.{Act as CodeAct}
use Rattle.weave.specs.declared.weaving.Weaving.{Weaving}
use Rattle.weave.specs.Placed.{IsWithin, act_at}
use Rattle.weave.specs.Table.{AreSeen, IsTableOf}

-- one more entry, the one that an entry of a history becomes
pub record HasOneMore (act : Act) (before after : List Entry) : Type 0 where
  pub entry : Entry
  pub becomes : IsEntryOf (sent_in before) act entry
  pub more : after ≡ before ++ entry ∷ []

-- nothing is kept for the next entry
pub record IsEmptied (w : Weaving) : Type 0 where
  pub messages : w.messages.items ≡ []
  pub notes : w.notes.items ≡ []

-- the table is that of all that was sent, and what was seen ahead tells of it
pub record IsTabled (w : Weaving) : Type 0 where
  pub table : IsTableOf w.starts (sent_in w.entries)
  pub seen : AreSeen (sent_in w.entries) w.ahead

-- the entries that stand elsewhere than this one are as before
pub record KeepsOthers (a : CodeAct) (before after : List History) : Type 0 where
  pub within : (b : CodeAct) → IsWithin before b → IsWithin after b
  pub same : (b : CodeAct) → (a.history ≢ b.history) ⊎ (a.place ≢ b.place) → act_at after b ≡ act_at before b

-- the entries of these from the i-th on are as they were before
pub record StillStand (before after : List History) (acts : List CodeAct) (i : ℕ) : Type 0 where
  pub within : (k : ℕ) (d : CodeAct) → i ≤ k → k < length acts → IsWithin after (slice_index_or acts k d)
  pub same : (k : ℕ) (d : CodeAct) → i ≤ k → k < length acts → act_at after (slice_index_or acts k d) ≡ act_at before (slice_index_or acts k d)
