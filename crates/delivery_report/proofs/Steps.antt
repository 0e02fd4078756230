-- One element more of what is written from a list: the lines of an entry, and texts that grow at their end.
use Rattle.std.proofs.Common.{◌≡◌, ℕ, ◌+◌, Option, Some, None, List, [], ◌++◌, slice_get, drop, refl, sym, ◌∙◌, ap, append_assoc}
use Rattle.wire_msg.specs.Words.{Envelope}
use Rattle.overlay_rules.specs.declared.entry.Entry.{Entry}
use Rattle.overlay_rules.specs.Record.{Visit, visit}
use Rattle.overlay_rules.proofs.Prefixes.{drop-got}
use Rattle.scenario_reader.specs.declared.node.NodeLine.{NodeLine}
use Rattle.delivery_report.specs.Deliveries.{entry_lines, lines_after}

-- a text with one line more, and what is still to come
pub written-more : (before after line whole rest all : List ℕ) → after ≡ before ++ line → whole ≡ line ++ rest → before ++ whole ≡ all → after ++ rest ≡ all
written-more before after line whole rest all one more so = rw one (append_assoc before line rest ∙ ap (λ xs. before ++ xs) (sym more) ∙ so)

-- a text with this behind it
pub record Grown (text done after : List ℕ) : Type 0 where
  pub is : after ≡ text ++ done

pub Grown-more : {text done before after : List ℕ} → Grown text done before → (more : List ℕ) → after ≡ before ++ more → Grown text (done ++ more) after
Grown-more {text} {done} grown more is = record { is = rw (is, grown.is) (append_assoc text done more) }

-- a word, and then a number or a name
pub Grown-pair : {text done before after : List ℕ} → Grown text done before → (word name : List ℕ) → after ≡ before ++ (word ++ name) →
    Grown text (done ++ word ++ name) after
Grown-pair {text} {done} grown word name is =
    record { is = (Grown-more grown (word ++ name) is).is ∙ ap (λ xs. text ++ xs) (sym (append_assoc done word name)) }

-- ---- the lines of an entry

-- the lines from entry i on
pub lines_after-got : (nodes : List NodeLine) (sent : List Envelope) (es : List Entry) (i : ℕ) (e : Entry) → slice_get es i ≡ Some e →
    lines_after nodes sent (drop i es) ≡ entry_lines nodes (visit sent e.event) e.notes ++ lines_after nodes (sent ++ e.messages) (drop (i + 1) es)
lines_after-got nodes sent es i e at = ap (lines_after nodes sent) (drop-got es i e at)

-- an entry that notes nothing has no line
pub no_lines : (nodes : List NodeLine) (at : Option Visit) → entry_lines nodes at [] ≡ []
no_lines nodes None = refl
no_lines nodes (Some at) = refl
