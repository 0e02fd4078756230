-- Lines of a record's entries, one after another.
use Rattle.std.proofs.Common.{◌≡◌, ◌+◌, ℕ, Option, Some, None, List, [], ◌∷◌, ◌++◌, take, drop, slice_get, append_assoc, refl}
use Rattle.std.proofs.Common.{sym, ap, ◌∙◌}
use Rattle.std.specs.Prelude.{flat_map, option_map}
use Rattle.std.proofs.lemmas.List.{drop_more}
use Rattle.std.proofs.lemmas.Option.{get_or_from_slice_get, slice_get_within}
use Rattle.ring_math.specs.Names.{Id}
use Rattle.scenario_reader.specs.declared.node.NodeLine.{NodeLine}
use Rattle.scribe_core.specs.Entry.{GroupEntry}
use Rattle.scribe_core.specs.declared.note.GroupNote.{GroupNote}
use Rattle.scribe_core.specs.Record.{Visit, sent_in, visit}
use Rattle.scribe_core.proofs.Holding.{sent_in-push}
use Rattle.scribe_core.proofs.Kept.{take_next}
use Rattle.group_report.specs.Hearings.{entry_lines, hearing_line, lines_after}

-- the lines of an entry, by its node
pub lines_of_node : (nodes : List NodeLine) (o : Option Visit) (x : Id) (notes : List GroupNote) → Some x ≡ option_map (λ (v : Visit). v.node) o →
    entry_lines nodes o notes ≡ flat_map (hearing_line nodes x) notes
lines_of_node nodes None x notes e = cc
lines_of_node nodes (Some v) x notes e = let same : x ≡ v.node = cc in ap (λ (y : ℕ). flat_map (hearing_line nodes y) notes) (sym same)

pub lines_of_none : (nodes : List NodeLine) (o : Option Visit) (notes : List GroupNote) → None ≡ option_map (λ (v : Visit). v.node) o →
    entry_lines nodes o notes ≡ []
lines_of_none nodes None notes e = refl
lines_of_none nodes (Some v) notes e = cc

-- the lines that are left, from the next entry on
pub lines_next : (nodes : List NodeLine) (es : List GroupEntry) (i : ℕ) (e : GroupEntry) (before after : List ℕ) → slice_get es i ≡ Some e →
    after ≡ before ++ entry_lines nodes (visit (sent_in (take i es)) e.event) e.notes →
    after ++ lines_after nodes (sent_in (take (i + 1) es)) (drop (i + 1) es) ≡ before ++ lines_after nodes (sent_in (take i es)) (drop i es)
lines_next nodes es i e before after is more =
    ap (λ text. text ++ lines_after nodes (sent_in (take (i + 1) es)) (drop (i + 1) es)) more
    ∙ append_assoc before (entry_lines nodes (visit (sent_in (take i es)) e.event) e.notes) (lines_after nodes (sent_in (take (i + 1) es)) (drop (i + 1) es))
    ∙ ap (λ text. before ++ text)
    (ap (λ sent. entry_lines nodes (visit (sent_in (take i es)) e.event) e.notes ++ lines_after nodes sent (drop (i + 1) es)) sent
    ∙ ap (lines_after nodes (sent_in (take i es))) (sym (drop_more es i e (slice_get_within es i e is)
    ∙ ap (λ (d : GroupEntry). d ∷ drop (i + 1) es) (get_or_from_slice_get es i e e is)))) where
      sent : sent_in (take (i + 1) es) ≡ sent_in (take i es) ++ e.messages
      sent = ap sent_in (take_next es i e is) ∙ sent_in-push (take i es) e
