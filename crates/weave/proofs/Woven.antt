-- Cells whose entries were woven: their histories are those of a setting, and the record is theirs.
use Rattle.std.proofs.Common.{◌≡◌, ◌==◌, List, [], ◌∷◌, ◌++◌, Contains, All, refl, sym, subst, ap, ◌∙◌, arith}
use Rattle.std.proofs.lemmas.List.Concat.{flat_map-cons}
use Rattle.std.proofs.lemmas.List.Elements.{All-cons, All-head, All-tail}
use Rattle.std.specs.List.{AllZip}
use Rattle.ring_math.specs.Names.{Id}
use Rattle.wire_msg.specs.Words.{Envelope}
use Rattle.overlay_rules.specs.declared.entry.Entry.{Entry}
use Rattle.overlay_rules.specs.declared.entry.Record.{Record}
use Rattle.overlay_rules.specs.Record.{Legal, Setting, sent_in}
use Rattle.weave_laws.specs.AtNode.{IsPartOf}
use Rattle.weave_laws.proofs.AtNodes.{histories_are_parts}
use Rattle.weave_laws.proofs.Lawful.{woven_is_legal}
use Rattle.weave_laws.specs.Cells.{History, IsCellHistory}
use Rattle.weave_laws.specs.Histories.{AreHistories, IsHistoryIn}
use Rattle.weave_laws.specs.Woven.{Act, IsEntryOf, IsWoven, IsWovenOrder}
use Rattle.node_cell.specs.Cell.{Cell}
use Rattle.weave.specs.Cells.{AreOneRing, IsLawful, histories, kept_history, nodes, setting_of}
use Rattle.weave.specs.Placed.{sent_by}
use Rattle.weave.proofs.Placing.{later}

-- ---- the histories

each_history : (g : Setting) (cells : List Cell) → ((x : Id) → Contains (nodes cells) x → Contains g.nodes x) →
    All (λ (c : Cell). c.is_founder ≡ (c.node == g.founder)) cells → All IsLawful cells → All (IsHistoryIn g) (histories cells)
each_history g [] among alone lawful = λ k d lt. absurd (omega arith)
each_history g (c ∷ cells) among alone lawful =
    let own = All-head IsLawful c cells lawful in
    All-cons (IsHistoryIn g) (kept_history c) (histories cells) (record {
      member = among c.node (0, omega arith, refl);
      cell = subst (λ b. IsCellHistory c.node b c.history) (All-head (λ (d : Cell). d.is_founder ≡ (d.node == g.founder)) c cells alone) own.history;
      numbers = own.numbers;
    })
    (each_history g cells (λ x k. among x (later c.node (nodes cells) x k))
    (All-tail (λ (d : Cell). d.is_founder ≡ (d.node == g.founder)) c cells alone) (All-tail IsLawful c cells lawful))

pub are_histories : (cells : List Cell) (founder : Id) → AreOneRing cells founder → All IsLawful cells →
    AreHistories (setting_of cells founder) (histories cells)
are_histories cells founder r lawful =
    record { each = each_history (setting_of cells founder) cells (λ x k. k) r.alone lawful; apart = r.numbers }

-- ---- the record

pub legal_if_woven : (cells : List Cell) (founder : Id) → AreOneRing cells founder → All IsLawful cells → (r : Record) → IsWoven (histories cells) r →
    Legal (setting_of cells founder) r.entries
legal_if_woven cells founder ring lawful r w =
    woven_is_legal (setting_of cells founder) (histories cells) r (are_histories cells founder ring lawful) w

pub parts_if_woven : (cells : List Cell) (founder : Id) → AreOneRing cells founder → All IsLawful cells → (r : Record) → IsWoven (histories cells) r →
    All (IsPartOf r.entries) (histories cells)
parts_if_woven cells founder ring lawful r w =
    histories_are_parts (setting_of cells founder) (histories cells) r (are_histories cells founder ring lawful) w

-- what a record's entries sent is what they become of sent
pub sent_is : (sent : List Envelope) (acts : List Act) (es : List Entry) → AllZip (IsEntryOf sent) acts es → sent_in es ≡ sent_by acts
sent_is sent [] [] z = refl
sent_is sent [] (e ∷ es) z = absurd z
sent_is sent (a ∷ acts) [] z = absurd z
sent_is sent (a ∷ acts) (e ∷ es) z =
    ap (λ vs. vs ++ sent_in es) z.0.messages ∙ ap (λ vs. a.entry.sent ++ vs) (sent_is sent acts es z.1)
    ∙ sym (flat_map-cons (λ (d : Act). d.entry.sent) a acts)

pub is_woven : (hs : List History) (acts : List Act) (es : List Entry) → IsWovenOrder hs acts → AllZip (IsEntryOf (sent_by acts)) acts es →
    IsWoven hs (record { entries = es; skipped = 0 })
is_woven hs acts es o z = record {
  acts = acts;
  order = o;
  entries = subst (λ vs. AllZip (IsEntryOf vs) acts es) (sym (sent_is (sent_by acts) acts es z)) z;
  skipped = refl;
}
