-- What a cell keeps lasts: as it begins, with one input more, with one frame handed out, and with other passes.
use Rattle.std.proofs.Common.{◌≡◌, Bool, Option, List, [], ◌∷◌, ◌++◌, map, drop, length, All, refl, sym, ap, ◌∙◌, subst, arith}
use Rattle.std.proofs.lemmas.List.{map-append, append_assoc}
use Rattle.std.specs.Prelude.{Contains}
use Rattle.std.proofs.lemmas.List.Elements.{All-append, All-head, All-tail, Contains-append_right}
use Rattle.ring_math.specs.Names.{Id, Stamp}
use Rattle.wire_msg.specs.Words.{Envelope}
use Rattle.overlay_rules.specs.State.{start}
use Rattle.node_parts.specs.declared.node.Node.{Node}
use Rattle.node_parts.specs.Seen.{Stands}
use Rattle.weave_laws.specs.Cells.{CellInput, CellEntry, IsFor, stepped}
use Rattle.weave_laws.specs.Numbers.{IsNumberedAfter}
use Rattle.weave_laws.proofs.OneMore.{history-push, numbers-push, last_stamp-push, replay-push}
use Rattle.node_cell.specs.declared.frames.Addressed.{Addressed}
use Rattle.node_cell.specs.Cell.{Cell, empty_cell, state_of, entry_next, frame_of, with_input}
use Rattle.node_cell.specs.declared.carried.Carried.{Carried}
use Rattle.node_cell.specs.Sent.{sent_by}
use Rattle.node_cell.specs.Carried.{SpellsSent, KeepsCarried, IsBesidePasses}
use Rattle.node_cell.specs.Kept.{HasFrame, AreUnsent, IsCell}
use Rattle.node_cell.proofs.Carrying.{flat_map-push, carried-push}

-- ---- frames

unsent-push : (es : List CellEntry) (unsent : List Addressed) (e : CellEntry) → AreUnsent es unsent → All HasFrame e.sent →
    AreUnsent (es ++ e ∷ []) (unsent ++ map frame_of e.sent)
unsent-push es unsent e u spelled = record {
  handed = u.handed;
  rest = u.rest ++ e.sent;
  all = flat_map-push (λ (d : CellEntry). d.sent) es e ∙ ap (λ vs. vs ++ e.sent) u.all ∙ append_assoc u.handed u.rest e.sent;
  frames = ap (λ fs. fs ++ map frame_of e.sent) u.frames ∙ sym (map-append frame_of u.rest e.sent);
  spelled = All-append HasFrame u.rest e.sent u.spelled spelled;
}

unsent-pop : (es : List CellEntry) (first : Addressed) (unsent : List Addressed) → AreUnsent es (first ∷ unsent) → AreUnsent es unsent
unsent-pop es first unsent u = from u.rest u.all u.frames u.spelled where
  from : (rest : List Envelope) → sent_by es ≡ u.handed ++ rest → first ∷ unsent ≡ map frame_of rest → All HasFrame rest → AreUnsent es unsent
  from [] all frames spelled = let none = ap (λ (fs : List Addressed). length fs) frames in absurd (omega arith)
  from (v ∷ vs) all frames spelled = record {
    handed = u.handed ++ v ∷ [];
    rest = vs;
    all = all ∙ sym (append_assoc u.handed (v ∷ []) vs);
    frames = ap (λ (fs : List Addressed). drop 1 fs) frames;
    spelled = All-tail HasFrame v vs spelled;
  }

-- the first unsent frame is the spelling of an envelope that the history sent to its receiver
pub record IsSentTo (es : List CellEntry) (first : Addressed) : Type 0 where
  pub sent : SpellsSent es first.frame
  pub receiver : first.receiver ≡ sent.envelope.receiver

pub first_unsent : (es : List CellEntry) (first : Addressed) (unsent : List Addressed) → AreUnsent es (first ∷ unsent) → IsSentTo es first
first_unsent es first unsent u = from u.rest u.all u.frames u.spelled where
  from : (rest : List Envelope) → sent_by es ≡ u.handed ++ rest → first ∷ unsent ≡ map frame_of rest → All HasFrame rest → IsSentTo es first
  from [] all frames spelled = let none = ap (λ (fs : List Addressed). length fs) frames in absurd (omega arith)
  from (v ∷ vs) all frames spelled =
      let is : first ≡ frame_of v = cc in
      subst (IsSentTo es) (sym is) (record {
        sent = record {
          envelope = v;
          sent = subst (λ l. Contains l v) (sym all) (Contains-append_right u.handed (v ∷ vs) v (0, omega arith, refl));
          spells = (All-head HasFrame v vs spelled).frame;
        };
        receiver = refl;
      })

-- ---- cells

pub cell_begins : (node : Node) (x : Id) (founder : Bool) → Stands node (start x founder) → IsCell node 0 (empty_cell x founder)
cell_begins node x founder s = record {
  history = record { stamps = tt; steps = tt };
  numbers = tt;
  stamped = refl;
  stands = s;
  unsent = record { handed = []; rest = []; all = refl; frames = refl; spelled = λ k d lt. absurd (omega arith) };
  carried = tt;
}

-- with an input that is the node's
pub cell_grows : (node later : Node) (stamp : Stamp) (c : Cell) (i : CellInput) → IsCell node stamp c → IsFor c.node i →
    All (λ (e : CellEntry). IsNumberedAfter e.input i) c.history → IsBesidePasses c.carried i → All HasFrame (entry_next c i).sent →
    Stands later (stepped (state_of c) (entry_next c i)) → IsCell later (entry_next c i).stamp (with_input c i)
cell_grows node later stamp c i h addressed numbered beside spelled s = record {
  history = history-push c.node c.is_founder c.history i h.history addressed;
  numbers = numbers-push c.history (entry_next c i) h.numbers numbered;
  stamped = sym (last_stamp-push 0 c.history (entry_next c i));
  stands = subst (Stands later) (sym (replay-push (start c.node c.is_founder) c.history (entry_next c i))) s;
  unsent = unsent-push c.history c.unsent (entry_next c i) h.unsent spelled;
  carried = carried-push c.node c.history (entry_next c i) c.carried beside h.carried;
}

pub cell_hands_out : (node : Node) (stamp : Stamp) (c : Cell) (first : Addressed) (unsent : List Addressed) → IsCell node stamp c →
    c.unsent ≡ first ∷ unsent → IsCell node stamp (record c { unsent = unsent })
cell_hands_out node stamp c first unsent h is = record {
  history = h.history;
  numbers = h.numbers;
  stamped = h.stamped;
  stands = h.stands;
  unsent = unsent-pop c.history first unsent (subst (AreUnsent c.history) is h.unsent);
  carried = h.carried;
}

-- it may carry whatever its history allows
pub cell_carries : (node : Node) (stamp : Stamp) (c : Cell) (o : Option Carried) → IsCell node stamp c → KeepsCarried c.node c.history o →
    IsCell node stamp (record c { carried = o })
cell_carries node stamp c o h kept = record {
  history = h.history;
  numbers = h.numbers;
  stamped = h.stamped;
  stands = h.stands;
  unsent = h.unsent;
  carried = kept;
}
