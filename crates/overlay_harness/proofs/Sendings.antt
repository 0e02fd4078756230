-- Cells to which only commands and envelopes come that were sent: all that came to them was sent.
use Rattle.std.proofs.Common.{◌≡◌, inl, inr, ℕ, zero, suc, true, false, Some, List, [], ◌∷◌, map, set, slice_get, Contains, refl, sym, subst, ap, ◌∙◌}
use Rattle.std.proofs.Common.{append-nil, append_assoc, arith}
use Rattle.std.specs.List.{AllZip}
use Rattle.std.proofs.lemmas.List.Elements.{Contains-append_cases}
use Rattle.wire_msg.specs.Words.{Envelope}
use Rattle.overlay_rules.proofs.Each.{Each, Each-contains}
use Rattle.scenario_reader.specs.declared.action.Action.{Action}
use Rattle.weave_laws.specs.Answered.{AllSent, IsSentIn}
use Rattle.weave_laws.specs.Cells.{CellEntry, CellInput, Command, Comes, Noise, History}
use Rattle.node_cell.specs.Cell.{Cell, entry_next, with_input}
use Rattle.weave.specs.Cells.{histories, kept_history}
use Rattle.overlay_harness.specs.Inputs.{is_command}
use Rattle.overlay_harness.specs.Stages.{commands_to}
use Rattle.overlay_harness.specs.Work.{told, with_inputs}
use Rattle.overlay_harness.proofs.Along.{are_commands}
use Rattle.overlay_harness.proofs.Hands.{Grew, sent_grows}

-- ---- a history that grows by some inputs

pub record GrewBy (inputs : List CellInput) (h k : History) : Type 0 where
  pub grew : Grew h k
  pub came : map (λ (e : CellEntry). e.input) grew.more ≡ inputs

pub grew_by : (c : Cell) (inputs : List CellInput) → GrewBy inputs (kept_history c) (kept_history (with_inputs c inputs))
grew_by c [] = record { grew = record { node = refl; more = []; entries = sym (append-nil c.history) }; came = refl }
grew_by c (i ∷ inputs) =
    let rest = grew_by (with_input c i) inputs in record {
      grew = record {
        node = rest.grew.node;
        more = entry_next c i ∷ rest.grew.more;
        entries = rest.grew.entries ∙ append_assoc c.history (entry_next c i ∷ []) rest.grew.more;
      };
      came = ap (λ is. i ∷ is) rest.came;
    }

-- ---- by what was sent

-- the input was sent by an entry of the histories, if it is an envelope
abbrev WasSent : List History → CellInput → Type 0
WasSent hs (Command n c) = Unit {0}
WasSent hs (Comes v) = IsSentIn hs v
WasSent hs Noise = Unit {0}

record GrewBySent (hs : List History) (h k : History) : Type 0 where
  grew : Grew h k
  sent : Each (λ (e : CellEntry). WasSent hs e.input) grew.more

by_none : (hs : List History) (h : History) → GrewBySent hs h h
by_none hs h = record { grew = record { node = refl; more = []; entries = sym (append-nil h.entries) }; sent = tt }

by_no_cell : (hs : List History) (cells : List Cell) → AllZip (GrewBySent hs) (histories cells) (histories cells)
by_no_cell hs [] = tt
by_no_cell hs (c ∷ cells) = (by_none hs (kept_history c), by_no_cell hs cells)

by_one : (hs : List History) (c : Cell) (v : Envelope) → IsSentIn hs v → GrewBySent hs (kept_history c) (kept_history (with_input c (Comes v)))
by_one hs c v s = record { grew = record { node = refl; more = entry_next c (Comes v) ∷ []; entries = refl }; sent = (s, tt) }

by_one_at : (hs : List History) (cells : List Cell) (place : ℕ) (c : Cell) (v : Envelope) → IsSentIn hs v → slice_get cells place ≡ Some c →
    AllZip (GrewBySent hs) (histories cells) (histories (set cells place (with_input c (Comes v))))
by_one_at hs [] place c v s at = tt
by_one_at hs (d ∷ cells) zero c v s at =
    let same : d ≡ c = cc in
    (subst (λ (e : Cell). GrewBySent hs (kept_history e) (kept_history (with_input c (Comes v)))) (sym same) (by_one hs c v s), by_no_cell hs cells)
by_one_at hs (d ∷ cells) (suc place) c v s at = (by_none hs (kept_history d), by_one_at hs cells place c v s at)

commands_only : (hs : List History) (es : List CellEntry) (inputs : List CellInput) → map (λ (e : CellEntry). e.input) es ≡ inputs →
    Each (λ (i : CellInput). is_command i ≡ true) inputs → Each (λ (e : CellEntry). WasSent hs e.input) es
commands_only hs es inputs e h = each es (subst (Each (λ (i : CellInput). is_command i ≡ true)) (sym e) h) where
  one : (i : CellInput) → is_command i ≡ true → WasSent hs i
  one (Command n c) is = tt
  one (Comes v) is = absurd (let no : false ≡ true = is in cc)
  one Noise is = tt

  each : (es : List CellEntry) → Each (λ (i : CellInput). is_command i ≡ true) (map (λ (d : CellEntry). d.input) es) →
      Each (λ (d : CellEntry). WasSent hs d.input) es
  each [] k = tt
  each (d ∷ es) k = (one d.input k.0, each es k.1)

by_commands : (hs : List History) (actions : List Action) (cells : List Cell) →
    AllZip (GrewBySent hs) (histories cells) (histories (map (told actions) cells))
by_commands hs actions [] = tt
by_commands hs actions (c ∷ cells) =
    let own = grew_by c (commands_to c.node actions) in (
      record { grew = own.grew; sent = commands_only hs own.grew.more (commands_to c.node actions) own.came (are_commands c.node actions) },
      by_commands hs actions cells,
    )

-- ---- then all is sent still

-- what stands in the second list comes from the first
zip_back : {A : Type 0} (R : A → A → Type 0) (xs ys : List A) → AllZip R xs ys → (y : A) → Contains ys y → (x : A) × Contains xs x × R x y
zip_back R [] [] z y (n, lt, e) = absurd (omega arith)
zip_back R [] (w ∷ ys) z y c = absurd z
zip_back R (x ∷ xs) [] z y c = absurd z
zip_back R (x ∷ xs) (w ∷ ys) z y (zero, lt, e) = (x, (0, omega arith, refl), subst (λ u. R x u) e z.0)
zip_back R (x ∷ xs) (w ∷ ys) z y (suc n, lt, e) =
    let rest = zip_back R xs ys z.1 y (n, omega arith, e) in (rest.0, (suc rest.1.0, (let l = rest.1.1 in omega arith), rest.1.2), rest.2)

all_grew : (hs xs ys : List History) → AllZip (GrewBySent hs) xs ys → AllZip Grew xs ys
all_grew hs [] [] z = tt
all_grew hs [] (y ∷ ys) z = absurd z
all_grew hs (x ∷ xs) [] z = absurd z
all_grew hs (x ∷ xs) (y ∷ ys) z = (z.0.grew, all_grew hs xs ys z.1)

all_sent_after : (hs ks : List History) → AllZip (GrewBySent hs) hs ks → AllSent hs → AllSent ks
all_sent_after hs ks z all = record {
  sent = λ k e v among there is.
      let own = zip_back (GrewBySent hs) hs ks z k among in
      sent_grows hs ks (all_grew hs hs ks z) v
      (elim (Contains-append_cases own.0.entries own.2.grew.more e (subst (λ es. Contains es e) own.2.grew.entries there)) [
        | inl before ↦ all.sent own.0 e v own.1 before is
        | inr more ↦ subst (WasSent hs) is (Each-contains (λ (d : CellEntry). WasSent hs d.input) own.2.grew.more e own.2.sent more)
      ]);
}

-- a cell takes an envelope that was sent
pub all_sent-came : (cells : List Cell) (place : ℕ) (c : Cell) (v : Envelope) → slice_get cells place ≡ Some c → IsSentIn (histories cells) v →
    AllSent (histories cells) → AllSent (histories (set cells place (with_input c (Comes v))))
all_sent-came cells place c v at s all =
    all_sent_after (histories cells) (histories (set cells place (with_input c (Comes v)))) (by_one_at (histories cells) cells place c v s at) all

-- commands are told to all
pub all_sent-told : (actions : List Action) (cells : List Cell) → AllSent (histories cells) → AllSent (histories (map (told actions) cells))
all_sent-told actions cells all =
    all_sent_after (histories cells) (histories (map (told actions) cells)) (by_commands (histories cells) actions cells) all
