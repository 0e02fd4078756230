-- A message is handed over to one of the cells.
use Rattle.std.proofs.Common.{◌≡◌, ◌≢◌, ◌≤◌, ◌<◌, inl, inr, ℕ, zero, suc, ◌+◌, Option, Some, None, IfSome, IfNone, List, [], ◌∷◌, ◌++◌, map, set, slice_get}
use Rattle.std.proofs.Common.{option_map, length, All, Contains, refl, sym, subst, ap, ◌∙◌, length-append, arith}
use Rattle.std.specs.List.{AllZip}
use Rattle.std.proofs.Math.ListN.{length-set}
use Rattle.std.proofs.lemmas.List.{map-append}
use Rattle.std.proofs.lemmas.Option.{slice_get-map}
use Rattle.ring_math.specs.Names.{Id}
use Rattle.wire_msg.specs.Words.{Envelope, plain_envelope}
use Rattle.overlay_rules.proofs.Each.{Each, Each-all, Each-contains, Each-from_all}
use Rattle.weave_laws.specs.Answered.{AllSent, IsSentIn}
use Rattle.weave_laws.specs.Cells.{CellEntry, CellInput, Comes, History}
use Rattle.node_cell.specs.Cell.{Cell, entry_next, with_input}
use Rattle.node_cell.specs.Taken.{TookBytes}
use Rattle.node_cell.proofs.BytesRead.{one_input}
use Rattle.weave.specs.Cells.{histories, kept_history, nodes}
use Rattle.weave.specs.Unread.{AllRead, IsFirstUnread, IsTakenByNone, IsUnread}
use Rattle.weave.specs.declared.waiting.Unread.{Unread}
use Rattle.weave.proofs.Standing.{contains_get}
use Rattle.overlay_harness.specs.Hand.{AllTookUpTo, IsDone, IsDoneAt, IsFrameOf, IsNext, TookUpTo}
use Rattle.overlay_harness.specs.Once.{AllTookOnce, TookOnce}
use Rattle.overlay_harness.specs.Ran.{inputs_in}
use Rattle.overlay_harness.specs.Time.{room}
use Rattle.overlay_harness.specs.Work.{with_inputs}
use Rattle.overlay_harness.proofs.Hands.{came_once}
use Rattle.overlay_harness.proofs.Sendings.{all_sent-came}
use Rattle.overlay_harness.proofs.Working.{inputs-append, inputs_after, nodes_at}

-- ---- one cell with an envelope more

pub longer : (c : Cell) (i : CellInput) → length (with_input c i).history ≡ suc (length c.history)
longer c i = length-append c.history (entry_next c i ∷ []) ∙ (let e : length c.history + 1 ≡ suc (length c.history) = omega arith in e)

took_more : (end : ℕ) (old c : Cell) (v : Envelope) → TookUpTo end old c → length c.history < end → TookUpTo end old (with_input c (Comes v))
took_more end old c v t lt = record {
  envelopes = t.envelopes ++ v ∷ [];
  took = ap (λ d. with_input d (Comes v)) t.took
      ∙ sym (inputs-append old (map Comes t.envelopes) (Comes v ∷ []))
      ∙ ap (with_inputs old) (sym (map-append Comes t.envelopes (v ∷ [])));
  few = inl (let more = longer c (Comes v) in omega arith);
}

pub all_took-more : (ends : List ℕ) (olds cells : List Cell) (place : ℕ) (c : Cell) (end : ℕ) (v : Envelope) → AllTookUpTo ends olds cells →
    slice_get cells place ≡ Some c → slice_get ends place ≡ Some end → length c.history < end →
    AllTookUpTo ends olds (set cells place (with_input c (Comes v)))
all_took-more [] [] [] place c end v t at its lt = absurd (let no : None ≡ Some c = at in cc)
all_took-more [] [] (d ∷ cells) place c end v t at its lt = absurd t
all_took-more [] (o ∷ olds) cells place c end v t at its lt = absurd t
all_took-more (n ∷ ends) [] cells place c end v t at its lt = absurd t
all_took-more (n ∷ ends) (o ∷ olds) [] place c end v t at its lt = absurd t
all_took-more (n ∷ ends) (o ∷ olds) (d ∷ cells) zero c end v t at its lt =
    let same : d ≡ c = cc in
    let is : n ≡ end = cc in
    (took_more n o c v (subst (TookUpTo n o) same t.0) (subst (λ m. length c.history < m) (sym is) lt), t.1)
all_took-more (n ∷ ends) (o ∷ olds) (d ∷ cells) (suc place) c end v t at its lt = (t.0, all_took-more ends olds cells place c end v t.1 at its lt)

-- ---- what is left to be taken gets less

pub less_room : (ends : List ℕ) (cells : List Cell) (place : ℕ) (c : Cell) (end : ℕ) (i : CellInput) → slice_get cells place ≡ Some c →
    slice_get ends place ≡ Some end → length c.history < end → room ends (set cells place (with_input c i)) < room ends cells
less_room [] cells place c end i at its lt = absurd (let no : None ≡ Some end = its in cc)
less_room (n ∷ ends) [] place c end i at its lt = absurd (let no : None ≡ Some c = at in cc)
less_room (n ∷ ends) (d ∷ cells) zero c end i at its lt =
    let same : d ≡ c = cc in
    let is : n ≡ end = cc in
    let long : length d.history ≡ length c.history = ap (λ (e : Cell). length e.history) same in
    let more = longer c i in
    omega arith
less_room (n ∷ ends) (d ∷ cells) (suc place) c end i at its lt = let rest = less_room ends cells place c end i at its lt in omega arith

-- ---- each envelope once

pub sent_unread : (hs : List History) (receiver x : Id) (place n : ℕ) (v : Envelope) → IsUnread hs receiver x place n v → IsSentIn hs v
sent_unread hs receiver x place n v u = record {
  history = u.stands.history;
  among = u.stands.among;
  entry = u.entry;
  there = contains_get u.stands.history.entries place u.entry u.stands.there;
  sent = contains_get u.entry.sent n v u.sent;
}

never_came : (hs : List History) (v : Envelope) (h : History) → IsTakenByNone hs v → Contains hs h → Each (λ (i : CellInput). i ≢ Comes v) (inputs_in h)
never_came hs v h none c =
    inputs h.entries
    (Each-from_all (λ (e : CellEntry). e.input ≢ Comes v) h.entries
    (Each-contains (λ (k : History). All (λ (e : CellEntry). e.input ≢ Comes v) k.entries) hs h
    (Each-from_all (λ (k : History). All (λ (e : CellEntry). e.input ≢ Comes v) k.entries) hs none) c)) where
      inputs : (es : List CellEntry) → Each (λ (e : CellEntry). e.input ≢ Comes v) es →
          Each (λ (i : CellInput). i ≢ Comes v) (map (λ (e : CellEntry). e.input) es)
      inputs [] k = tt
      inputs (e ∷ es) k = (k.0, inputs es k.1)

pub history_there : (cells : List Cell) (place : ℕ) (c : Cell) → slice_get cells place ≡ Some c → Contains (histories cells) (kept_history c)
history_there cells place c at =
    contains_get (histories cells) place (kept_history c) (slice_get-map kept_history cells place ∙ ap (option_map kept_history) at)

-- a cell that takes an envelope that none took yet
pub once-more : (cells : List Cell) (place : ℕ) (c : Cell) (v : Envelope) → AllTookOnce (histories cells) → slice_get cells place ≡ Some c →
    IsTakenByNone (histories cells) v → AllTookOnce (histories (set cells place (with_input c (Comes v))))
once-more cells place c v t at none =
    Each-all TookOnce (histories (set cells place new)) (each cells place at (Each-from_all TookOnce (histories cells) t)) where
      new : Cell
      new = with_input c (Comes v)

      each : (ds : List Cell) (n : ℕ) → slice_get ds n ≡ Some c → Each TookOnce (histories ds) → Each TookOnce (histories (set ds n new))
      each [] n is e = tt
      each (d ∷ ds) zero is e =
          let this : d ≡ c = cc in (
            came_once (kept_history c) (kept_history new) v (subst (λ (f : Cell). TookOnce (kept_history f)) this e.0) (inputs_after c (Comes v ∷ []))
                (never_came (histories cells) v (kept_history c) none (history_there cells place c at)),
            e.1,
          )
      each (d ∷ ds) (suc n) is e = (e.0, each ds n is e.1)

-- ---- what is found

pub found_next : (cells : List Cell) (ends : List ℕ) (place : ℕ) (c : Cell) (end : ℕ) → slice_get cells place ≡ Some c → slice_get ends place ≡ Some end →
    length c.history < end → (found : Option Unread) →
    IfSome found (λ u. IsFirstUnread (histories cells) c.node u.node u.place (plain_envelope u.envelope)) → IfNone found (AllRead (histories cells) c.node) →
    (frame : Option (List ℕ)) → IsFrameOf found frame → IfSome frame (IsNext cells ends place) × IfNone frame (IsDoneAt cells ends place)
found_next cells ends place c end at its lt None some none None f = (
  tt,
  record {
    done = λ d n there is.
        let same : c ≡ d = cc in inr (subst (λ (e : Cell). AllRead (histories cells) e.node) same none);
  },
)
found_next cells ends place c end at its lt None some none (Some frame) f = absurd f
found_next cells ends place c end at its lt (Some u) some none None f = absurd f
found_next cells ends place c end at its lt (Some u) some none (Some frame) f = (
  record {
    cell = c;
    there = at;
    end = end;
    its_end = its;
    behind = lt;
    sender = u.node;
    entry = u.place;
    envelope = plain_envelope u.envelope;
    first = some;
    spelled = f;
  },
  tt,
)

-- a history that has reached its end
pub reached : (cells : List Cell) (ends : List ℕ) (place : ℕ) (c : Cell) (end : ℕ) → slice_get cells place ≡ Some c → slice_get ends place ≡ Some end →
    end ≤ length c.history → IsDoneAt cells ends place
reached cells ends place c end at its le = record {
  done = λ d n there is.
      let same : c ≡ d = cc in
      let ends_are : end ≡ n = cc in
      inl (subst (λ (e : Cell). n ≤ length e.history) same (subst (λ m. m ≤ length c.history) ends_are le));
}

pub all_done : (cells : List Cell) (ends : List ℕ) → length ends ≡ length cells → ((p : ℕ) → p < length cells → IsDoneAt cells ends p) →
    AllZip (IsDone (histories cells)) ends cells
all_done cells ends long h = each ends cells long (λ p d n lt there is. (h p lt).done d n there is) where
  each : (ns : List ℕ) (cs : List Cell) → length ns ≡ length cs →
      ((p : ℕ) (d : Cell) (n : ℕ) → p < length cs → slice_get cs p ≡ Some d → slice_get ns p ≡ Some n → IsDone (histories cells) n d) →
      AllZip (IsDone (histories cells)) ns cs
  each [] [] l k = tt
  each [] (d ∷ cs) l k = absurd (omega arith)
  each (n ∷ ns) [] l k = absurd (omega arith)
  each (n ∷ ns) (d ∷ cs) l k = (k 0 d n (omega arith) refl refl, each ns cs (omega arith) (λ p e m lt there is. k (suc p) e m (omega arith) there is))

-- ---- the frame is handed over

-- what comes of it: the cell took in the envelope
pub record WasHanded (cells : List Cell) (ends : List ℕ) (place : ℕ) (frame : List ℕ) (c new : Cell) : Type 0 where
  pub next : IsNext cells ends place frame
  pub cell : slice_get cells place ≡ Some c
  pub took : TookBytes c frame new

pub handed_is : (cells : List Cell) (ends : List ℕ) (place : ℕ) (frame : List ℕ) (c new : Cell) → (h : WasHanded cells ends place frame c new) →
    set cells place new ≡ set cells place (with_input h.next.cell (Comes h.next.envelope))
handed_is cells ends place frame c new h =
    let same : c ≡ h.next.cell = let e = h.cell in let f = h.next.there in cc in
    let input : h.took.input ≡ Comes h.next.envelope =
    one_input c.node frame h.took.input (Comes h.next.envelope) h.took.is
    (record { spells = h.next.spelled; addressed = h.next.first.unread.addressed ∙ ap (λ (d : Cell). d.node) (sym same) }) in
    ap (set cells place) (h.took.took ∙ ap (with_input c) input ∙ ap (λ (d : Cell). with_input d (Comes h.next.envelope)) same)

-- what the loop keeps
pub record IsHandedTo (ends : List ℕ) (olds cells : List Cell) : Type 0 where
  pub took : AllTookUpTo ends olds cells
  pub once : AllTookOnce (histories olds) → AllTookOnce (histories cells)
  pub sent : AllSent (histories olds) → AllSent (histories cells)
  pub nodes_are : nodes cells ≡ nodes olds
  pub long : length cells ≡ length olds

pub none_yet : (ends : List ℕ) (cells : List Cell) → length ends ≡ length cells → AllTookUpTo ends cells cells
none_yet [] [] l = tt
none_yet [] (c ∷ cells) l = absurd (omega arith)
none_yet (n ∷ ends) [] l = absurd (omega arith)
none_yet (n ∷ ends) (c ∷ cells) l = (record { envelopes = []; took = refl; few = inr refl }, none_yet ends cells (omega arith))

pub handed_at_first : (ends : List ℕ) (cells : List Cell) → length ends ≡ length cells → IsHandedTo ends cells cells
handed_at_first ends cells l = record { took = none_yet ends cells l; once = λ h. h; sent = λ h. h; nodes_are = refl; long = refl }

pub handed_more : (ends : List ℕ) (olds cells : List Cell) (place : ℕ) (frame : List ℕ) (c new : Cell) → IsHandedTo ends olds cells →
    WasHanded cells ends place frame c new → IsHandedTo ends olds (set cells place new)
handed_more ends olds cells place frame c new k h =
    let n = h.next in
    subst (IsHandedTo ends olds) (sym (handed_is cells ends place frame c new h)) (record {
      took = all_took-more ends olds cells place n.cell n.end n.envelope k.took n.there n.its_end n.behind;
      once = λ once. once-more cells place n.cell n.envelope (k.once once) n.there n.first.unread.untaken;
      sent = λ sent.
          all_sent-came cells place n.cell n.envelope n.there
          (sent_unread (histories cells) n.cell.node n.sender n.entry n.first.n n.envelope n.first.unread) (k.sent sent);
      nodes_are = nodes_at cells place n.cell (Comes n.envelope) n.there ∙ k.nodes_are;
      long = length-set cells place (with_input n.cell (Comes n.envelope)) ∙ k.long;
    })

pub handed_less : (ends : List ℕ) (cells : List Cell) (place : ℕ) (frame : List ℕ) (c new : Cell) → WasHanded cells ends place frame c new →
    room ends (set cells place new) < room ends cells
handed_less ends cells place frame c new h =
    subst (λ ds. room ends ds < room ends cells) (sym (handed_is cells ends place frame c new h))
    (less_room ends cells place h.next.cell h.next.end (Comes h.next.envelope) h.next.there h.next.its_end h.next.behind)
