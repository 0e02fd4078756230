-- After the entries of a legal record: the cells' histories, in which all that came was sent and no number stands twice, and that
-- the record has at each node what they have.
use Rattle.std.proofs.Common.{◌≡◌, ◌≤◌, ◌+◌, ◌==◌, ◌⊎◌, inl, inr, ℕ, zero, suc, true, false, Some, List, [], ◌∷◌, ◌++◌, map, take, filter, slice_get}
use Rattle.std.proofs.Common.{length, Contains, All, refl, sym, subst, ap, ◌∙◌, arith}
use Rattle.std.proofs.lemmas.Bool.{cases_Bool, cond-true, cond-false}
use Rattle.std.proofs.lemmas.Bool.Decides.{Decides-eqb}
use Rattle.std.proofs.lemmas.List.{length-take-le, take_more}
use Rattle.std.proofs.lemmas.Option.{get_or_from_slice_get, slice_get_within}
use Rattle.std.proofs.lemmas.Slice.Zip.{AllZip-long}
use Rattle.std.specs.List.{AllZip}
use Rattle.ring_math.specs.Names.{Id}
use Rattle.wire_msg.specs.Words.{Envelope}
use Rattle.overlay_rules.specs.declared.entry.Event.{Event}
use Rattle.overlay_rules.specs.declared.entry.Entry.{Entry}
use Rattle.overlay_rules.specs.declared.entry.Record.{Record}
use Rattle.overlay_rules.specs.Record.{Setting, World, Legal, LegalFrom, sent_in, visit, after, run, world_at_start, world_after, unstamped}
use Rattle.overlay_rules.proofs.Each.{Each, Each-all, Each-contains, Each-from_all, Each-itself, Each-map}
use Rattle.overlay_rules.proofs.Histories.{follows_at, past_after}
use Rattle.node_cell.proofs.Gathered.{flat_from}
use Rattle.weave_laws.specs.Answered.{AllSent, IsSentIn}
use Rattle.weave_laws.specs.AtNode.{IsPartOf, is_at, entries_at}
use Rattle.weave_laws.specs.Cells.{CellInput, CellEntry, History, Command, Comes, Noise, IsFor, input_of}
use Rattle.weave_laws.specs.Numbers.{ShareNoNumber}
use Rattle.weave_laws.specs.Woven.{Act, IsEntryOf, IsEventOf, part}
use Rattle.weave_laws.proofs.Interleaved.{part-here, part-there, visited}
use Rattle.weave.specs.Alike.{IsAlike, AreAlike, AreAlikeAt}
use Rattle.weave.specs.Placed.{sent_by}
use Rattle.weave.specs.Stops.{IsAnswered}
use Rattle.weave.specs.Through.{arrival, act_next, with_arrival, through, history_by}
use Rattle.weave.proofs.Passing.{HasPassed, IsNext, Matches, brings_is, next, part_each, passed-push, sends}
use Rattle.weave.proofs.Placing.{later}
use Rattle.weave.proofs.Standing.{act}

-- ---- after the first entries

abbrev pub acts_after : Setting → List Entry → ℕ → List Act
acts_after g es i = through g [] (take i es)

passed_from : (g : Setting) (w : World) (acts : List Act) (es : List Entry) (i : ℕ) → HasPassed g w acts → LegalFrom g w es →
    HasPassed g (run w (take i es)) (through g acts (take i es))
passed_from g w acts es zero h l = h
passed_from g w acts [] (suc i) h l = h
passed_from g w acts (e ∷ es) (suc i) h l =
    let n = next g w acts e h l.0 in
    passed_from g (after w e) (with_arrival g acts (arrival (sent_by acts) e.event)) es i
    (subst (λ o. HasPassed g (after w e) (with_arrival g acts o)) (sym (brings_is (sent_by acts) e.event n.arrival n.brings)) (passed-push g w acts e h n)) l.1

nothing_passed : (g : Setting) → HasPassed g (world_at_start g) []
nothing_passed g = record {
  alike = tt;
  states = λ x. refl;
  members = tt;
  addressed = tt;
  answered = tt;
  stamps = tt;
  stamped = tt;
  numbers = record { one_node = λ a b n c d k l e f. absurd (let lt = k.1 in omega arith) };
}

pub passed_after : (g : Setting) (es : List Entry) (i : ℕ) → Legal g es → HasPassed g (world_after g es i) (acts_after g es i)
passed_after g es i l = passed_from g (world_at_start g) [] es i (nothing_passed g) l

through-push : (g : Setting) (acts : List Act) (es : List Entry) (e : Entry) →
    through g acts (es ++ e ∷ []) ≡ with_arrival g (through g acts es) (arrival (sent_by (through g acts es)) e.event)
through-push g acts [] e = refl
through-push g acts (d ∷ es) e = through-push g (with_arrival g acts (arrival (sent_by acts) d.event)) es e

take-push : (es : List Entry) (i : ℕ) (e : Entry) → slice_get es i ≡ Some e → take (i + 1) es ≡ take i es ++ e ∷ []
take-push es i e h =
    take_more es i e (slice_get_within es i e h) ∙ ap (λ (d : Entry). take i es ++ d ∷ []) (get_or_from_slice_get es i e e h)

-- the next entry
pub record ComesNext (g : Setting) (es : List Entry) (i : ℕ) (e : Entry) : Type 0 where
  pub passed : HasPassed g (world_after g es i) (acts_after g es i)
  pub next : IsNext g (world_after g es i) (acts_after g es i) e
  pub grows : acts_after g es (i + 1) ≡ acts_after g es i ++ act_next g (acts_after g es i) next.arrival ∷ []
  pub long : length (acts_after g es i) ≡ i

pub comes_next : (g : Setting) (es : List Entry) (i : ℕ) (e : Entry) → Legal g es → slice_get es i ≡ Some e → i ≤ length es → ComesNext g es i e
comes_next g es i e l at le = record {
  passed = p;
  next = n;
  grows = ap (through g []) (take-push es i e at) ∙ through-push g [] (take i es) e
      ∙ ap (with_arrival g (acts_after g es i)) (brings_is (sent_by (acts_after g es i)) e.event n.arrival n.brings);
  long = AllZip-long (Matches (sent_in (world_after g es i).past)) (world_after g es i).past (acts_after g es i) p.alike
      ∙ ap (λ fs. length fs) (past_after g es i) ∙ length-take-le i es le;
} where
  p : HasPassed g (world_after g es i) (acts_after g es i)
  p = passed_after g es i l

  n : IsNext g (world_after g es i) (acts_after g es i) e
  n = next g (world_after g es i) (acts_after g es i) e p (follows_at g es i e l at)

-- ---- the histories of the nodes

module _ (g : Setting) (w : World) (acts : List Act) (h : HasPassed g w acts) where
  abbrev hs : List History
  hs = map (history_by acts) g.nodes

  is_part : Each (λ (k : History). k.entries ≡ part k.node acts) hs
  is_part = Each-map (λ (k : History). k.entries ≡ part k.node acts) (history_by acts) g.nodes (each_same g.nodes) where
    each_same : (xs : List Id) → Each (λ x. part x acts ≡ part x acts) xs
    each_same [] = tt
    each_same (x ∷ xs) = (refl, each_same xs)

  -- an entry of a history is one of the entries
  of_history : (k : History) (e : CellEntry) → Contains hs k → Contains k.entries e → Contains acts (act k.node e)
  of_history k e among c =
      Each-contains (λ (d : CellEntry). Contains acts (act k.node d)) (part k.node acts) e (part_each (Contains acts) k.node acts (Each-itself acts))
      (subst (λ ds. Contains ds e) (Each-contains (λ (j : History). j.entries ≡ part j.node acts) hs k is_part among) c)

  in_part : (a : Act) (bs : List Act) → Contains bs a → Contains (part a.node bs) a.entry
  in_part a [] (k, lt, is) = absurd (omega arith)
  in_part a (b ∷ bs) (zero, lt, is) =
      subst (λ (q : Act). Contains (part q.node (b ∷ bs)) q.entry) is
      (subst (λ es. Contains es b.entry) (sym (part-here b bs)) (0, omega arith, refl))
  in_part a (b ∷ bs) (suc k, lt, is) = by_node (cases_Bool (b.node == a.node)) (in_part a bs (k, omega arith, is)) where
    by_node : (b.node == a.node ≡ true) ⊎ (b.node == a.node ≡ false) → Contains (part a.node bs) a.entry → Contains (part a.node (b ∷ bs)) a.entry
    by_node (inl t) rest =
        subst (λ es. Contains es a.entry) (sym (cond-true (b.node == a.node) _ _ t)) (later b.entry (part a.node bs) a.entry rest)
    by_node (inr t) rest = subst (λ es. Contains es a.entry) (sym (part-there a.node b bs t)) rest

  has_history : (xs : List Id) (x : Id) → Contains xs x → Contains (map (history_by acts) xs) (history_by acts x)
  has_history [] x (k, lt, is) = absurd (omega arith)
  has_history (y ∷ ys) x (zero, lt, is) = (0, omega arith, ap (history_by acts) is)
  has_history (y ∷ ys) x (suc k, lt, is) =
      later (history_by acts y) (map (history_by acts) ys) (history_by acts x) (has_history ys x (k, omega arith, is))

  -- ---- numbers

  pub share_no_number : ShareNoNumber hs
  share_no_number = record {
    one_node = λ j k n in_j in_k a b.
        h.numbers.one_node (act j.node a.entry) (act k.node b.entry) n a.command b.command (of_history j a.entry in_j a.stands)
        (of_history k b.entry in_k b.stands) a.is b.is;
  }

  -- ---- what came to nodes was sent

  pub all_sent : AllSent hs
  all_sent = record { sent = sent_somewhere } where
    sent_somewhere : (k : History) (e : CellEntry) (v : Envelope) → Contains hs k → Contains k.entries e → e.input ≡ Comes v → IsSentIn hs v
    sent_somewhere k e v among there takes =
        let answered : Contains (sent_by acts) v = subst (IsAnswered (sent_by acts)) takes
        (Each-contains (λ (b : Act). IsAnswered (sent_by acts) b.entry.input) acts (act k.node e) h.answered (of_history k e among there)) in
        let from = flat_from sends acts v answered in
        record {
          history = history_by acts from.0.node;
          among = has_history g.nodes from.0.node (Each-contains (λ (b : Act). Contains g.nodes b.node) acts from.0 h.members from.1);
          entry = from.0.entry;
          there = in_part from.0 acts from.1;
          sent = from.2;
        }

-- ---- the same at each node

abbrev at_node : List Envelope → Id → List Entry → List Entry
at_node sent x es = filter (λ e. is_at x (visit sent e.event)) es

-- the entries of a record at a node, and its part of what the cells made of them
matches_part : (sent : List Envelope) (x : Id) (es : List Entry) (acts : List Act) → AllZip (Matches sent) es acts →
    AllZip (λ e c. Matches sent e (act x c)) (at_node sent x es) (part x acts)
matches_part sent x [] [] z = tt
matches_part sent x [] (a ∷ acts) z = absurd z
matches_part sent x (e ∷ es) [] z = absurd z
matches_part sent x (e ∷ es) (a ∷ acts) z = by_node (cases_Bool (a.node == x)) (ap (is_at x) z.0.comes) (matches_part sent x es acts z.1) where
  by_node : (a.node == x ≡ true) ⊎ (a.node == x ≡ false) → is_at x (visit sent e.event) ≡ (a.node == x) →
      AllZip (λ d c. Matches sent d (act x c)) (at_node sent x es) (part x acts) →
      AllZip (λ d c. Matches sent d (act x c)) (at_node sent x (e ∷ es)) (part x (a ∷ acts))
  by_node (inl t) same rest =
      subst (λ fs. AllZip (λ d c. Matches sent d (act x c)) fs (part x (a ∷ acts))) (sym (cond-true (is_at x (visit sent e.event)) _ _ (same ∙ t)))
      (subst (λ cs. AllZip (λ d c. Matches sent d (act x c)) (e ∷ at_node sent x es) cs) (sym (cond-true (a.node == x) _ _ t))
      (subst (λ y. Matches sent e (act y a.entry)) ((Decides-eqb a.node x).0 t) z.0, rest))
  by_node (inr t) same rest =
      subst (λ fs. AllZip (λ d c. Matches sent d (act x c)) fs (part x (a ∷ acts))) (sym (cond-false (is_at x (visit sent e.event)) _ _ (same ∙ t)))
      (subst (λ cs. AllZip (λ d c. Matches sent d (act x c)) (at_node sent x es) cs) (sym (part-there x a acts t)) rest)

event_visits : (sent : List Envelope) (x : Id) (i : CellInput) (e : Event) → IsFor x i → IsEventOf sent x i e →
    visit sent e ≡ Some (record { node = x; input = input_of i })
event_visits sent x (Command n c) e f h = visited sent x (Command n c) e f h
event_visits sent x (Comes v) e f (m, is, number) = visited sent x (Comes v) e f (m, is, number.here)
event_visits sent x Noise e f h = visited sent x Noise e f h

-- where these come of the same entries of a cell
alike_each : (sent other : List Envelope) (x : Id) (es : List Entry) (cs : List CellEntry) (fs : List Entry) →
    Each (λ (c : CellEntry). IsFor x c.input) cs → AllZip (λ e c. Matches sent e (act x c)) es cs → AllZip (λ c f. IsEntryOf other (act x c) f) cs fs →
    AllZip (IsAlike sent other) es fs
alike_each sent other x [] [] [] f y z = tt
alike_each sent other x [] [] (e ∷ fs) f y z = absurd z
alike_each sent other x [] (c ∷ cs) fs f y z = absurd y
alike_each sent other x (e ∷ es) [] fs f y z = absurd y
alike_each sent other x (e ∷ es) (c ∷ cs) [] f y z = absurd z
alike_each sent other x (e ∷ es) (c ∷ cs) (d ∷ fs) f y z = (
  record {
    input = y.0.comes ∙ sym (event_visits other x c.input d.event f.0 z.0.event);
    messages = y.0.messages ∙ sym (ap (map unstamped) z.0.messages);
    notes = y.0.notes ∙ sym z.0.notes;
  },
  alike_each sent other x es cs fs f.1 y.1 z.1,
)

pub are_alike : (g : Setting) (w : World) (acts : List Act) (r : Record) → HasPassed g w acts → All (IsPartOf r.entries) (map (history_by acts) g.nodes) →
    AreAlike g.nodes w.past r.entries
are_alike g w acts r h parts =
    Each-all (AreAlikeAt w.past r.entries) g.nodes (each g.nodes (Each-from_all (IsPartOf r.entries) (map (history_by acts) g.nodes) parts)) where
      each : (xs : List Id) → Each (IsPartOf r.entries) (map (history_by acts) xs) → Each (AreAlikeAt w.past r.entries) xs
      each [] p = tt
      each (x ∷ xs) p = (
        alike_each (sent_in w.past) (sent_in r.entries) x (entries_at x w.past) (part x acts) (entries_at x r.entries)
            (part_each (λ (a : Act). IsFor a.node a.entry.input) x acts h.addressed) (matches_part (sent_in w.past) x w.past acts h.alike) p.0,
        each xs p.1,
      )
