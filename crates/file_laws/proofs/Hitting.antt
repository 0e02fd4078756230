-- What points remember was found at their nodes, and so what hits give: turn by turn, through the whole play.
use Rattle.std.proofs.Common.{◌≡◌, ◌<◌, ℕ, zero, suc, ◌+◌, ◌==◌, nat_lt, Bool, true, false, if◌then◌else◌, Option, Some, None, List, [], ◌∷◌, ◌++◌}
use Rattle.std.proofs.Common.{All, Contains, length, replicate, take, option_map, refl, sym, subst, ap, ◌∙◌, ◌⊎◌, inl, inr}
use Rattle.std.proofs.Common.{arith}
use Rattle.std.specs.Map.{lookup}
use Rattle.std.proofs.lemmas.Bool.{eqb-true}
use Rattle.std.proofs.lemmas.List.{take-append-le, take_all}
use Rattle.std.proofs.lemmas.Option.{slice_get_within}
use Rattle.std.proofs.lemmas.Slice.Eq.{bytes_eq-Decides}
use Rattle.lru.specs.LruCache.{lru_cache}
use Rattle.lru.proofs.CallerLemmas.{Contains-lookup, Contains-promoted, Contains-put_entries}
use Rattle.lru.proofs.Pairs.{slice_get-cut}
use Rattle.ring_math.specs.Names.{Id, Number, FileId, Content}
use Rattle.wire_msg.specs.declared.command.Command.{Command as NodeCommand}
use Rattle.wire_msg.specs.declared.command.Command.TheVariants as command
use Rattle.wire_msg.specs.declared.note.Note.{Note}
use Rattle.wire_msg.specs.declared.note.Note.TheVariants as note
use Rattle.wire_msg.specs.declared.reply.Answer.{Answer}
use Rattle.wire_msg.specs.declared.reply.Answer.TheVariants as answer
use Rattle.wire_msg.specs.declared.reply.Reply.TheVariants as reply
use Rattle.overlay_rules.specs.declared.entry.Entry.{Entry}
use Rattle.overlay_rules.specs.declared.entry.Event.{Event}
use Rattle.overlay_rules.specs.declared.entry.Event.TheVariants as event
use Rattle.overlay_rules.specs.Played.{Action as Act, Command, Settle, Deliver, Shuffle, Dup, Noise, drawn, entry_at, entry_of, oldest_undelivered}
use Rattle.overlay_rules.specs.Record.{World, Visit, visit, sent_in}
use Rattle.overlay_rules.proofs.Each.{Each, Each-all, Each-append, Each-itself, Each-take, Each-weaker}
use Rattle.overlay_rules.proofs.OneMore.{slice_get-more}
use Rattle.schedule.specs.Turns.{Step, Happens, Skips, Ends, Turned, delivery, turned, turn_in}
use Rattle.delivery_report.specs.Answers.{found_in}
use Rattle.fetch_cache.specs.declared.hit.Hit.{Hit}
use Rattle.fetch_cache.specs.Points.{Point, asked, changed_at, remembered, same_file, told}
use Rattle.fetch_cache.specs.Run.{LeadsTo, AtEnd, Onward}
use Rattle.fetch_cache.specs.Turns.{PointPlay, answered_turn, fetch_in, fetched, fetched_by, hit_turn, made_turn, point_turn, told_at, told_by}
use Rattle.fetch_cache.specs.Turns.{told_by_all}
use Rattle.fetch_cache.specs.Turns.{told_entry, told_found, turn_by}
use Rattle.file_laws.specs.Hits.{FindsAt, IsBefore}

-- ---- more entries

finds_more : (fetches : List (Option FileId)) (es : List Entry) (e : Entry) (place : ℕ) (x : Id) (file : FileId) (bytes : Content) →
    FindsAt fetches es place x file bytes → FindsAt fetches (es ++ e ∷ []) place x file bytes
finds_more fetches es e place x file bytes h =
    let within = slice_get_within es place h.entry h.there in
    record {
      entry = h.entry;
      there = slice_get-more es (e ∷ []) place within ∙ h.there;
      at = h.at;
      visited = ap (λ ds. visit (sent_in ds) h.entry.event) (take-append-le place es (e ∷ []) (omega arith)) ∙ h.visited;
      here = h.here;
      number = h.number;
      finder = h.finder;
      closed = h.closed;
      fetched = h.fetched;
    }

-- ---- what a point remembers was found at its node

module _ (fetches : List (Option FileId)) (all : List Act) where
  pub record IsFound (es : List Entry) (x : Id) (file : FileId) (bytes : Content) : Type 0 where
    pub place : ℕ
    pub found : FindsAt fetches es place x file bytes

  more : (es : List Entry) (e : Entry) (x : Id) (file : FileId) (bytes : Content) → IsFound es x file bytes → IsFound (es ++ e ∷ []) x file bytes
  more es e x file bytes h = record { place = h.place; found = finds_more fetches es e h.place x file bytes h.found }

  abbrev pub Remembers : List Entry → Point → Type 0
  Remembers es p = (pair : FileId × Content) → Contains p.pairs pair → IsFound es p.node pair.0 pair.1

  changed_holds : (es : List Entry) (x : Id) (change : Point → Point) (points : List Point) →
      ((p : Point) → p.node ≡ x → Remembers es p → Remembers es (change p)) → Each (Remembers es) points → Each (Remembers es) (changed_at x change points)
  changed_holds es x change [] keeps h = tt
  changed_holds es x change (p ∷ points) keeps h = by (p.node == x) refl (changed_holds es x change points keeps h.1)
    where
      by : (b : Bool) → p.node == x ≡ b → Each (Remembers es) (changed_at x change points) →
          Each (Remembers es) (if b then change p ∷ points else p ∷ changed_at x change points)
      by true is rest = (keeps p (eqb-true p.node x is) h.0, h.1)
      by false is rest = (h.0, rest)

  asked_keeps : (es : List Entry) (file : FileId) (p : Point) → Remembers es p → Remembers es (asked file p)
  asked_keeps es file p h pair c = h pair (Contains-promoted (same_file file) p.pairs pair c)

  same_is : (a b : FileId) → same_file a b ≡ true → b ≡ a
  same_is a b e = sym ((bytes_eq-Decides a b).0 e)

  told_keeps : (es : List Entry) (x : Id) (file : FileId) (bytes : Content) (p : Point) → IsFound es x file bytes → p.node ≡ x → Remembers es p →
      Remembers es (told file bytes p)
  told_keeps es x file bytes p found node h pair c = by (Contains-put_entries same_file (lru_cache p.pairs p.room) file bytes pair c)
    where
      new : pair.0 ≡ file → pair.1 ≡ bytes → IsFound es p.node pair.0 pair.1
      new key value =
          subst (λ y. IsFound es y pair.0 pair.1) (sym node)
          (subst (λ f. IsFound es x f pair.1) (sym key) (subst (λ b. IsFound es x file b) (sym value) found))

      by : Contains p.pairs pair
          ⊎ ((pair.1 ≡ bytes) × ((pair.0 ≡ file) ⊎ ((w : Content) × Contains p.pairs (pair.0, w) × (same_file file pair.0 ≡ true)))) →
          IsFound es p.node pair.0 pair.1
      by (inl was) = h pair was
      by (inr (value, inl key)) = new key value
      by (inr (value, inr (w, was, same))) = new (same_is file pair.0 same) value

  -- what a node's point remembers of a file
  remembered_found : (es : List Entry) (x : Id) (file : FileId) (points : List Point) (bytes : Content) → Each (Remembers es) points →
      remembered x file points ≡ Some bytes → IsFound es x file bytes
  remembered_found es x file [] bytes h e = cc
  remembered_found es x file (p ∷ points) bytes h e = by (p.node == x) refl e (remembered_found es x file points bytes h.1)
    where
      by : (b : Bool) → p.node == x ≡ b → (if b then lookup (same_file file) p.pairs else remembered x file points) ≡ Some bytes →
          (remembered x file points ≡ Some bytes → IsFound es x file bytes) → IsFound es x file bytes
      by true is e rest =
          let found = Contains-lookup (same_file file) p.pairs bytes e in
          subst (λ y. IsFound es y file bytes) (eqb-true p.node x is)
          (subst (λ f. IsFound es p.node f bytes) (same_is file found.0 found.2) (h.0 (found.0, bytes) found.1))
      by false is e rest = rest e

  -- ---- an entry tells what its notes say that fetches found

  answer_found : (a : Answer) (bytes : Content) → found_in a ≡ Some bytes → (y : Id) × (a ≡ answer.Reply (reply.Found y bytes))
  answer_found (answer.Reply (reply.Found y found)) bytes e = let same : found ≡ bytes = cc in (y, ap (λ b. answer.Reply (reply.Found y b)) same)
  answer_found (answer.Reply (reply.Stored holders)) bytes e = cc
  answer_found (answer.Reply (reply.Delivered y hops)) bytes e = cc
  answer_found (answer.Reply (reply.NotFound y)) bytes e = cc
  answer_found (answer.Reply (reply.Collision y)) bytes e = cc
  answer_found (answer.Reply (reply.TooFew y known)) bytes e = cc
  answer_found (answer.Reply (reply.Busy y j)) bytes e = cc
  answer_found (answer.Reply (reply.NotReady y)) bytes e = cc
  answer_found (answer.Reply (reply.Full y)) bytes e = cc
  answer_found (answer.Reply (reply.Gone y)) bytes e = cc
  answer_found (answer.Reply (reply.Reclaimed y)) bytes e = cc
  answer_found (answer.Joined l r) bytes e = cc
  answer_found (answer.Denied y w) bytes e = cc
  answer_found (answer.Stopped y o) bytes e = cc
  answer_found answer.GaveUp bytes e = cc
  answer_found answer.NothingToGiveUp bytes e = cc

  -- the last entry is e, at this node
  module _ (before : List Entry) (e : Entry) (at : Visit) (visited : visit (sent_in before) e.event ≡ Some at) where
    abbrev now : List Entry
    now = before ++ e ∷ []

    finds_now : (n : Number) (y : Id) (file : FileId) (bytes : Content) → Contains e.notes (note.Closed n (answer.Reply (reply.Found y bytes))) →
        fetched_by fetches n ≡ Some file → IsFound now at.node file bytes
    finds_now n y file bytes has fetched = record {
      place = length before;
      found = record {
        entry = e;
        there = slice_get-cut before e [];
        at = at;
        visited = ap (λ ds. visit (sent_in ds) e.event) (take-append-le (length before) before (e ∷ []) (omega arith)
            ∙ take_all (length before) before (omega arith)) ∙ visited;
        here = refl;
        number = n;
        finder = y;
        closed = has;
        fetched = fetched;
      };
    }

    told_found_holds : (file : Option FileId) (found : Option Content) (points : List Point) →
        ((f : FileId) (bytes : Content) → file ≡ Some f → found ≡ Some bytes → IsFound now at.node f bytes) →
        Each (Remembers now) points → Each (Remembers now) (told_found at.node file found points)
    told_found_holds (Some f) (Some bytes) points is h =
        changed_holds now at.node (told f bytes) points (λ p node held. told_keeps now at.node f bytes p (is f bytes refl refl) node held) h
    told_found_holds (Some f) None points is h = h
    told_found_holds None found points is h = h

    told_by_holds : (n : Note) (points : List Point) → Contains e.notes n → Each (Remembers now) points →
        Each (Remembers now) (told_by fetches at.node n points)
    told_by_holds (note.Closed n a) points has h =
        told_found_holds (fetched_by fetches n) (found_in a) points
        (λ f bytes fetched found. let said = answer_found a bytes found in
        finds_now n said.0 f bytes (subst (λ (b : Answer). Contains e.notes (note.Closed n b)) said.1 has) fetched) h
    told_by_holds (note.Accepted file bytes) points has h = h
    told_by_holds (note.Delivered origin n key hops) points has h = h
    told_by_holds (note.Answered origin n r) points has h = h
    told_by_holds (note.Reclaimed file) points has h = h

    told_all_holds : (notes : List Note) (points : List Point) → Each (Contains e.notes) notes → Each (Remembers now) points →
        Each (Remembers now) (told_by_all fetches at.node notes points)
    told_all_holds [] points each h = h
    told_all_holds (n ∷ notes) points each h =
        told_all_holds notes (told_by fetches at.node n points) each.1 (told_by_holds n points each.0 h)

  told_at_holds : (before : List Entry) (e : Entry) (o : Option Visit) (points : List Point) → visit (sent_in before) e.event ≡ o →
      Each (Remembers (before ++ e ∷ [])) points → Each (Remembers (before ++ e ∷ [])) (told_at fetches o e.notes points)
  told_at_holds before e None points is h = h
  told_at_holds before e (Some at) points is h = told_all_holds before e at is e.notes points (Each-itself e.notes) h

  -- an entry more: the points remember what was found so far
  entry_holds : (w : World) (e : Entry) (points : List Point) → Each (Remembers w.past) points →
      Each (Remembers (w.past ++ e ∷ [])) (told_entry fetches w e points)
  entry_holds w e points h =
      told_at_holds w.past e (visit (sent_in w.past) e.event) points refl
      (Each-weaker (Remembers w.past) (Remembers (w.past ++ e ∷ [])) points
      (λ p held pair c. more w.past e p.node pair.0 pair.1 (held pair c)) h)

  -- ---- the commands that are left, by their numbers

  abbrev pub AreNumbered : ℕ → List Act → Type 0
  AreNumbered k [] = Unit {0}
  AreNumbered k (Command x n c ∷ acts) =
      (n ≡ k) × ((fetched_by fetches k ≡ fetched c) × (Contains all (Command x n c) × AreNumbered (k + 1) acts))
  AreNumbered k (Settle n ∷ acts) = AreNumbered k acts
  AreNumbered k (Deliver m ∷ acts) = AreNumbered k acts
  AreNumbered k (Shuffle words ∷ acts) = AreNumbered k acts
  AreNumbered k (Dup n ∷ acts) = AreNumbered k acts
  AreNumbered k (Noise x ∷ acts) = AreNumbered k acts

  abbrev IsNoCommand : Step → Type 0
  IsNoCommand (Happens (event.Command x n c)) = ⊥
  IsNoCommand (Happens (event.Deliver m)) = Unit {0}
  IsNoCommand (Happens (event.Noise x)) = Unit {0}
  IsNoCommand Skips = Unit {0}
  IsNoCommand Ends = Unit {0}

  -- a turn is command k, and then those from the next on are left; or it is no command
  data Turns (k : ℕ) (t : Turned) : Type 0 where
    Told : (x : Id) (c : NodeCommand) (is : t.step ≡ Happens (event.Command x k c)) (fetch : fetched_by fetches k ≡ fetched c)
        (has : Contains all (Command x k c)) (left : AreNumbered (k + 1) t.left) → Turns k t
    Other : (is : IsNoCommand t.step) (left : AreNumbered k t.left) → Turns k t

  copies_numbered : (n m k : ℕ) (acts : List Act) → AreNumbered k acts → AreNumbered k (replicate n (Deliver m) ++ acts)
  copies_numbered zero m k acts h = h
  copies_numbered (suc n) m k acts h = copies_numbered n m k acts h

  no_command : (m sent : ℕ) → IsNoCommand (delivery m sent)
  no_command m sent = by (nat_lt m sent)
    where
      by : (b : Bool) → IsNoCommand (if b then Happens (event.Deliver m) else Skips)
      by true = tt
      by false = tt

  turns : (acts : List Act) (copies sent : ℕ) (oldest : Option ℕ) (k : ℕ) → AreNumbered k acts → Turns k (turned acts copies sent oldest)
  turns [] copies sent oldest k h = Other tt tt
  turns (Command x n c ∷ acts) copies sent oldest k h =
      Told x c (ap (λ m. Happens (event.Command x m c)) h.0) h.1.0 (subst (λ m. Contains all (Command x m c)) h.0 h.1.1.0) h.1.1.1
  turns (Settle zero ∷ acts) copies sent oldest k h = turns acts copies sent oldest k h
  turns (Settle (suc n) ∷ acts) copies sent None k h = turns acts copies sent None k h
  turns (Settle (suc n) ∷ acts) zero sent (Some m) k h = turns acts 0 sent (Some m) k h
  turns (Settle (suc n) ∷ acts) (suc again) sent (Some m) k h = Other tt (copies_numbered again m k (Settle n ∷ acts) h)
  turns (Deliver m ∷ acts) copies sent oldest k h = Other (no_command m sent) h
  turns (Shuffle [] ∷ acts) copies sent oldest k h = turns acts copies sent oldest k h
  turns (Shuffle (word ∷ words) ∷ acts) copies sent oldest k h = Other (no_command (drawn word sent) sent) h
  turns (Dup n ∷ acts) copies sent oldest k h = turns acts n sent oldest k h
  turns (Noise x ∷ acts) copies sent oldest k h = Other tt h

  -- ---- what holds after each turn

  -- a command so far has a number below k, and fetches what the list says
  abbrev pub IsListed : ℕ → Event → Type 0
  IsListed k (event.Command x n c) = (n < k) × (fetched_by fetches n ≡ fetched c)
  IsListed k (event.Deliver m) = Unit {0}
  IsListed k (event.Noise x) = Unit {0}

  -- a hit so far
  pub record IsHit (es : List Entry) (hit : Hit) : Type 0 where
    pub node : Id
    pub file : FileId
    pub fetch : Contains all (Command node hit.number (command.Fetch file))
    pub place : ℕ
    pub found : FindsAt fetches es place node file hit.bytes
    pub before : All (λ (e : Entry). IsBefore hit.number e.event) (take (place + 1) es)

  pub record Holds (k : ℕ) (p : PointPlay) : Type 0 where
    pub past : Each (λ (e : Entry). IsListed k e.event) p.play.world.past
    pub points : Each (Remembers p.play.world.past) p.points
    pub hits : Each (IsHit p.play.world.past) p.hits

  listed_later : (k : ℕ) (v : Event) → IsListed k v → IsListed (k + 1) v
  listed_later k (event.Command x n c) h = let low = h.0 in (omega arith, h.1)
  listed_later k (event.Deliver m) h = tt
  listed_later k (event.Noise x) h = tt

  listed_before : (k : ℕ) (v : Event) → IsListed k v → IsBefore k v
  listed_before k (event.Command x n c) h = h.0
  listed_before k (event.Deliver m) h = tt
  listed_before k (event.Noise x) h = tt

  hit_later : (es : List Entry) (e : Entry) (hit : Hit) → IsHit es hit → IsHit (es ++ e ∷ []) hit
  hit_later es e hit h =
      let within = slice_get_within es h.place h.found.entry h.found.there in
      record {
        node = h.node;
        file = h.file;
        fetch = h.fetch;
        place = h.place;
        found = finds_more fetches es e h.place h.node h.file hit.bytes h.found;
        before = subst (λ ds. All (λ (d : Entry). IsBefore hit.number d.event) ds) (sym (take-append-le (h.place + 1) es (e ∷ []) (omega arith))) h.before;
      }

  later : (k : ℕ) (p : PointPlay) → Holds k p → Holds (k + 1) p
  later k p h = record {
    past = Each-weaker (λ (e : Entry). IsListed k e.event) (λ (e : Entry). IsListed (k + 1) e.event) p.play.world.past
        (λ e l. listed_later k e.event l) h.past;
    points = h.points;
    hits = h.hits;
  }

  its_event : (w : World) (v : Event) (o : Option Visit) → (P : Event → Type 0) → P v → P (entry_at w v o).event
  its_event w v None P h = h
  its_event w v (Some at) P h = h

  -- a turn that is made
  event_made : (k : ℕ) (p : PointPlay) (v : Event) (t : Turned) → Holds k p → IsListed k v → t.step ≡ Happens v → Holds k (made_turn fetches t p)
  event_made k p v t h listed is =
      let w : World = p.play.world in
      let e : Entry = entry_of w v in
      subst (λ (step : Step). Holds k (made_turn fetches (record { step = step; left = t.left; copies = t.copies }) p)) (sym is)
      (record {
        past = Each-append (λ (d : Entry). IsListed k d.event) w.past (e ∷ []) h.past
            (its_event w v (visit (sent_in w.past) v) (IsListed k) listed, tt);
        points = entry_holds w e p.points h.points;
        hits = Each-weaker (IsHit w.past) (IsHit (w.past ++ e ∷ [])) p.hits (λ hit held. hit_later w.past e hit held) h.hits;
      })

  made_holds : (k : ℕ) (p : PointPlay) (t : Turned) → Holds k p → IsNoCommand t.step → Holds k (made_turn fetches t p)
  made_holds k p t h quiet = by t.step refl quiet
    where
      stays : (step : Step) → t.step ≡ step → Holds k (made_turn fetches (record { step = step; left = t.left; copies = t.copies }) p) →
          Holds k (made_turn fetches t p)
      stays step is held = subst (λ (s : Step). Holds k (made_turn fetches (record { step = s; left = t.left; copies = t.copies }) p)) (sym is) held

      by : (step : Step) → t.step ≡ step → IsNoCommand step → Holds k (made_turn fetches t p)
      by (Happens (event.Command x n c)) is quiet = absurd quiet
      by (Happens (event.Deliver m)) is quiet = event_made k p (event.Deliver m) t h tt is
      by (Happens (event.Noise x)) is quiet = event_made k p (event.Noise x) t h tt is
      by Skips is quiet = stays Skips is (record { past = h.past; points = h.points; hits = h.hits })
      by Ends is quiet = stays Ends is (record { past = h.past; points = h.points; hits = h.hits })

  -- a fetch that hits
  fetches_it : (c : NodeCommand) (file : FileId) → fetched c ≡ Some file → c ≡ command.Fetch file
  fetches_it (command.Fetch f) file e = let same : f ≡ file = cc in ap command.Fetch same
  fetches_it (command.Join via) file e = cc
  fetches_it (command.Lookup key) file e = cc
  fetches_it (command.Insert f copies bytes) file e = cc
  fetches_it command.GiveUp file e = cc
  fetches_it (command.Reclaim f) file e = cc

  hit_holds : (k : ℕ) (p : PointPlay) (t : Turned) (x : Id) (file : FileId) (bytes : Content) → Holds k p → Contains all (Command x k (command.Fetch file)) →
      remembered x file p.points ≡ Some bytes → Holds (k + 1) (hit_turn t (record { node = x; number = k; file = file }) bytes p)
  hit_holds k p t x file bytes h has known =
      let es : List Entry = p.play.world.past in
      let found = remembered_found es x file p.points bytes h.points known in
      let before = Each-weaker (λ (e : Entry). IsListed k e.event) (λ (e : Entry). IsBefore k e.event) es (λ e l. listed_before k e.event l) h.past in
      record {
        past = (later k p h).past;
        points = changed_holds es x (asked file) p.points (λ q node held. asked_keeps es file q held) h.points;
        hits = Each-append (IsHit es) p.hits (record { number = k; bytes = bytes } ∷ []) h.hits (
          record {
            node = x;
            file = file;
            fetch = has;
            place = found.place;
            found = found.found;
            before = Each-all (λ (e : Entry). IsBefore k e.event) (take (found.place + 1) es)
                (Each-take (λ (e : Entry). IsBefore k e.event) (found.place + 1) es before);
          },
          tt,
        );
      }

  -- command k, at x
  told_holds : (k : ℕ) (p : PointPlay) (t : Turned) (x : Id) (c : NodeCommand) → Holds k p → t.step ≡ Happens (event.Command x k c) →
      fetched_by fetches k ≡ fetched c → Contains all (Command x k c) → Holds (k + 1) (point_turn fetches t p)
  told_holds k p t x c h is fetch has =
      subst (λ o. Holds (k + 1) (turn_by fetches t o p)) (sym (ap fetch_in is)) (by (fetched c) refl)
    where
      made : Holds (k + 1) (made_turn fetches t p)
      made = event_made (k + 1) p (event.Command x k c) t (later k p h) (omega arith, fetch) is

      answered : (file : FileId) → fetched c ≡ Some file → (o : Option Content) → remembered x file p.points ≡ o →
          Holds (k + 1) (answered_turn fetches t (record { node = x; number = k; file = file }) o p)
      answered file is None known = made
      answered file is (Some bytes) known =
          hit_holds k p t x file bytes h (subst (λ d. Contains all (Command x k d)) (fetches_it c file is) has) known

      by : (o : Option FileId) → fetched c ≡ o →
          Holds (k + 1) (turn_by fetches t (option_map (λ file. record { node = x; number = k; file = file }) o) p)
      by None is = made
      by (Some file) is = answered file is (remembered x file p.points) refl

  no_fetch : (step : Step) → IsNoCommand step → fetch_in step ≡ None
  no_fetch (Happens (event.Command x n c)) quiet = absurd quiet
  no_fetch (Happens (event.Deliver m)) quiet = refl
  no_fetch (Happens (event.Noise x)) quiet = refl
  no_fetch Skips quiet = refl
  no_fetch Ends quiet = refl

  other_holds : (k : ℕ) (p : PointPlay) (t : Turned) → Holds k p → IsNoCommand t.step → Holds k (point_turn fetches t p)
  other_holds k p t h quiet = subst (λ o. Holds k (turn_by fetches t o p)) (sym (no_fetch t.step quiet)) (made_holds k p t h quiet)

  -- ---- to the end of the play

  pub record HoldsAtEnd (end : PointPlay) : Type 0 where
    pub upto : ℕ
    pub holds : Holds upto end

  pub run_holds : (end : PointPlay) (k : ℕ) (acts : List Act) (p : PointPlay) → LeadsTo fetches end acts p → AreNumbered k acts → Holds k p → HoldsAtEnd end
  run_holds end k acts p (AtEnd _ _ ends is) numbered h = record { upto = k; holds = subst (Holds k) (sym is) h }
  run_holds end k acts p (Onward _ _ some rest) numbered h =
      onward (turns acts p.play.copies (length (sent_in p.play.world.past)) (oldest_undelivered p.play.world) k numbered)
      (λ j left held. run_holds end j (turn_in acts p.play).left (point_turn fetches (turn_in acts p.play) p) rest left held)
    where
      onward : Turns k (turn_in acts p.play) →
          ((j : ℕ) → AreNumbered j (turn_in acts p.play).left → Holds j (point_turn fetches (turn_in acts p.play) p) → HoldsAtEnd end) → HoldsAtEnd end
      onward (Told x c is fetch has left) go = go (k + 1) left (told_holds k p (turn_in acts p.play) x c h is fetch has)
      onward (Other is left) go = go k left (other_holds k p (turn_in acts p.play) h is)
