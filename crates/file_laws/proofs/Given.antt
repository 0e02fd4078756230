-- What the closings of a large scenario's commands show of its file.
use Rattle.std.proofs.Common.{◌≡◌, ◌<◌, ◌≤◌, ℕ, zero, suc, ◌+◌, ◌-◌, true, false, Option, Some, None, is_none, option_map, List, [], ◌∷◌}
use Rattle.std.proofs.Common.{◌++◌}
use Rattle.std.proofs.Common.{All, Contains, length, drop, get_or, map, refl, sym, subst, ap, ◌∙◌, append_assoc, length-append, arith}
use Rattle.std.specs.List.{flat_map, range_with_len}
use Rattle.std.specs.Option.{option_or}
use Rattle.std.proofs.lemmas.List.{get_or-append-add, get_or_append_left, get_or-drop, get_or-take, length-take, length-drop, length-map, ext_get_or}
use Rattle.std.proofs.lemmas.List as list
use Rattle.std.proofs.lemmas.List.FromFn.{get_or-map-range_with_len, length-map-range_with_len}
use Rattle.std.proofs.lemmas.Option.{get_or_from_slice_get}
use Rattle.ring_math.specs.Names.{FileId, Content}
use Rattle.wire_msg.specs.declared.command.Command.{Command as NodeCommand}
use Rattle.wire_msg.specs.declared.command.Command.TheVariants as command
use Rattle.wire_msg.specs.declared.note.Note.{Note}
use Rattle.wire_msg.specs.declared.reply.Answer.{Answer}
use Rattle.wire_msg.specs.declared.reply.Answer.TheVariants as answer
use Rattle.wire_msg.specs.declared.reply.Reply.{Reply}
use Rattle.wire_msg.specs.declared.reply.Reply.TheVariants as reply
use Rattle.overlay_rules.specs.declared.entry.Entry.{Entry}
use Rattle.overlay_rules.specs.Record.{Setting, IsRecord}
use Rattle.overlay_rules.specs.Rightly.{NotesAreRight, RightReply}
use Rattle.overlay_rules.specs.Table.{Keeps, accepted_in, notes_in, table}
use Rattle.overlay_rules.proofs.Each.{Each, Each-contains}
use Rattle.scenario_reader.specs.Plain.{PlainScenario}
use Rattle.schedule.specs.declared.task.Task.{Task}
use Rattle.schedule.specs.Making.{Making, file_at}
use Rattle.schedule.specs.Plan.{join_plan}
use Rattle.schedule.specs.Schedule.{play_of, setting_of}
use Rattle.delivery_report.specs.Answers.{found_by}
use Rattle.delivery_report.specs.Report.{closing_of, closings_from, closings_of}
use Rattle.delivery_report.specs.Texts.{commands_of}
use Rattle.fragments.specs.declared.piece.Piece.{Piece}
use Rattle.fragments.specs.declared.piece.Pieces.{Pieces}
use Rattle.fragments.specs.Joined.{all_found, first_from, fragment_fault, is_missing, join_fault, joined, stated_size}
use Rattle.fragments.specs.Large.{generated, generated_bytes, large, large_making, large_plan, retrieve_tasks, store_tasks}
use Rattle.fragments.specs.Pieces.{LargeFile, fragment, fragment_count, pieces_of}
use Rattle.fragments.proofs.Generated.{generated_long}
use Rattle.fragments.proofs.Returning.{comes_back}
use Rattle.large_report.specs.Large.{is_whole, retrieved}
use Rattle.file_laws.specs.Given.{IsGiven, WasStored, storings}
use Rattle.file_laws.proofs.Filed.{fragment_at}
use Rattle.file_laws.proofs.Numbered.{IsAt, IsNumbered, commands_counted, commands_in, commands_in-append, commands_in-each, play_numbered}
use Rattle.file_laws.proofs.Told.{IsTold, accepted_whole, closing_tells, in_whole}

-- ---- closings, one by one

closing_at : (notes : List Note) (n count k : ℕ) (d : Option Answer) → k < count → get_or (closings_from notes n count) k d ≡ closing_of (n + k) notes
closing_at notes n zero k d h = absurd (omega arith)
closing_at notes n (suc count) zero d h = let same : n ≡ n + 0 = omega arith in ap (λ m. closing_of m notes) same
closing_at notes n (suc count) (suc k) d h =
    let next : suc n + k ≡ n + suc k = omega arith in
    closing_at notes (suc n) count k d (omega arith) ∙ ap (λ m. closing_of m notes) next

closings_long : (notes : List Note) (n count : ℕ) → length (closings_from notes n count) ≡ count
closings_long notes n zero = refl
closings_long notes n (suc count) = ap suc (closings_long notes (suc n) count)

found_answer : (o : Option Answer) (bytes : Content) → found_by o ≡ Some bytes → (y : ℕ) × (o ≡ Some (answer.Reply (reply.Found y bytes)))
found_answer (Some (answer.Reply (reply.Found y found))) bytes e =
    let same : found ≡ bytes = cc in (y, ap (λ (b : Content). Some (answer.Reply (reply.Found y b))) same)
found_answer (Some (answer.Reply (reply.Stored holders))) bytes e = cc
found_answer (Some (answer.Reply (reply.Delivered y hops))) bytes e = cc
found_answer (Some (answer.Reply (reply.NotFound y))) bytes e = cc
found_answer (Some (answer.Reply (reply.Collision y))) bytes e = cc
found_answer (Some (answer.Reply (reply.TooFew y known))) bytes e = cc
found_answer (Some (answer.Reply (reply.Busy y j))) bytes e = cc
found_answer (Some (answer.Reply (reply.NotReady y))) bytes e = cc
found_answer (Some (answer.Reply (reply.Full y))) bytes e = cc
found_answer (Some (answer.Reply (reply.Gone y))) bytes e = cc
found_answer (Some (answer.Reply (reply.Reclaimed y))) bytes e = cc
found_answer (Some (answer.Joined l r)) bytes e = cc
found_answer (Some (answer.Denied y w)) bytes e = cc
found_answer (Some (answer.Stopped y o)) bytes e = cc
found_answer (Some answer.GaveUp) bytes e = cc
found_answer (Some answer.NothingToGiveUp) bytes e = cc
found_answer None bytes e = cc

-- ---- a command by its number

module _ (g : Setting) (es : List Entry) (cs : List NodeCommand) (numbered : Each (λ (e : Entry). IsNumbered cs e.event) es) where
  same_number : (n k : ℕ) → n + 1 ≡ 1 + k → n ≡ k
  same_number n k e = omega arith

  told_command : (k : ℕ) (r : Reply) (t : IsTold g es (1 + k) r) → t.command ≡ get_or cs k command.GiveUp
  told_command k r t =
      let e : Entry = t.commanded.0 in
      let inside = subst (λ past. Contains past e) t.past t.commanded.1 in
      let at : IsAt cs (1 + k) t.command = subst (IsNumbered cs) t.commanded.2
      (Each-contains (λ (d : Entry). IsNumbered cs d.event) es e numbered (in_whole es t.upto e inside)) in
      let place : at.place ≡ k = let number = at.number in omega arith in
      sym (subst (λ i. get_or cs i command.GiveUp ≡ t.command) place (get_or_from_slice_get cs at.place t.command command.GiveUp at.there))

  -- an insert that was answered Stored, and a fetch that was answered Found
  stored_accepted : (k copies : ℕ) (f : FileId) (b : Content) (holders : List ℕ) → get_or cs k command.GiveUp ≡ command.Insert f copies b →
      IsTold g es (1 + k) (reply.Stored holders) → accepted_in f (notes_in es) ≡ Some b
  stored_accepted k copies f b holders is t =
      let right = subst (λ c. RightReply g es t.moment t.origin (1 + k) c (reply.Stored holders)) (told_command k (reply.Stored holders) t ∙ is) t.right in
      accepted_whole es t.upto f b (subst (λ past. table past f ≡ Keeps b) t.past right.kept)

  found_accepted : (k y : ℕ) (f : FileId) (b : Content) → get_or cs k command.GiveUp ≡ command.Fetch f →
      IsTold g es (1 + k) (reply.Found y b) → accepted_in f (notes_in es) ≡ Some b
  found_accepted k y f b is t =
      let right = subst (λ c. RightReply g es t.moment t.origin (1 + k) c (reply.Found y b)) (told_command k (reply.Found y b) t ∙ is) t.right in
      accepted_whole es t.upto f b (subst (λ past. table past f ≡ Keeps b) t.past right.1)

-- ---- the commands on the pieces

module _ (m : Making) (nodes count : ℕ) where
  abbrev store_at : ℕ → NodeCommand
  store_at k = command.Insert (file_at m k).file 2 (file_at m k).bytes

  abbrev fetch_at : ℕ → NodeCommand
  fetch_at k = command.Fetch (file_at m k).file

  abbrev joins : List NodeCommand
  joins = commands_in m (join_plan nodes)

  abbrev stores : List NodeCommand
  stores = map store_at (range_with_len 0 (count + 1))

  abbrev fetches : List NodeCommand
  fetches = map fetch_at (range_with_len 0 count)

  commands_are : commands_in m (large_plan nodes count) ≡ joins ++ (stores ++ fetch_at count ∷ fetches)
  commands_are =
      let a : List Task = join_plan nodes in
      let b : List Task = flat_map store_tasks (range_with_len 0 (count + 1)) in
      let c : List Task = retrieve_tasks (nodes - 1) count in
      let d : List Task = flat_map (retrieve_tasks (nodes - 1)) (range_with_len 0 count) in
      ap (commands_in m) (append_assoc (a ++ b) c d ∙ append_assoc a b (c ++ d)) ∙
      commands_in-append m a (b ++ (c ++ d)) ∙
      ap (λ cs. joins ++ cs) (commands_in-append m b (c ++ d)) ∙
      ap (λ cs. joins ++ (cs ++ commands_in m (c ++ d))) (commands_in-each m store_tasks store_at (λ k. refl) (range_with_len 0 (count + 1))) ∙
      ap (λ cs. joins ++ (stores ++ fetch_at count ∷ cs))
      (commands_in-each m (retrieve_tasks (nodes - 1)) fetch_at (λ k. refl) (range_with_len 0 count))

  commands_long : length (commands_in m (large_plan nodes count)) ≡ length joins + (count + 1) + (count + 1)
  commands_long =
      let whole = ap length commands_are in
      let one = length-append joins (stores ++ fetch_at count ∷ fetches) in
      let two = length-append stores (fetch_at count ∷ fetches) in
      let three = length-map-range_with_len store_at 0 (count + 1) in
      let four = length-map-range_with_len fetch_at 0 count in omega arith

  stored_by : (k : ℕ) → k < count + 1 → get_or (commands_in m (large_plan nodes count)) (length joins + k) command.GiveUp ≡ store_at k
  stored_by k h =
      ap (λ cs. get_or cs (length joins + k) command.GiveUp) commands_are ∙
      get_or-append-add joins (stores ++ fetch_at count ∷ fetches) k command.GiveUp ∙
      get_or_append_left stores (fetch_at count ∷ fetches) command.GiveUp k (let long = length-map-range_with_len store_at 0 (count + 1) in omega arith) ∙
      get_or-map-range_with_len store_at 0 (count + 1) k k command.GiveUp h (omega arith)

  fetched_by : (k : ℕ) → k < count →
      get_or (commands_in m (large_plan nodes count)) (length joins + (count + 1 + (1 + k))) command.GiveUp ≡ fetch_at k
  fetched_by k h =
      let long = length-map-range_with_len store_at 0 (count + 1) in
      let place : count + 1 + (1 + k) ≡ length stores + (1 + k) = omega arith in
      let next : 1 + k ≡ suc k = omega arith in
      ap (λ cs. get_or cs (length joins + (count + 1 + (1 + k))) command.GiveUp) commands_are ∙
      get_or-append-add joins (stores ++ fetch_at count ∷ fetches) (count + 1 + (1 + k)) command.GiveUp ∙
      ap (λ i. get_or (stores ++ fetch_at count ∷ fetches) i command.GiveUp) place ∙
      get_or-append-add stores (fetch_at count ∷ fetches) (1 + k) command.GiveUp ∙
      ap (λ i. get_or (fetch_at count ∷ fetches) i command.GiveUp) next ∙
      get_or-map-range_with_len fetch_at 0 count k k command.GiveUp h (omega arith)

-- ---- where the report says that a file is whole, each fragment was found

none_of_two : {A : Type 0} (a b : Option A) → option_or a b ≡ None → (a ≡ None) × (b ≡ None)
none_of_two None b e = (refl, e)
none_of_two (Some x) b e = cc

unmapped : {A B : Type 0} (f : A → B) (o : Option A) → option_map f o ≡ None → o ≡ None
unmapped f None e = refl
unmapped f (Some x) e = cc

each_there : (i : ℕ) (found : List (Option Content)) (k : ℕ) → first_from is_missing i found ≡ None → k < length found →
    is_none (get_or found k None) ≡ false
each_there i [] k e h = absurd (omega arith)
each_there i (None ∷ found) k e h = cc
each_there i (Some bytes ∷ found) zero e h = refl
each_there i (Some bytes ∷ found) (suc k) e h = each_there (i + 1) found k e (omega arith)

none_missing : (xs : List (Option Content)) → is_whole xs ≡ true → (k : ℕ) → k < length (drop 1 xs) → is_none (get_or (drop 1 xs) k None) ≡ false
none_missing [] e k h = cc
none_missing (None ∷ found) e k h = cc
none_missing (Some index ∷ found) e k h =
    let faultless = without (join_fault index found) e in
    let of_fragments = (none_of_two _ (fragment_fault (stated_size index) found) (none_of_two _ _ faultless).1).1 in
    each_there 0 found k (unmapped _ _ (none_of_two _ _ of_fragments).0) h
  where
    without : {A : Type 0} (o : Option A) → is_none o ≡ true → o ≡ None
    without None e = refl
    without (Some x) e = cc

-- ---- the whole

module _ (nodes seed : ℕ) (f : LargeFile) (few : length f.bytes ≤ 835584) (es : List Entry) where
  abbrev pieces : Pieces
  pieces = pieces_of f

  abbrev count : ℕ
  count = length pieces.fragments

  abbrev m : Making
  m = large_making nodes seed pieces

  abbrev cs : List NodeCommand
  cs = commands_in m (large_plan nodes count)

  abbrev before : ℕ
  before = length (commands_in m (join_plan nodes))

  abbrev closings : List (Option Answer)
  closings = closings_of (length cs) es

  abbrev found : List (Option Content)
  found = drop 1 (retrieved count closings)

  long : length closings ≡ before + (count + 1) + (count + 1)
  long = closings_long (notes_in es) 1 (length cs) ∙ commands_long m nodes count

  -- the closing of the insert of fragment k, and what its fetch found
  storing : (k : ℕ) → k < count + 1 → get_or (storings count closings) k None ≡ closing_of (1 + (before + k)) (notes_in es)
  storing k h =
      let size = long in
      let skipped : length closings - (count + 1) - (count + 1) ≡ before = omega arith in
      let all = commands_long m nodes count in
      get_or-take (count + 1) (drop (length closings - (count + 1) - (count + 1)) closings) k None h ∙
      get_or-drop (length closings - (count + 1) - (count + 1)) closings k None ∙
      ap (λ i. get_or closings (i + k) None) skipped ∙
      closing_at (notes_in es) 1 (length cs) (before + k) None (omega arith)

  storings_long : length (storings count closings) ≡ count + 1
  storings_long =
      let size = long in
      let behind = length-drop (length closings - (count + 1) - (count + 1)) closings in
      let cut = length-take (count + 1) (drop (length closings - (count + 1) - (count + 1)) closings) in omega arith

  fetching : (k : ℕ) → k < count → get_or found k None ≡ found_by (closing_of (1 + (before + (count + 1 + (1 + k)))) (notes_in es))
  fetching k h =
      let size = long in
      let skipped : length closings - (count + 1) ≡ before + (count + 1) = omega arith in
      let place : before + (count + 1) + (1 + k) ≡ before + (count + 1 + (1 + k)) = omega arith in
      let all = commands_long m nodes count in
      get_or-drop 1 (retrieved count closings) k None ∙
      list.get_or-map found_by (drop (length closings - (count + 1)) closings) (1 + k) None None
      (let behind = length-drop (length closings - (count + 1)) closings in omega arith) ∙
      ap found_by (get_or-drop (length closings - (count + 1)) closings (1 + k) None ∙
      ap (λ i. get_or closings (i + (1 + k)) None) skipped ∙ ap (λ i. get_or closings i None) place ∙
      closing_at (notes_in es) 1 (length cs) (before + (count + 1 + (1 + k))) None (omega arith))

  found_long : length found ≡ count
  found_long =
      let size = long in
      let behind = length-drop (length closings - (count + 1)) closings in
      let mapped = length-map (drop (length closings - (count + 1)) closings) found_by in
      let rest = length-drop 1 (retrieved count closings) in omega arith

  module _ (g : Setting) (legal : IsRecord g es) (right : NotesAreRight g es) (numbered : Each (λ (e : Entry). IsNumbered cs e.event) es)
      (stored : All WasStored (storings count closings)) (whole : is_whole (retrieved count closings) ≡ true) where
    accepted : (k : ℕ) → k < count + 1 → accepted_in (file_at m k).file (notes_in es) ≡ Some (file_at m k).bytes
    accepted k h =
        let size = storings_long in
        let said = stored k None (omega arith) in
        stored_accepted g es cs numbered (before + k) 2 (file_at m k).file (file_at m k).bytes said.0 (stored_by m nodes count k h)
        (closing_tells g es legal right (1 + (before + k)) (reply.Stored said.0) (sym (storing k h) ∙ said.1))

    found_is : (k : ℕ) (d : Piece) → k < count → get_or found k None ≡ Some (get_or pieces.fragments k d).bytes
    found_is k d h = by (get_or found k None) refl (none_missing (retrieved count closings) whole k (let size = found_long in omega arith))
      where
        same : {x y : Content} → Some x ≡ Some y → x ≡ y
        same e = cc

        by : (o : Option Content) → get_or found k None ≡ o → is_none o ≡ false → o ≡ Some (get_or pieces.fragments k d).bytes
        by None is some = cc
        by (Some bytes) is some =
            let at = before + (count + 1 + (1 + k)) in
            let said = found_answer (closing_of (1 + at) (notes_in es)) bytes (sym (fetching k h) ∙ is) in
            let told = closing_tells g es legal right (1 + at) (reply.Found said.0 bytes) said.1 in
            let there = found_accepted g es cs numbered at said.0 (file_at m k).file bytes (fetched_by m nodes count k h) told in
            let piece = fragment_at nodes seed pieces k d h in
            ap (λ (b : Content). Some b) (same (sym there ∙ accepted k (omega arith)) ∙ piece.bytes)

    all_found_again : found ≡ all_found pieces
    all_found_again =
        ext_get_or None found (all_found pieces) (found_long ∙ sym (length-map pieces.fragments (λ (p : Piece). Some p.bytes)))
        (λ k h. let size = found_long in
        let d : Piece = pieces.index in
        found_is k d (omega arith) ∙ sym (list.get_or-map (λ (p : Piece). Some p.bytes) pieces.fragments k d None (omega arith)))

    pub given_back : joined found ≡ f.bytes
    given_back = ap joined all_found_again ∙ (comes_back f few).whole

-- of the scenario that is made
pub given : (nodes seed size : ℕ) → size ≤ 835584 → (s : PlainScenario) (es : List Entry) → s ≡ large nodes seed size → es ≡ (play_of s).world.past →
    IsRecord (setting_of s) es → NotesAreRight (setting_of s) es → IsGiven seed size (closings_of (commands_of s) es)
given nodes seed size few s es is played legal right =
    subst (λ n. IsGiven seed size (closings_of n es)) (sym (ap commands_of is ∙ commands_counted made tasks))
    (subst (λ n. All WasStored (storings n closed) → is_whole (retrieved n closed) ≡ true →
    joined (drop 1 (retrieved n closed)) ≡ generated_bytes seed size) counted
    (given_back nodes seed file small es (setting_of s) legal right numbered))
  where
    file : LargeFile
    file = generated seed size

    made : Making
    made = large_making nodes seed (pieces_of file)

    tasks : List Task
    tasks = large_plan nodes (length (pieces_of file).fragments)

    closed : List (Option Answer)
    closed = closings_of (length (commands_in made tasks)) es

    size_is : length file.bytes ≡ size
    size_is = generated_long seed size few

    small : length file.bytes ≤ 835584
    small = let same = size_is in omega arith

    counted : length (pieces_of file).fragments ≡ fragment_count size
    counted = length-map-range_with_len (fragment file) 0 (fragment_count (length file.bytes)) ∙ ap fragment_count size_is

    numbered : Each (λ (e : Entry). IsNumbered (commands_in made tasks) e.event) es
    numbered =
        subst (Each (λ (e : Entry). IsNumbered (commands_in made tasks) e.event)) (sym (played ∙ ap (λ (t : PlainScenario). (play_of t).world.past) is))
        (play_numbered made tasks).each
