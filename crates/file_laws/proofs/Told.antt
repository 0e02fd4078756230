-- The closing of a command tells of an answer that is right.
use Rattle.std.proofs.Common.{◌≡◌, ℕ, zero, suc, ◌+◌, Bool, true, false, ◌==◌, Some, List, [], ◌∷◌, take, slice_get, Contains}
use Rattle.std.proofs.Common.{drop, take-append-drop, ◌⊎◌, inl, inr, if◌then◌else◌, refl, sym, subst, ap, ◌∙◌, arith}
use Rattle.std.proofs.lemmas.Bool.{eqb-true}
use Rattle.std.proofs.lemmas.List.Elements.{Contains-append_cases, Contains-append_left}
use Rattle.std.proofs.lemmas.List.Concat.{flat_map-append}
use Rattle.ring_math.specs.Names.{Content, FileId, Id, Number}
use Rattle.wire_msg.specs.declared.command.Command.{Command as NodeCommand}
use Rattle.wire_msg.specs.declared.note.Note.{Note}
use Rattle.wire_msg.specs.declared.note.Note.TheVariants as note
use Rattle.wire_msg.specs.declared.reply.Answer.{Answer}
use Rattle.wire_msg.specs.declared.reply.Answer.TheVariants as answer
use Rattle.wire_msg.specs.declared.reply.Reply.{Reply}
use Rattle.overlay_rules.specs.declared.entry.Entry.{Entry}
use Rattle.overlay_rules.specs.Record.{Setting, Follows, IsRecord, sent_in, visit, world_after}
use Rattle.overlay_rules.specs.Table.{Keeps, accepted_in, notes_in, table}
use Rattle.table_laws.proofs.Tables.{accepted-more, keeps_parts}
use Rattle.overlay_rules.specs.Moments.{Moment, moment_of}
use Rattle.overlay_rules.specs.Rightly.{NotesAreRight, RightNote, RightReply, WasAnswered, WasCommanded}
use Rattle.overlay_rules.proofs.Histories.{follows_at, past_after}
use Rattle.delivery_report.specs.Report.{closing_of}

-- ---- where a note stands

pub record IsNotedAt (es : List Entry) (n : Note) : Type 0 where
  pub place : ℕ
  pub entry : Entry
  pub there : slice_get es place ≡ Some entry
  pub has : Contains entry.notes n

pub noted_at : (es : List Entry) (n : Note) → Contains (notes_in es) n → IsNotedAt es n
noted_at [] n c = let inside = c.1 in absurd (omega arith)
noted_at (e ∷ es) n c = by (Contains-append_cases e.notes (notes_in es) n c) (noted_at es n)
  where
    by : Contains e.notes n ⊎ Contains (notes_in es) n → (Contains (notes_in es) n → IsNotedAt es n) → IsNotedAt (e ∷ es) n
    by (inl here) later = record { place = 0; entry = e; there = refl; has = here }
    by (inr there) later =
        let rest = later there in record { place = suc rest.place; entry = rest.entry; there = rest.there; has = rest.has }

-- an entry of a list has a place in it
place_of : (es : List Entry) (e : Entry) → Contains es e → (i : ℕ) × (slice_get es i ≡ Some e)
place_of [] e c = let inside = c.1 in absurd (omega arith)
place_of (d ∷ es) e (zero, lt, is) = (0, ap (λ (x : Entry). Some x) is)
place_of (d ∷ es) e (suc i, lt, is) = let rest = place_of es e (i, omega arith, is) in (suc rest.0, rest.1)

taken_place : (es : List Entry) (i j : ℕ) (e : Entry) → slice_get (take i es) j ≡ Some e → slice_get es j ≡ Some e
taken_place es zero j e h = cc
taken_place [] (suc i) j e h = cc
taken_place (d ∷ es) (suc i) zero e h = h
taken_place (d ∷ es) (suc i) (suc j) e h = taken_place es i j e h

-- ---- a closing is noted

-- the note that tells it
pub closed_there : (n : Number) (a : Answer) (ns : List Note) → closing_of n ns ≡ Some a → Contains ns (note.Closed n a)
closed_there n a [] e = cc
closed_there n a (note.Closed m b ∷ ns) e = by (m == n) refl e (closed_there n a ns)
  where
    same : {x y : Answer} → Some x ≡ Some y → x ≡ y
    same e = cc

    by : (t : Bool) → m == n ≡ t → (if t then Some b else closing_of n ns) ≡ Some a → (closing_of n ns ≡ Some a → Contains ns (note.Closed n a)) →
        Contains (note.Closed m b ∷ ns) (note.Closed n a)
    by true is e later =
        let number : m ≡ n = eqb-true m n is in
        (0, omega arith, ap (λ k. note.Closed k b) number ∙ ap (λ (x : Answer). note.Closed n x) (same e))
    by false is e later = let rest = later e in let inside = rest.1 in (suc rest.0, omega arith, rest.2)
closed_there n a (note.Accepted file bytes ∷ ns) e = let rest = closed_there n a ns e in let inside = rest.1 in (suc rest.0, omega arith, rest.2)
closed_there n a (note.Delivered origin m key hops ∷ ns) e = let rest = closed_there n a ns e in let inside = rest.1 in (suc rest.0, omega arith, rest.2)
closed_there n a (note.Answered origin m r ∷ ns) e = let rest = closed_there n a ns e in let inside = rest.1 in (suc rest.0, omega arith, rest.2)
closed_there n a (note.Reclaimed file ∷ ns) e = let rest = closed_there n a ns e in let inside = rest.1 in (suc rest.0, omega arith, rest.2)

-- ---- what is kept after some entries was accepted in the whole record

pub accepted_whole : (es : List Entry) (upto : ℕ) (f : FileId) (b : Content) → table (take upto es) f ≡ Keeps b → accepted_in f (notes_in es) ≡ Some b
accepted_whole es upto f b h =
    ap (λ ds. accepted_in f (notes_in ds)) (sym (take-append-drop upto es)) ∙
    ap (accepted_in f) (flat_map-append (λ (e : Entry). e.notes) (take upto es) (drop upto es)) ∙
    accepted-more f b (notes_in (take upto es)) (notes_in (drop upto es)) (keeps_parts f b (notes_in (take upto es)) h).accepted

-- what is among the first entries is among all
pub in_whole : (es : List Entry) (i : ℕ) (e : Entry) → Contains (take i es) e → Contains es e
in_whole es i e c = subst (λ ds. Contains ds e) (take-append-drop i es) (Contains-append_left (take i es) (drop i es) e c)

-- ---- what it tells

-- so many entries lead to a moment in which this reply to the command of this number is right
pub record IsTold (g : Setting) (es : List Entry) (n : Number) (r : Reply) : Type 0 where
  pub moment : Moment
  pub origin : Id
  pub command : NodeCommand
  pub upto : ℕ
  pub past : moment.world.past ≡ take upto es
  pub commanded : WasCommanded moment.world origin n command
  pub right : RightReply g es moment origin n command r

module _ (g : Setting) (es : List Entry) (legal : IsRecord g es) (notes : NotesAreRight g es) where
  right_at : (n : Note) (at : IsNotedAt es n) → (x : Id) × RightNote g es (moment_of g es at.place at.entry x) n
  right_at n at =
      let follows : Follows g (world_after g es at.place) at.entry = follows_at g es at.place at.entry legal.legal at.there in
      let visited : visit (sent_in (take at.place es)) at.entry.event ≡ Some follows.at =
      ap (λ past. visit (sent_in past) at.entry.event) (sym (past_after g es at.place)) ∙ follows.is_at in
      (follows.at.node, notes at.place at.entry follows.at n at.there visited at.has)

  -- an answer that was noted before
  answered_before : (i : ℕ) (x : Id) (n : Number) (r : Reply) → WasAnswered (world_after g es i) x n r → IsNotedAt es (note.Answered x n r)
  answered_before i x n r was =
      let at = place_of (take i es) was.0 (subst (λ past. Contains past was.0) (past_after g es i) was.1.0) in
      record { place = at.0; entry = was.0; there = taken_place es i at.0 was.0 at.1; has = was.1.1 }

  told_by : (x : Id) (n : Number) (r : Reply) → IsNotedAt es (note.Answered x n r) → IsTold g es n r
  told_by x n r at =
      let right = right_at (note.Answered x n r) at in record {
        moment = moment_of g es at.place at.entry right.0;
        origin = x;
        command = right.1.0;
        upto = at.place + 1;
        past = past_after g es (at.place + 1);
        commanded = right.1.1.0;
        right = right.1.1.1;
      }

  -- a closing with a reply
  pub noted_tells : (n : Number) (r : Reply) → IsNotedAt es (note.Closed n (answer.Reply r)) → IsTold g es n r
  noted_tells n r at =
      let right = right_at (note.Closed n (answer.Reply r)) at in
      told_by right.0 n r (answered_before at.place right.0 n r right.1)

  pub closing_tells : (n : Number) (r : Reply) → closing_of n (notes_in es) ≡ Some (answer.Reply r) → IsTold g es n r
  closing_tells n r e =
      noted_tells n r (noted_at es (note.Closed n (answer.Reply r)) (closed_there n (answer.Reply r) (notes_in es) e))
