-- The fields of each command and note match their layout, and give it back.
use Rattle.std.proofs.Common.{◌≡◌, ℕ, cond, eqb, List, [], ◌∷◌, drop, refl, sym, ap, ◌∙◌, lit≤}
use Rattle.wire_msg.specs.declared.command.Command.{Command}
use Rattle.wire_msg.specs.declared.command.Command.TheVariants as command
use Rattle.wire_msg.specs.declared.note.Note.{Note}
use Rattle.wire_msg.specs.declared.note.Note.TheVariants as note
use Rattle.wire_msg.specs.declared.reply.Answer.{Answer}
use Rattle.wire_msg.specs.declared.reply.Answer.TheVariants as answer
use Rattle.wire_msg.specs.declared.reply.Own.{Own}
use Rattle.wire_msg.specs.declared.reply.Own.TheVariants as own
use Rattle.wire_codec.specs.Fields.{Field}
use Rattle.wire_codec.specs.Notes.{fields_of_command, fields_of_answer, fields_of_note, tag_of_own, own_layout, command_layout, answer_layout, note_layout}
use Rattle.wire_codec.proofs.Matching.{Matches}
use Rattle.wire_codec.proofs.Messages.{why_matches, any_reply_matches, number_at, list_at, why_in, reply_in, why_back, reply_back}

-- ---- they match the layout

pub command_matches : (c : Command) → Matches command_layout (fields_of_command c)
command_matches (command.Join via) = ((lit≤ tt, lit≤ tt), (refl, tt))
command_matches (command.Lookup key) = ((lit≤ tt, lit≤ tt), (refl, tt))
command_matches (command.Insert file copies bytes) = ((lit≤ tt, lit≤ tt), (refl, (refl, (refl, tt))))
command_matches (command.Fetch file) = ((lit≤ tt, lit≤ tt), (refl, tt))
command_matches command.GiveUp = ((lit≤ tt, lit≤ tt), tt)
command_matches (command.Reclaim file) = ((lit≤ tt, lit≤ tt), (refl, tt))

own_matches : (o : Own) → Matches own_layout (Field.Tag (tag_of_own o) ∷ [])
own_matches own.GivenUp = ((lit≤ tt, lit≤ tt), tt)
own_matches own.Already = ((lit≤ tt, lit≤ tt), tt)
own_matches own.Spent = ((lit≤ tt, lit≤ tt), tt)

answer_matches : (a : Answer) → Matches answer_layout (fields_of_answer a)
answer_matches (answer.Reply r) = ((lit≤ tt, lit≤ tt), any_reply_matches r)
answer_matches (answer.Joined left right) = ((lit≤ tt, lit≤ tt), (refl, (refl, tt)))
answer_matches (answer.Denied node w) = ((lit≤ tt, lit≤ tt), (refl, why_matches w))
answer_matches (answer.Stopped node o) = ((lit≤ tt, lit≤ tt), (refl, own_matches o))
answer_matches answer.GaveUp = ((lit≤ tt, lit≤ tt), tt)
answer_matches answer.NothingToGiveUp = ((lit≤ tt, lit≤ tt), tt)

pub note_matches : (n : Note) → Matches note_layout (fields_of_note n)
note_matches (note.Accepted file bytes) = ((lit≤ tt, lit≤ tt), (refl, (refl, tt)))
note_matches (note.Delivered origin number key hops) = ((lit≤ tt, lit≤ tt), (refl, (refl, (refl, (refl, tt)))))
note_matches (note.Answered origin number r) = ((lit≤ tt, lit≤ tt), (refl, (refl, any_reply_matches r)))
note_matches (note.Closed number a) = ((lit≤ tt, lit≤ tt), (refl, answer_matches a))
note_matches (note.Reclaimed file) = ((lit≤ tt, lit≤ tt), (refl, tt))

-- ---- they give it back

abbrev command_in : List Field → Command
command_in fields =
    cond (eqb (number_at fields 0) 1) (command.Join (number_at fields 1))
    (cond (eqb (number_at fields 0) 2) (command.Lookup (number_at fields 1))
    (cond (eqb (number_at fields 0) 3) (command.Insert (list_at fields 1) (number_at fields 2) (list_at fields 3))
    (cond (eqb (number_at fields 0) 4) (command.Fetch (list_at fields 1))
    (cond (eqb (number_at fields 0) 5) command.GiveUp (command.Reclaim (list_at fields 1))))))

abbrev own_in : ℕ → Own
own_in tag = cond (eqb tag 1) own.GivenUp (cond (eqb tag 2) own.Already own.Spent)

abbrev answer_in : List Field → Answer
answer_in fields =
    cond (eqb (number_at fields 0) 1) (answer.Reply (reply_in (drop 1 fields)))
    (cond (eqb (number_at fields 0) 2) (answer.Joined (number_at fields 1) (number_at fields 2))
    (cond (eqb (number_at fields 0) 3) (answer.Denied (number_at fields 1) (why_in (drop 2 fields)))
    (cond (eqb (number_at fields 0) 4) (answer.Stopped (number_at fields 1) (own_in (number_at fields 2)))
    (cond (eqb (number_at fields 0) 5) answer.GaveUp answer.NothingToGiveUp))))

abbrev note_in : List Field → Note
note_in fields =
    cond (eqb (number_at fields 0) 1) (note.Accepted (list_at fields 1) (list_at fields 2))
    (cond (eqb (number_at fields 0) 2) (note.Delivered (number_at fields 1) (number_at fields 2) (number_at fields 3) (number_at fields 4))
    (cond (eqb (number_at fields 0) 3) (note.Answered (number_at fields 1) (number_at fields 2) (reply_in (drop 3 fields)))
    (cond (eqb (number_at fields 0) 4) (note.Closed (number_at fields 1) (answer_in (drop 2 fields))) (note.Reclaimed (list_at fields 1)))))

command_back : (c : Command) → command_in (fields_of_command c) ≡ c
command_back (command.Join via) = refl
command_back (command.Lookup key) = refl
command_back (command.Insert file copies bytes) = refl
command_back (command.Fetch file) = refl
command_back command.GiveUp = refl
command_back (command.Reclaim file) = refl

own_back : (o : Own) → own_in (tag_of_own o) ≡ o
own_back own.GivenUp = refl
own_back own.Already = refl
own_back own.Spent = refl

answer_back : (a : Answer) → answer_in (fields_of_answer a) ≡ a
answer_back (answer.Reply r) = ap answer.Reply (reply_back r)
answer_back (answer.Joined left right) = refl
answer_back (answer.Denied node w) = ap (answer.Denied node) (why_back w)
answer_back (answer.Stopped node o) = ap (answer.Stopped node) (own_back o)
answer_back answer.GaveUp = refl
answer_back answer.NothingToGiveUp = refl

note_back : (n : Note) → note_in (fields_of_note n) ≡ n
note_back (note.Accepted file bytes) = refl
note_back (note.Delivered origin number key hops) = refl
note_back (note.Answered origin number r) = ap (note.Answered origin number) (reply_back r)
note_back (note.Closed number a) = ap (note.Closed number) (answer_back a)
note_back (note.Reclaimed file) = refl

-- what the fields say tells the command, and the note
pub command_told : (c d : Command) → fields_of_command c ≡ fields_of_command d → c ≡ d
command_told c d same = sym (command_back c) ∙ ap command_in same ∙ command_back d

pub note_told : (n m : Note) → fields_of_note n ≡ fields_of_note m → n ≡ m
note_told n m same = sym (note_back n) ∙ ap note_in same ∙ note_back m
