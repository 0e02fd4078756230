-- How the worked examples write the entries of a record.
use Rattle.std.specs.Prelude.{ℕ, List, [], ◌∷◌, ◌++◌}
use Rattle.wire_msg.specs.declared.command.Command.{Command}
use Rattle.wire_msg.specs.declared.command.Command.TheVariants as command
use Rattle.wire_msg.specs.declared.note.Note.{Note}
use Rattle.wire_msg.specs.declared.note.Note.TheVariants.{Accepted, Answered, Closed}
use Rattle.wire_msg.specs.declared.reply.Answer.TheVariants as answer
use Rattle.wire_msg.specs.declared.reply.Reply.TheVariants as reply
use Rattle.wire_msg.specs.Words.{Message, Envelope, JoinRequest, JoinReply, Probe, ProbeReply, LeaseRequest, Grant, Confirm, Announce, InsertReply}
use Rattle.overlay_rules.specs.declared.entry.Event.TheVariants as event
use Rattle.overlay_rules.specs.declared.entry.Entry.{Entry}

-- the node is told a command, with its number; what it sends and notes
abbrev pub told : (node number : ℕ) → Command → List Envelope → List Note → Entry
told node number command messages notes =
    record { event = event.Command node number command; messages = messages; notes = notes }

-- a message, by its number, comes to its receiver; what that node sends and notes
abbrev pub came : (number : ℕ) → List Envelope → List Note → Entry
came number messages notes = record { event = event.Deliver number; messages = messages; notes = notes }

-- a message of entry `stamp`, from its sender to its receiver
abbrev pub sent : (stamp sender receiver : ℕ) → Message → Envelope
sent stamp sender receiver message =
    record { sender = sender; receiver = receiver; stamp = stamp; message = message }

-- the join of b, the second node, with the lone founder a, from its command on, as far as the lease
abbrev pub second_leased : (a b : ℕ) → List Entry
second_leased a b =
    told b 1 (command.Join a) (sent 1 b a (JoinRequest b 1 0) ∷ []) []
    ∷ came 0 (sent 2 a b (JoinReply 1 (a ∷ [])) ∷ []) []
    ∷ came 1 (sent 3 b a (Probe 1) ∷ []) []
    ∷ came 2 (sent 4 a b (ProbeReply 1 (a ∷ [])) ∷ []) []
    ∷ came 3 (sent 5 b a (LeaseRequest 1 a a) ∷ []) []
    ∷ came 4 (sent 6 a b (Grant 1 [] []) ∷ []) []
    ∷ []

-- the whole of it
abbrev pub second_joined : (a b : ℕ) → List Entry
second_joined a b =
    second_leased a b
    ++ came 5 (sent 7 b a (Confirm 1) ∷ sent 7 b a Announce ∷ []) (Closed 1 (answer.Joined a a) ∷ [])
    ∷ came 6 [] []
    ∷ came 7 [] []
    ∷ []

-- the SHA-1 of the byte 66 and nine zero bytes: bac4a3851efa3aee0b8da32d7ef3035628e3852a
abbrev pub f : List ℕ
f = 186 ∷ 196 ∷ 163 ∷ 133 ∷ 30 ∷ 250 ∷ 58 ∷ 238 ∷ 11 ∷ 141 ∷ 163 ∷ 45 ∷ 126 ∷ 243 ∷ 3 ∷ 86 ∷ 40 ∷ 227 ∷ 133 ∷ 42 ∷ []

-- the key of f: bac4a3851efa3aee0b8da32d7ef30356
abbrev pub key_of_f : ℕ
key_of_f = 248257413979965248232693700095624020822

abbrev pub content : List ℕ
content = 97 ∷ 98 ∷ 99 ∷ []

-- the lone founder a inserts f, by its first command
abbrev pub stored_alone : (a : ℕ) → List Entry
stored_alone a =
    told a 1 (command.Insert f 1 content) (sent 1 a a (InsertReply 1 (reply.Stored (a ∷ []))) ∷ [])
    (Accepted f content ∷ Answered a 1 (reply.Stored (a ∷ [])) ∷ [])
    ∷ came 0 [] (Closed 1 (answer.Reply (reply.Stored (a ∷ []))) ∷ [])
    ∷ []
