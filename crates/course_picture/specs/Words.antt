-- The words beside an entry: its node, what came to it, and what it noted, in the words of the report. Nodes, keys and files are
-- called by their first digits.
use Rattle.std.specs.Prelude.{ℕ, List, [], ◌++◌, Option, Some, None, slice_get, take, flat_map, map, codes, decimal}
use Rattle.hex.specs.Hex.{encode_lower}
use Rattle.ring_math.specs.Names.{Id, FileId}
use Rattle.wire_msg.specs.declared.command.Command.{Command}
use Rattle.wire_msg.specs.declared.command.Command.TheVariants as command
use Rattle.wire_msg.specs.declared.note.Note.{Note}
use Rattle.wire_msg.specs.declared.note.Note.TheVariants as note
use Rattle.wire_msg.specs.declared.reply.Reply.{Reply}
use Rattle.wire_msg.specs.declared.reply.Reply.TheVariants as reply
use Rattle.wire_msg.specs.declared.reply.Answer.{Answer}
use Rattle.wire_msg.specs.declared.reply.Answer.TheVariants as answer
use Rattle.wire_msg.specs.Words.{Envelope, Message}
use Rattle.wire_msg.specs.Words as message
use Rattle.overlay_rules.specs.declared.entry.Event.{Event}
use Rattle.overlay_rules.specs.declared.entry.Event.TheVariants as event
use Rattle.scenario_reader.specs.declared.node.NodeLine.{NodeLine}
use Rattle.delivery_report.specs.Answers.{name_of, answer_text, reply_text}
use Rattle.svg_text.specs.Labels.{short_of}

-- the first 8 digits of a file
abbrev pub short_file : FileId → List ℕ
short_file file = encode_lower (take 4 file)

-- nodes that have their first digits for names
abbrev pub named : Id → NodeLine
named id = record { name = short_of id; id = id; line = 0 }

abbrev pub names_of : List Id → List NodeLine
names_of ids = map named ids

abbrev pub command_words : List NodeLine → Command → List ℕ
command_words names (command.Join via) = codes "join by " ++ name_of names via
command_words names (command.Lookup key) = codes "lookup " ++ short_of key
command_words names (command.Insert file copies bytes) = codes "insert " ++ short_file file ++ codes " " ++ decimal copies
command_words names (command.Fetch file) = codes "fetch " ++ short_file file
command_words names command.GiveUp = codes "giveup"
command_words names (command.Reclaim file) = codes "reclaim " ++ short_file file

-- a reply as the report has it, but for the bytes that were found
abbrev pub reply_words : List NodeLine → Reply → List ℕ
reply_words names (reply.Found y bytes) = codes "found by " ++ name_of names y
reply_words names r = reply_text names r

abbrev pub answer_words : List NodeLine → Answer → List ℕ
answer_words names (answer.Reply r) = reply_words names r
answer_words names a = answer_text names a

abbrev pub note_words : List NodeLine → Note → List ℕ
note_words names (note.Accepted file bytes) = codes "accepted " ++ short_file file
note_words names (note.Delivered origin number key hops) =
    codes "delivery " ++ decimal number ++ codes " of " ++ short_of key ++ codes " hops " ++ decimal hops
note_words names (note.Answered origin number r) = codes "answered of " ++ name_of names origin ++ codes " " ++ decimal number
note_words names (note.Closed number a) = decimal number ++ codes " " ++ answer_words names a
note_words names (note.Reclaimed file) = codes "reclaimed " ++ short_file file

-- the notes, each behind a semicolon
abbrev pub notes_words : List NodeLine → List Note → List ℕ
notes_words names notes = flat_map (λ n. codes "; " ++ note_words names n) notes

-- the kind of a message
abbrev pub kind_of : Message → List ℕ
kind_of (message.Lookup origin number key hops) = codes "Lookup"
kind_of (message.LookupReply number reply) = codes "LookupReply"
kind_of (message.Insert origin number hops file copies bytes) = codes "Insert"
kind_of (message.InsertReply number reply) = codes "InsertReply"
kind_of (message.Fetch origin number hops file) = codes "Fetch"
kind_of (message.FetchReply number reply) = codes "FetchReply"
kind_of (message.JoinRequest joiner attempt hops) = codes "JoinRequest"
kind_of (message.JoinReply attempt members) = codes "JoinReply"
kind_of (message.JoinRefuse attempt why) = codes "JoinRefuse"
kind_of (message.Probe attempt) = codes "Probe"
kind_of (message.ProbeReply attempt members) = codes "ProbeReply"
kind_of (message.LeaseRequest attempt left right) = codes "LeaseRequest"
kind_of (message.Grant attempt manifest tombs) = codes "Grant"
kind_of (message.Deny attempt why) = codes "Deny"
kind_of (message.Handover file bytes) = codes "Handover"
kind_of (message.Release attempt) = codes "Release"
kind_of (message.Confirm attempt) = codes "Confirm"
kind_of message.Announce = codes "Announce"
kind_of (message.Replicate origin number file bytes) = codes "Replicate"
kind_of (message.ReplicaAck origin number file) = codes "ReplicaAck"
kind_of (message.Reclaim origin number hops file) = codes "Reclaim"
kind_of (message.ReclaimReply number reply) = codes "ReclaimReply"

-- a message by its number, and its kind where it was sent
abbrev pub kind_words : Option Envelope → List ℕ
kind_words None = []
kind_words (Some v) = codes " " ++ kind_of v.message

abbrev pub message_words : ℕ → Option Envelope → List ℕ
message_words m v = codes "message " ++ decimal m ++ kind_words v

-- what came, in a record that sent these messages
abbrev pub event_words : List NodeLine → List Envelope → Event → List ℕ
event_words names sent (event.Command x n c) = codes "command " ++ decimal n ++ codes " " ++ command_words names c
event_words names sent (event.Deliver m) = message_words m (slice_get sent m)
event_words names sent (event.Noise x) = codes "noise"

-- the node, where there is one
abbrev pub node_words : List NodeLine → Option Id → List ℕ
node_words names None = []
node_words names (Some x) = name_of names x ++ codes " "
