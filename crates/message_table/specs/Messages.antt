-- A message in words: its kind and its fields.
use Rattle.std.specs.Prelude.{ℕ, List, ◌++◌, map, codes, decimal}
use Rattle.ring_math.specs.Names.{Id, FileId, Content, Attempt, Number, Hops}
use Rattle.ring_math.specs.Texts.{text_of}
use Rattle.wire_msg.specs.Words.{Message}
use Rattle.wire_msg.specs.Words as message
use Rattle.wire_msg.specs.declared.reply.Reply.{Reply}
use Rattle.wire_msg.specs.declared.reply.Why.{Why}
use Rattle.scenario_reader.specs.declared.node.NodeLine.{NodeLine}
use Rattle.scenario_reader.specs.declared.node.FileLine.{FileLine}
use Rattle.delivery_report.specs.Answers.{name_of, names_of, bytes_text, reply_text, why_text}
use Rattle.message_table.specs.Labels.{both_text, label_of, spaced_or_dash}

-- whose command a request is of
abbrev pub asker_text : List NodeLine → Id → Number → List ℕ
asker_text nodes origin number = codes " of " ++ name_of nodes origin ++ codes " " ++ decimal number

abbrev pub hops_text : Hops → List ℕ
hops_text hops = codes " hops " ++ decimal hops

abbrev pub attempt_text : Attempt → List ℕ
attempt_text attempt = codes " attempt " ++ decimal attempt

abbrev pub file_text : List FileLine → FileId → List ℕ
file_text files file = codes " file " ++ label_of files file

abbrev pub content_text : Content → List ℕ
content_text bytes = codes " bytes " ++ bytes_text bytes

-- an answer to a command of this number
abbrev pub answered_text : List NodeLine → Number → Reply → List ℕ
answered_text nodes number reply = codes " to " ++ decimal number ++ codes " " ++ reply_text nodes reply

abbrev pub members_text : List NodeLine → Attempt → List Id → List ℕ
members_text nodes attempt members = attempt_text attempt ++ codes " members" ++ names_of nodes members

abbrev pub refusal_text : List NodeLine → Attempt → Why → List ℕ
refusal_text nodes attempt why = attempt_text attempt ++ codes " " ++ why_text nodes why

-- two nodes that a joiner asks to stand between
abbrev pub between_text : List NodeLine → Attempt → Id → Id → List ℕ
between_text nodes attempt left right = attempt_text attempt ++ codes " between " ++ both_text nodes left right

-- the files that a lease hands over, and those of them that were reclaimed
abbrev pub lists_text : List FileLine → List FileId → List FileId → List ℕ
lists_text files manifest tombs =
    codes " manifest" ++ spaced_or_dash (map (label_of files) manifest) ++ codes " tombs" ++ spaced_or_dash (map (label_of files) tombs)

abbrev pub message_text : List NodeLine → List FileLine → Message → List ℕ
message_text nodes files (message.Lookup origin number key hops) =
    codes "Lookup" ++ asker_text nodes origin number ++ codes " key " ++ text_of key ++ hops_text hops
message_text nodes files (message.LookupReply number reply) = codes "LookupReply" ++ answered_text nodes number reply
message_text nodes files (message.Insert origin number hops file copies bytes) =
    codes "Insert" ++ asker_text nodes origin number ++ file_text files file ++ codes " copies " ++ decimal copies ++ content_text bytes ++ hops_text hops
message_text nodes files (message.InsertReply number reply) = codes "InsertReply" ++ answered_text nodes number reply
message_text nodes files (message.Fetch origin number hops file) =
    codes "Fetch" ++ asker_text nodes origin number ++ file_text files file ++ hops_text hops
message_text nodes files (message.FetchReply number reply) = codes "FetchReply" ++ answered_text nodes number reply
message_text nodes files (message.JoinRequest joiner attempt hops) =
    codes "JoinRequest of " ++ name_of nodes joiner ++ attempt_text attempt ++ hops_text hops
message_text nodes files (message.JoinReply attempt members) = codes "JoinReply" ++ members_text nodes attempt members
message_text nodes files (message.JoinRefuse attempt why) = codes "JoinRefuse" ++ refusal_text nodes attempt why
message_text nodes files (message.Probe attempt) = codes "Probe" ++ attempt_text attempt
message_text nodes files (message.ProbeReply attempt members) = codes "ProbeReply" ++ members_text nodes attempt members
message_text nodes files (message.LeaseRequest attempt left right) = codes "LeaseRequest" ++ between_text nodes attempt left right
message_text nodes files (message.Grant attempt manifest tombs) = codes "Grant" ++ attempt_text attempt ++ lists_text files manifest tombs
message_text nodes files (message.Deny attempt why) = codes "Deny" ++ refusal_text nodes attempt why
message_text nodes files (message.Handover file bytes) = codes "Handover" ++ file_text files file ++ content_text bytes
message_text nodes files (message.Release attempt) = codes "Release" ++ attempt_text attempt
message_text nodes files (message.Confirm attempt) = codes "Confirm" ++ attempt_text attempt
message_text nodes files message.Announce = codes "Announce"
message_text nodes files (message.Replicate origin number file bytes) =
    codes "Replicate" ++ asker_text nodes origin number ++ file_text files file ++ content_text bytes
message_text nodes files (message.ReplicaAck origin number file) = codes "ReplicaAck" ++ asker_text nodes origin number ++ file_text files file
message_text nodes files (message.Reclaim origin number hops file) =
    codes "Reclaim" ++ asker_text nodes origin number ++ file_text files file ++ hops_text hops
message_text nodes files (message.ReclaimReply number reply) = codes "ReclaimReply" ++ answered_text nodes number reply
