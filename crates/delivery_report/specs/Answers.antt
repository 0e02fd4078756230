-- What answers to commands found, and how answers are printed.
use Rattle.std.specs.Prelude.{ℕ, ◌==◌, List, [], ◌∷◌, ◌++◌, Option, Some, None, find, flat_map, option_and_then, codes, decimal}
use Rattle.hex.specs.Hex.{encode_lower}
use Rattle.ring_math.specs.Names.{Content}
use Rattle.ring_math.specs.Texts.{text_of}
use Rattle.wire_msg.specs.declared.reply.Reply.{Reply}
use Rattle.wire_msg.specs.declared.reply.Reply.TheVariants as reply
use Rattle.wire_msg.specs.declared.reply.Why.{Why}
use Rattle.wire_msg.specs.declared.reply.Why.TheVariants as why
use Rattle.wire_msg.specs.declared.reply.Own.{Own}
use Rattle.wire_msg.specs.declared.reply.Own.TheVariants as own
use Rattle.wire_msg.specs.declared.reply.Answer.{Answer}
use Rattle.wire_msg.specs.declared.reply.Answer.TheVariants as answer
use Rattle.scenario_reader.specs.declared.node.NodeLine.{NodeLine}

-- a node's name; the 32 digits of an identifier that is no node's
abbrev pub name_at : Option NodeLine → ℕ → List ℕ
name_at None id = text_of id
name_at (Some node) id = node.name

abbrev pub name_of : List NodeLine → ℕ → List ℕ
name_of nodes id = name_at (find (λ (node : NodeLine). node.id == id) nodes) id

-- each name, behind a space
abbrev pub names_of : List NodeLine → List ℕ → List ℕ
names_of nodes ids = flat_map (λ id. codes " " ++ name_of nodes id) ids

-- bytes in hexadecimal, a dash where there are none
abbrev pub bytes_text : List ℕ → List ℕ
bytes_text [] = codes "-"
bytes_text (byte ∷ bytes) = encode_lower (byte ∷ bytes)

abbrev pub reply_text : List NodeLine → Reply → List ℕ
reply_text nodes (reply.Delivered y hops) = codes "delivered by " ++ name_of nodes y ++ codes " hops " ++ decimal hops
reply_text nodes (reply.Stored holders) = codes "stored at" ++ names_of nodes holders
reply_text nodes (reply.Found y bytes) = codes "found by " ++ name_of nodes y ++ codes " " ++ bytes_text bytes
reply_text nodes (reply.NotFound y) = codes "missing by " ++ name_of nodes y
reply_text nodes (reply.Collision y) = codes "collision by " ++ name_of nodes y
reply_text nodes (reply.TooFew y known) = codes "too few by " ++ name_of nodes y ++ codes " known " ++ decimal known
reply_text nodes (reply.Busy y j) = codes "busy by " ++ name_of nodes y ++ codes " for " ++ name_of nodes j
reply_text nodes (reply.NotReady y) = codes "not ready by " ++ name_of nodes y
reply_text nodes (reply.Full y) = codes "full by " ++ name_of nodes y
reply_text nodes (reply.Gone y) = codes "gone by " ++ name_of nodes y
reply_text nodes (reply.Reclaimed y) = codes "reclaimed by " ++ name_of nodes y

abbrev pub why_text : List NodeLine → Why → List ℕ
why_text nodes (why.Busy j) = codes "busy with " ++ name_of nodes j
why_text nodes (why.Moved l r) = codes "moved to " ++ name_of nodes l ++ codes " and " ++ name_of nodes r
why_text nodes why.NotReady = codes "not ready"

abbrev pub own_text : Own → List ℕ
own_text own.GivenUp = codes "given up"
own_text own.Already = codes "already"
own_text own.Spent = codes "spent"

abbrev pub answer_text : List NodeLine → Answer → List ℕ
answer_text nodes (answer.Reply r) = reply_text nodes r
answer_text nodes (answer.Joined l r) = codes "joined between " ++ name_of nodes l ++ codes " and " ++ name_of nodes r
answer_text nodes (answer.Denied y w) = codes "denied by " ++ name_of nodes y ++ codes " " ++ why_text nodes w
answer_text nodes (answer.Stopped y o) = codes "denied by " ++ name_of nodes y ++ codes " " ++ own_text o
answer_text nodes answer.GaveUp = codes "gave up"
answer_text nodes answer.NothingToGiveUp = codes "nothing to give up"

abbrev pub closing_text : List NodeLine → Option Answer → List ℕ
closing_text nodes None = codes "unanswered"
closing_text nodes (Some a) = answer_text nodes a

-- the bytes that were found by an answer, and by a command that was closed with one
abbrev pub found_in_reply : Reply → Option Content
found_in_reply (reply.Found y bytes) = Some bytes
found_in_reply _ = None

abbrev pub found_in : Answer → Option Content
found_in (answer.Reply r) = found_in_reply r
found_in (answer.Joined l r) = None
found_in (answer.Denied y w) = None
found_in (answer.Stopped y o) = None
found_in answer.GaveUp = None
found_in answer.NothingToGiveUp = None

abbrev pub found_by : Option Answer → Option Content
found_by closing = option_and_then found_in closing
