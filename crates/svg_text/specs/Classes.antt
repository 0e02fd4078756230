-- The names of classes, as the style sheet has them.
use Rattle.std.specs.Prelude.{ℕ, List, codes}
use Rattle.svg_text.specs.declared.class.Class.{Class}
use Rattle.svg_text.specs.declared.class.Class.TheVariants as class

abbrev pub class_text : Class → List ℕ
class_text class.Paper = codes "paper"
class_text class.Ring = codes "ring"
class_text class.Link = codes "link"
class_text class.LinkHead = codes "link-head"
class_text class.Gate = codes "gate"
class_text class.GateHead = codes "gate-head"
class_text class.Ready = codes "ready"
class_text class.Joiner = codes "joiner"
class_text class.Key = codes "key"
class_text class.Owner = codes "owner"
class_text class.OwnerHead = codes "owner-head"
class_text class.Life = codes "life"
class_text class.Entry = codes "entry"
class_text class.Sent = codes "sent"
class_text class.Again = codes "again"
class_text class.SentPart = codes "sent-part"
class_text class.AgainPart = codes "again-part"
class_text class.Lost = codes "lost"
class_text class.Cross = codes "cross"
class_text class.Wrong = codes "wrong"
class_text class.Marked = codes "marked"
class_text class.Guide = codes "guide"
class_text class.Label = codes "label"
class_text class.LabelEnd = codes "label-end"
class_text class.LabelMiddle = codes "label-middle"
class_text class.Faint = codes "faint"
class_text class.FaintEnd = codes "faint-end"
