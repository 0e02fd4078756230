use Rattle.std.proofs.Common.{◌≡◌, ◌++◌, take}
use Rattle.svg_text.specs.Picture.{each_of, text_of}
use Rattle.ring_picture.specs.Keys.{key_picture}
use Rattle.ring_picture.proofs.keys.put_keys.Given as goal

abbrev pub invariant-loop-key : goal.invariant-loop-key
invariant-loop-key l = l.text ≡ l.initial.text ++ text_of (each_of (key_picture l.layout l.ready l.keys) (take l.key-index l.keys))
