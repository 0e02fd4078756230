-- The last of a list of references, copied.
use Rattle.std.proofs.Common.{◌≡◌, ℕ, ◌+◌, ◌-◌, Option, List, length, take, drop, map, sym, ap, ◌∙◌, arith}
use Rattle.std.proofs.lemmas.List.{drop-map, length-drop, length-map, take_all}
use Rattle.std.specs.Borrow.{Bor}
use Rattle.std.specs.Option.{option_copied}
use Rattle.wire_msg.specs.declared.reply.Answer.{Answer}

pub copied_tail : (n fragments : ℕ) (closings : List (Option (Bor Answer))) → n ≡ length closings - (fragments + 1) →
    map option_copied (take (length closings - n) (drop n closings)) ≡ drop (length (map option_copied closings) - (fragments + 1)) (map option_copied closings)
copied_tail n fragments closings is =
    ap (map option_copied) (take_all (length closings - n) (drop n closings) (let left = length-drop n closings in omega arith)) ∙
    sym (drop-map option_copied n closings) ∙
    ap (λ k. drop k (map option_copied closings))
    (is ∙ ap (λ long. long - (fragments + 1)) (sym (length-map closings option_copied)))
