use Rattle.std.proofs.Common.{◌≡◌, ◌++◌, List, ℕ, ◌∙◌, subst, sym}
use Rattle.std.proofs.lemmas.List.{take_rest}
use Rattle.hex.specs.Hex.{encode_lower}
use Rattle.trace_text.proofs.Digits.{digits_then}
use Rattle.trace_text.proofs.Written.{on_ok}
use Rattle.trace_text.proofs.writer.put_digits.Goals as goal

pub loop-rest-preserved : goal.loop-rest-preserved
loop-rest-preserved c =
    let rest : List ℕ = c.loop-rest.rest.now in
    let all : List ℕ = c.args.text.now ++ encode_lower c.args.bytes.now in
    subst (λ (t : List ℕ). c.put.new.self ++ encode_lower t ≡ all) (sym (take_rest rest 16))
    (digits_then c.loop-rest.text c.put.new.self c.block_digits.result rest all 16 c.in_ok-put.ensures c.block_digits.ensures c.loop-rest.invariant)

pub returns : goal.returns
returns c = on_ok c.hex.result c.hex.ensures (λ written. written ∙ c.loop-rest.invariant)
