use Rattle.std.proofs.Common.{◌≡◌, ◌<◌, ◌^◌, true, Result, Ok, Err, is_ok, ap, sym, ◌∙◌, arith}
use Rattle.std.specs.Prelude.{OnOk}
use Rattle.std.specs.Int.{w128, to_be_bytes}
use Rattle.hex.specs.Hex.{encode_lower}
use Rattle.ring_math.specs.Texts.{text_of, id_read}
use Rattle.ring_math.proofs.Spelling.{id_read-text_of}
use Rattle.ring_math.proofs.text.id_to_hex.Goals as goal

ok_gives : {E P : Type 0} (r : Result (Unit {0}) E) → is_ok r ≡ true → OnOk r P → P
ok_gives (Ok t) e p = p
ok_gives (Err x) e p = cc

written : (c : goal.Else-prove) → c.encode_to_slice-written.new.output ≡ text_of c.args.id
written c =
    let ok : is_ok c.encode_to_slice-written.result ≡ true = sym c.is_ok.ensures.value ∙ c.if-prove.false in
    let bytes : c.to_be_bytes.result ≡ to_be_bytes w128 c.args.id = c.to_be_bytes.ensures ∙ ap (to_be_bytes w128) c.id.view_is in
    ok_gives c.encode_to_slice-written.result ok c.encode_to_slice-written.ensures.written ∙ ap encode_lower bytes

pub returns-clause-text : goal.returns-clause-text
returns-clause-text c = written c

pub returns-clause-back : goal.returns-clause-back
returns-clause-back c = let h : c.args.id < 2 ^ 128 = omega arith in ap id_read (written c) ∙ id_read-text_of c.args.id h
