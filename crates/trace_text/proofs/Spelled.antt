-- A line is spelled without an end of its own, and its text tells it.
use Rattle.std.proofs.Common.{◌≡◌, ℕ, ◌^◌, ◌<◌, ◌≤◌, Bool, true, cond, not, eqb, List, [], ◌∷◌, ◌++◌, codes, refl, sym, ap, subst, ◌∙◌, arith}
use Rattle.std.specs.Prelude.{nat_lt, decimal, bytes_eq, Result}
use Rattle.std.specs.Char.{is_ascii_digit}
use Rattle.std.specs.Int.{w128, to_be_bytes}
use Rattle.std.specs.List.{list_all, flat_map, AllByRecursion}
use Rattle.std.specs.Result.{result_unwrap_or}
use Rattle.std.proofs.lemmas.Bool.{and_from, and_parts, ltb-true, ne_eqb}
use Rattle.std.proofs.lemmas.Bool.Decides.{nat_tests}
use Rattle.std.proofs.lemmas.Fmt.{decimal_injective}
use Rattle.std.proofs.lemmas.List.Folds.{list_all-append}
use Rattle.hex.specs.Hex.{decode_of, encode_lower}
use Rattle.hex.specs.declared.error.FromHexError.{FromHexError}
use Rattle.hex.proofs.HexLemmas.{decode_of-encode_lower}
use Rattle.ring_math.specs.Texts.{text_of, id_read}
use Rattle.ring_math.proofs.Spelling.{id_read-text_of}
use Rattle.wire_msg.specs.declared.command.Command.{Command as NodeCommand}
use Rattle.wire_msg.specs.declared.note.Note.{Note as NodeNote}
use Rattle.wire_msg.specs.Words.{Envelope}
use Rattle.wire_codec.specs.Fields.{AreBytes, Fits, spelled}
use Rattle.wire_codec.specs.Notes.{fields_of_command, fields_of_note}
use Rattle.wire_codec.specs.Spelling.{contents_of, spelling}
use Rattle.wire_codec.proofs.Frames.{one_envelope}
use Rattle.wire_codec.proofs.Noted.{one_command, one_note}
use Rattle.overlay_rules.specs.declared.entry.Event.TheVariants as event
use Rattle.trace_text.specs.declared.form.Form.{Form}
use Rattle.trace_text.specs.declared.form.Form.TheVariants as form
use Rattle.trace_text.specs.Digits.{is_lower_digit, lacks}
use Rattle.trace_text.specs.Lines.{Line, Trace, Node, Founder, Event, Sent, Note, End, form_of, word_of, operands_of, line_text, FitsLine, IsLine}
use Rattle.trace_text.specs.Lines.{command_text, note_text}
use Rattle.trace_text.proofs.Bytes.{id_bytes, fields_bytes, frame_bytes}
use Rattle.trace_text.proofs.Cuts.{cut_told}
use Rattle.trace_text.proofs.Digits.{encoded_lower}
use Rattle.trace_text.proofs.Ids.{decimal_digits}

-- ---- no word has a space or an end of a line

abbrev above : ℕ → Bool
above byte = nat_lt 32 byte

all_more : (p q : ℕ → Bool) → ((b : ℕ) → p b ≡ true → q b ≡ true) → (text : List ℕ) → list_all p text ≡ true → list_all q text ≡ true
all_more p q more [] h = refl
all_more p q more (b ∷ text) h =
    let parts = and_parts (p b) (list_all p text) h in
    and_from (q b) (list_all q text) (more b parts.0) (all_more p q more text parts.1)

lower_above : (b : ℕ) → is_lower_digit b ≡ true → above b ≡ true
lower_above b h = grind (arith, nat_tests, h)

digit_above : (b : ℕ) → is_ascii_digit b ≡ true → above b ≡ true
digit_above b h = grind (arith, nat_tests, h)

lacks_above : (byte : ℕ) (text : List ℕ) → byte ≤ 32 → list_all above text ≡ true → lacks byte text ≡ true
lacks_above byte text small h =
    all_more above (λ (b : ℕ). not (eqb b byte))
    (λ b up. ap not (ne_eqb b byte (λ same. absurd (omega (arith, small, same, ltb-true 32 b up))))) text h

hex_above : (bytes : List ℕ) → AreBytes bytes → list_all above (encode_lower bytes) ≡ true
hex_above bytes fit = all_more is_lower_digit above lower_above (encode_lower bytes) (encoded_lower bytes fit)

id_above : (id : ℕ) → list_all above (text_of id) ≡ true
id_above id = hex_above (to_be_bytes w128 id) (id_bytes id)

number_above : (n : ℕ) → n < 2 ^ 64 → list_all above (decimal n) ≡ true
number_above n fits = all_more is_ascii_digit above digit_above (decimal n) (decimal_digits n fits)

pub id_lacks : (byte id : ℕ) → byte ≤ 32 → lacks byte (text_of id) ≡ true
id_lacks byte id small = lacks_above byte (text_of id) small (id_above id)

pub number_lacks : (byte n : ℕ) → byte ≤ 32 → n < 2 ^ 64 → lacks byte (decimal n) ≡ true
number_lacks byte n small fits = lacks_above byte (decimal n) small (number_above n fits)

hex_lacks : (byte : ℕ) (bytes : List ℕ) → byte ≤ 32 → AreBytes bytes → lacks byte (encode_lower bytes) ≡ true
hex_lacks byte bytes small fit = lacks_above byte (encode_lower bytes) small (hex_above bytes fit)

pub word_lacks : (byte : ℕ) (f : Form) → byte ≤ 32 → lacks byte (word_of f) ≡ true
word_lacks byte f small = lacks_above byte (word_of f) small (word_above f) where
  word_above : (g : Form) → list_all above (word_of g) ≡ true
  word_above form.Trace = refl
  word_above form.Node = refl
  word_above form.Founder = refl
  word_above form.Command = refl
  word_above form.Deliver = refl
  word_above form.Noise = refl
  word_above form.Sent = refl
  word_above form.Note = refl
  word_above form.End = refl

-- ---- no line has an end of a line

lacks_both : (a b : List ℕ) → lacks 10 a ≡ true → lacks 10 b ≡ true → lacks 10 (a ++ b) ≡ true
lacks_both a b first second =
    list_all-append (λ (c : ℕ). not (eqb c 10)) a b ∙ and_from (lacks 10 a) (lacks 10 b) first second

lacks_spaced : (a b : List ℕ) → lacks 10 a ≡ true → lacks 10 b ≡ true → lacks 10 (a ++ 32 ∷ b) ≡ true
lacks_spaced a b first second = lacks_both a (32 ∷ b) first second

operands_lack : (l : Line) → FitsLine l → lacks 10 (operands_of l) ≡ true
operands_lack Trace fits = refl
operands_lack (Node id) fits = id_lacks 10 id (omega arith)
operands_lack (Founder id) fits = id_lacks 10 id (omega arith)
operands_lack (Event (event.Command node number command)) fits =
    lacks_spaced (text_of node) (decimal number ++ 32 ∷ command_text command) (id_lacks 10 node (omega arith))
    (lacks_spaced (decimal number) (command_text command) (number_lacks 10 number (omega arith) fits.1)
    (hex_lacks 10 (flat_map spelled (fields_of_command command)) (omega arith) (fields_bytes (fields_of_command command) fits.2)))
operands_lack (Event (event.Deliver message)) fits = number_lacks 10 message (omega arith) fits
operands_lack (Event (event.Noise node)) fits = id_lacks 10 node (omega arith)
operands_lack (Sent envelope) fits = hex_lacks 10 (spelling envelope) (omega arith) (frame_bytes envelope fits)
operands_lack (Note note) fits = hex_lacks 10 (flat_map spelled (fields_of_note note)) (omega arith) (fields_bytes (fields_of_note note) fits)
operands_lack (End skipped) fits = number_lacks 10 skipped (omega arith) fits

pub line_lacks : (l : Line) → FitsLine l → lacks 10 (line_text l) ≡ true
line_lacks l fits = lacks_spaced (word_of (form_of l)) (operands_of l) (word_lacks 10 (form_of l) (omega arith)) (operands_lack l fits)

-- ---- words tell what they spell

id_told : (x y : ℕ) → x < 2 ^ 128 → y < 2 ^ 128 → text_of x ≡ text_of y → x ≡ y
id_told x y fits fits_too same =
    let one = id_read-text_of x fits in
    let two = id_read-text_of y fits_too in
    ap (λ r. result_unwrap_or r 0) (sym one ∙ ap id_read same ∙ two)

pub bytes_told : (a b : List ℕ) → AreBytes a → AreBytes b → encode_lower a ≡ encode_lower b → a ≡ b
bytes_told a b fit fit_too same =
    ap (λ (r : Result (List ℕ) FromHexError). result_unwrap_or r []) (sym (decode_of-encode_lower a fit) ∙ ap decode_of same ∙ decode_of-encode_lower b fit_too)

command_told : (c d : NodeCommand) → AllByRecursion Fits (fields_of_command c) → AllByRecursion Fits (fields_of_command d) →
    command_text c ≡ command_text d → c ≡ d
command_told c d fits fits_too same =
    let bytes = flat_map spelled (fields_of_command c) in
    one_command bytes c d (record { bytes_are = refl; fits = fits })
    (record {
      bytes_are = bytes_told bytes (flat_map spelled (fields_of_command d)) (fields_bytes (fields_of_command c) fits)
          (fields_bytes (fields_of_command d) fits_too) same;
      fits = fits_too;
    })

note_told : (n m : NodeNote) → AllByRecursion Fits (fields_of_note n) → AllByRecursion Fits (fields_of_note m) → note_text n ≡ note_text m → n ≡ m
note_told n m fits fits_too same =
    let bytes = flat_map spelled (fields_of_note n) in
    one_note bytes n m (record { bytes_are = refl; fits = fits })
    (record {
      bytes_are = bytes_told bytes (flat_map spelled (fields_of_note m)) (fields_bytes (fields_of_note n) fits) (fields_bytes (fields_of_note m) fits_too) same;
      fits = fits_too;
    })

envelope_told : (e f : Envelope) → AllByRecursion Fits (contents_of e).fields → AllByRecursion Fits (contents_of f).fields →
    encode_lower (spelling e) ≡ encode_lower (spelling f) → e ≡ f
envelope_told e f fits fits_too same =
    one_envelope (spelling e) e f (record { bytes_are = refl; fits = fits })
    (record { bytes_are = bytes_told (spelling e) (spelling f) (frame_bytes e fits) (frame_bytes f fits_too) same; fits = fits_too })

pub record AreSameCommand (x n : ℕ) (c : NodeCommand) (y m : ℕ) (d : NodeCommand) : Type 0 where
  pub node : x ≡ y
  pub number : n ≡ m
  pub command : c ≡ d

commands_told : (x n : ℕ) (c : NodeCommand) (y m : ℕ) (d : NodeCommand) → FitsLine (Event (event.Command x n c)) → FitsLine (Event (event.Command y m d)) →
    operands_of (Event (event.Command x n c)) ≡ operands_of (Event (event.Command y m d)) → AreSameCommand x n c y m d
commands_told x n c y m d fits fits_too same =
    let first = cut_told 32 (text_of x) (text_of y) (decimal n ++ 32 ∷ command_text c) (decimal m ++ 32 ∷ command_text d) (id_lacks 32 x (omega arith))
    (id_lacks 32 y (omega arith)) same in
    let second = cut_told 32 (decimal n) (decimal m) (command_text c) (command_text d) (number_lacks 32 n (omega arith) fits.1)
    (number_lacks 32 m (omega arith) fits_too.1) first.behind in
    record {
      node = id_told x y fits.0 fits_too.0 first.before;
      number = decimal_injective n m fits.1 fits_too.1 second.before;
      command = command_told c d fits.2 fits_too.2 second.behind;
    }

-- ---- the first word tells the form

abbrev form_in : List ℕ → Form
form_in word =
    cond (bytes_eq word (codes "trace")) form.Trace
    (cond (bytes_eq word (codes "node")) form.Node
    (cond (bytes_eq word (codes "founder")) form.Founder
    (cond (bytes_eq word (codes "command")) form.Command
    (cond (bytes_eq word (codes "deliver")) form.Deliver
    (cond (bytes_eq word (codes "noise")) form.Noise
    (cond (bytes_eq word (codes "sent")) form.Sent
    (cond (bytes_eq word (codes "note")) form.Note form.End)))))))

form_back : (f : Form) → form_in (word_of f) ≡ f
form_back form.Trace = refl
form_back form.Node = refl
form_back form.Founder = refl
form_back form.Command = refl
form_back form.Deliver = refl
form_back form.Noise = refl
form_back form.Sent = refl
form_back form.Note = refl
form_back form.End = refl

pub form_told : (f g : Form) → word_of f ≡ word_of g → f ≡ g
form_told f g same = sym (form_back f) ∙ ap form_in same ∙ form_back g

-- a line of this form
abbrev pub IsOf : Form → Line → Type 0
IsOf form.Trace l = l ≡ Trace
IsOf form.Node l = (id : ℕ) × (l ≡ Node id)
IsOf form.Founder l = (id : ℕ) × (l ≡ Founder id)
IsOf form.Command l = (node number : ℕ) × (command : NodeCommand) × (l ≡ Event (event.Command node number command))
IsOf form.Deliver l = (message : ℕ) × (l ≡ Event (event.Deliver message))
IsOf form.Noise l = (node : ℕ) × (l ≡ Event (event.Noise node))
IsOf form.Sent l = (envelope : Envelope) × (l ≡ Sent envelope)
IsOf form.Note l = (note : NodeNote) × (l ≡ Note note)
IsOf form.End l = (skipped : ℕ) × (l ≡ End skipped)

is_of : (l : Line) → IsOf (form_of l) l
is_of Trace = refl
is_of (Node id) = (id, refl)
is_of (Founder id) = (id, refl)
is_of (Event (event.Command node number command)) = (node, number, command, refl)
is_of (Event (event.Deliver message)) = (message, refl)
is_of (Event (event.Noise node)) = (node, refl)
is_of (Sent envelope) = (envelope, refl)
is_of (Note note) = (note, refl)
is_of (End skipped) = (skipped, refl)

pub has_form : (f : Form) (l : Line) → form_of l ≡ f → IsOf f l
has_form f l is = subst (λ (g : Form). IsOf g l) is (is_of l)

-- ---- a text tells its line

operands_told : (l m : Line) → form_of m ≡ form_of l → FitsLine l → FitsLine m → operands_of l ≡ operands_of m → l ≡ m
operands_told Trace m form_is fits fits_too same = sym (has_form form.Trace m form_is)
operands_told (Node id) m form_is fits fits_too same =
    let o = has_form form.Node m form_is in
    ap Node (id_told id o.0 fits (subst FitsLine o.1 fits_too) (same ∙ ap operands_of o.1)) ∙ sym o.1
operands_told (Founder id) m form_is fits fits_too same =
    let o = has_form form.Founder m form_is in
    ap Founder (id_told id o.0 fits (subst FitsLine o.1 fits_too) (same ∙ ap operands_of o.1)) ∙ sym o.1
operands_told (Event (event.Command node number command)) m form_is fits fits_too same =
    let o = has_form form.Command m form_is in
    let told = commands_told node number command o.0 o.1 o.2 fits (subst FitsLine o.3 fits_too) (same ∙ ap operands_of o.3) in
    ap (λ (x : ℕ). Event (event.Command x number command)) told.node
    ∙ ap (λ (n : ℕ). Event (event.Command o.0 n command)) told.number
    ∙ ap (λ (c : NodeCommand). Event (event.Command o.0 o.1 c)) told.command
    ∙ sym o.3
operands_told (Event (event.Deliver message)) m form_is fits fits_too same =
    let o = has_form form.Deliver m form_is in
    ap (λ (n : ℕ). Event (event.Deliver n)) (decimal_injective message o.0 fits (subst FitsLine o.1 fits_too) (same ∙ ap operands_of o.1)) ∙ sym o.1
operands_told (Event (event.Noise node)) m form_is fits fits_too same =
    let o = has_form form.Noise m form_is in
    ap (λ (x : ℕ). Event (event.Noise x)) (id_told node o.0 fits (subst FitsLine o.1 fits_too) (same ∙ ap operands_of o.1)) ∙ sym o.1
operands_told (Sent envelope) m form_is fits fits_too same =
    let o = has_form form.Sent m form_is in
    ap Sent (envelope_told envelope o.0 fits (subst FitsLine o.1 fits_too) (same ∙ ap operands_of o.1)) ∙ sym o.1
operands_told (Note note) m form_is fits fits_too same =
    let o = has_form form.Note m form_is in
    ap Note (note_told note o.0 fits (subst FitsLine o.1 fits_too) (same ∙ ap operands_of o.1)) ∙ sym o.1
operands_told (End skipped) m form_is fits fits_too same =
    let o = has_form form.End m form_is in
    ap End (decimal_injective skipped o.0 fits (subst FitsLine o.1 fits_too) (same ∙ ap operands_of o.1)) ∙ sym o.1

pub line_told : (text : List ℕ) (l m : Line) → IsLine text l → IsLine text m → l ≡ m
line_told text l m is is_too =
    let cut = cut_told 32 (word_of (form_of l)) (word_of (form_of m)) (operands_of l) (operands_of m) (word_lacks 32 (form_of l) (omega arith))
    (word_lacks 32 (form_of m) (omega arith)) (sym is.text_is ∙ is_too.text_is) in
    operands_told l m (sym (form_told (form_of l) (form_of m) cut.before)) is.fits is_too.fits cut.behind
