-- Why a line is refused whose operands are.
use Rattle.std.proofs.Common.{◌≡◌, ◌≢◌, ℕ, ◌^◌, ◌<◌, true, List, ◌∷◌, ◌++◌, refl, sym, ap, subst, ◌∙◌, arith}
use Rattle.std.specs.Prelude.{decimal}
use Rattle.std.specs.List.{flat_map, AllByRecursion}
use Rattle.ring_math.specs.Texts.{text_of}
use Rattle.wire_msg.specs.declared.command.Command.{Command as NodeCommand}
use Rattle.wire_msg.specs.declared.note.Note.{Note as NodeNote}
use Rattle.wire_msg.specs.Words.{Envelope}
use Rattle.wire_codec.specs.declared.fault.FrameFault.{FrameFault}
use Rattle.wire_codec.specs.declared.fault.FrameFault.TheVariants as frame
use Rattle.wire_codec.specs.Fields.{Fits, spelled}
use Rattle.wire_codec.specs.Notes.{SpellsCommand, SpellsNote, fields_of_command, fields_of_note}
use Rattle.wire_codec.specs.Spelling.{Spells, spelling}
use Rattle.trace_text.specs.declared.fault.Refusal.{Refusal}
use Rattle.trace_text.specs.declared.fault.Refusal.TheVariants as refusal
use Rattle.trace_text.specs.declared.form.Form.{Form}
use Rattle.trace_text.specs.declared.form.Form.TheVariants as form
use Rattle.trace_text.specs.Answers.{Fails, refusal_of}
use Rattle.trace_text.specs.Digits.{lacks, AreDigitsOf, IsIdText, IsNumberText, IsCommandText}
use Rattle.trace_text.specs.Lines.{Line, form_of, word_of, operands_of, FitsLine, IsLine, AreOperands, command_text}
use Rattle.trace_text.proofs.Bytes.{fields_bytes, frame_bytes}
use Rattle.trace_text.proofs.Cuts.{uncut, cut_told}
use Rattle.trace_text.proofs.Spelled.{bytes_told, has_form, id_lacks, number_lacks, word_lacks}

-- ---- what nothing is so of is refused, whatever else would follow

pub fails_too : {X Y : Type 0} (P : X → Type 0) (Q : Y → Type 0) (e : Refusal) → ((y : Y) → Q y → (x : X) × P x) → Fails P e → Fails Q e
fails_too P Q refusal.NotAllowed narrower fails = λ y is. let found = narrower y is in fails found.0 found.1
fails_too P Q refusal.OutOfMemory narrower fails = tt

pub none_read : {Y : Type 0} (Q : Y → Type 0) (f : FrameFault) → ((y : Y) → Q y → f ≡ frame.OutOfMemory) → Fails Q (refusal_of f)
none_read Q frame.OutOfMemory memory = tt
none_read Q (frame.Short need) memory = λ y is. let same = memory y is in cc
none_read Q (frame.Version found) memory = λ y is. let same = memory y is in cc
none_read Q (frame.Kind found) memory = λ y is. let same = memory y is in cc
none_read Q (frame.Length stated found) memory = λ y is. let same = memory y is in cc
none_read Q (frame.Range place) memory = λ y is. let same = memory y is in cc

-- ---- frames, notes and commands

pub record IsSentText (text : List ℕ) (l : Line) : Type 0 where
  pub envelope : Envelope
  pub digits : AreDigitsOf text (spelling envelope)
  pub spells : Spells (spelling envelope) envelope

pub sent_text : (text : List ℕ) (l : Line) → AreOperands form.Sent text l → IsSentText text l
sent_text text l ops =
    let o = has_form form.Sent l ops.form_is in
    let fits = subst FitsLine o.1 ops.fits in
    record {
      envelope = o.0;
      digits = record { text_is = ops.text_is ∙ ap operands_of o.1; are_bytes = frame_bytes o.0 fits };
      spells = record { bytes_are = refl; fits = fits };
    }

pub record IsNoteText (text : List ℕ) (l : Line) : Type 0 where
  pub note : NodeNote
  pub digits : AreDigitsOf text (flat_map spelled (fields_of_note note))
  pub spells : SpellsNote (flat_map spelled (fields_of_note note)) note

pub note_text_of : (text : List ℕ) (l : Line) → AreOperands form.Note text l → IsNoteText text l
note_text_of text l ops =
    let o = has_form form.Note l ops.form_is in
    let fits = subst FitsLine o.1 ops.fits in
    record {
      note = o.0;
      digits = record { text_is = ops.text_is ∙ ap operands_of o.1; are_bytes = fields_bytes (fields_of_note o.0) fits };
      spells = record { bytes_are = refl; fits = fits };
    }

-- digits tell their bytes
digits_told : (text a b : List ℕ) → AreDigitsOf text a → AreDigitsOf text b → a ≡ b
digits_told text a b one two = bytes_told a b one.are_bytes two.are_bytes (sym one.text_is ∙ two.text_is)

pub sent_digits : (text : List ℕ) (e : Refusal) → Fails (AreDigitsOf text) e → Fails (AreOperands form.Sent text) e
sent_digits text e fails = fails_too (AreDigitsOf text) (AreOperands form.Sent text) e (λ l ops.
    let is = sent_text text l ops in (spelling is.envelope, is.digits)) fails

pub note_digits : (text : List ℕ) (e : Refusal) → Fails (AreDigitsOf text) e → Fails (AreOperands form.Note text) e
note_digits text e fails = fails_too (AreDigitsOf text) (AreOperands form.Note text) e (λ l ops.
    let is = note_text_of text l ops in (flat_map spelled (fields_of_note is.note), is.digits)) fails

pub sent_unread : (text bytes : List ℕ) (f : FrameFault) → AreDigitsOf text bytes → ((e : Envelope) → Spells bytes e → f ≡ frame.OutOfMemory) →
    Fails (AreOperands form.Sent text) (refusal_of f)
sent_unread text bytes f digits spelled_so = none_read (AreOperands form.Sent text) f (λ l ops.
    let is = sent_text text l ops in
    let same : spelling is.envelope ≡ bytes = digits_told text (spelling is.envelope) bytes is.digits digits in
    spelled_so is.envelope (subst (λ (b : List ℕ). Spells b is.envelope) same is.spells))

pub note_unread : (text bytes : List ℕ) (f : FrameFault) → AreDigitsOf text bytes → ((n : NodeNote) → SpellsNote bytes n → f ≡ frame.OutOfMemory) →
    Fails (AreOperands form.Note text) (refusal_of f)
note_unread text bytes f digits spelled_so = none_read (AreOperands form.Note text) f (λ l ops.
    let is = note_text_of text l ops in
    let same : flat_map spelled (fields_of_note is.note) ≡ bytes = digits_told text (flat_map spelled (fields_of_note is.note)) bytes is.digits digits in
    spelled_so is.note (subst (λ (b : List ℕ). SpellsNote b is.note) same is.spells))

pub command_unread : (text bytes : List ℕ) (f : FrameFault) → AreDigitsOf text bytes → ((c : NodeCommand) → SpellsCommand bytes c → f ≡ frame.OutOfMemory) →
    Fails (IsCommandText text) (refusal_of f)
command_unread text bytes f digits spelled_so = none_read (IsCommandText text) f (λ c is.
    let here = flat_map spelled (fields_of_command c) in
    let same : here ≡ bytes = digits_told text here bytes (record { text_is = is.text_is; are_bytes = fields_bytes (fields_of_command c) is.fits }) digits in
    spelled_so c (subst (λ (b : List ℕ). SpellsCommand b c) same (record { bytes_are = refl; fits = is.fits })))

-- ---- the three operands of a command

-- the text has these words
pub record AreWords (text node number command : List ℕ) : Type 0 where
  pub text_is : text ≡ node ++ 32 ∷ (number ++ 32 ∷ command)
  pub node_lacks : lacks 32 node ≡ true
  pub command_lacks : lacks 32 number ≡ true

pub are_words : (text node rest number command : List ℕ) → text ≡ node ++ 32 ∷ rest → lacks 32 node ≡ true → rest ≡ number ++ 32 ∷ command →
    lacks 32 number ≡ true → AreWords text node number command
are_words text node rest number command is none is_too none_too =
    record { text_is = is ∙ ap (λ (t : List ℕ). node ++ 32 ∷ t) is_too; node_lacks = none; command_lacks = none_too }

-- what a line says of which these are the operands
pub record IsCommandLine (text : List ℕ) : Type 0 where
  pub x : ℕ
  pub n : ℕ
  pub c : NodeCommand
  pub text_is : text ≡ text_of x ++ 32 ∷ (decimal n ++ 32 ∷ command_text c)
  pub fits : (x < 2 ^ 128) × (n < 2 ^ 64) × AllByRecursion Fits (fields_of_command c)

pub command_line : (text : List ℕ) (l : Line) → AreOperands form.Command text l → IsCommandLine text
command_line text l ops =
    let o = has_form form.Command l ops.form_is in
    record { x = o.0; n = o.1; c = o.2; text_is = ops.text_is ∙ ap operands_of o.3; fits = subst FitsLine o.3 ops.fits }

-- these words are those of a node, a number and a command
pub record AreTold (x n : ℕ) (c : NodeCommand) (node number command : List ℕ) : Type 0 where
  pub node_is : IsIdText node x
  pub number_is : IsNumberText number n
  pub command_is : IsCommandText command c

words_told : (text node number command : List ℕ) (said : IsCommandLine text) → AreWords text node number command →
    AreTold said.x said.n said.c node number command
words_told text node number command said words =
    let first = cut_told 32 node (text_of said.x) (number ++ 32 ∷ command) (decimal said.n ++ 32 ∷ command_text said.c) words.node_lacks
    (id_lacks 32 said.x (omega arith)) (sym words.text_is ∙ said.text_is) in
    let second = cut_told 32 number (decimal said.n) command (command_text said.c) words.command_lacks
    (number_lacks 32 said.n (omega arith) said.fits.1) first.behind in
    record {
      node_is = record { text_is = first.before; fits = said.fits.0 };
      number_is = record { text_is = second.before; fits = said.fits.1 };
      command_is = record { text_is = second.behind; fits = said.fits.2 };
    }

pub no_second : (text node rest : List ℕ) (l : Line) → text ≡ node ++ 32 ∷ rest → lacks 32 node ≡ true → lacks 32 rest ≡ true →
    AreOperands form.Command text l → ⊥
no_second text node rest l is none none_too ops =
    let said = command_line text l ops in
    let first = cut_told 32 node (text_of said.x) rest (decimal said.n ++ 32 ∷ command_text said.c) none (id_lacks 32 said.x (omega arith))
    (sym is ∙ said.text_is) in
    uncut 32 rest (decimal said.n) (command_text said.c) none_too first.behind

pub node_fails : (text node number command : List ℕ) (e : Refusal) → AreWords text node number command → Fails (IsIdText node) e →
    Fails (AreOperands form.Command text) e
node_fails text node number command e words fails = fails_too (IsIdText node) (AreOperands form.Command text) e (λ l ops.
    let said = command_line text l ops in (said.x, (words_told text node number command said words).node_is)) fails

pub number_fails : (text node number command : List ℕ) (e : Refusal) → AreWords text node number command → Fails (IsNumberText number) e →
    Fails (AreOperands form.Command text) e
number_fails text node number command e words fails = fails_too (IsNumberText number) (AreOperands form.Command text) e (λ l ops.
    let said = command_line text l ops in (said.n, (words_told text node number command said words).number_is)) fails

pub command_fails : (text node number command : List ℕ) (e : Refusal) → AreWords text node number command → Fails (IsCommandText command) e →
    Fails (AreOperands form.Command text) e
command_fails text node number command e words fails = fails_too (IsCommandText command) (AreOperands form.Command text) e (λ l ops.
    let said = command_line text l ops in (said.c, (words_told text node number command said words).command_is)) fails

-- ---- a whole line

pub no_form : (text word operands : List ℕ) (l : Line) → text ≡ word ++ 32 ∷ operands → lacks 32 word ≡ true → ((f : Form) → word ≢ word_of f) →
    IsLine text l → ⊥
no_form text word operands l text_is none unknown is =
    let cut = cut_told 32 word (word_of (form_of l)) operands (operands_of l) none (word_lacks 32 (form_of l) (omega arith)) (sym text_is ∙ is.text_is) in
    unknown (form_of l) cut.before
