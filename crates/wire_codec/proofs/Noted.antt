-- Bytes that are one layout alone, without a header: what decode_command and decode_note answer.
use Rattle.std.proofs.Common.{◌≡◌, ◌≢◌, ℕ, ◌+◌, List, [], ◌++◌, length, drop, eqb, true, Option, None, Result, Ok, Err, refl, sym, ap, subst}
use Rattle.std.proofs.Common.{◌∙◌, arith}
use Rattle.std.proofs.Common.{eq-eqb}
use Rattle.std.specs.Prelude.{IfOk, MatchResult}
use Rattle.std.specs.List.{flat_map}
use Rattle.std.proofs.lemmas.Bool.{eqb-true}
use Rattle.std.proofs.lemmas.List.{append-nil, nil_from_length, length-drop}
use Rattle.wire_codec.specs.declared.fault.FrameFault.{FrameFault}
use Rattle.wire_codec.specs.declared.fault.FrameFault.TheVariants as fault
use Rattle.wire_codec.specs.Fields.{Field, AreBytes, spelled}
use Rattle.wire_codec.specs.Sizes.{size_of_all}
use Rattle.wire_codec.specs.Layouts.{Layout}
use Rattle.wire_msg.specs.declared.command.Command.{Command}
use Rattle.wire_msg.specs.declared.note.Note.{Note}
use Rattle.wire_codec.specs.Notes.{SpellsFields, SpellsCommand, SpellsNote, refusal_of_walk, fields_of_command, fields_of_note, command_layout, note_layout}
use Rattle.wire_codec.specs.Reading.{◌>>=◌, Reading, walk, IsDue}
use Rattle.wire_codec.specs.Values.{Gives, values_at}
use Rattle.wire_codec.specs.Writing.{Writes}
use Rattle.wire_codec.proofs.Matching.{Matches}
use Rattle.wire_codec.proofs.Places.{At, bind_ok, ok_is, refused_if_not}
use Rattle.wire_codec.proofs.Sized.{length-fields}
use Rattle.wire_codec.proofs.Spans.{fields_at, ended, values_is, walk_is}
use Rattle.wire_codec.proofs.FieldsAgain.{fields_again}
use Rattle.wire_codec.proofs.NoteFields.{command_matches, command_told, note_matches, note_told}
use Rattle.wire_codec.proofs.FieldsTaken.{fields_taken}
use Rattle.wire_codec.proofs.Refusals.{RefusesBytes, walk_refuses, due}

-- ---- the two ways

-- the fields are read again
again : (l : Layout) (bytes : List ℕ) (fields : List Field) → Matches l fields → SpellsFields bytes fields →
    fields_at bytes l 0 ≡ Ok (fields, length bytes)
again l bytes fields matches spells =
    let text = flat_map spelled fields in
    let size : 0 + size_of_all fields ≡ length bytes = omega (arith, length-fields fields spells.fits, ap length spells.bytes_are) in
    let at : At bytes 0 (text ++ []) = record
    { left_is = spells.bytes_are ∙ sym (append-nil text); length_is = omega (arith, ap length spells.bytes_are, ap length (append-nil text)) } in
    fields_again bytes 0 l fields [] matches spells.fits at ∙ ap (λ (n : ℕ). Ok (fields, n)) size

walks_again : (l : Layout) (bytes : List ℕ) (fields : List Field) → Matches l fields → SpellsFields bytes fields → walk bytes l 0 ≡ Ok tt
walks_again l bytes fields matches spells =
    let fields_are = again l bytes fields matches spells in
    let whole : eqb (length bytes) (length bytes) ≡ true = eq-eqb _ _ refl in
    walk_is bytes l 0 ∙ rw (fields_are, whole) refl

values_again : (l : Layout) (bytes : List ℕ) (fields : List Field) → Matches l fields → SpellsFields bytes fields → values_at bytes l 0 ≡ Ok fields
values_again l bytes fields matches spells =
    let fields_are = again l bytes fields matches spells in
    values_is bytes l 0 ∙ rw fields_are refl

-- what passed the walk
record IsPassed (l : Layout) (bytes : List ℕ) : Type 0 where
  fields : List Field
  values : values_at bytes l 0 ≡ Ok fields
  spells : SpellsFields bytes fields

passed : (l : Layout) (bytes : List ℕ) → AreBytes bytes → walk bytes l 0 ≡ Ok tt → IsPassed l bytes
passed l bytes fits pass =
    let b = bind_ok (fields_at bytes l 0) (ended bytes) tt (sym (walk_is bytes l 0) ∙ pass) in
    let t = refused_if_not (eqb b.0.1 (length bytes)) (fault.Range b.0.1) tt tt b.2 in
    let read = b.1 in
    let found = fields_taken bytes 0 l b.0 fits (omega arith) read in
    let nothing : drop b.0.1 bytes ≡ [] = nil_from_length (drop b.0.1 bytes) (omega (arith, length-drop b.0.1 bytes, eqb-true _ _ t.0)) in
    record {
      fields = b.0.0;
      values = values_is bytes l 0 ∙ ap (λ (r : Reading (List Field × ℕ)). r >>= λ (o : List Field × ℕ). Ok o.0) read;
      spells = record {
        bytes_are = found.takes.parts ∙ ap (λ (r : List ℕ). flat_map spelled b.0.0 ++ r) nothing ∙ append-nil (flat_map spelled b.0.0);
        fits = found.fit;
      };
    }

-- ---- what is said of what was read

pub written_spells : {old bytes : List ℕ} {fields : List Field} → old ≡ [] → Writes old bytes fields → SpellsFields bytes fields
written_spells {old} {bytes} {fields} none written = record
    { bytes_are = written.bytes ∙ ap (λ (front : List ℕ). front ++ flat_map spelled fields) none; fits = written.fits }

pub given_read : {X : Type 0} (l : Layout) (fields_of : X → List Field) (bytes : List ℕ) (r : Result X FrameFault) → AreBytes bytes → walk bytes l 0 ≡ Ok tt
    → Gives fields_of r (values_at bytes l 0) → IfOk r (λ x. SpellsFields bytes (fields_of x))
given_read l fields_of bytes (Ok x) fits pass given =
    let read = passed l bytes fits pass in
    subst (SpellsFields bytes) (ok_is read.fields (fields_of x) (sym read.values ∙ given)) read.spells
given_read l fields_of bytes (Err f) fits pass given = tt

given_or_memory : (l : Layout) (bytes : List ℕ) (f : FrameFault) → AreBytes bytes → walk bytes l 0 ≡ Ok tt
    → (f ≢ fault.OutOfMemory → values_at bytes l 0 ≡ Err f) → f ≡ fault.OutOfMemory
given_or_memory l bytes fault.OutOfMemory fits pass given = refl
given_or_memory l bytes f fits pass given =
    let read = (passed l bytes fits pass).values in
    let refused = given (λ same. absurd cc) in
    absurd cc

pub given_spelled : {X : Type 0} (l : Layout) (fields_of : X → List Field) (told : (x y : X) → fields_of x ≡ fields_of y → x ≡ y)
    (matches : (x : X) → Matches l (fields_of x)) (bytes : List ℕ) (r : Result X FrameFault) → AreBytes bytes → walk bytes l 0 ≡ Ok tt
    → Gives fields_of r (values_at bytes l 0) → (y : X) → SpellsFields bytes (fields_of y) → MatchResult r (λ x. x ≡ y) (λ f. f ≡ fault.OutOfMemory)
given_spelled l fields_of told matches bytes (Ok x) fits pass given y spells =
    told x y (ok_is (fields_of x) (fields_of y) (sym given ∙ values_again l bytes (fields_of y) (matches y) spells))
given_spelled l fields_of told matches bytes (Err f) fits pass given y spells = given_or_memory l bytes f fits pass given

memory_due : (f : FrameFault) (o : Option FrameFault) → f ≡ fault.OutOfMemory → o ≡ None → IsDue f o
memory_due fault.OutOfMemory o is none = none
memory_due f o is none = absurd cc

pub given_refused : {X : Type 0} (l : Layout) (fields_of : X → List Field) (bytes : List ℕ) (r : Result X FrameFault) → AreBytes bytes → walk bytes l 0 ≡ Ok tt
    → Gives fields_of r (values_at bytes l 0)
    → MatchResult r (λ x. refusal_of_walk (walk bytes l 0) ≡ None) (λ f. IsDue f (refusal_of_walk (walk bytes l 0)))
given_refused l fields_of bytes (Ok x) fits pass given = ap refusal_of_walk pass
given_refused l fields_of bytes (Err f) fits pass given =
    memory_due f (refusal_of_walk (walk bytes l 0)) (given_or_memory l bytes f fits pass given) (ap refusal_of_walk pass)

-- ---- what the walk refuses

pub walk_spells_none : (l : Layout) (bytes : List ℕ) (f : FrameFault) (fields : List Field) → Matches l fields → walk bytes l 0 ≡ Err f →
    SpellsFields bytes fields → ⊥
walk_spells_none l bytes f fields matches refused spells =
    let read = walks_again l bytes fields matches spells in
    cc

pub walk_is_due : (l : Layout) (bytes : List ℕ) (f : FrameFault) → walk bytes l 0 ≡ Err f → IsDue f (refusal_of_walk (walk bytes l 0))
walk_is_due l bytes f refused =
    let of_bytes = subst (λ (r : Reading (Unit {0})). RefusesBytes r) refused (walk_refuses bytes l 0) in
    subst (λ (r : Reading (Unit {0})). IsDue f (refusal_of_walk r)) (sym refused) (due f of_bytes)

-- ---- bytes spell one thing

fields_told : (l : Layout) (bytes : List ℕ) (one two : List Field) → Matches l one → Matches l two → SpellsFields bytes one → SpellsFields bytes two → one ≡ two
fields_told l bytes one two matches matches_too spells spells_too =
    ok_is one two (sym (values_again l bytes one matches spells) ∙ values_again l bytes two matches_too spells_too)

pub one_command : (bytes : List ℕ) (c d : Command) → SpellsCommand bytes c → SpellsCommand bytes d → c ≡ d
one_command bytes c d spells spells_too =
    command_told c d (fields_told command_layout bytes (fields_of_command c) (fields_of_command d) (command_matches c) (command_matches d) spells spells_too)

pub one_note : (bytes : List ℕ) (n m : Note) → SpellsNote bytes n → SpellsNote bytes m → n ≡ m
one_note bytes n m spells spells_too =
    note_told n m (fields_told note_layout bytes (fields_of_note n) (fields_of_note m) (note_matches n) (note_matches m) spells spells_too)
