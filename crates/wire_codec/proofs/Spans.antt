-- Fields with the place behind the last, from which both the walk and the values of a frame come.
use Rattle.std.proofs.Common.{◌≡◌, ℕ, ◌+◌, Bool, true, false, cond, eqb, List, [], ◌∷◌, length, Ok, Err, refl, sym, ap, ◌∙◌}
use Rattle.std.specs.Int.{w8}
use Rattle.wire_codec.specs.declared.fault.FrameFault.{FrameFault}
use Rattle.wire_codec.specs.declared.fault.FrameFault.TheVariants as fault
use Rattle.wire_codec.specs.declared.kind.Kind.{Kind}
use Rattle.wire_codec.specs.Fields.{Field}
use Rattle.wire_codec.specs.Layouts.{Form, Layout, end, ◌▸◌, tagged, layout}
use Rattle.wire_codec.specs.Spelling.{Contents}
use Rattle.wire_codec.specs.Reading.{◌>>=◌, Reading, number_within, field_at, walk, header_of, framing}
use Rattle.wire_codec.specs.Values.{values_at}

-- the fields from the place on, and the place behind the last
abbrev pub fields_at : List ℕ → Layout → ℕ → Reading (List Field × ℕ)
fields_at bytes end place = Ok ([], place)
fields_at bytes (form ▸ more) place = do
  field ← field_at bytes form place
  others ← fields_at bytes more field.1
  Ok (field.0 ∷ others.0, others.1)
fields_at bytes (tagged lowest highest behind) place = do
  tag ← number_within bytes w8 lowest highest place
  others ← fields_at bytes (behind tag) (place + 1)
  Ok (Field.Tag tag ∷ others.0, others.1)

-- what a frame says, with no byte behind its fields
abbrev pub reading : List ℕ → Reading Contents
reading bytes = do
  k ← header_of bytes
  found ← fields_at bytes (Form.Id ▸ Form.Id ▸ Form.Number ▸ layout k) 6
  cond (eqb found.1 (length bytes)) (Ok (record { kind = k; fields = found.0 })) (Err (fault.Range found.1))

abbrev values_of : List Field × ℕ → Reading (List Field)
values_of found = Ok found.0

abbrev pub ended : List ℕ → List Field × ℕ → Reading (Unit {0})
ended bytes found = cond (eqb found.1 (length bytes)) (Ok tt) (Err (fault.Range found.1))

-- ---- steps

same_then : {A B : Type 0} (r : Reading A) (f g : A → Reading B) → ((x : A) → f x ≡ g x) → (r >>= f) ≡ (r >>= g)
same_then (Ok x) f g same = same x
same_then (Err e) f g same = refl

then_then : {A B C : Type 0} (r : Reading A) (f : A → Reading B) (g : B → Reading C) → ((r >>= f) >>= g) ≡ (r >>= λ x. f x >>= g)
then_then (Ok x) f g = refl
then_then (Err e) f g = refl

put_values : (field : Field) (r : Reading (List Field × ℕ)) (v : Reading (List Field)) → v ≡ (r >>= values_of)
    → (v >>= λ others. Ok (field ∷ others)) ≡ ((r >>= λ others. Ok (field ∷ others.0, others.1)) >>= values_of)
put_values field (Ok found) v is = ap (λ (x : Reading (List Field)). x >>= λ others. Ok (field ∷ others)) is
put_values field (Err e) v is = ap (λ (x : Reading (List Field)). x >>= λ others. Ok (field ∷ others)) is

put_ended : (bytes : List ℕ) (field : Field) (r : Reading (List Field × ℕ)) (w : Reading (Unit {0})) → w ≡ (r >>= ended bytes)
    → w ≡ ((r >>= λ others. Ok (field ∷ others.0, others.1)) >>= ended bytes)
put_ended bytes field (Ok found) w is = is
put_ended bytes field (Err e) w is = is

pub values_is : (bytes : List ℕ) (l : Layout) (place : ℕ) → values_at bytes l place ≡ (fields_at bytes l place >>= values_of)
values_is bytes end place = refl
values_is bytes (form ▸ more) place =
    same_then (field_at bytes form place) (λ field. values_at bytes more field.1 >>= λ others. Ok (field.0 ∷ others))
    (λ field. (fields_at bytes more field.1 >>= λ others. Ok (field.0 ∷ others.0, others.1)) >>= values_of)
    (λ field. put_values field.0 (fields_at bytes more field.1) (values_at bytes more field.1) (values_is bytes more field.1))
    ∙ sym (then_then (field_at bytes form place) (λ field. fields_at bytes more field.1 >>= λ others. Ok (field.0 ∷ others.0, others.1)) values_of)
values_is bytes (tagged lowest highest behind) place =
    same_then (number_within bytes w8 lowest highest place) (λ tag. values_at bytes (behind tag) (place + 1) >>= λ others. Ok (Field.Tag tag ∷ others))
    (λ tag. (fields_at bytes (behind tag) (place + 1) >>= λ others. Ok (Field.Tag tag ∷ others.0, others.1)) >>= values_of)
    (λ tag. put_values (Field.Tag tag) (fields_at bytes (behind tag) (place + 1)) (values_at bytes (behind tag) (place + 1))
    (values_is bytes (behind tag) (place + 1)))
    ∙ sym (then_then (number_within bytes w8 lowest highest place)
    (λ tag. fields_at bytes (behind tag) (place + 1) >>= λ others. Ok (Field.Tag tag ∷ others.0, others.1)) values_of)

pub walk_is : (bytes : List ℕ) (l : Layout) (place : ℕ) → walk bytes l place ≡ (fields_at bytes l place >>= ended bytes)
walk_is bytes end place = refl
walk_is bytes (form ▸ more) place =
    same_then (field_at bytes form place) (λ field. walk bytes more field.1)
    (λ field. (fields_at bytes more field.1 >>= λ others. Ok (field.0 ∷ others.0, others.1)) >>= ended bytes)
    (λ field. put_ended bytes field.0 (fields_at bytes more field.1) (walk bytes more field.1) (walk_is bytes more field.1))
    ∙ sym (then_then (field_at bytes form place) (λ field. fields_at bytes more field.1 >>= λ others. Ok (field.0 ∷ others.0, others.1)) (ended bytes))
walk_is bytes (tagged lowest highest behind) place =
    same_then (number_within bytes w8 lowest highest place) (λ tag. walk bytes (behind tag) (place + 1))
    (λ tag. (fields_at bytes (behind tag) (place + 1) >>= λ others. Ok (Field.Tag tag ∷ others.0, others.1)) >>= ended bytes)
    (λ tag. put_ended bytes (Field.Tag tag) (fields_at bytes (behind tag) (place + 1)) (walk bytes (behind tag) (place + 1))
    (walk_is bytes (behind tag) (place + 1)))
    ∙ sym (then_then (number_within bytes w8 lowest highest place)
    (λ tag. fields_at bytes (behind tag) (place + 1) >>= λ others. Ok (Field.Tag tag ∷ others.0, others.1)) (ended bytes))

-- ---- a whole frame

abbrev pub whole_layout : Kind → Layout
whole_layout k = Form.Id ▸ Form.Id ▸ Form.Number ▸ layout k

abbrev pub says : List ℕ → Kind → List Field × ℕ → Reading Contents
says bytes k found = cond (eqb found.1 (length bytes)) (Ok (record { kind = k; fields = found.0 })) (Err (fault.Range found.1))

test_kept : (b : Bool) (k : Kind) (fields : List Field) (e : FrameFault)
    → ((cond b (Ok tt) (Err e)) >>= λ (u : Unit {0}). Ok k) ≡ ((cond b (Ok (record { kind = k; fields = fields })) (Err e)) >>= λ (c : Contents). Ok c.kind)
test_kept true k fields e = refl
test_kept false k fields e = refl

ended_kept : (bytes : List ℕ) (k : Kind) (r : Reading (List Field × ℕ)) →
    ((r >>= ended bytes) >>= λ (u : Unit {0}). Ok k) ≡ ((r >>= says bytes k) >>= λ (c : Contents). Ok c.kind)
ended_kept bytes k (Ok found) = test_kept (eqb found.1 (length bytes)) k found.0 (fault.Range found.1)
ended_kept bytes k (Err e) = refl

-- the kind that the walk finds is that of what the frame says
pub framing_is : (bytes : List ℕ) → framing bytes ≡ (reading bytes >>= λ c. Ok c.kind)
framing_is bytes =
    same_then (header_of bytes) (λ k. walk bytes (whole_layout k) 6 >>= λ (u : Unit {0}). Ok k)
    (λ k. (fields_at bytes (whole_layout k) 6 >>= says bytes k) >>= λ (c : Contents). Ok c.kind)
    (λ k. ap (λ (w : Reading (Unit {0})). w >>= λ (u : Unit {0}). Ok k) (walk_is bytes (whole_layout k) 6)
    ∙ ended_kept bytes k (fields_at bytes (whole_layout k) 6))
    ∙ sym (then_then (header_of bytes) (λ k. fields_at bytes (whole_layout k) 6 >>= says bytes k) (λ (c : Contents). Ok c.kind))
