-- What stands from a place on: a part that stands there is read, and a part that was read stands there.
use Rattle.std.proofs.Common.{◌≡◌, ℕ, ◌+◌, ◌<◌, ◌≤◌, Bool, true, false, cond, ltb, List, ◌++◌, length, take, drop, Ok, Err, refl, sym, ap, subst, ◌∙◌}
use Rattle.std.proofs.Common.{append_assoc, arith}
use Rattle.std.specs.Prelude.{nat_le, ◌&&◌}
use Rattle.std.specs.Int.{Width, byte_len, from_be_bytes, to_be_bytes}
use Rattle.std.proofs.lemmas.Bool.{ltb-false, le-ltb, le-leb, leb-true}
use Rattle.std.proofs.lemmas.List.{take_at, drop_at, drop-drop, take-append-drop, length-append, length-take, length-drop}
use Rattle.wire_codec.specs.declared.fault.FrameFault.{FrameFault}
use Rattle.wire_codec.specs.declared.fault.FrameFault.TheVariants as fault
use Rattle.wire_codec.specs.Fields.{AreBytes}
use Rattle.wire_codec.specs.Reading.{◌>>=◌, Reading, part_at, number_at, number_within}
use Rattle.wire_codec.proofs.Numbers.{IsWide, AreBytes-take, AreBytes-drop}

-- ---- steps of reading

-- the value of a step that was not refused
pub bind_ok : {A B : Type 0} (r : Reading A) (f : A → Reading B) (y : B) → (r >>= f) ≡ Ok y → (x : A) × (r ≡ Ok x) × (f x ≡ Ok y)
bind_ok (Ok x) f y e = (x, refl, e)
bind_ok (Err d) f y e = absurd cc

abbrev done : {A : Type 0} → A → Reading A
done x = Ok x

pub ok_is : {A : Type 0} (x y : A) → done x ≡ done y → x ≡ y
ok_is x y e = cc

-- a test that refuses where it is met
pub refused_unless : {A : Type 0} (b : Bool) (d : FrameFault) (x y : A) → cond b (Err d) (done x) ≡ Ok y → (b ≡ false) × (x ≡ y)
refused_unless true d x y e = absurd cc
refused_unless false d x y e = (refl, cc)

-- a test that refuses where it is not met
pub refused_if_not : {A : Type 0} (b : Bool) (d : FrameFault) (x y : A) → cond b (done x) (Err d) ≡ Ok y → (b ≡ true) × (x ≡ y)
refused_if_not true d x y e = (refl, cc)
refused_if_not false d x y e = absurd cc

both_true : (a b : Bool) → (a && b) ≡ true → (a ≡ true) × (b ≡ true)
both_true true b e = (refl, e)
both_true false b e = absurd cc

is_in_range : (lowest n highest : ℕ) → lowest ≤ n → n ≤ highest → (nat_le lowest n && nat_le n highest) ≡ true
is_in_range lowest n highest low high =
    let low_test = le-leb lowest n low in
    let high_test = le-leb n highest high in
    rw (low_test, high_test) refl

pub in_range : (lowest n highest : ℕ) → (nat_le lowest n && nat_le n highest) ≡ true → (lowest ≤ n) × (n ≤ highest)
in_range lowest n highest e =
    let tests = both_true (nat_le lowest n) (nat_le n highest) e in
    (leb-true lowest n tests.0, leb-true n highest tests.1)

-- ---- what stands at a place is read

-- the bytes from the place on
pub record At (bytes : List ℕ) (place : ℕ) (left : List ℕ) : Type 0 where
  pub left_is : drop place bytes ≡ left
  pub length_is : place + length left ≡ length bytes

pub At-then : (bytes : List ℕ) (place n : ℕ) (text rest : List ℕ) → length text ≡ n → At bytes place (text ++ rest) → At bytes (place + n) rest
At-then bytes place n text rest len at = record {
  left_is = sym (drop-drop n place bytes) ∙ ap (drop n) at.left_is ∙ drop_at text rest n len;
  length_is = omega (arith, at.length_is, length-append text rest, len);
}

pub part_again : (bytes : List ℕ) (place n : ℕ) (text rest : List ℕ) → length text ≡ n → At bytes place (text ++ rest) → part_at bytes place n ≡ Ok text
part_again bytes place n text rest len at =
    let enough : ltb (length bytes) (place + n) ≡ false = le-ltb _ _ (omega (arith, at.length_is, length-append text rest, len)) in
    let left_is = at.left_is in
    let front = take_at text rest n len in
    rw (enough, left_is, front) refl

pub number_again : (w : Width) (limit : ℕ) (wide : IsWide w limit) (bytes : List ℕ) (place n : ℕ) (rest : List ℕ) → n < limit
    → At bytes place (to_be_bytes w n ++ rest) → number_at bytes w place ≡ Ok n
number_again w limit wide bytes place n rest fits at =
    let part = part_again bytes place (byte_len w) (to_be_bytes w n) rest (wide.len n) at in
    let again = wide.again n fits in
    rw (part, again) refl

pub within_again : (w : Width) (limit : ℕ) (wide : IsWide w limit) (bytes : List ℕ) (lowest highest place n : ℕ) (rest : List ℕ) → n < limit
    → lowest ≤ n → n ≤ highest → At bytes place (to_be_bytes w n ++ rest) → number_within bytes w lowest highest place ≡ Ok n
within_again w limit wide bytes lowest highest place n rest fits low high at =
    let number = number_again w limit wide bytes place n rest fits at in
    let test : (nat_le lowest n && nat_le n highest) ≡ true = is_in_range lowest n highest low high in
    rw (number, test) refl

-- ---- what was read stands at the place

pub record Takes (bytes : List ℕ) (place : ℕ) (text : List ℕ) (next : ℕ) : Type 0 where
  pub parts : drop place bytes ≡ text ++ drop next bytes
  pub within : next ≤ length bytes

pub Takes-then : {bytes x y : List ℕ} {a b c : ℕ} → Takes bytes a x b → Takes bytes b y c → Takes bytes a (x ++ y) c
Takes-then {bytes} {x} {y} {a} {b} {c} p q = record {
  parts = p.parts ∙ ap (λ (t : List ℕ). x ++ t) q.parts ∙ sym (append_assoc x y (drop c bytes));
  within = q.within;
}

pub record IsPart (bytes : List ℕ) (place n : ℕ) (part : List ℕ) : Type 0 where
  pub takes : Takes bytes place part (place + n)
  pub len : length part ≡ n
  pub are_bytes : AreBytes part

pub part_takes : (bytes : List ℕ) (place n : ℕ) (part : List ℕ) → AreBytes bytes → part_at bytes place n ≡ Ok part → IsPart bytes place n part
part_takes bytes place n part fits e =
    let test = refused_unless (ltb (length bytes) (place + n)) (fault.Short (place + n)) (take n (drop place bytes)) part e in
    let enough : place + n ≤ length bytes = ltb-false _ _ test.0 in
    let rest : drop (place + n) bytes ≡ drop n (drop place bytes) = sym (drop-drop n place bytes) in
    subst (IsPart bytes place n) test.1 (record {
      takes = record { parts = sym (ap (λ (t : List ℕ). take n (drop place bytes) ++ t) rest ∙ take-append-drop n (drop place bytes)); within = enough };
      len = omega (arith, length-take n (drop place bytes), length-drop place bytes);
      are_bytes = AreBytes-take n (drop place bytes) (AreBytes-drop place bytes fits);
    })

pub number_takes : (w : Width) (limit : ℕ) (wide : IsWide w limit) (bytes : List ℕ) (place n : ℕ) → AreBytes bytes → number_at bytes w place ≡ Ok n
    → Takes bytes place (to_be_bytes w n) (place + byte_len w) × (n < limit)
number_takes w limit wide bytes place n fits e =
    let b = bind_ok (part_at bytes place (byte_len w)) (λ part. done (from_be_bytes w part)) n e in
    let part = part_takes bytes place (byte_len w) b.0 fits b.1 in
    let n_is : from_be_bytes w b.0 ≡ n = ok_is (from_be_bytes w b.0) n b.2 in
    let spelled : b.0 ≡ to_be_bytes w n = sym (wide.back b.0 part.len part.are_bytes) ∙ ap (to_be_bytes w) n_is in
    (subst (λ (t : List ℕ). Takes bytes place t (place + byte_len w)) spelled part.takes, subst (λ (k : ℕ). k < limit) n_is (wide.below b.0 part.are_bytes))

pub within_takes : (w : Width) (limit : ℕ) (wide : IsWide w limit) (bytes : List ℕ) (lowest highest place n : ℕ) → AreBytes bytes
    → number_within bytes w lowest highest place ≡ Ok n → Takes bytes place (to_be_bytes w n) (place + byte_len w) × (n < limit) × (lowest ≤ n) × (n ≤ highest)
within_takes w limit wide bytes lowest highest place n fits e =
    let b = bind_ok (number_at bytes w place) (λ k. cond (nat_le lowest k && nat_le k highest) (done k) (Err (fault.Range place))) n e in
    let test = refused_if_not (nat_le lowest b.0 && nat_le b.0 highest) (fault.Range place) b.0 n b.2 in
    let taken = number_takes w limit wide bytes place b.0 fits b.1 in
    let range : (lowest ≤ b.0) × (b.0 ≤ highest) = in_range lowest b.0 highest test.0 in
    subst (λ (k : ℕ). Takes bytes place (to_be_bytes w k) (place + byte_len w) × (k < limit) × (lowest ≤ k) × (k ≤ highest)) test.1
    (taken.0, taken.1, range.0, range.1)
