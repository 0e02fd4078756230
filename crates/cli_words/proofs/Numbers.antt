-- A typed getter reads the number that the text spells.
use Rattle.std.proofs.Common.{◌≡◌, ◌<◌, ◌+◌, ◌^◌, ℕ, Bool, true, false, cond, List, Option, Some, None, refl, sym, ap, ◌∙◌, arith}
use Rattle.std.specs.Option.{option_map_or, unwrap_or}
use Rattle.std.specs.Str.Parse.{ParsesUnsigned, digits_value, without_leading_plus}
use Rattle.clap.specs.Matches.{ReadsOne}
use Rattle.clap.specs.Values.{IsUnsignedIn}
use Rattle.clap.specs.ValueTests.{is_unsigned_in}
use Rattle.clap.specs.declared.builder.value_parser.ValueParser.TheVariants as vp
use Rattle.clap.proofs.ValueTestLemmas.{accepts-Accepts, Accepts-accepts}
use Rattle.cli_words.specs.Command.{number_in}

number_when : (b : Bool) (most other : ℕ) (t : List ℕ) → is_unsigned_in 0 most t ≡ b →
    number_in most other t ≡ cond b (digits_value 10 (without_leading_plus t)) other
number_when b most other t e = ap (λ (v : Bool). cond v (digits_value 10 (without_leading_plus t)) other) e

-- where it parses
pub number_some : (E : Type 0) (k most other : ℕ) (t : List ℕ) (n : ℕ) → most + 1 ≡ 2 ^ k → most < 2 ^ 64 → ReadsOne {E = E} (ParsesUnsigned k 10) t (Some n) →
    n ≡ number_in most other t
number_some E k most other t n is wide reads =
    let in_range : IsUnsignedIn 0 most t = (reads.0.0, omega arith, omega arith, omega arith) in
    let passes : is_unsigned_in 0 most t ≡ true = Accepts-accepts false (vp.Unsigned 0 most) t in_range in
    reads.1 ∙ sym (number_when true most other t passes)

-- where it does not
pub number_none : (E : Type 0) (k most other : ℕ) (t : List ℕ) → most + 1 ≡ 2 ^ k → most < 2 ^ 64 → ReadsOne {E = E} (ParsesUnsigned k 10) t None →
    other ≡ number_in most other t
number_none E k most other t is wide reads = go (is_unsigned_in 0 most t) refl
  where
    go : (b : Bool) → is_unsigned_in 0 most t ≡ b → other ≡ number_in most other t
    go false e = sym (number_when false most other t e)
    go true e = let a : IsUnsignedIn 0 most t = accepts-Accepts false (vp.Unsigned 0 most) t e in absurd (reads.1 (a.0, omega arith))

-- what a typed getter answers, or another number
pub number_read : (E : Type 0) (k most other : ℕ) (o : Option (List ℕ)) (r : Option ℕ) → most + 1 ≡ 2 ^ k → most < 2 ^ 64 → (o ≡ None → r ≡ None)
    → ((t : List ℕ) → o ≡ Some t → ReadsOne {E = E} (ParsesUnsigned k 10) t r) → unwrap_or r other ≡ option_map_or (number_in most other) o other
number_read E k most other None r is wide none value = ap (λ (x : Option ℕ). unwrap_or x other) (none refl)
number_read E k most other (Some t) None is wide none value = number_none E k most other t is wide (value t refl)
number_read E k most other (Some t) (Some n) is wide none value = number_some E k most other t n is wide (value t refl)
