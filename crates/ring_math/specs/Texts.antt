-- Texts of identifiers: their hexadecimal digits.
use Rattle.std.specs.Prelude.{ℕ, ◌+◌, ◌*◌, ◌==◌, not, if◌then◌else◌, List, [], ◌∷◌, length, position, Option, Some, None, Result, Ok, Err, unwrap_or}
use Rattle.std.specs.Int.{w128, to_be_bytes}
use Rattle.hex.specs.Hex.{encode_lower, hex_digit_value, is_hex_digit}
use Rattle.hex.specs.declared.error.FromHexError.{FromHexError}
use Rattle.hex.specs.declared.error.FromHexError.TheVariants.{InvalidHexCharacter}
use Rattle.ring_math.specs.Names.{Id}
use Rattle.ring_math.specs.declared.limits.TheConstants.{DIGITS}
use Rattle.ring_math.specs.declared.text.IdFault.{IdFault}
use Rattle.ring_math.specs.declared.text.IdFault.TheVariants.{Length, Digit}

-- the text of an identifier, in lower case
abbrev pub text_of : Id → List ℕ
text_of id = encode_lower (to_be_bytes w128 id)

-- the number that digits in either case spell behind those of `before`
abbrev pub spelled_from : ℕ → List ℕ → ℕ
spelled_from before [] = before
spelled_from before (c ∷ cs) = spelled_from (16 * before + unwrap_or (hex_digit_value c) 0) cs

-- the place that hex's error names, where it is about a byte that is no digit
abbrev pub faulty_place : FromHexError → Option ℕ
faulty_place (InvalidHexCharacter c place) = Some place
faulty_place _ = None

-- the place of the first byte that is no digit
abbrev pub bad_place : List ℕ → Option ℕ
bad_place text = position (λ c. not (is_hex_digit c)) text

abbrev pub read_or_refused : List ℕ → Option ℕ → Result Id IdFault
read_or_refused text None = Ok (spelled_from 0 text)
read_or_refused text (Some place) = Err (Digit place)

-- the identifier that a text spells, or what is wrong with it
abbrev pub id_read : List ℕ → Result Id IdFault
id_read text = if length text == DIGITS then read_or_refused text (bad_place text) else Err (Length (length text))
