-- How names, numbers, bytes and identifiers are spelled.
use Rattle.std.specs.Prelude.{ℕ, ◌==◌, ◌&&◌, ◌||◌, not, nat_le, Bool, false, if◌then◌else◌, List, [], ◌∷◌, length, bytes_eq, codes, Option, Some, None, is_some}
use Rattle.std.specs.List.{list_all}
use Rattle.std.specs.Char.{is_ascii_alphanumeric, is_ascii_digit}
use Rattle.std.specs.Str.Parse.{digits_value}
use Rattle.std.specs.Result.{result_ok}
use Rattle.hex.specs.Hex.{decode_of, decode_sized}
use Rattle.scenario_reader.specs.declared.limits.TheConstants.{MOST_LETTERS}
use Rattle.ring_math.specs.Texts.{id_read}

-- a letter, a digit or an underscore
unfoldable pub is_name_byte : ℕ → Bool
is_name_byte byte = is_ascii_alphanumeric byte || byte == 95

-- one or more of them, within their limit
abbrev pub is_name : List ℕ → Bool
is_name text = nat_le 1 (length text) && nat_le (length text) MOST_LETTERS && list_all is_name_byte text

-- `0`, or decimal digits that do not begin with 0
abbrev pub is_decimal : List ℕ → Bool
is_decimal [] = false
is_decimal (digit ∷ []) = is_ascii_digit digit
is_decimal (digit ∷ next ∷ digits) = not (digit == 48) && list_all is_ascii_digit (digit ∷ next ∷ digits)

-- the number that a word spells, at most 2^64 - 1
abbrev pub number_of : List ℕ → Option ℕ
number_of text = if is_decimal text && nat_le (digits_value 10 text) 18446744073709551615 then Some (digits_value 10 text) else None

abbrev pub is_dash : List ℕ → Bool
is_dash text = bytes_eq text (codes "-")

-- the bytes that pairs of hexadecimal digits spell, and `-` for none
abbrev pub bytes_of : List ℕ → Option (List ℕ)
bytes_of text = if is_dash text then Some [] else result_ok (decode_of text)

-- the eight bytes that 16 hexadecimal digits spell
abbrev pub salt_of : List ℕ → Option (List ℕ)
salt_of text = result_ok (decode_sized text 8)

-- the identifier that 32 hexadecimal digits spell
abbrev pub identifier_of : List ℕ → Option ℕ
identifier_of text = result_ok (id_read text)

-- the name behind the @ of `@FILE`
abbrev pub behind_at : List ℕ → Option (List ℕ)
behind_at [] = None
behind_at (byte ∷ name) = if byte == 64 then Some name else None

-- a key: 32 hexadecimal digits or `@FILE`
abbrev pub is_key : List ℕ → Bool
is_key text = is_some (behind_at text) || is_some (identifier_of text)

-- an identifier of a node: `-` is one too
abbrev pub is_identifier : List ℕ → Bool
is_identifier text = is_dash text || is_key text
