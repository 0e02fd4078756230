-- How the words of a line are read.
use Rattle.std.specs.Prelude.{◌≡◌, ℕ, ◌<◌, ◌^◌, ◌==◌, ◌&&◌, ◌||◌, not, nat_le, Bool, List, decimal}
use Rattle.std.specs.List.{list_all, AllByRecursion}
use Rattle.hex.specs.Hex.{encode_lower}
use Rattle.ring_math.specs.Texts.{text_of}
use Rattle.wire_msg.specs.declared.command.Command.{Command}
use Rattle.wire_codec.specs.Fields.{AreBytes, Fits}
use Rattle.wire_codec.specs.Notes.{fields_of_command}
use Rattle.trace_text.specs.Lines.{command_text}

-- a digit of hexadecimal, in lower case
abbrev pub is_lower_digit : ℕ → Bool
is_lower_digit byte = nat_le 48 byte && nat_le byte 57 || nat_le 97 byte && nat_le byte 102

-- no byte is this one
abbrev pub lacks : ℕ → List ℕ → Bool
lacks byte text = list_all (λ b. not (b == byte)) text

-- the digits of these bytes
pub record AreDigitsOf (text bytes : List ℕ) : Type 0 where
  pub text_is : text ≡ encode_lower bytes
  pub are_bytes : AreBytes bytes

-- the digits of this identifier
pub record IsIdText (text : List ℕ) (id : ℕ) : Type 0 where
  pub text_is : text ≡ text_of id
  pub fits : id < 2 ^ 128

-- the decimal digits of this number, of 64 bits
pub record IsNumberText (text : List ℕ) (n : ℕ) : Type 0 where
  pub text_is : text ≡ decimal n
  pub fits : n < 2 ^ 64

-- the digits of this command's bytes
pub record IsCommandText (text : List ℕ) (c : Command) : Type 0 where
  pub text_is : text ≡ command_text c
  pub fits : AllByRecursion Fits (fields_of_command c)
