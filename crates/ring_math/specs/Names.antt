-- What a number or a list of bytes is, by name: definitions say with these what each argument means.
use Rattle.std.specs.Prelude.{ℕ, List}

-- an identifier of a node, 0 to 2 ^ 128 - 1
abbrev pub Id : Type 0
Id = ℕ

-- a place on the circle that a request is for; identifiers are keys
abbrev pub Key : Type 0
Key = ℕ

-- an identifier of a file, 20 bytes
abbrev pub FileId : Type 0
FileId = List ℕ

-- the bytes of a file
abbrev pub Content : Type 0
Content = List ℕ

-- which of its joins a joiner is at, from 1
abbrev pub Attempt : Type 0
Attempt = ℕ

-- the number of a command
abbrev pub Number : Type 0
Number = ℕ

-- how often a request was passed on
abbrev pub Hops : Type 0
Hops = ℕ

-- the place of an entry in a record, which its messages carry
abbrev pub Stamp : Type 0
Stamp = ℕ
