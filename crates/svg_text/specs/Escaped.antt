-- Words as they stand in a picture: letters that open a piece of SVG are spelled, and what is no printable letter is a question mark.
use Rattle.std.specs.Prelude.{ℕ, nat_le, Bool, not, ◌==◌, ◌&&◌, ◌||◌, if◌then◌else◌, List, [], ◌∷◌, flat_map, codes}

-- the printable letters of ASCII, the space among them
abbrev pub is_printable : ℕ → Bool
is_printable c = nat_le 32 c && nat_le c 126

-- & < > and the double quote
abbrev pub escape : ℕ → List ℕ
escape c =
    if c == 38 then codes "&amp;"
    else (if c == 60 then codes "&lt;"
    else (if c == 62 then codes "&gt;"
    else (if c == 34 then codes "&quot;"
    else (if is_printable c then c ∷ [] else codes "?"))))

abbrev pub escaped : List ℕ → List ℕ
escaped words = flat_map escape words

-- printable, and none of < > and the double quote, which begin or end a piece
abbrev pub is_plain : ℕ → Bool
is_plain c = is_printable c && not (c == 60 || (c == 62 || c == 34))
