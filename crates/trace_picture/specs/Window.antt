-- Which entries a picture shows: as many as are asked for from one on, and of a record that is wrong none behind the entry that is.
use Rattle.std.specs.Prelude.{ℕ, ◌+◌, ◌-◌, min, Option, Some, None}
use Rattle.course_picture.specs.declared.course.Part.{Part}
use Rattle.trace_check.specs.declared.verdict.Verdict.{Verdict}
use Rattle.trace_check.specs.declared.verdict.Verdict.TheVariants as verdict

-- how many entries of `len` count, and how many of them are right
abbrev pub counted : Verdict → ℕ → ℕ
counted (verdict.Legal ready) len = len
counted (verdict.Wrong entry part) len = min entry len

abbrev pub right : Verdict → ℕ → ℕ
right (verdict.Legal ready) len = len
right (verdict.Wrong entry part) len = min (entry - 1) len

-- the place of the one that is wrong
abbrev pub wrong_place : Verdict → Option ℕ
wrong_place (verdict.Legal ready) = None
wrong_place (verdict.Wrong entry part) = Some (entry - 1)

-- so many entries behind the first `from`
abbrev pub window : Verdict → ℕ → ℕ → ℕ → Part
window v len from entries =
    record {
      drawn = counted v len;
      first = min from (counted v len);
      stop = min (from + entries) (counted v len);
      wrong = wrong_place v;
    }

-- after how many entries the ring is shown: after the last that is drawn, or the last that is right
abbrev pub after : Verdict → ℕ → ℕ → ℕ → ℕ
after v len from entries = min (window v len from entries).stop (right v len)
