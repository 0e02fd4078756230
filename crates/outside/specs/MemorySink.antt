-- A sink in memory: what each of its calls answers, and what it is afterwards.
use Rattle.std.specs.Prelude.{◌≡◌, ℕ, ◌||◌, ◌==◌, ◌-◌, ◌++◌, List, length, take, min, if◌then◌else◌}
use Rattle.outside.specs.Calls.{Calls, is_next_to_fail, after_call}
use Rattle.outside.specs.Sink.{is_failed}
use Rattle.outside.specs.declared.traits.Taken.{Taken}
use Rattle.outside.specs.declared.traits.Taken.TheVariants.{Took, Failed}

pub record SinkInMemory : Type 0 where
  pub taken : List ℕ
  -- how many more bytes it can take
  pub room : ℕ
  -- the most that one call takes
  pub per_call : ℕ
  pub calls : Calls

-- what a call that offers so many bytes answers
abbrev pub next_answer : SinkInMemory → ℕ → Taken
next_answer s offered =
    if (s.room == 0) || is_next_to_fail s.calls then Failed else Took (min offered (min s.per_call s.room))

abbrev pub size_of : Taken → ℕ
size_of (Took n) = n
size_of Failed = 0

-- the sink once a call that offered these bytes answered this
abbrev pub after_answer : SinkInMemory → List ℕ → Taken → SinkInMemory
after_answer s bytes answer = record {
  taken = s.taken ++ take (size_of answer) bytes;
  room = s.room - size_of answer;
  per_call = s.per_call;
  calls = after_call s.calls (is_failed answer);
}

-- one call that offers these bytes
abbrev pub Takes : SinkInMemory → List ℕ → Taken → SinkInMemory → Type 0
Takes s bytes answer after = (answer ≡ next_answer s (length bytes)) × (after ≡ after_answer s bytes answer)
