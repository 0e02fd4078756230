-- A decimal of three places, made from thousandths.
use Rattle.std.specs.Prelude.{ℕ, ◌/◌, ◌%◌, List, ◌++◌, codes, decimal}

abbrev pub thousandths_text : ℕ → List ℕ
thousandths_text t = decimal (t / 1000) ++ codes "." ++ decimal (t / 100 % 10) ++ decimal (t / 10 % 10) ++ decimal (t % 10)
