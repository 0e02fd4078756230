-- Misses are counted entry by entry.
use Rattle.std.proofs.Common.{◌≡◌, ◌≤◌, ℕ, ◌+◌, Bool, true, false, cond, if◌then◌else◌, is_some, option_map, Option, Some, None, List, [], ◌∷◌, count_by}
use Rattle.std.proofs.Common.{slice_get, take, refl, ap, ◌∙◌, arith}
use Rattle.std.proofs.lemmas.List.{length-take}
use Rattle.std.proofs.lemmas.List.Sums.{count_by-le-length, sum_by-append, sum_by-cons}
use Rattle.overlay_rules.specs.declared.entry.Entry.{Entry}
use Rattle.overlay_rules.proofs.Prefixes.{take-got}
use Rattle.std.specs.Borrow.{Bor}
use Rattle.overlay_rules.specs.declared.entry.Event.TheVariants as event
use Rattle.overlay_rules.specs.declared.entry.EventRef.{EventRef}
use Rattle.overlay_rules.specs.declared.entry.EventRef.TheVariants as seen
use Rattle.overlay_rules.specs.Seen.{event_seen}
use Rattle.ring_math.specs.Names.{Id, Number, FileId}
use Rattle.wire_msg.specs.declared.command.Command.{Command}
use Rattle.fetch_cache.specs.declared.fetch.Fetch.{Fetch}
use Rattle.fetch_cache.specs.Text.{is_miss}
use Rattle.fetch_cache.specs.Turns.{fetch_of, fetched}

pub misses_next : (es : List Entry) (i : ℕ) (e : Entry) (b : Bool) → slice_get es i ≡ Some e → b ≡ is_miss e →
    count_by is_miss (take (i + 1) es) ≡ count_by is_miss (take i es) + cond b 1 0
misses_next es i e b at is =
    let sums : count_by is_miss (take (i + 1) es) ≡ count_by is_miss (take i es) + (cond {A = ℕ} (is_miss e) 1 0 + 0) =
    ap (count_by is_miss) (take-got es i e at) ∙ sum_by-append (λ (d : Entry). cond (is_miss d) 1 0) (take i es) (e ∷ []) ∙
    ap (λ n. count_by is_miss (take i es) + n) (sum_by-cons (λ (d : Entry). cond (is_miss d) 1 0) e []) in
    let same : cond {A = ℕ} b 1 0 ≡ cond {A = ℕ} (is_miss e) 1 0 = ap (λ t. cond {A = ℕ} t 1 0) is in
    omega arith

pub misses_few : (es : List Entry) (i : ℕ) → count_by is_miss (take i es) ≤ i
misses_few es i = let few = count_by-le-length is_miss (take i es) in let cut = length-take i es in omega arith

pub one_at_most : (b : Bool) → (if b then 1 else 0) ≤ 1
one_at_most true = omega arith
one_at_most false = omega arith

-- a command is a miss if it fetches
pub is_fetch : (x : Id) (n : Number) (c : Command) → is_some (fetched c) ≡ is_some (fetch_of (event.Command x n c))
is_fetch x n c = by (fetched c)
  where
    by : (o : Option FileId) → is_some o ≡ is_some {T = Fetch} (option_map (λ file. record { node = x; number = n; file = file }) o)
    by None = refl
    by (Some file) = refl

-- and no other event is one
pub no_fetch : (v : EventRef) → ((x n : ℕ) (c : Bor Command) → v ≡ seen.Command x n c → ⊥) → false ≡ is_some (fetch_of (event_seen v))
no_fetch (seen.Command x n c) other = absurd (other x n c refl)
no_fetch (seen.Deliver m) other = refl
no_fetch (seen.Noise x) other = refl
