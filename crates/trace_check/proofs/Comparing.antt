-- Lists compared place by place, and envelopes part by part.
use Rattle.std.proofs.Common.{◌≡◌, ◌<◌, ◌+◌, ℕ, Bool, ◌&&◌, Some, List, length, map, take, slice_get, get_or, refl, sym, ap, ◌∙◌}
use Rattle.std.specs.Bool.{Decides}
use Rattle.std.specs.Option.{option_map}
use Rattle.std.proofs.lemmas.Bool.Decides.{Decides-and, Decides-like}
use Rattle.std.proofs.lemmas.List.{take_more_same}
use Rattle.std.proofs.lemmas.Option.{get_or_from_slice_get, slice_get-map, slice_get_read, slice_get_within}
use Rattle.wire_msg.specs.Words.{Envelope, Message}

-- what stands at a place, in a list that is mapped twice
pub get-mapped : {X Y Z : Type 0} (f : X → Y) (g : Y → Z) (xs : List X) (i : ℕ) (x : X) → i < length xs → x ≡ get_or xs i x →
    slice_get (map g (map f xs)) i ≡ Some (g (f x))
get-mapped f g xs i x within is =
    slice_get-map g (map f xs) i ∙ ap (option_map g) (slice_get-map f xs i ∙ ap (option_map f) (slice_get_read xs (length xs) i x refl within is))

-- one element more is the same
pub take-same : {Z : Type 0} (xs ys : List Z) (i : ℕ) (x y : Z) → slice_get xs i ≡ Some x → slice_get ys i ≡ Some y → x ≡ y → take i xs ≡ take i ys →
    take (i + 1) xs ≡ take (i + 1) ys
take-same xs ys i x y at there same front =
    take_more_same xs ys i x (slice_get_within xs i x at) (slice_get_within ys i y there) front
    (get_or_from_slice_get xs i x x at ∙ same ∙ sym (get_or_from_slice_get ys i y x there))

-- two elements at one place differ, and so do the lists
pub differ-at : {Z : Type 0} (xs ys : List Z) (i : ℕ) (x y : Z) → slice_get xs i ≡ Some x → slice_get ys i ≡ Some y → (¬ (x ≡ y)) → ¬ (xs ≡ ys)
differ-at xs ys i x y at there differ = λ e. let same : Some x ≡ Some y = sym at ∙ ap (λ zs. slice_get zs i) e ∙ there in differ (cc)

-- an envelope has three parts, but for its stamp
abbrev pub envelope : ℕ → ℕ → Message → Envelope
envelope x r m = record { sender = x; receiver = r; stamp = 0; message = m }

pub same_parts : (x y r q : ℕ) (m n : Message) (a b c : Bool) → Decides a (x ≡ y) → Decides b (r ≡ q) → Decides c (m ≡ n) →
    Decides (a && (b && c)) (envelope x r m ≡ envelope y q n)
same_parts x y r q m n a b c one two three = Decides-like (a && (b && c)) join parts (Decides-and a (b && c) one (Decides-and b c two three)) where
  join : (x ≡ y) × ((r ≡ q) × (m ≡ n)) → envelope x r m ≡ envelope y q n
  join p = ap (λ k. envelope k r m) p.0 ∙ ap (λ k. envelope y k m) p.1.0 ∙ ap (λ k. envelope y q k) p.1.1

  parts : envelope x r m ≡ envelope y q n → (x ≡ y) × ((r ≡ q) × (m ≡ n))
  parts e = (ap (λ (v : Envelope). v.sender) e, (ap (λ (v : Envelope). v.receiver) e, ap (λ (v : Envelope). v.message) e))
