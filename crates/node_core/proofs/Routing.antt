-- The rows of requests that are routed, by where their key leads: each is served alike.
use Rattle.std.proofs.Common.{◌≡◌, ℕ, List, [], ◌∷◌, subst, ap, ◌∙◌}
use Rattle.ring_math.specs.Keys.{key_of}
use Rattle.ring_math.specs.Files.{slot_of}
use Rattle.wire_msg.specs.declared.note.Note.TheVariants as note
use Rattle.wire_msg.specs.declared.reply.Reply.TheVariants as reply
use Rattle.wire_msg.specs.Words.{Message, Lookup, Insert, Fetch, Reclaim}
use Rattle.overlay_rules.specs.declared.request.Asked.{Asked}
use Rattle.overlay_rules.specs.declared.request.Asked.TheVariants as asked
use Rattle.overlay_rules.specs.declared.request.Way.{Way}
use Rattle.overlay_rules.specs.State.{State}
use Rattle.overlay_rules.specs.Outcome.{Outcome, before, replied}
use Rattle.overlay_rules.specs.Routed.{one_more, way_of, served, on_lookup}
use Rattle.overlay_rules.specs.Roots.{on_insert, inserted, on_fetch, fetched, on_reclaim, reclaimed}

-- whatever the request would be answered or passed on as, it is refused
abbrev pub Refuses : (Outcome → Type 0) → State → Asked → ℕ → ℕ → ℕ → Type 0
Refuses P s what o n key = (next : Message) (here : Outcome) → P (served s what o n (way_of s key) next here)

-- the key leads this way, and so P holds of what is served
led : (P : Outcome → Type 0) (s : State) (what : Asked) (o n key k : ℕ) (w : Way) (next : Message) (here : Outcome) →
    w ≡ way_of s key → key ≡ k → P (served s what o n w next here) → P (served s what o n (way_of s k) next here)
led P s what o n key k w next here e f x = subst (λ (v : Way). P (served s what o n v next here)) (e ∙ ap (way_of s) f) x

refused : (P : Outcome → Type 0) (s : State) (what : Asked) (o n key k : ℕ) (next : Message) (here : Outcome) →
    key ≡ k → Refuses P s what o n key → P (served s what o n (way_of s k) next here)
refused P s what o n key k next here f x = subst (λ (z : ℕ). P (served s what o n (way_of s z) next here)) f (x next here)

abbrev delivered : State → ℕ → ℕ → ℕ → ℕ → Outcome
delivered s o n key hops = before [] (note.Delivered o n key hops ∷ []) (replied s asked.Lookup o n (reply.Delivered s.me hops))

pub lookup-at : (P : Outcome → Type 0) (s : State) (o n key hops : ℕ) (w : Way) → w ≡ way_of s key →
    P (served s asked.Lookup o n w (Lookup o n key (one_more hops)) (delivered s o n key hops)) → P (on_lookup s o n key hops)
lookup-at P s o n key hops w e x = subst (λ (v : Way). P (served s asked.Lookup o n v (Lookup o n key (one_more hops)) (delivered s o n key hops))) e x

pub lookup-refused : (P : Outcome → Type 0) (s : State) (o n key hops : ℕ) → Refuses P s asked.Lookup o n key → P (on_lookup s o n key hops)
lookup-refused P s o n key hops x = x (Lookup o n key (one_more hops)) (delivered s o n key hops)

abbrev answered : State → ℕ → ℕ → List ℕ → Outcome
answered s o n f = replied s asked.Fetch o n (fetched s (slot_of s.files f))

pub fetch-at : (P : Outcome → Type 0) (s : State) (o n hops : ℕ) (f : List ℕ) (key : ℕ) (w : Way) → key ≡ key_of f → w ≡ way_of s key →
    P (served s asked.Fetch o n w (Fetch o n (one_more hops) f) (answered s o n f)) → P (on_fetch s o n hops f)
fetch-at P s o n hops f key w k e x = led P s asked.Fetch o n key (key_of f) w (Fetch o n (one_more hops) f) (answered s o n f) e k x

pub fetch-refused : (P : Outcome → Type 0) (s : State) (o n hops : ℕ) (f : List ℕ) (key : ℕ) → key ≡ key_of f → Refuses P s asked.Fetch o n key →
    P (on_fetch s o n hops f)
fetch-refused P s o n hops f key k x = refused P s asked.Fetch o n key (key_of f) (Fetch o n (one_more hops) f) (answered s o n f) k x

pub insert-at : (P : Outcome → Type 0) (s : State) (o n hops : ℕ) (f : List ℕ) (copies : ℕ) (b : List ℕ) (key : ℕ) (w : Way) → key ≡ key_of f →
    w ≡ way_of s key →
    P (served s asked.Insert o n w (Insert o n (one_more hops) f copies b) (inserted s o n f copies b (slot_of s.files f))) →
    P (on_insert s o n hops f copies b)
insert-at P s o n hops f copies b key w k e x =
    led P s asked.Insert o n key (key_of f) w (Insert o n (one_more hops) f copies b) (inserted s o n f copies b (slot_of s.files f)) e k x

pub insert-refused : (P : Outcome → Type 0) (s : State) (o n hops : ℕ) (f : List ℕ) (copies : ℕ) (b : List ℕ) (key : ℕ) → key ≡ key_of f →
    Refuses P s asked.Insert o n key → P (on_insert s o n hops f copies b)
insert-refused P s o n hops f copies b key k x =
    refused P s asked.Insert o n key (key_of f) (Insert o n (one_more hops) f copies b) (inserted s o n f copies b (slot_of s.files f)) k x

pub reclaim-at : (P : Outcome → Type 0) (s : State) (o n hops : ℕ) (f : List ℕ) (key : ℕ) (w : Way) → key ≡ key_of f → w ≡ way_of s key →
    P (served s asked.Reclaim o n w (Reclaim o n (one_more hops) f) (reclaimed s o n f (slot_of s.files f))) → P (on_reclaim s o n hops f)
reclaim-at P s o n hops f key w k e x =
    led P s asked.Reclaim o n key (key_of f) w (Reclaim o n (one_more hops) f) (reclaimed s o n f (slot_of s.files f)) e k x

pub reclaim-refused : (P : Outcome → Type 0) (s : State) (o n hops : ℕ) (f : List ℕ) (key : ℕ) → key ≡ key_of f →
    Refuses P s asked.Reclaim o n key → P (on_reclaim s o n hops f)
reclaim-refused P s o n hops f key k x =
    refused P s asked.Reclaim o n key (key_of f) (Reclaim o n (one_more hops) f) (reclaimed s o n f (slot_of s.files f)) k x
