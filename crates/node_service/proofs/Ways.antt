-- What follows from the calls of a service: on its way, and for the bytes of its source and its sink.
use Rattle.std.proofs.Common.{◌≡◌, ◌∙◌, ◌+◌, ℕ, suc, List, [], ◌∷◌, ◌++◌, Option, Some, None, Result, Ok, Err, OnOk, OnErr, IfErr, IfSome}
use Rattle.std.proofs.Common.{length, length-take, take, append-nil, append_assoc, ap, arith, refl, subst, sym}
use Rattle.std.proofs.lemmas.Result.{IfErr-at_err, on_ok_weaker, on_err_weaker}
use Rattle.outside.specs.declared.traits.Piece.{Piece}
use Rattle.outside.specs.declared.traits.Piece.TheVariants.{End, Failed, Got}
use Rattle.outside.specs.declared.traits.Taken.{Taken}
use Rattle.outside.specs.Sink.{BreaksOff}
use Rattle.outside.specs.Source.{FitsIn, Leaves}
use Rattle.outside.specs.Told.{Told}
use Rattle.outside.proofs.Telling.{Told-same, Told-then}
use Rattle.scenario_reader.specs.Lines.{lines_of}
use Rattle.node_process.specs.Talk.{Talk}
use Rattle.node_service.specs.declared.fault.ServiceFault.{ServiceFault}
use Rattle.node_service.specs.declared.fault.ServiceFault.TheVariants.{Read, Write, OutOfMemory}
use Rattle.node_service.specs.declared.serving.TheConstants.{MOST_PIECE}
use Rattle.node_service.specs.declared.session.Session.{Session}
use Rattle.node_service.specs.Calls.{Came, IsAtEnd}
use Rattle.node_service.specs.Conversation.{AreLinesAnswered}
use Rattle.node_service.specs.Cut.{IsCut}
use Rattle.node_service.specs.Served.{IsServed, IsServedInPart}
use Rattle.node_service.specs.Serves.{Serves}
use Rattle.node_service.specs.Serves.Serves.{went_on, ended, unread, unwritten, unwritten_last, short, short_of_answers, short_of_last}
use Rattle.node_service.specs.Session.{IsFar}
use Rattle.node_service.specs.Steps.{FailsAtLast, FailsAtPiece, IsLastServed, IsPieceServed}
use Rattle.node_service.specs.Written.{Appends}
use Rattle.node_service.proofs.Answering.{lines_answered_none, lines_answered_then}
use Rattle.node_service.proofs.Cutting.{lines_of-cut}

-- a service that began at one source and one sink is at others, and its session is as far as what came and was answered
pub record IsOnItsWay {S K : Type 0} (gives : S → ℕ → Piece → S → Type 0) (left : S → Option (List ℕ)) (takes : K → List ℕ → Taken → K → Type 0)
    (taken : K → Option (List ℕ)) (first : S) (opened : K) (session : Session) (s : S) (k : K) : Type 0 where
  pub line : List ℕ
  pub talk : Option Talk
  pub far : IsFar session line talk
  pub goes_on : (outcome : Result Unit ServiceFault) (t : S) (l : K) → Serves gives left takes taken line talk s k outcome t l →
      Serves gives left takes taken [] None first opened outcome t l

-- it begins
pub way_begun : {S K : Type 0} (gives : S → ℕ → Piece → S → Type 0) (left : S → Option (List ℕ)) (takes : K → List ℕ → Taken → K → Type 0)
    (taken : K → Option (List ℕ)) (session : Session) (s : S) (k : K) → IsFar session [] None → IsOnItsWay gives left takes taken s k session s k
way_begun gives left takes taken session s k far = record { line = []; talk = None; far = far; goes_on = λ outcome t l serves. serves }

-- a piece came and was served
pub way_on : {S K : Type 0} (gives : S → ℕ → Piece → S → Type 0) (left : S → Option (List ℕ)) (takes : K → List ℕ → Taken → K → Type 0)
    (taken : K → Option (List ℕ)) (first : S) (opened : K) (session after : Session) (s t : S) (k l : K) (bytes : List ℕ) →
    IsOnItsWay gives left takes taken first opened session s k → Came gives left s t bytes →
    ((line : List ℕ) (p : Option Talk) → IsFar session line p → IsPieceServed takes taken line p bytes after k l) →
    IsOnItsWay gives left takes taken first opened after t l
way_on gives left takes taken first opened session after s t k l bytes way came serves =
    let served : IsPieceServed takes taken way.line way.talk bytes after k l = serves way.line way.talk way.far in
    record {
      line = served.rest;
      talk = served.later;
      far = served.far;
      goes_on = λ outcome u m more. way.goes_on outcome u m
          (went_on way.line served.rest bytes served.text way.talk served.later s t u k l m outcome came served.answer served.written more);
    }

-- a piece came, and was not served
pub way_broken : {S K : Type 0} (gives : S → ℕ → Piece → S → Type 0) (left : S → Option (List ℕ)) (takes : K → List ℕ → Taken → K → Type 0)
    (taken : K → Option (List ℕ)) (first : S) (opened : K) (session : Session) (s t : S) (k l : K) (bytes : List ℕ) (fault : ServiceFault) →
    IsOnItsWay gives left takes taken first opened session s k → Came gives left s t bytes →
    ((line : List ℕ) (p : Option Talk) → IsFar session line p → FailsAtPiece takes taken line p bytes k l fault) →
    Serves gives left takes taken [] None first opened (Err fault) t l
way_broken gives left takes taken first opened session s t k l bytes Read way came fails = absurd (fails way.line way.talk way.far)
way_broken gives left takes taken first opened session s t k l bytes Write way came fails =
    let broken = fails way.line way.talk way.far in
    way.goes_on (Err Write) t l (unwritten way.line broken.rest bytes broken.text way.talk broken.later s t k l came broken.answer broken.broken)
way_broken gives left takes taken first opened session s t k l bytes OutOfMemory way came fails =
    subst (λ (m : _). Serves gives left takes taken [] None first opened (Err OutOfMemory) t m) (sym (fails way.line way.talk way.far))
    (way.goes_on (Err OutOfMemory) t k (short_of_answers way.line bytes way.talk s t k came))

-- the end came
pub way_ended : {S K : Type 0} (gives : S → ℕ → Piece → S → Type 0) (left : S → Option (List ℕ)) (takes : K → List ℕ → Taken → K → Type 0)
    (taken : K → Option (List ℕ)) (first : S) (opened : K) (session : Session) (s t : S) (k l : K) (result : Result Unit ServiceFault) →
    IsOnItsWay gives left takes taken first opened session s k → IsAtEnd gives left s t →
    ((line : List ℕ) (p : Option Talk) → IsFar session line p → OnOk result (IsLastServed takes taken line p k l)) →
    ((line : List ℕ) (p : Option Talk) → IsFar session line p → IfErr result (FailsAtLast takes taken line p k l)) →
    Serves gives left takes taken [] None first opened result t l
way_ended gives left takes taken first opened session s t k l (Ok tt) way at_end serves fails =
    let served = serves way.line way.talk way.far in
    way.goes_on (Ok tt) t l (ended way.line served.text way.talk served.later s t k l at_end served.answer served.written)
way_ended gives left takes taken first opened session s t k l (Err Read) way at_end serves fails = absurd (fails way.line way.talk way.far)
way_ended gives left takes taken first opened session s t k l (Err Write) way at_end serves fails =
    let broken = fails way.line way.talk way.far in
    way.goes_on (Err Write) t l (unwritten_last way.line broken.text way.talk broken.later s t k l at_end broken.answer broken.broken)
way_ended gives left takes taken first opened session s t k l (Err OutOfMemory) way at_end serves fails =
    subst (λ (m : _). Serves gives left takes taken [] None first opened (Err OutOfMemory) t m) (sym (fails way.line way.talk way.far))
    (way.goes_on (Err OutOfMemory) t k (short_of_last way.line way.talk s t k at_end))

-- what a call of the source gave, by its buffer
pub came_by : {S : Type 0} (gives : S → ℕ → Piece → S → Type 0) (left : S → Option (List ℕ)) (s t : S) (buf given : List ℕ) (n : ℕ) →
    length buf ≡ MOST_PIECE → length given ≡ length buf → FitsIn (Got n) (length buf) → gives s (length buf) (Got n) t →
    Told (left s) (left t) (λ had has. Leaves had (Got n) given has) → Came gives left s t (take n given)
came_by gives left s t buf given n room same fits call told =
    let long : n ≡ length (take n given) = omega (arith, fits, length-take n given) in
    record {
      some = omega (arith, fits, long);
      call = subst (λ (k : ℕ). gives s MOST_PIECE (Got k) t) long (subst (λ (r : ℕ). gives s r (Got n) t) room call);
      told = told;
    }

pub at_end_by : {S : Type 0} (gives : S → ℕ → Piece → S → Type 0) (left : S → Option (List ℕ)) (s t : S) (buf given : List ℕ) → length buf ≡ MOST_PIECE →
    gives s (length buf) End t → Told (left s) (left t) (λ had has. Leaves had End given has) → IsAtEnd gives left s t
at_end_by gives left s t buf given room call told = record { call = subst (λ (r : ℕ). gives s r End t) room call; told = told }

-- a call of the source failed
pub way_unread : {S K : Type 0} (gives : S → ℕ → Piece → S → Type 0) (left : S → Option (List ℕ)) (takes : K → List ℕ → Taken → K → Type 0)
    (taken : K → Option (List ℕ)) (first : S) (opened : K) (session : Session) (s t : S) (k : K) (buf : List ℕ) →
    IsOnItsWay gives left takes taken first opened session s k → length buf ≡ MOST_PIECE → gives s (length buf) Failed t →
    Serves gives left takes taken [] None first opened (Err Read) t k
way_unread gives left takes taken first opened session s t k buf way room call =
    way.goes_on (Err Read) t k (unread way.line way.talk s t k (subst (λ (r : ℕ). gives s r Failed t) room call))

-- there was too little memory
pub way_short : {S K : Type 0} (gives : S → ℕ → Piece → S → Type 0) (left : S → Option (List ℕ)) (takes : K → List ℕ → Taken → K → Type 0)
    (taken : K → Option (List ℕ)) (first : S) (opened : K) (session : Session) (s : S) (k : K) →
    IsOnItsWay gives left takes taken first opened session s k → Serves gives left takes taken [] None first opened (Err OutOfMemory) s k
way_short gives left takes taken first opened session s k way = way.goes_on (Err OutOfMemory) s k (short way.line way.talk s k)

-- the fault of a piece, or of the last line, is none of reading
pub no_fault_of_reading : (r : Result Unit ServiceFault) (P : ServiceFault → Type 0) → IfErr r P → (P Read → ⊥) → r ≡ Err Read → ⊥
no_fault_of_reading r P fails none is = none (IfErr-at_err P is fails)

-- what is told is known by less
told_weaker : (a b : Option (List ℕ)) (P Q : List ℕ → List ℕ → Type 0) → ((xs ys : List ℕ) → P xs ys → Q xs ys) → Told a b P → Told a b Q
told_weaker None b P Q f told = record { bytes = tt }
told_weaker (Some xs) None P Q f told = absurd told.bytes
told_weaker (Some xs) (Some ys) P Q f told = record { bytes = f xs ys told.bytes }

-- the text that is due where what came of a line stands before what is left
record IsServedFrom (line : List ℕ) (p : Option Talk) (left left' taken taken' : Option (List ℕ)) : Type 0 where
  given : List ℕ
  text : List ℕ
  later : Option Talk
  read : Told left left' (λ had has. (given ≡ had) × (has ≡ []))
  answered : AreLinesAnswered p (lines_of (line ++ given)) text later
  written : Told taken taken' (Appends text)

served_then : (line rest bytes text : List ℕ) (p q : Option Talk) (a b c x y z : Option (List ℕ)) (lines : List (List ℕ)) →
    Told a b (λ had has. had ≡ bytes ++ has) → ((given : List ℕ) → lines_of (line ++ (bytes ++ given)) ≡ lines ++ lines_of (rest ++ given)) →
    AreLinesAnswered p lines text q → Told x y (Appends text) → IsServedFrom rest q b c y z → IsServedFrom line p a c x z
served_then line rest bytes text p q a b c x y z lines came cut answered written next = record {
  given = bytes ++ next.given;
  text = text ++ next.text;
  later = next.later;
  read = Told-then a b c (λ had has. had ≡ bytes ++ has) (λ had has. (next.given ≡ had) × (has ≡ [])) (λ had has. (bytes ++ next.given ≡ had) × (has ≡ []))
      came next.read (λ xs ys zs e f. (ap (λ g. bytes ++ g) f.0 ∙ sym e, f.1));
  answered = subst (λ (ls : List (List ℕ)). AreLinesAnswered p ls (text ++ next.text) next.later) (sym (cut next.given))
      (lines_answered_then p q next.later lines (lines_of (rest ++ next.given)) text next.text answered next.answered);
  written = Told-then x y z (Appends text) (Appends next.text) (Appends (text ++ next.text)) written next.written
      (λ xs ys zs e f. f ∙ ap (λ g. g ++ next.text) e ∙ append_assoc xs text next.text);
}

served_last : (line text : List ℕ) (p q : Option Talk) (a b x y : Option (List ℕ)) → Told a b (λ had has. (had ≡ []) × (has ≡ [])) →
    AreLinesAnswered p (lines_of line) text q → Told x y (Appends text) → IsServedFrom line p a b x y
served_last line text p q a b x y at_end answered written = record {
  given = [];
  text = text;
  later = q;
  read = told_weaker a b (λ had has. (had ≡ []) × (has ≡ [])) (λ had has. ([] ≡ had) × (has ≡ [])) (λ xs ys e. (sym e.0, e.1)) at_end;
  answered = subst (λ (l : List ℕ). AreLinesAnswered p (lines_of l) text q) (sym (append-nil line)) answered;
  written = written;
}

-- the lines of what came before, of a piece, and of what follows
cut_ahead : (line bytes : List ℕ) (lines : List (List ℕ)) (rest : List ℕ) → IsCut (line ++ bytes) lines rest → (given : List ℕ) →
    lines_of (line ++ (bytes ++ given)) ≡ lines ++ lines_of (rest ++ given)
cut_ahead line bytes lines rest cut given = ap lines_of (sym (append_assoc line bytes given)) ∙ lines_of-cut (line ++ bytes) given lines rest cut

served_from : {S K : Type 0} (gives : S → ℕ → Piece → S → Type 0) (left : S → Option (List ℕ)) (takes : K → List ℕ → Taken → K → Type 0)
    (taken : K → Option (List ℕ)) (line : List ℕ) (p : Option Talk) (s : S) (k : K) (outcome : Result Unit ServiceFault) (t : S) (l : K) →
    Serves gives left takes taken line p s k outcome t l → OnOk outcome (IsServedFrom line p (left s) (left t) (taken k) (taken l))
served_from gives left takes taken _ _ _ _ _ _ _ (went_on line rest bytes text p q s t u k l m outcome came answer written more) =
    on_ok_weaker outcome
    (λ next. served_then line rest bytes text p q (left s) (left t) (left u) (taken k) (taken l) (taken m) answer.lines came.told
    (cut_ahead line bytes answer.lines rest answer.cut) answer.answered written.told next)
    (served_from gives left takes taken rest q t l outcome u m more)
served_from gives left takes taken _ _ _ _ _ _ _ (ended line text p q s t k l at_end answered written) =
    served_last line text p q (left s) (left t) (taken k) (taken l) at_end.told answered written.told
served_from gives left takes taken _ _ _ _ _ _ _ (unread line p s t k call) = tt
served_from gives left takes taken _ _ _ _ _ _ _ (unwritten line rest bytes text p q s t k l came answer broken) = tt
served_from gives left takes taken _ _ _ _ _ _ _ (unwritten_last line text p q s t k l at_end answered broken) = tt
served_from gives left takes taken _ _ _ _ _ _ _ (short line p s k) = tt
served_from gives left takes taken _ _ _ _ _ _ _ (short_of_answers line bytes p s t k came) = tt
served_from gives left takes taken _ _ _ _ _ _ _ (short_of_last line p s t k at_end) = tt

-- a service that came to its end has read all and answered all
pub served_whole : {S K : Type 0} (gives : S → ℕ → Piece → S → Type 0) (left : S → Option (List ℕ)) (takes : K → List ℕ → Taken → K → Type 0)
    (taken : K → Option (List ℕ)) (s : S) (k : K) (outcome : Result Unit ServiceFault) (t : S) (l : K) →
    Serves gives left takes taken [] None s k outcome t l → OnOk outcome (IsServed (left s) (left t) (taken k) (taken l))
served_whole gives left takes taken s k outcome t l serves =
    on_ok_weaker outcome
    (λ from. record { given = from.given; text = from.text; later = from.later; read = from.read; answered = from.answered; written = from.written })
    (served_from gives left takes taken [] None s k outcome t l serves)

-- the first of what is due
record IsPartFrom (line : List ℕ) (p : Option Talk) (left taken taken' : Option (List ℕ)) : Type 0 where
  given : List ℕ
  lines : List (List ℕ)
  others : List (List ℕ)
  text : List ℕ
  later : Option Talk
  bytes : ℕ
  read : IfSome left (λ had. (more : List ℕ) × (had ≡ given ++ more))
  first : lines_of (line ++ given) ≡ lines ++ others
  answered : AreLinesAnswered p lines text later
  written : Told taken taken' (λ had has. has ≡ had ++ take bytes text)

read_none : (a : Option (List ℕ)) → IfSome a (λ had. (more : List ℕ) × (had ≡ [] ++ more))
read_none None = tt
read_none (Some had) = (had, refl)

read_piece : (a b : Option (List ℕ)) (bytes : List ℕ) → Told a b (λ had has. had ≡ bytes ++ has) → IfSome a (λ had. (more : List ℕ) × (had ≡ bytes ++ more))
read_piece None b bytes came = tt
read_piece (Some had) None bytes came = absurd came.bytes
read_piece (Some had) (Some has) bytes came = (has, came.bytes)

read_then : (a b : Option (List ℕ)) (bytes given : List ℕ) → Told a b (λ had has. had ≡ bytes ++ has) →
    IfSome b (λ had. (more : List ℕ) × (had ≡ given ++ more)) → IfSome a (λ had. (more : List ℕ) × (had ≡ bytes ++ given ++ more))
read_then None b bytes given came next = tt
read_then (Some had) None bytes given came next = absurd came.bytes
read_then (Some had) (Some has) bytes given came next = (next.0, came.bytes ∙ ap (λ g. bytes ++ g) next.1 ∙ sym (append_assoc bytes given next.0))

-- nothing was answered
part_none : (line : List ℕ) (p : Option Talk) (a x : Option (List ℕ)) → IsPartFrom line p a x x
part_none line p a x = record {
  given = [];
  lines = [];
  others = lines_of (line ++ []);
  text = [];
  later = p;
  bytes = 0;
  read = read_none a;
  first = refl;
  answered = lines_answered_none p;
  written = Told-same x (λ had has. has ≡ had ++ []) (λ xs. sym (append-nil xs));
}

-- so much was taken of a text that broke off
broken_at : (x y : Option (List ℕ)) (text : List ℕ) → Told x y (BreaksOff text) → (n : ℕ) × Told x y (λ had has. has ≡ had ++ take n text)
broken_at None y text told = (0, record { bytes = tt })
broken_at (Some xs) None text told = absurd told.bytes
broken_at (Some xs) (Some ys) text told = (told.bytes.0, record { bytes = told.bytes.2 })

part_broken : (line given text : List ℕ) (p q : Option Talk) (a x y : Option (List ℕ)) (lines others : List (List ℕ)) →
    IfSome a (λ had. (more : List ℕ) × (had ≡ given ++ more)) → lines_of (line ++ given) ≡ lines ++ others → AreLinesAnswered p lines text q →
    Told x y (BreaksOff text) → IsPartFrom line p a x y
part_broken line given text p q a x y lines others read first answered broken =
    let at : (n : ℕ) × Told x y (λ had has. has ≡ had ++ take n text) = broken_at x y text broken in
    record {
      given = given;
      lines = lines;
      others = others;
      text = text;
      later = q;
      bytes = at.0;
      read = read;
      first = first;
      answered = answered;
      written = at.1;
    }

take_past : (xs ys : List ℕ) (n : ℕ) → take (length xs + n) (xs ++ ys) ≡ xs ++ take n ys
take_past [] ys n =
    let none : length {A = ℕ} [] + n ≡ n = omega arith in
    ap (λ (k : ℕ). take k ys) none
take_past (x ∷ xs) ys n =
    let one : length (x ∷ xs) + n ≡ suc (length xs + n) = omega arith in
    ap (λ (k : ℕ). take k (x ∷ (xs ++ ys))) one ∙ ap (λ (zs : List ℕ). x ∷ zs) (take_past xs ys n)

part_then : (line rest bytes text : List ℕ) (p q : Option Talk) (a b x y z : Option (List ℕ)) (lines : List (List ℕ)) →
    Told a b (λ had has. had ≡ bytes ++ has) → ((given : List ℕ) → lines_of (line ++ (bytes ++ given)) ≡ lines ++ lines_of (rest ++ given)) →
    AreLinesAnswered p lines text q → Told x y (Appends text) → IsPartFrom rest q b y z → IsPartFrom line p a x z
part_then line rest bytes text p q a b x y z lines came cut answered written next = record {
  given = bytes ++ next.given;
  lines = lines ++ next.lines;
  others = next.others;
  text = text ++ next.text;
  later = next.later;
  bytes = length text + next.bytes;
  read = read_then a b bytes next.given came next.read;
  first = cut next.given ∙ ap (λ ls. lines ++ ls) next.first ∙ sym (append_assoc lines next.lines next.others);
  answered = lines_answered_then p q next.later lines next.lines text next.text answered next.answered;
  written = Told-then x y z (Appends text) (λ had has. has ≡ had ++ take next.bytes next.text)
      (λ had has. has ≡ had ++ take (length text + next.bytes) (text ++ next.text)) written next.written
      (λ xs ys zs e f. f ∙ ap (λ g. g ++ take next.bytes next.text) e ∙ append_assoc xs text (take next.bytes next.text)
      ∙ ap (λ g. xs ++ g) (sym (take_past text next.text next.bytes)));
}

part_from : {S K : Type 0} (gives : S → ℕ → Piece → S → Type 0) (left : S → Option (List ℕ)) (takes : K → List ℕ → Taken → K → Type 0)
    (taken : K → Option (List ℕ)) (line : List ℕ) (p : Option Talk) (s : S) (k : K) (outcome : Result Unit ServiceFault) (t : S) (l : K) →
    Serves gives left takes taken line p s k outcome t l → OnErr outcome (IsPartFrom line p (left s) (taken k) (taken l))
part_from gives left takes taken _ _ _ _ _ _ _ (went_on line rest bytes text p q s t u k l m outcome came answer written more) =
    on_err_weaker outcome
    (λ next. part_then line rest bytes text p q (left s) (left t) (taken k) (taken l) (taken m) answer.lines came.told
    (cut_ahead line bytes answer.lines rest answer.cut) answer.answered written.told next)
    (part_from gives left takes taken rest q t l outcome u m more)
part_from gives left takes taken _ _ _ _ _ _ _ (ended line text p q s t k l at_end answered written) = tt
part_from gives left takes taken _ _ _ _ _ _ _ (unread line p s t k call) = part_none line p (left s) (taken k)
part_from gives left takes taken _ _ _ _ _ _ _ (unwritten line rest bytes text p q s t k l came answer broken) =
    part_broken line bytes text p q (left s) (taken k) (taken l) answer.lines (lines_of rest) (read_piece (left s) (left t) bytes came.told)
    (ap (λ bs. lines_of (line ++ bs)) (sym (append-nil bytes)) ∙ cut_ahead line bytes answer.lines rest answer.cut []
    ∙ ap (λ bs. answer.lines ++ lines_of bs) (append-nil rest)) answer.answered broken.told
part_from gives left takes taken _ _ _ _ _ _ _ (unwritten_last line text p q s t k l at_end answered broken) =
    part_broken line [] text p q (left s) (taken k) (taken l) (lines_of line) [] (read_none (left s))
    (ap lines_of (append-nil line) ∙ sym (append-nil (lines_of line))) answered broken.told
part_from gives left takes taken _ _ _ _ _ _ _ (short line p s k) = part_none line p (left s) (taken k)
part_from gives left takes taken _ _ _ _ _ _ _ (short_of_answers line bytes p s t k came) = part_none line p (left s) (taken k)
part_from gives left takes taken _ _ _ _ _ _ _ (short_of_last line p s t k at_end) = part_none line p (left s) (taken k)

-- a service that broke off has answered the first of what came
pub served_in_part : {S K : Type 0} (gives : S → ℕ → Piece → S → Type 0) (left : S → Option (List ℕ)) (takes : K → List ℕ → Taken → K → Type 0)
    (taken : K → Option (List ℕ)) (s : S) (k : K) (outcome : Result Unit ServiceFault) (t : S) (l : K) →
    Serves gives left takes taken [] None s k outcome t l → OnErr outcome (IsServedInPart (left s) (taken k) (taken l))
served_in_part gives left takes taken s k outcome t l serves =
    on_err_weaker outcome
    (λ from. record {
      given = from.given;
      lines = from.lines;
      others = from.others;
      text = from.text;
      later = from.later;
      bytes = from.bytes;
      read = from.read;
      first = from.first;
      answered = from.answered;
      written = from.written;
    })
    (part_from gives left takes taken [] None s k outcome t l serves)
