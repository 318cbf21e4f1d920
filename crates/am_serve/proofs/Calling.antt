-- What a call's turn does, put together from its steps.
use Rattle.std.proofs.Common.{◌≡◌, ◌≢◌, ℕ, zero, suc, ◌+◌, ◌<◌, ◌≤◌, min, Bool, true, false, List, [], ◌∷◌, ◌++◌, length, take, drop, Option, Some, None, IfSome, IfNone, IsOk, OnOk, Result, Ok, Err, refl, sym, ap, ◌∙◌, subst, inl, inr, append_assoc, append-nil, length-append, length-take, take-append-drop, arith}
use Rattle.std.proofs.Math.Seq.{take-append-add}
use Rattle.std.proofs.lemmas.List.{take_min}
use Rattle.std.specs.List.{FoldsTo}
use Rattle.am_serve.specs.declared.call.Call.{Call}
use Rattle.am_serve.specs.declared.call.Step.{Step}
use Rattle.am_serve.specs.declared.call.Step.TheVariants.{More, Waits, Ended}
use Rattle.am_serve.specs.declared.socket.Moved.TheVariants.{Blocked, Broken}
use Rattle.am_serve.specs.Acts.{Act, Write, Ask, Connects, EndsWith, goes_on, read_by, read_in, written_by, written_in}
use Rattle.am_serve.specs.Statuses.{IsStatusLine}
use Rattle.am_serve.specs.Calls.{CallEnds, CallMoves, CallWorks, Gathered, LineAfter, StaysOpen, failing_act, line_of, unasked, waiting_act}
use Rattle.am_serve.proofs.ActLists.{Connects-append, EndsWith-append, FoldsTo-append, goes, nothing, read_in-append, stops, written_in-append}
use Rattle.am_serve.proofs.Steps.{both_empty}

nothing_after : (xs ys : List ℕ) → xs ++ ys ≡ [] → ys ≡ []
nothing_after [] ys h = h
nothing_after (x ∷ xs) ys h = absurd (cc)

-- the first bytes of the first bytes and of what follows
take_front : (n : ℕ) (xs ys : List ℕ) → take n (take n xs ++ ys) ≡ take n (xs ++ ys)
take_front zero xs ys = refl
take_front (suc n) [] ys = refl
take_front (suc n) (x ∷ xs) ys = ap (λ l. x ∷ l) (take_front n xs ys)

-- as many bytes of a piece as there is room for
pub gathered : (line new piece : List ℕ) (room wanted : ℕ) → room + length line ≡ 13 → wanted ≡ min room (length piece) → new ≡ line ++ take wanted piece → new ≡ take 13 (line ++ piece)
gathered line new piece room wanted rooms wants is =
    let whole : length line + room ≡ 13 = omega (arith, rooms) in
    is ∙ ap (λ n. line ++ take n piece) wants ∙ ap (λ l. line ++ l) (take_min room piece) ∙ sym (take-append-add line piece room) ∙ ap (λ n. take n (line ++ piece)) whole

-- what the bytes tell once there are 13
pub settled : (line read : List ℕ) (status : Option ℕ) → read ≡ line → length line ≡ 13 → IfSome status (λ s. IsStatusLine read s) → IfNone status ((s : ℕ) → IsStatusLine read s → ⊥) → Gathered line (Ended status)
settled line read None same long some none = (long, λ s h. none s (subst (λ l. IsStatusLine l s) (sym same) h))
settled line read (Some status) same long some none = (long, subst (λ l. IsStatusLine l status) same some)

-- a line that stays is as short
pub as_short : (old new : List ℕ) → new ≡ old → length old < 13 → length new < 13
as_short old new same h = omega (arith, ap length same, h)

pub from_ok : {T E : Type 0} (P : Type 0) (r : Result T E) → IsOk r → OnOk r P → P
from_ok P (Ok x) h p = p
from_ok P (Err e) h p = absurd (cc)

lines_both : (a b c first second : List ℕ) → LineAfter a b first → LineAfter b c second → LineAfter a c (first ++ second)
lines_both a b c first second p q = elim p [
  | inl none ↦ elim q [
    | inl also ↦ inl (both_empty first second none.0 also.0, also.1 ∙ none.1)
    | inr more ↦ inr (more ∙ ap (λ l. take 13 (l ++ second)) none.1 ∙ ap (λ l. take 13 (a ++ l)) (ap (λ l. l ++ second) (sym none.0)))
  ]
  | inr some ↦ elim q [
    | inl none ↦ inr (none.1 ∙ some ∙ ap (λ l. take 13 (a ++ l)) (sym (append-nil first) ∙ ap (λ l. first ++ l) (sym none.0)))
    | inr more ↦ inr (more ∙ ap (λ l. take 13 (l ++ second)) some ∙ take_front 13 (a ++ first) second ∙ ap (take 13) (append_assoc a first second))
  ]
]

-- of a request that isn't written whole some is left to be written
pub waiting_write : (left : List ℕ) → left ≢ [] → waiting_act true left ≡ Write Blocked []
waiting_write [] h = absurd (h refl)
waiting_write (_ ∷ _) h = refl

pub waits_as : (connected : Bool) (left : List ℕ) → connected ≡ true → waiting_act true left ∷ [] ≡ waiting_act connected left ∷ []
waits_as connected left h = ap (λ b. waiting_act b left ∷ []) (sym h)

pub fails_as : (connected : Bool) (left : List ℕ) → connected ≡ true → failing_act true left ∷ [] ≡ failing_act connected left ∷ []
fails_as connected left h = ap (λ b. failing_act b left ∷ []) (sym h)

pub failing_write : (left : List ℕ) → left ≢ [] → failing_act true left ≡ Write Broken []
failing_write [] h = absurd (h refl)
failing_write (_ ∷ _) h = refl

module _ {S N : Type 0} where
  -- no byte was moved
  pub call_stood : (old new : Call S N) (acts : List Act) → read_in acts ≡ [] → written_in acts ≡ [] → unasked new.stage ≡ unasked old.stage → line_of new.stage ≡ line_of old.stage
      → Connects old.is_connected acts new.is_connected → new.name ≡ old.name → new.begun ≡ old.begun → CallMoves old new acts
  call_stood old new acts read written asked line connects name since = record {
    asked = ap (λ l. l ++ unasked new.stage) written ∙ asked;
    whole = inl read;
    line = inl (read, line);
    connects = connects;
    name = name;
    since = since;
  }

  -- a first part of the request was written
  pub call_wrote : (old new : Call S N) (acts : List Act) (n : ℕ) (before : List ℕ) → unasked old.stage ≡ before → read_in acts ≡ [] → written_in acts ≡ take n before → unasked new.stage ≡ drop n before
      → line_of new.stage ≡ line_of old.stage → Connects old.is_connected acts new.is_connected → new.name ≡ old.name → new.begun ≡ old.begun → CallMoves old new acts
  call_wrote old new acts n before is read written asked line connects name since = record {
    asked = ap (λ l. l ++ unasked new.stage) written ∙ ap (λ l. take n before ++ l) asked ∙ take-append-drop n before ∙ sym is;
    whole = inl read;
    line = inl (read, line);
    connects = connects;
    name = name;
    since = since;
  }

  -- some of the response was read
  pub call_got : (old new : Call S N) (acts : List Act) → written_in acts ≡ [] → unasked old.stage ≡ [] → unasked new.stage ≡ [] → line_of new.stage ≡ take 13 (line_of old.stage ++ read_in acts)
      → Connects old.is_connected acts new.is_connected → new.name ≡ old.name → new.begun ≡ old.begun → CallMoves old new acts
  call_got old new acts written was is line connects name since = record {
    asked = ap (λ l. l ++ unasked new.stage) written ∙ is ∙ sym was;
    whole = inr is;
    line = inr line;
    connects = connects;
    name = name;
    since = since;
  }

  still_open : (old new : Call S N) → CallMoves old new [] → StaysOpen old new
  still_open old new moves h = elim moves.line [
    | inl same ↦ as_short (line_of old.stage) (line_of new.stage) same.1 h
    | inr more ↦ omega (arith, h, ap length more, ap length (append-nil (line_of old.stage)), length-take 13 (line_of old.stage ++ []))
  ]

  -- why the last part of a turn ended is why the turn ended
  ends_later : (first old new : Call S N) (last : List Act) (step : Step) → StaysOpen first old → CallEnds old new last step → CallEnds first new last step
  ends_later first old new last More before h = (h.0, λ short. h.1 (before short))
  ends_later first old new last Waits before h = (h.0, λ short. h.1 (before short))
  ends_later first old new last (Ended None) before h = h
  ends_later first old new last (Ended (Some status)) before h = h

  -- two parts of a turn
  pub moves_on : (a b c : Call S N) (first second : List Act) → CallMoves a b first → CallMoves b c second → CallMoves a c (first ++ second)
  moves_on a b c first second p q = record {
    asked = ap (λ l. l ++ unasked c.stage) (written_in-append first second) ∙ append_assoc (written_in first) (written_in second) (unasked c.stage) ∙ ap (λ l. written_in first ++ l) q.asked ∙ p.asked;
    whole = elim q.whole [
      | inr is ↦ inr is
      | inl none ↦ elim p.whole [
        | inl also ↦ inl (read_in-append first second ∙ both_empty (read_in first) (read_in second) also none)
        | inr is ↦ inr (nothing_after (written_in second) (unasked c.stage) (q.asked ∙ is))
      ]
    ];
    line = subst (LineAfter (line_of a.stage) (line_of c.stage)) (sym (read_in-append first second)) (lines_both (line_of a.stage) (line_of b.stage) (line_of c.stage) (read_in first) (read_in second) p.line q.line);
    connects = Connects-append a.is_connected b.is_connected c.is_connected first second p.connects q.connects;
    name = q.name ∙ p.name;
    since = q.since ∙ p.since;
  }

module _ {S N : Type 0} (does : S → Act → S → Type 0) where
  -- one thing was asked of the socket
  pub call_one : (old new : Call S N) (step : Step) (act : Act) (last : List Act) → does old.socket act new.socket → EndsWith last (act ∷ []) → CallMoves old new (act ∷ []) → CallEnds old new last step → CallWorks does 1 old new step
  call_one old new step act last done ended moves ends = record {
    acts = act ∷ [];
    last = last;
    done = (new.socket, done, refl);
    ended = ended;
    few = omega arith;
    all = λ _. refl;
    moves = moves;
    ends = ends;
  }

  -- the connection doesn't stand yet
  pub asked_waiting : (old new : Call S N) → does old.socket (Ask (Some false)) new.socket → old.is_connected ≡ false → new.is_connected ≡ old.is_connected → new.stage ≡ old.stage → new.name ≡ old.name → new.begun ≡ old.begun → CallWorks does 1 old new Waits
  asked_waiting old new asks connects same stage name since = call_one old new Waits (Ask (Some false)) (Ask (Some false) ∷ []) asks (stops (Ask (Some false) ∷ []) (Ask (Some false)) refl)
      (call_stood old new (Ask (Some false) ∷ []) refl refl (ap unasked stage) (ap line_of stage) (connects, same ∙ connects) name since) (ap (λ b. waiting_act b (unasked new.stage) ∷ []) (sym (same ∙ connects)), as_short (line_of old.stage) (line_of new.stage) (ap line_of stage))

  -- the connection failed
  pub asked_failing : (old new : Call S N) → does old.socket (Ask None) new.socket → old.is_connected ≡ false → new.is_connected ≡ old.is_connected → new.stage ≡ old.stage → new.name ≡ old.name → new.begun ≡ old.begun → CallWorks does 1 old new (Ended None)
  asked_failing old new asks connects same stage name since = call_one old new (Ended None) (Ask None) (Ask None ∷ []) asks (stops (Ask None ∷ []) (Ask None) refl)
      (call_stood old new (Ask None ∷ []) refl refl (ap unasked stage) (ap line_of stage) (connects, same) name since) (inl (ap (λ b. failing_act b (unasked new.stage) ∷ []) (sym (same ∙ connects))))

  -- a piece of the response was read
  pub call_heard : (old new : Call S N) (step : Step) (act : Act) → does old.socket act new.socket → goes_on act ≡ true → unasked old.stage ≡ [] → unasked new.stage ≡ []
      → line_of new.stage ≡ take 13 (line_of old.stage ++ read_by act) → Connects old.is_connected (act ∷ []) new.is_connected → written_by act ≡ [] → new.name ≡ old.name → new.begun ≡ old.begun → Gathered (line_of new.stage) step → CallWorks does 1 old new step
  call_heard old new step act done more was is line connects written name since told = call_one old new step act [] done (goes act more)
      (call_got old new (act ∷ []) (append-nil (written_by act) ∙ written) was is (line ∙ ap (λ l. take 13 (line_of old.stage ++ l)) (sym (append-nil (read_by act)))) connects name since) (gathered_ends step told)
    where
      gathered_ends : (s : Step) → Gathered (line_of new.stage) s → CallEnds old new [] s
      gathered_ends More h = (refl, λ _. h)
      gathered_ends Waits h = absurd h
      gathered_ends (Ended None) h = inr (refl, h.0, h.1)
      gathered_ends (Ended (Some status)) h = (refl, is, h.0, h.1)

  -- no step was made
  pub call_begun : (call : Call S N) → CallWorks does 0 call call More
  call_begun call = record {
    acts = [];
    last = [];
    done = refl;
    ended = nothing;
    few = omega arith;
    all = λ _. refl;
    moves = call_stood call call [] refl refl refl refl refl refl refl;
    ends = (refl, λ h. h);
  }

  -- a turn and one more step
  pub call_goes_on : (n : ℕ) (a b c : Call S N) (step : Step) → CallWorks does n a b More → CallWorks does 1 b c step → CallWorks does (n + 1) a c step
  call_goes_on n a b c step p q = record {
    acts = p.acts ++ q.acts;
    last = q.last;
    done = FoldsTo-append does a.socket p.acts b.socket q.acts c.socket p.done q.done;
    ended = EndsWith-append q.last p.acts q.acts (subst (λ l. EndsWith l p.acts) p.ends.0 p.ended) q.ended;
    few = omega (arith, length-append p.acts q.acts, p.few, q.few);
    all = λ h. omega (arith, length-append p.acts q.acts, p.all refl, q.all h);
    moves = moves_on a b c p.acts q.acts p.moves q.moves;
    ends = ends_later a b c q.last step p.ends.1 q.ends;
  }

  -- a turn that ended before its steps were over
  pub call_over : (n steps : ℕ) (old new : Call S N) (step : Step) → n ≤ steps → (step ≡ More → ⊥) → CallWorks does n old new step → CallWorks does steps old new step
  call_over n steps old new step fits ended p = record {
    acts = p.acts;
    last = p.last;
    done = p.done;
    ended = p.ended;
    few = omega (arith, fits, p.few);
    all = λ h. absurd (ended h);
    moves = p.moves;
    ends = p.ends;
  }

  -- a step before which the response may have begun to be awaited
  pub call_settled : (a b c : Call S N) (step : Step) → CallMoves a b [] → b.socket ≡ a.socket → CallWorks does 1 b c step → CallWorks does 1 a c step
  call_settled a b c step p same q = record {
    acts = q.acts;
    last = q.last;
    done = subst (λ s. FoldsTo does s q.acts c.socket) same q.done;
    ended = q.ended;
    few = q.few;
    all = q.all;
    moves = moves_on a b c [] q.acts p q.moves;
    ends = ends_later a b c q.last step (still_open a b p) q.ends;
  }
