-- What a client's turn does, put together from its steps.
use Rattle.std.proofs.Common.{◌≡◌, ◌⊎◌, ℕ, ◌+◌, ◌≤◌, Bool, true, false, cond, ◌||◌, List, [], ◌++◌, ◌∷◌, take, drop, refl, sym, ap, ◌∙◌, subst, inl, inr, append_assoc, append-nil, take-append-drop, length, length-append, arith}
use Rattle.std.specs.List.{FoldsTo}
use Rattle.std.specs.declared.time.Instant.{Instant}
use Rattle.am_serve.specs.declared.client.Client.{Client}
use Rattle.am_serve.specs.declared.client.Stage.{Stage}
use Rattle.am_serve.specs.declared.client.Turn.{Turn}
use Rattle.am_serve.specs.declared.client.Turn.TheVariants.{More, Waits, Crowded, Answered, Drains, Drained, Lost, Gone as IsGone}
use Rattle.am_serve.specs.declared.host.Verdict.{Verdict}
use Rattle.am_serve.specs.declared.host.Verdict.TheVariants.{Undecided, Reply, Later, Gone}
use Rattle.am_serve.specs.declared.socket.Moved.{Moved}
use Rattle.am_serve.specs.Acts.{Act, Read, EndsWith, has_byte, may_go_on, moves_byte, moves_in, read_in, written_in}
use Rattle.am_serve.specs.Clients.{AllUndecided, DecidesLast, Ends, HandsOn, Heard, IsAsking, IsAwaiting, IsDraining, IsSuccess, IsTold, Moves, StageAfter, Turned, Works, acts_at, bytes_of, is_crowded, is_gone, last_of, replies_of, reply_of, says_gone, silent_since, turn_after, unsaid, whole_reply}
use Rattle.am_serve.proofs.Stages.{IsReading, after_verdict, asking_drains, awaiting_asks, awaiting_drains, draining_asks, is_undecided, no_reply, nothing_said, reading, reply, stands, telling_drains, told_drains}
use Rattle.am_serve.proofs.ActLists.{EndsWith-append, FoldsTo-append, goes, moves_in-append, nothing, read_in-append, stops, written_in-append}

bytes_of-append : (xs ys : List Heard) → bytes_of (xs ++ ys) ≡ bytes_of xs ++ bytes_of ys
bytes_of-append [] ys = refl
bytes_of-append (x ∷ xs) ys = ap (λ l. x.0 ++ l) (bytes_of-append xs ys) ∙ sym (append_assoc x.0 (bytes_of xs) (bytes_of ys))

replies_of-append : (xs ys : List Heard) → replies_of (xs ++ ys) ≡ replies_of xs ++ replies_of ys
replies_of-append [] ys = refl
replies_of-append (x ∷ xs) ys = ap (λ l. reply_of x.1 ++ l) (replies_of-append xs ys) ∙ sym (append_assoc (reply_of x.1) (replies_of xs) (replies_of ys))

either : (a b : Bool) → (a || b ≡ false) → (a ≡ false) × (b ≡ false)
either true b h = (h, absurd (cc))
either false b h = (refl, h)

says_gone-later : (xs ys : List Heard) → says_gone xs ≡ false → says_gone (xs ++ ys) ≡ says_gone ys
says_gone-later [] ys h = refl
says_gone-later (x ∷ xs) ys h =
    let parts = either (is_gone x.1) (says_gone xs) h in
    ap (λ b. b || says_gone (xs ++ ys)) parts.0 ∙ says_gone-later xs ys parts.1

AllUndecided-append : (xs ys : List Heard) → AllUndecided xs → AllUndecided ys → AllUndecided (xs ++ ys)
AllUndecided-append [] ys p q = q
AllUndecided-append (x ∷ xs) ys p q = (p.0, AllUndecided-append xs ys p.1 q)

DecidesLast-later : (xs ys : List Heard) → AllUndecided xs → DecidesLast ys → DecidesLast (xs ++ ys)
DecidesLast-later [] ys p q = q
DecidesLast-later (x ∷ xs) ys p q = (inl p.0, DecidesLast-later xs ys p.1 q)

-- what two steps wrote is what both wrote
said_both : (u v w first second before after : List ℕ) → first ++ v ≡ u ++ before → second ++ w ≡ v ++ after → (first ++ second) ++ w ≡ u ++ (before ++ after)
said_both u v w first second before after p q =
    append_assoc first second w ∙ ap (λ l. first ++ l) q ∙ sym (append_assoc first v after) ∙ ap (λ l. l ++ after) p ∙ append_assoc u before after

-- the reply after two steps
replies_both : (a b c : List ℕ) (xs ys : List Heard) → b ≡ a ++ replies_of xs → c ≡ b ++ replies_of ys → c ≡ a ++ replies_of (xs ++ ys)
replies_both a b c xs ys p q = q ∙ ap (λ l. l ++ replies_of ys) p ∙ append_assoc a (replies_of xs) (replies_of ys) ∙ ap (λ l. a ++ l) (sym (replies_of-append xs ys))

pub both_empty : {A : Type 0} (xs ys : List A) → xs ≡ [] → ys ≡ [] → xs ++ ys ≡ []
both_empty xs ys p q = ap (λ l. l ++ ys) p ∙ q

-- a read that moved nothing, for which the turn ended
pub read_last : (stage : Stage) (moved : Moved) → IsReading stage → EndsWith (acts_at stage moved) (Read moved [] ∷ [])
read_last stage moved h = stops (acts_at stage moved) (Read moved []) (reading stage moved h)

-- what two parts of a turn read
read_both : (xs ys : List Act) (first second early late : List ℕ) → read_in xs ≡ first ++ early → read_in ys ≡ second ++ late → read_in (xs ++ ys) ≡ (first ++ early) ++ (second ++ late)
read_both xs ys first second early late p q = read_in-append xs ys ∙ ap (λ l. l ++ read_in ys) p ∙ ap (λ l. (first ++ early) ++ l) q

-- what two parts of a turn wrote
wrote_both : (u v w before after : List ℕ) (xs ys : List Act) → written_in xs ++ v ≡ u ++ before → written_in ys ++ w ≡ v ++ after → written_in (xs ++ ys) ++ w ≡ u ++ (before ++ after)
wrote_both u v w before after xs ys p q = ap (λ l. l ++ w) (written_in-append xs ys) ∙ said_both u v w (written_in xs) (written_in ys) before after p q

module _ (now before : Instant) where
  at_once : (crowded moved : Bool) → moved ≡ true → cond (crowded || moved) now before ≡ now
  at_once true moved h = refl
  at_once false moved h = ap (λ b. cond b now before) h

  -- a client of whom a byte was moved is silent since now
  moved_now : (turn : Turn) (act : Act) → moves_byte act ≡ true → silent_since now before turn (act ∷ []) ≡ now
  moved_now turn act h = at_once (is_crowded turn) (moves_byte act || false) (ap (λ b. b || false) h)

  twice : (crowded first second : Bool) → cond (crowded || second) now (cond first now before) ≡ cond (crowded || (first || second)) now before
  twice true first second = refl
  twice false true true = refl
  twice false true false = refl
  twice false false second = refl

  -- since when a client is silent after two parts of a turn
  pub silent_later : (turn : Turn) (xs ys : List Act) → silent_since now (silent_since now before More xs) turn ys ≡ silent_since now before turn (xs ++ ys)
  silent_later turn xs ys = twice (is_crowded turn) (moves_in xs) (moves_in ys) ∙ ap (λ b. cond (is_crowded turn || b) now before) (sym (moves_in-append xs ys))

module _ {S : Type 0} where
  -- no byte was moved
  pub stood : (old new : Client S) (acts : List Act) → read_in acts ≡ [] → written_in acts ≡ []
      → unsaid new.stage ≡ unsaid old.stage → (IsAsking new.stage → IsAsking old.stage) → new.held ≡ old.held → (IsDraining old.stage → IsDraining new.stage) → (IsAsking old.stage → IsAsking new.stage) → (IsAwaiting old.stage → IsAwaiting new.stage) → ((IsDraining new.stage → ⊥) → whole_reply new.stage ≡ whole_reply old.stage)
      → new.connection ≡ old.connection → new.opened ≡ old.opened → Moves old new [] acts
  stood old new acts read written said asks held drained still awaiting reply connection since = record {
    thrown = [];
    read = read;
    said = ap (λ l. l ++ unsaid new.stage) written ∙ said ∙ sym (append-nil (unsaid old.stage));
    decided = tt;
    asked = inr refl;
    asks = λ h. (asks h, tt);
    threw = inr refl;
    grows = λ h. omega (arith, held);
    released = λ h not. absurd (not (still h));
    stays = λ h. held;
    reply = λ not. reply not ∙ sym (append-nil (whole_reply old.stage));
    drained = drained;
    awaiting = awaiting;
    connection = connection;
    since = since;
  }

  -- a first part of the reply was written
  pub told : (old new : Client S) (acts : List Act) (n : ℕ) (before : List ℕ) → unsaid old.stage ≡ before → read_in acts ≡ [] → written_in acts ≡ take n before
      → unsaid new.stage ≡ drop n before → (IsAsking new.stage → ⊥) → new.held ≡ old.held → (IsAsking old.stage → ⊥) → (IsAwaiting old.stage → ⊥) → (IsDraining old.stage → IsDraining new.stage) → ((IsDraining new.stage → ⊥) → whole_reply new.stage ≡ whole_reply old.stage)
      → new.connection ≡ old.connection → new.opened ≡ old.opened → Moves old new [] acts
  told old new acts n before is read written said asks held was waits drained reply connection since = record {
    thrown = [];
    read = read;
    said = ap (λ l. l ++ unsaid new.stage) written ∙ ap (λ l. take n before ++ l) said ∙ take-append-drop n before ∙ sym is ∙ sym (append-nil (unsaid old.stage));
    decided = tt;
    asked = inr refl;
    asks = λ h. absurd (asks h);
    threw = inr refl;
    grows = λ h. absurd (asks h);
    released = λ h. absurd (was h);
    stays = λ h. held;
    reply = λ not. reply not ∙ sym (append-nil (whole_reply old.stage));
    drained = drained;
    awaiting = λ h. absurd (waits h);
    connection = connection;
    since = since;
  }

  -- bytes were read and thrown away
  pub threw : (old new : Client S) (acts : List Act) → written_in acts ≡ [] → IsDraining old.stage → new.stage ≡ old.stage → new.held ≡ old.held
      → new.connection ≡ old.connection → new.opened ≡ old.opened → Moves old new [] acts
  threw old new acts written drains stage held connection since = record {
    thrown = read_in acts;
    read = refl;
    said = ap (λ l. l ++ unsaid new.stage) written ∙ ap unsaid stage ∙ sym (append-nil (unsaid old.stage));
    decided = tt;
    asked = inr refl;
    asks = λ h. absurd (draining_asks new.stage (subst IsDraining (sym stage) drains) h);
    threw = inl drains;
    grows = λ h. absurd (draining_asks new.stage (subst IsDraining (sym stage) drains) h);
    released = λ h. absurd (draining_asks old.stage drains h);
    stays = λ h. held;
    reply = λ not. absurd (not (subst IsDraining (sym stage) drains));
    drained = λ h. subst IsDraining (sym stage) h;
    awaiting = λ h. absurd (awaiting_drains old.stage h drains);
    connection = connection;
    since = since;
  }

  -- two parts of a turn while the host was undecided
  both_asking : (a b c : Client S) (xs ys : List Heard) (first second : List Act) → Moves a b xs first → Moves b c ys second → IsAsking b.stage → Moves a c (xs ++ ys) (first ++ second)
  both_asking a b c xs ys first second p q asking =
      let before = p.asks asking in
      let kept : p.thrown ≡ [] = elim p.threw [ inl drains ↦ absurd (asking_drains a.stage before.0 drains) | inr none ↦ none ] in
      let late : q.thrown ≡ [] = elim q.threw [ inl drains ↦ absurd (asking_drains b.stage asking drains) | inr none ↦ none ] in
      let whole : (bytes_of xs ++ p.thrown) ++ (bytes_of ys ++ q.thrown) ≡ bytes_of (xs ++ ys) ++ q.thrown =
      ap (λ t. (bytes_of xs ++ t) ++ (bytes_of ys ++ q.thrown)) kept ∙ ap (λ l. l ++ (bytes_of ys ++ q.thrown)) (append-nil (bytes_of xs))
      ∙ sym (append_assoc (bytes_of xs) (bytes_of ys) q.thrown) ∙ ap (λ l. l ++ q.thrown) (sym (bytes_of-append xs ys)) in
      record {
        thrown = q.thrown;
        read = read_both first second (bytes_of xs) (bytes_of ys) p.thrown q.thrown p.read q.read ∙ whole;
        said = wrote_both (unsaid a.stage) (unsaid b.stage) (unsaid c.stage) (replies_of xs) (replies_of ys) first second p.said q.said ∙ ap (λ l. unsaid a.stage ++ l) (sym (replies_of-append xs ys));
        decided = DecidesLast-later xs ys before.1 q.decided;
        asked = inl before.0;
        asks = λ h. (before.0, AllUndecided-append xs ys before.1 (q.asks h).1);
        threw = inr late;
        grows = λ h. omega (arith, q.grows h, p.grows asking, ap length (bytes_of-append xs ys), length-append (bytes_of xs) (bytes_of ys));
        released = λ _ not. q.released asking not;
        stays = λ not. absurd (not before.0);
        reply = λ not. replies_both (whole_reply a.stage) (whole_reply b.stage) (whole_reply c.stage) xs ys (p.reply (asking_drains b.stage asking)) (q.reply not);
        drained = λ h. q.drained (p.drained h);
        awaiting = λ h. absurd (awaiting_asks a.stage h before.0);
        connection = q.connection ∙ p.connection;
        since = q.since ∙ p.since;
      }

  -- two parts of a turn of which the second hears nothing
  both_silent : (a b c : Client S) (xs : List Heard) (first second : List Act) → (IsDraining b.stage → IsDraining a.stage) → Moves a b xs first → Moves b c [] second → Moves a c xs (first ++ second)
  both_silent a b c xs first second were p q = record {
    thrown = p.thrown ++ q.thrown;
    read = read_both first second (bytes_of xs) [] p.thrown q.thrown p.read q.read ∙ append_assoc (bytes_of xs) p.thrown q.thrown;
    said = wrote_both (unsaid a.stage) (unsaid b.stage) (unsaid c.stage) (replies_of xs) [] first second p.said q.said ∙ ap (λ l. unsaid a.stage ++ l) (append-nil (replies_of xs));
    decided = p.decided;
    asked = p.asked;
    asks = λ h. p.asks (q.asks h).0;
    threw = elim q.threw [
      | inl drains ↦ inl (were drains)
      | inr none ↦ elim p.threw [ inl drains ↦ inl drains | inr also ↦ inr (both_empty p.thrown q.thrown also none) ]
    ];
    grows = λ h. omega (arith, q.grows h, p.grows (q.asks h).0);
    released = λ h not. elim (stands b.stage) [ inl asking ↦ q.released asking not | inr mid ↦ q.stays mid ∙ p.released h mid ];
    stays = λ not. q.stays (λ mid. not (p.asks mid).0) ∙ p.stays not;
    reply = λ not. replies_both (whole_reply a.stage) (whole_reply b.stage) (whole_reply c.stage) xs [] (p.reply (λ h. not (q.drained h))) (q.reply not) ∙ ap (λ l. whole_reply a.stage ++ replies_of l) (append-nil xs);
    drained = λ h. q.drained (p.drained h);
    awaiting = λ h. q.awaiting (p.awaiting h);
    connection = q.connection ∙ p.connection;
    since = q.since ∙ p.since;
  }

  both : (a b c : Client S) (xs ys : List Heard) (first second : List Act) → (IsDraining b.stage → IsDraining a.stage) → Moves a b xs first → Moves b c ys second → Moves a c (xs ++ ys) (first ++ second)
  both a b c xs ys first second were p q = elim q.asked [
    | inl asking ↦ both_asking a b c xs ys first second p q asking
    | inr none ↦
        let alone : Moves b c [] second = subst (λ l. Moves b c l second) none q in
        subst (λ l. Moves a c l (first ++ second)) (sym (append-nil xs) ∙ ap (λ l. xs ++ l) (sym none)) (both_silent a b c xs first second were p alone)
  ]

  -- why the last part of a turn ended is why the turn ended
  ends_later : (most : ℕ) (first old new : Client S) (xs ys : List Heard) (turn : Turn) → (IsDraining first.stage → IsDraining old.stage) → (IsDraining old.stage → IsDraining first.stage)
      → ((IsDraining old.stage → ⊥) → whole_reply old.stage ++ replies_of xs ≡ whole_reply first.stage ++ replies_of ys) → (IsTold new.stage → IsDraining old.stage → ⊥) → says_gone ys ≡ says_gone xs
      → Ends most old new xs turn → Ends most first new ys turn
  ends_later most first old new xs ys More d u r t e h = (λ drains. u (h.0 drains), e ∙ h.1)
  ends_later most first old new xs ys Waits d u r t e h = (λ drains. u (h.0 drains), h.1, e ∙ h.2)
  ends_later most first old new xs ys Crowded d u r t e h = (h.0, h.1, e ∙ h.2)
  ends_later most first old new xs ys Answered d u r t e h = (h.0, subst IsSuccess (r (t h.0)) h.1, e ∙ h.2)
  ends_later most first old new xs ys Drains d u r t e h = (λ was. h.0 (d was), h.1, λ success. h.2 (subst IsSuccess (sym (r h.0)) success), e ∙ h.3)
  ends_later most first old new xs ys Drained d u r t e h = (u h.0, h.1, e ∙ h.2)
  ends_later most first old new xs ys Lost d u r t e h = (h.0, h.1, h.2, e ∙ h.3)
  ends_later most first old new xs ys IsGone d u r t e h = (h.0, e ∙ h.1)

module _ {S : Type 0} (does : S → Act → S → Type 0) (most : ℕ) (now : Instant) where
  -- one thing was asked of the socket
  pub one : (old new : Client S) (heard : List Heard) (turn : Turn) (act : Act) → does old.socket act new.socket → EndsWith (last_of turn new.stage) (act ∷ []) → Moves old new heard (act ∷ [])
      → new.moved ≡ silent_since now old.moved turn (act ∷ []) → Ends most old new heard turn → Works does 1 most now old new heard turn
  one old new heard turn act done last moves timed ends = record {
    acts = act ∷ [];
    done = (new.socket, done, refl);
    last = last;
    few = omega arith;
    all = λ _. refl;
    moves = moves;
    timed = timed;
    ends = ends;
  }

  -- bytes were read or written
  pub one_moved : (old new : Client S) (heard : List Heard) (turn : Turn) (act : Act) → does old.socket act new.socket → moves_byte act ≡ true → EndsWith (last_of turn new.stage) (act ∷ []) → Moves old new heard (act ∷ [])
      → new.moved ≡ now → Ends most old new heard turn → Works does 1 most now old new heard turn
  one_moved old new heard turn act done some last moves moment ends = one old new heard turn act done last moves (moment ∙ sym (moved_now now old.moved turn act some)) ends

  -- nothing was asked of the socket
  pub none : (old new : Client S) (turn : Turn) → old.socket ≡ new.socket → last_of turn new.stage ≡ [] → (turn ≡ More → ⊥) → Moves old new [] []
      → new.moved ≡ silent_since now old.moved turn [] → Ends most old new [] turn → Works does 1 most now old new [] turn
  none old new turn same last over moves timed ends = record {
    acts = [];
    done = same;
    last = subst (λ l. EndsWith l []) (sym last) nothing;
    few = omega arith;
    all = λ h. absurd (over h);
    moves = moves;
    timed = timed;
    ends = ends;
  }

  -- two parts of a turn
  works_on : (n : ℕ) (a b c : Client S) (xs ys : List Heard) (turn : Turn) → Works does n most now a b xs More → Works does 1 most now b c ys turn → Works does (n + 1) most now a c (xs ++ ys) turn
  works_on n a b c xs ys turn p q = record {
    acts = p.acts ++ q.acts;
    done = FoldsTo-append does a.socket p.acts b.socket q.acts c.socket p.done q.done;
    last = EndsWith-append (last_of turn c.stage) p.acts q.acts p.last q.last;
    few = omega (arith, length-append p.acts q.acts, p.few, q.few);
    all = λ h. omega (arith, length-append p.acts q.acts, p.all refl, q.all h);
    moves = both a b c xs ys p.acts q.acts p.ends.0 p.moves q.moves;
    timed = q.timed ∙ ap (λ before. silent_since now before turn q.acts) p.timed ∙ silent_later now a.moved turn p.acts q.acts;
    ends = ends_later most a b c ys (xs ++ ys) turn p.moves.drained p.ends.0
        (λ not. ap (λ l. l ++ replies_of ys) (p.moves.reply not) ∙ append_assoc (whole_reply a.stage) (replies_of xs) (replies_of ys) ∙ ap (λ l. whole_reply a.stage ++ l) (sym (replies_of-append xs ys)))
        (λ told drains. told_drains c.stage told (q.moves.drained drains)) (says_gone-later xs ys p.ends.1) q.ends;
  }

module _ {S H : Type 0} (does : S → Act → S → Type 0) (takes : H → ℕ → List ℕ → Verdict → H → Type 0) (most : ℕ) (now : Instant) where
  abbrev Goes : ℕ → Client S → Client S → H → H → Turn → Type 0
  Goes steps old new before after turn = Turned does takes steps most now old new before after turn

  -- a turn of no step
  pub begun : (client : Client S) (host : H) → Goes 0 client client host host More
  begun client host = record {
    heard = [];
    taken = refl;
    works = record {
      acts = [];
      done = refl;
      last = nothing;
      few = omega arith;
      all = λ _. refl;
      moves = stood client client [] refl refl refl (λ h. h) refl (λ h. h) (λ h. h) (λ h. h) (λ _. refl) refl refl;
      timed = refl;
      ends = (λ h. h, refl);
    };
  }

  -- a step in which the host heard nothing
  pub alone : (old new : Client S) (before after : H) (turn : Turn) → before ≡ after → Works does 1 most now old new [] turn → Goes 1 old new before after turn
  alone old new before after turn same works = record { heard = []; taken = same; works = works }

  -- a turn and one more step
  pub goes_on : (n : ℕ) (a b c : Client S) (g h k : H) (turn : Turn) → Goes n a b g h More → Goes 1 b c h k turn → Goes (n + 1) a c g k turn
  goes_on n a b c g h k turn p q = record {
    heard = p.heard ++ q.heard;
    taken = FoldsTo-append _ g p.heard h q.heard k p.taken (subst (λ (n : ℕ). FoldsTo (λ host (e : Heard) next. takes host n e.0 e.1 next) h q.heard k) p.works.moves.connection q.taken);
    works = works_on does most now n a b c p.heard q.heard turn p.works q.works;
  }

  -- a turn that ended before its steps were over
  pub over : (n steps : ℕ) (old new : Client S) (before after : H) (turn : Turn) → n ≤ steps → (turn ≡ More → ⊥) → Goes n old new before after turn → Goes steps old new before after turn
  over n steps old new before after turn fits ended p = record {
    heard = p.heard;
    taken = p.taken;
    works = record {
      acts = p.works.acts;
      done = p.works.done;
      last = p.works.last;
      few = omega (arith, fits, p.works.few);
      all = λ h. absurd (ended h);
      moves = p.works.moves;
      timed = p.works.timed;
      ends = p.works.ends;
    };
  }

  -- a piece was read and handed to the host
  pub handed : (old mid new : Client S) (before after : H) (moved : Moved) (piece : List ℕ) (turn : Turn) → IsAsking old.stage → may_go_on moved ≡ true → has_byte piece ≡ true
      → does old.socket (Read moved piece) mid.socket → mid ≡ record old { socket = mid.socket; moved = now } → HandsOn takes piece mid new before after turn → Goes 1 old new before after turn
  handed old mid new before after moved piece turn asking more some read is h = record {
    heard = (piece, h.verdict) ∷ [];
    taken = (after, subst (λ n. takes before n piece h.verdict after) connection h.taken, refl);
    works = one_moved does most now old new ((piece, h.verdict) ∷ []) turn (Read moved piece) (subst (λ s. does old.socket (Read moved piece) s) (sym socket) read) some
        (subst (λ l. EndsWith l (Read moved piece ∷ [])) (sym (ap (λ t. last_of t new.stage) h.result ∙ nothing_last h.verdict)) (goes (Read moved piece) more))
        record {
          thrown = [];
          read = append-nil piece ∙ sym (append-nil (piece ++ []) ∙ append-nil piece);
          said = after_verdict h.verdict new.stage h.stage ∙ ap (λ l. l ++ (reply_of h.verdict ++ [])) (sym (nothing_said old.stage asking));
          decided = (inr refl, tt);
          asked = inl asking;
          asks = λ still. (asking, (is_undecided h.verdict new.stage h.stage still, tt));
          threw = inr refl;
          grows = λ still. held still ∙ ap (λ l. old.held + length l) (sym (append-nil piece));
          released = λ _ not. h.released not;
          stays = λ not. absurd (not asking);
          reply = λ not. reply h.verdict new.stage h.stage not ∙ ap (λ l. l ++ (reply_of h.verdict ++ [])) (sym (no_reply old.stage asking));
          drained = λ drains. absurd (asking_drains old.stage asking drains);
          awaiting = λ waits. absurd (awaiting_asks old.stage waits asking);
          connection = ap (λ (client : Client S). client.connection) h.rest ∙ connection;
          since = ap (λ (client : Client S). client.opened) h.rest ∙ ap (λ (client : Client S). client.opened) is;
        }
        moment
        (subst (λ t. Ends most old new ((piece, h.verdict) ∷ []) t) (sym h.result) (ended h.verdict h.stage));
  }
    where
      connection : mid.connection ≡ old.connection
      connection = ap (λ (client : Client S). client.connection) is

      socket : new.socket ≡ mid.socket
      socket = ap (λ (client : Client S). client.socket) h.rest

      moment : new.moved ≡ now
      moment = ap (λ (client : Client S). client.moved) h.rest ∙ ap (λ (client : Client S). client.moved) is

      held : IsAsking new.stage → new.held ≡ old.held + length piece
      held still = h.grows still ∙ ap (λ n. n + length piece) (ap (λ (client : Client S). client.held) is)

      nothing_last : (verdict : Verdict) → last_of (turn_after verdict) new.stage ≡ []
      nothing_last Undecided = refl
      nothing_last (Reply _) = refl
      nothing_last Later = refl
      nothing_last Gone = refl

      ended : (verdict : Verdict) → StageAfter verdict new.stage → Ends most old new ((piece, verdict) ∷ []) (turn_after verdict)
      ended Undecided stage = (λ drains. absurd (subst IsDraining stage drains), refl)
      ended (Reply bytes) stage = (λ drains. absurd (telling_drains new.stage stage.0 drains), refl)
      ended Later stage = (λ drains. absurd (subst IsDraining stage drains), refl)
      ended Gone stage = (subst IsDraining (sym stage) tt, refl)
