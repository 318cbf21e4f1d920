-- The trace of a scenario has the steps that its world made.
use Rattle.std.proofs.Common.{◌≡◌, ◌∙◌, ◌⊎◌, ℕ, ◌+◌, Bool, true, false, is_none, List, [], ◌∷◌, ◌++◌, MatchOption}
use Rattle.std.proofs.Common.{Option, None, Some, refl, sym, ap, inl, inr, subst}
use Rattle.am_event.specs.declared.event.Event.TheVariants as event
use Rattle.am_event.specs.declared.event.Event.{Event}
use Rattle.am_event.specs.declared.output.Output.{Output}
use Rattle.am_item.specs.declared.item.Item.{Item}
use Rattle.am_messages.specs.declared.name.MessageName.{MessageName}
use Rattle.am_ring.specs.Instances.{all_instances}
use Rattle.am_scenario.specs.Line.{command_of}
use Rattle.am_scenario.specs.declared.command.Command.{Command}
use Rattle.am_scenario.specs.declared.command.Command.TheVariants.{Skip, At, Tick, Open, Bytes, Call, Limits, Pump}
use Rattle.am_scenario.specs.declared.command.Command.TheVariants.{Hook, Drop, Deliver, Change, LearnAll}
use Rattle.am_wire.specs.Messages.{IsRefusalOf}
use Rattle.am_wire.specs.declared.message.Message.{Message}
use Rattle.am_wire.specs.declared.refusal.EncodeRefusal.{EncodeRefusal}
use Rattle.am_world.specs.Changes.{AreOpenedClean}
use Rattle.am_world.specs.Consistent.{Contents}
use Rattle.am_world.specs.Opening.{Opens}
use Rattle.am_world.specs.Refusal.{refusal}
use Rattle.am_world.specs.Runs.{Alone, ForgetsOver, Origin, first_watch, names_once}
use Rattle.am_world.specs.Shelves.{NeverCleaner, Shelf, shelf_at}
use Rattle.am_world.specs.Simulation.{fault_count, message_named, put_out, refused_by, roster_of}
use Rattle.am_world.specs.Stopping.{Either, Step}
use Rattle.am_world.proofs.RunTaken.{Steps, alone}
use Rattle.am_stream.specs.Link.{Answers, Carries}
use Rattle.am_report.specs.Said.{event_of, name_said}
use Rattle.am_play.specs.Playing.{Happens, Come, Gives, Calls, Obeys, Settles, Does, Plays, goes_on}
use Rattle.am_play.specs.Playing.{Hands, PassedOver, Reaches, Travels}
use Rattle.am_play.specs.Playing.{LearnsEach, LearnsInRounds, in_all_rounds, is_behind}
use Rattle.am_play.specs.Scenario.{Course, AloneUntilFault}
use Rattle.am_stream.specs.Streams.{KnownLines}
use Rattle.am_play.specs.Trace.{Happened, events, no_fault, outputs, shelves_after, unbuilt, unbuilt_after}
use Rattle.am_report.specs.Tries.{tries_in}
use Rattle.am_report.specs.declared.mail.Letter.{Letter}
use Rattle.am_report.specs.declared.ending.Played.{Played}
use Rattle.am_report.specs.declared.ending.Played.TheVariants.{BadLine}
use Rattle.am_play.specs.declared.play.Player.{Player}
use Rattle.am_report.specs.declared.report.Try.{Try}

-- from one world to the other, each event of the trace was a step of the world, which forgot its outputs before
abbrev pub Traced : Contents → List Happened → Contents → Type 0
Traced c [] c' = c' ≡ c
Traced c (h ∷ trace) c' =
    (before mid : Contents) × ForgetsOver c before × Step before h.event mid × (h.outputs ≡ put_out mid.state) ×
    (h.faults ≡ fault_count mid.state) × ((i : ℕ) → h.unbuilt i ≡ refused_by mid.state i) ×
    (h.shelves ≡ mid.shelves) × Traced mid trace c'

traced_more : (c : Contents) (first rest : List Happened) (mid c' : Contents) → Traced c first mid →
    Traced mid rest c' → Traced c (first ++ rest) c'
traced_more c [] rest mid c' same more = rw (← same) more
traced_more c (h ∷ first) rest mid c' (before, next, forgets, step, outs, faults, refused, shelves, traced) more =
    (before, next, forgets, step, outs, faults, refused, shelves, traced_more next first rest mid c' traced more)

-- a player that was changed beside its world has that world still
world_kept : {W : Type 0} (b : Bool) (mid p' forgotten : Player W) → forgotten.world ≡ mid.world →
    Either b (p' ≡ forgotten) (p' ≡ mid) → p'.world ≡ mid.world
world_kept {W} true mid p' forgotten same is = ap (λ (x : Player W). x.world) is ∙ same
world_kept {W} false mid p' forgotten same is = ap (λ (x : Player W). x.world) is

module _ {W : Type 0} (contents : W → Contents) where
  -- one thing happened after the other
  traced_then : (p mid p' : Player W) (first rest : List Happened) →
      Traced (contents p.world) first (contents mid.world) → Traced (contents mid.world) rest (contents p'.world) →
      Traced (contents p.world) (first ++ rest) (contents p'.world)
  traced_then p mid p' first rest =
      traced_more (contents p.world) first rest (contents mid.world) (contents p'.world)

  -- nothing happened
  traced_nothing : (p p' : Player W) (trace : List Happened) → p'.world ≡ p.world → trace ≡ [] →
      Traced (contents p.world) trace (contents p'.world)
  traced_nothing p p' trace same none = rw none (ap contents same)

  happens_traced : (p : Player W) (e : Event) (p' : Player W) (trace : List Happened) →
      Happens contents p e p' trace → Traced (contents p.world) trace (contents p'.world)
  happens_traced p e p' trace h =
      rw h.traced
      (contents h.before, contents p'.world, h.forgets, h.step, refl, refl, λ i. refl, refl, refl)

  come_traced : (carries : Carries) (c : ℕ) (p : Player W) (pieces : List (List ℕ)) (left : List ℕ)
      (p' : Player W) (trace : List Happened) →
      Come contents carries c p pieces left p' trace → Traced (contents p.world) trace (contents p'.world)
  come_traced carries c p [] left p' trace (over, same, nothing) =
      traced_nothing p p' trace (ap (λ (x : Player W). x.world) same) nothing
  come_traced carries c p (piece ∷ pieces) left p' trace (mid, first, rest, came, happens, both, more) =
      rw both (traced_then p mid p' first rest
      (happens_traced p (event.Bytes c p.moment piece) mid first happens)
      (by (goes_on contents c p (event.Bytes c p.moment piece) mid) (come_traced carries c mid pieces left p' rest)
      more))
    where
      by : (b : Bool) →
          (Come contents carries c mid pieces left p' rest → Traced (contents mid.world) rest (contents p'.world)) →
          Either b (Come contents carries c mid pieces left p' rest) ((pieces ≡ []) × (p' ≡ mid) × (rest ≡ [])) →
          Traced (contents mid.world) rest (contents p'.world)
      by true later come = later come
      by false later (none, same, nothing) = traced_nothing mid p' rest (ap (λ (x : Player W). x.world) same) nothing

  calls_traced : (carries : Carries) (c : ℕ) (p : Player W) (i : ℕ) (text : List ℕ) (p' : Player W)
      (trace : List Happened) → Calls contents carries c p i text p' trace →
      Traced (contents p.world) trace (contents p'.world)
  calls_traced carries c p i text p' trace (mid, first, rest, happens, both, more) =
      rw both (traced_then p mid p' first rest (happens_traced p (event.Open c i) mid first happens)
      (by (is_none (refusal (contents p.world).state (event.Open c i))) more))
    where
      by : (b : Bool) → Either b (Gives contents carries c mid text p' rest) ((p' ≡ mid) × (rest ≡ [])) →
          Traced (contents mid.world) rest (contents p'.world)
      by true gives = come_traced carries c mid gives.pieces gives.left p' rest gives.come
      by false (same, nothing) = traced_nothing mid p' rest (ap (λ (x : Player W). x.world) same) nothing

  -- a letter was handed over
  passed_traced : (p p' : Player W) (is_done : Bool) (trace : List Happened) →
      PassedOver p is_done p' trace → Traced (contents p.world) trace (contents p'.world)
  passed_traced p p' is_done trace (is, same, nothing) =
      traced_nothing p p' trace (ap (λ (x : Player W). x.world) same) nothing

  reaches_traced : (b : Bool) (name : MessageName) (p p' : Player W) (is_done : Bool) (trace : List Happened) →
      Either b (Reaches contents name p is_done p' trace) (PassedOver p is_done p' trace) →
      Traced (contents p.world) trace (contents p'.world)
  reaches_traced true name p p' is_done trace (happens, is) = happens_traced p _ p' trace happens
  reaches_traced false name p p' is_done trace passed = passed_traced p p' is_done trace passed

  over_traced : (carries : Carries) (o : Option Message) (name : MessageName) (p p' : Player W) (is_done : Bool)
      (trace : List Happened) →
      MatchOption o (PassedOver p is_done p' trace)
      (λ message. Travels contents carries message name p is_done p' trace
      ⊎ ((why : EncodeRefusal) × IsRefusalOf message why × PassedOver p is_done p' trace)) →
      Traced (contents p.world) trace (contents p'.world)
  over_traced carries None name p p' is_done trace passed = passed_traced p p' is_done trace passed
  over_traced carries (Some message) name p p' is_done trace (inl travels) =
      reaches_traced travels.came name p p' is_done trace travels.reaches
  over_traced carries (Some message) name p p' is_done trace (inr (why, refused, passed)) =
      passed_traced p p' is_done trace passed

  hands_traced : (carries : Carries) (handed : List (Letter × Bool)) (p p' : Player W) (trace : List Happened) →
      Hands contents carries handed p p' trace → Traced (contents p.world) trace (contents p'.world)
  hands_traced carries [] p p' trace (same, nothing) =
      traced_nothing p p' trace (ap (λ (x : Player W). x.world) same) nothing
  hands_traced carries (one ∷ more) p p' trace (mail, mid, first, rest, waits, over, both, later) =
      rw both (traced_then p mid p' first rest
      (over_traced carries (message_named one.0.name (contents p.world).state) one.0.name (record p { mail = mail }) mid
      one.1 first over)
      (hands_traced carries more mid p' rest later))

  -- instances learned a ring
  if_behind_traced : (b : Bool) (i : ℕ) (p p' : Player W) (trace : List Happened) →
      Either b (Happens contents p (event.Learn i) p' trace) ((p' ≡ p) × (trace ≡ [])) →
      Traced (contents p.world) trace (contents p'.world)
  if_behind_traced true i p p' trace happens = happens_traced p (event.Learn i) p' trace happens
  if_behind_traced false i p p' trace (same, nothing) =
      traced_nothing p p' trace (ap (λ (x : Player W). x.world) same) nothing

  each_traced : (numbers : List ℕ) (p p' : Player W) (trace : List Happened) →
      LearnsEach contents numbers p p' trace → Traced (contents p.world) trace (contents p'.world)
  each_traced [] p p' trace (same, nothing) =
      traced_nothing p p' trace (ap (λ (x : Player W). x.world) same) nothing
  each_traced (i ∷ numbers) p p' trace (mid, first, rest, learns, both, later) =
      rw both (traced_then p mid p' first rest
      (if_behind_traced (is_behind contents p i) i p mid first learns) (each_traced numbers mid p' rest later))

  rounds_traced : (rounds : List (List Happened)) (p p' : Player W) → LearnsInRounds contents rounds p p' →
      Traced (contents p.world) (in_all_rounds rounds) (contents p'.world)
  rounds_traced [] p p' same = traced_nothing p p' [] (ap (λ (x : Player W). x.world) same) refl
  rounds_traced (round ∷ rounds) p p' (mid, learns, later) =
      traced_then p mid p' round (in_all_rounds rounds)
      (each_traced all_instances p mid round learns) (rounds_traced rounds mid p' later)

  obeys_traced : (carries : Carries) (p : Player W) (command : Command) (p' : Player W) (trace : List Happened) →
      Obeys contents carries p command p' trace → Traced (contents p.world) trace (contents p'.world)
  obeys_traced carries p Skip p' trace (same, nothing) =
      traced_nothing p p' trace (ap (λ (x : Player W). x.world) same) nothing
  obeys_traced carries p Pump p' trace pumps =
      rw (ap (λ (x : Player W). x.world) pumps.kept)
      (hands_traced carries pumps.handed p pumps.until trace pumps.hands)
  obeys_traced carries p (At moment) p' trace (same, nothing) =
      traced_nothing p p' trace (ap (λ (x : Player W). x.world) same) nothing
  obeys_traced carries p (Hook status) p' trace (same, nothing) =
      traced_nothing p p' trace (ap (λ (x : Player W). x.world) same) nothing
  obeys_traced carries p (Drop way) p' trace (same, nothing) =
      traced_nothing p p' trace (ap (λ (x : Player W). x.world) same) nothing
  obeys_traced carries p (Deliver said) p' trace (mid, happens, forgets) =
      let taken = is_none (refusal (contents p.world).state (event.Deliver (name_said said) p.moment)) in
      rw (world_kept taken mid p' _ refl forgets)
      (happens_traced p _ mid trace happens)
  obeys_traced carries p (Change change) p' trace happens = happens_traced p (event_of change) p' trace happens
  obeys_traced carries p LearnAll p' trace learns =
      rw learns.traced (rounds_traced learns.rounds p p' learns.learns)
  obeys_traced carries p Tick p' trace happens = happens_traced p (event.Tick p.moment) p' trace happens
  obeys_traced carries p (Limits tenant limits) p' trace happens =
      happens_traced p (event.Limits tenant limits) p' trace happens
  obeys_traced carries p (Open name i) p' trace (c, place, happens) = happens_traced _ _ p' trace happens
  obeys_traced carries p (Bytes name text) p' trace (c, place, gives) =
      come_traced carries c _ gives.pieces gives.left p' trace gives.come
  obeys_traced carries p (Call name i request) p' trace (c, place, calls) =
      calls_traced carries c _ _ _ p' trace calls

  settles_traced : (answers : Answers) (p : Player W) (tries : List Try) (p' : Player W) (trace : List Happened) →
      Settles contents answers p tries p' trace → Traced (contents p.world) trace (contents p'.world)
  settles_traced answers p [] p' trace (same, nothing) =
      traced_nothing p p' trace (ap (λ (x : Player W). x.world) same) nothing
  settles_traced answers p (awaited ∷ tries) p' trace (status, mid, first, rest, answered, happens, both, more) =
      rw both (traced_then p mid p' first rest (happens_traced p _ mid first happens)
      (settles_traced answers mid tries p' rest more))

  does_traced : (carries : Carries) (answers : Answers) (p : Player W) (command : Command) (p' : Player W)
      (trace : List Happened) → Does contents carries answers p command p' trace →
      Traced (contents p.world) trace (contents p'.world)
  does_traced carries answers p command p' trace (mid, first, rest, obeys, both, more) =
      rw both (traced_then p mid p' first rest (obeys_traced carries p command mid first obeys)
      (settles_traced answers mid (tries_in (outputs first)) p' rest more))

  plays_traced : (carries : Carries) (answers : Answers) (n : ℕ) (p : Player W) (lines : List (List ℕ))
      (played : Played) (trace : List Happened) (p' : Player W) →
      Plays contents carries answers n p lines played trace p' → Traced (contents p.world) trace (contents p'.world)
  plays_traced carries answers n p [] played trace p' (all, nothing, same) =
      traced_nothing p p' trace (ap (λ (x : Player W). x.world) same) nothing
  plays_traced carries answers n p (line ∷ lines) played trace p' plays =
      by (command_of line) (λ mid rest more. plays_traced carries answers (n + 1) mid lines played rest p' more) plays
    where
      by : (o : Option Command) →
          ((mid : Player W) (rest : List Happened) → Plays contents carries answers (n + 1) mid lines played rest p' →
          Traced (contents mid.world) rest (contents p'.world)) →
          MatchOption o ((played ≡ BadLine n) × (trace ≡ []) × (p' ≡ p))
          (λ command. (mid : Player W) × (first rest : List Happened) ×
          Does contents carries answers p command mid first × (trace ≡ first ++ rest) ×
          Plays contents carries answers (n + 1) mid lines played rest p') →
          Traced (contents p.world) trace (contents p'.world)
      by None later (bad, nothing, same) = traced_nothing p p' trace (ap (λ (x : Player W). x.world) same) nothing
      by (Some command) later (mid, first, rest, does, both, more) =
          rw both (traced_then p mid p' first rest
          (does_traced carries answers p command mid first does) (later mid rest more))

-- the steps of a trace
traced_steps : (c : Contents) (trace : List Happened) (c' : Contents) → Traced c trace c' →
    Steps c (events trace) (outputs trace) c'
traced_steps c [] c' same = (same, refl)
traced_steps c (h ∷ trace) c' (before, mid, forgets, step, outs, faults, refused, shelves, traced) =
    (before, mid, outputs trace, forgets, step, ap (λ os. os ++ outputs trace) outs, traced_steps mid trace c' traced)

-- what was refused at its end
traced_unbuilt : (c : Contents) (trace : List Happened) (c' : Contents) (before : ℕ → List (List ℕ)) →
    Traced c trace c' → ((i : ℕ) → before i ≡ refused_by c.state i) →
    (i : ℕ) → unbuilt_after before trace i ≡ refused_by c'.state i
traced_unbuilt c [] c' before same is i = is i ∙ ap (λ (x : Contents). refused_by x.state i) (sym same)
traced_unbuilt c (h ∷ trace) c' before (other, mid, forgets, step, outs, faults, refused, shelves, traced) is i =
    traced_unbuilt mid trace c' h.unbuilt traced refused i

-- what was seen of the stores then
traced_shelves : (c : Contents) (trace : List Happened) (c' : Contents) (before : List Shelf) → Traced c trace c' →
    before ≡ c.shelves → shelves_after before trace ≡ c'.shelves
traced_shelves c [] c' before same is = is ∙ ap (λ (x : Contents). x.shelves) (sym same)
traced_shelves c (h ∷ trace) c' before (other, mid, forgets, step, outs, faults, refused, shelves, traced) is =
    traced_shelves mid trace c' h.shelves traced shelves

-- no disk returns again what was written, once it did not
traced_clean : (c : Contents) (trace : List Happened) (c' : Contents) → Traced c trace c' →
    NeverCleaner c.shelves c'.shelves
traced_clean c [] c' same i clean = ap (λ (x : Contents). (shelf_at i x.shelves).is_clean) (sym same) ∙ clean
traced_clean c (h ∷ trace) c' (before, mid, forgets, step, outs, faults, refused, shelves, traced) i clean =
    sym (ap (λ (seen : List Shelf). (shelf_at i seen).is_clean) forgets.shelves)
    ∙ step.clean i (traced_clean mid trace c' traced i clean)

-- what is said of a tenant depends on what was refused at each number alone
alone_by : (origin : Origin) (rows : List ℕ → ℕ → List Item) (es : List Event) (refused other : ℕ → List (List ℕ))
    (outs : List Output) → ((i : ℕ) → refused i ≡ other i) → Alone origin rows es other outs →
    Alone origin rows es refused outs
alone_by origin rows es refused other outs same alone = record {
  tenants = λ t built. alone.tenants t (λ i. rw (same i) at (built i));
  front = alone.front;
  owned = alone.owned;
}

-- each tenant is as if alone, where no fault came, each store that was opened is in memory or its disk has returned
-- what was written, and no connection's name was used twice
traced_alone : (origin : Origin) (rows : List ℕ → ℕ → List Item) (c : Contents) (trace : List Happened)
    (c' : Contents) → Opens origin rows c → Traced c trace c' → fault_count c'.state ≡ 0 →
    AreOpenedClean (roster_of c.state) (events trace) c'.shelves → names_once (first_watch origin) (events trace) →
    Alone origin rows (events trace) (unbuilt trace) (outputs trace)
traced_alone origin rows c trace c' opens traced none clean once =
    alone_by origin rows (events trace) (unbuilt trace) (refused_by c'.state) (outputs trace)
    (traced_unbuilt c trace c' (λ i. []) traced (λ i. sym (opens.refused i)))
    (alone origin rows c (events trace) (outputs trace) c' opens (traced_steps c trace c' traced) none clean once)

-- up to the cut, and from there on
traced_cut : (c : Contents) (first rest : List Happened) (c' : Contents) → Traced c (first ++ rest) c' →
    (mid : Contents) × Traced c first mid × Traced mid rest c'
traced_cut c [] rest c' traced = (c, refl, traced)
traced_cut c (h ∷ first) rest c' (before, next, forgets, step, outs, faults, refused, shelves, traced) =
    let later = traced_cut next first rest c' traced in
    (later.0, (before, next, forgets, step, outs, faults, refused, shelves, later.1), later.2)

traced_no_fault : (c : Contents) (trace : List Happened) (c' : Contents) → Traced c trace c' →
    fault_count c.state ≡ 0 → no_fault trace → fault_count c'.state ≡ 0
traced_no_fault c [] c' same none nowhere = ap (λ (x : Contents). fault_count x.state) same ∙ none
traced_no_fault c (h ∷ trace) c' (before, next, forgets, step, outs, faults, refused, shelves, traced) none nowhere =
    traced_no_fault next trace c' traced (sym faults ∙ nowhere.0) nowhere.1

module _ {W : Type 0} (contents : W → Contents) where
  pub course_alone : (carries : Carries) (answers : Answers) (origin : Origin)
      (rows : List ℕ → ℕ → List Item) (p : Player W) (known : KnownLines) (played : Played) (trace : List Happened)
      (p' : Player W) → Opens origin rows (contents p.world) →
      Course contents carries answers p known played trace p' → fault_count (contents p'.world).state ≡ 0 →
      AreOpenedClean (roster_of (contents p.world).state) (events trace) (contents p'.world).shelves →
      names_once (first_watch origin) (events trace) → Alone origin rows (events trace) (unbuilt trace) (outputs trace)
  course_alone carries answers origin rows p known played trace p' opens course =
      traced_alone origin rows (contents p.world) trace (contents p'.world) opens
      (plays_traced contents carries answers 1 p course.lines played trace p' course.plays)

  -- each tenant is as if alone until a fault
  pub course_until_fault : (carries : Carries) (answers : Answers) (origin : Origin)
      (rows : List ℕ → ℕ → List Item) (p : Player W) (known : KnownLines) (played : Played) (trace : List Happened)
      (p' : Player W) → Opens origin rows (contents p.world) →
      Course contents carries answers p known played trace p' →
      AloneUntilFault origin rows (contents p.world) trace
  course_until_fault carries answers origin rows p known played trace p' opens course first rest cut nowhere clean =
      let until = traced_cut (contents p.world) first rest (contents p'.world)
      (rw cut at (plays_traced contents carries answers 1 p course.lines played trace p' course.plays)) in
      traced_alone origin rows (contents p.world) first until.0 opens until.1
      (traced_no_fault (contents p.world) first until.0 until.1 opens.faults nowhere)
      (subst (λ (seen : List Shelf). AreOpenedClean (roster_of (contents p.world).state) (events first) seen)
      (traced_shelves (contents p.world) first until.0 (contents p.world).shelves until.1 refl) clean)

  -- a store whose disk has returned what was written by the end had done so by then too
  pub course_clean : (carries : Carries) (answers : Answers) (p : Player W) (known : KnownLines) (played : Played)
      (trace : List Happened) (p' : Player W) → Course contents carries answers p known played trace p' →
      (first rest : List Happened) → trace ≡ first ++ rest →
      NeverCleaner (shelves_after (contents p.world).shelves first) (contents p'.world).shelves
  course_clean carries answers p known played trace p' course first rest cut =
      let until = traced_cut (contents p.world) first rest (contents p'.world)
      (rw cut at (plays_traced contents carries answers 1 p course.lines played trace p' course.plays)) in
      subst (λ (seen : List Shelf). NeverCleaner seen (contents p'.world).shelves)
      (sym (traced_shelves (contents p.world) first until.0 (contents p.world).shelves until.1 refl))
      (traced_clean until.0 rest (contents p'.world) until.2)
