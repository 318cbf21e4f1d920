-- A smaller machine, by which the model is proved: places instead of instances, eras instead of epochs. Of an era that ended
-- there are left the one that lost its place as it ended, and, of the era just before the present one, who hasn't learned.
use Rattle.std.specs.Prelude.{ℕ, suc, ◌-◌, max, Bool, true, false, not, ◌&&◌, ◌||◌, if◌then◌else◌, nat_lt, ◌==◌, List, [], ◌∷◌}
use Rattle.am_stays.specs.Places.{Place, First, same}
use Rattle.am_stays.proofs.Phases.{next, last, Phase, Whole, Down, Unsettled, is_whole, is_up, is_settled, is_lacking}

pub record Facts : Type 0 where
  pub best : Place → ℕ  -- the greatest stamp held by the instance that has this place now
  pub outlived : ℕ  -- the greatest stamp that was dropped at a retirement
  pub era : ℕ  -- the present era
  pub changed : ℕ → Place  -- the place that another instance got as era g began
  pub lingers : ℕ → Bool  -- who lost its place as era g began is up, and goes by the era before g
  pub old : ℕ → ℕ  -- the greatest stamp that it holds
  pub knows : Place → Bool  -- who has this place goes by the present era; else by the one before, or, new, by none yet
  pub put : ℕ → Bool  -- the Puts of this write went out
  pub write_era : ℕ → ℕ  -- its operation's era
  pub ack : ℕ → Place → Bool  -- who had this place in that era ever acked it
  pub waiting : ℕ → Bool  -- it is neither acknowledged nor refused
  pub acknowledged : ℕ → Bool  -- the client was told that it was made
  pub sent : Place → ℕ → Bool  -- list e was cut at this place for the present incarnation of the unsettled one
  pub list : Place → ℕ → ℕ  -- what was held there then
  pub took : Place → ℕ → Bool  -- the unsettled one took it: the piece that has the key
  pub asked : ℕ → Bool  -- the Gets of request n went out
  pub request_era : ℕ → ℕ  -- its era
  pub before : ℕ → ℕ → Bool  -- write x was acknowledged when it came
  pub undecided : ℕ → Bool  -- it is open
  pub answer : ℕ → Place → ℕ → Bool  -- who had this place in that era ever answered it with this stamp

pub data Event : Type 0 where
  Request : (n lag : ℕ) → Event  -- at an instance that is so many eras behind
  Get_arrives : (n : ℕ) → (i : Place) → Event  -- at who had place i in its era
  Write : (n x : ℕ) → (spare : Place) → (v u : ℕ) → Event  -- the Answers of the two places but one decide request n
  Put_arrives : (x : ℕ) → (i : Place) → Event
  Reply : (x : ℕ) → (spare : Place) → Event  -- the Acks of the two places but one
  Close : (x : ℕ) → Event
  Refuse : (n : ℕ) → Event
  Accept : (g : ℕ) → (i : Place) → (s : ℕ) → Event  -- any other item, at who had place i in era g
  Retire : (g : ℕ) → (i : Place) → Event
  Cut : (i : Place) → (e : ℕ) → Event  -- list e is cut at place i
  State_arrives : (i : Place) → (e : ℕ) → Event  -- and taken
  Settle : (e : ℕ) → Event
  Learn : (i : Place) → Event
  Drop_out : (g : ℕ) → Event  -- who lost its place as era g began learns so, crashes or leaves
  Crash : (r : Place) → Event
  Restart : Event
  Replace : (r : Place) → (joins : Bool) → Event  -- another instance gets place r, as it joins or as who had it leaves
  Stop : Event  -- of all, and a start

abbrev pub grown : Bool → Place → ℕ → (Place → ℕ) → Place → ℕ
grown t i x best j = if t && same j i then max (best j) x else best j

abbrev pub grown_old : Bool → ℕ → ℕ → (ℕ → ℕ) → ℕ → ℕ
grown_old t g x old h = if t && (h == g) then max (old h) x else old h

abbrev pub acks : Bool → ℕ → Place → (ℕ → Place → Bool) → ℕ → Place → Bool
acks t x i ack y j = (t && ((y == x) && same j i)) || ack y j

abbrev pub says : Bool → ℕ → Place → ℕ → (ℕ → Place → ℕ → Bool) → ℕ → Place → ℕ → Bool
says t n i v answer m j u = (t && ((m == n) && (same j i && (u == v)))) || answer m j u

-- who had place i in era g is up and goes by era g: that is the present one and it knows so, or it lost its place as g ended,
-- or hasn't learned the next
abbrev pub goes_by : Phase → Facts → ℕ → Place → Bool
goes_by p w g i =
    if g == w.era
    then w.knows i && is_up p i
    else nat_lt g w.era && (if same i (w.changed (suc g)) then w.lingers (suc g) else (suc g == w.era) && not (w.knows i))

-- .. and is settled
abbrev pub serves : Phase → Facts → ℕ → Place → Bool
serves p w g i = goes_by p w g i && (is_settled p i || not (g == w.era))

-- who had place i in era g has it still, or has not lost it as g ended
abbrev pub stays : Facts → ℕ → Place → Bool
stays w g i = (g == w.era) || not (same i (w.changed (suc g)))

-- what who had place i in era g holds
abbrev pub best_of : Facts → ℕ → Place → ℕ
best_of w g i = if stays w g i then w.best i else w.old (suc g)

abbrev pub holds : Facts → Bool → ℕ → Place → ℕ → Facts
holds w t g i x = record w { best = grown (t && stays w g i) i x w.best; old = grown_old (t && not (stays w g i)) (suc g) x w.old }

abbrev pub retires : Facts → Bool → ℕ → Place → Facts
retires w t g i =
    record w {
      best = λ j. if (t && stays w g i) && same j i then 0 else w.best j;
      old = λ h. if (t && not (stays w g i)) && (h == suc g) then 0 else w.old h;
      outlived = if t then max w.outlived (best_of w g i) else w.outlived;
    }

abbrev pub may_write : Facts → ℕ → ℕ → Place → ℕ → ℕ → Bool
may_write w n x s v u = w.undecided n && (w.answer n (next s) v && (w.answer n (last s) u && not (w.put x)))

abbrev pub may_reply : Facts → ℕ → Place → Bool
may_reply w x s = w.waiting x && (w.ack x (next s) && w.ack x (last s))

abbrev pub may_cut : Phase → Facts → Place → ℕ → Bool
may_cut p w i e = w.knows i && (is_settled p i && not (w.sent i e))

abbrev pub may_come : Phase → Facts → Place → ℕ → Bool
may_come Whole w i e = false
may_come (Down r) w i e = false
may_come (Unsettled r) w i e = w.knows r && w.sent i e

abbrev pub may_return : Phase → Facts → Bool
may_return Whole w = false
may_return (Down r) w = true
may_return (Unsettled r) w = not (w.knows r)

abbrev pub requests : Facts → ℕ → ℕ → Facts
requests w n lag =
    record w {
      asked = λ m. (m == n) || w.asked m;
      request_era = λ m. if not (w.asked n) && (m == n) then w.era - lag else w.request_era m;
      before = λ m x. if not (w.asked n) && (m == n) then w.acknowledged x else w.before m x;
      undecided = λ m. (not (w.asked n) && (m == n)) || w.undecided m;
    }

abbrev pub writes : Facts → Bool → ℕ → ℕ → Facts
writes w t n x =
    record w {
      put = λ y. (t && (y == x)) || w.put y;
      write_era = λ y. if t && (y == x) then w.request_era n else w.write_era y;
      waiting = λ y. (t && (y == x)) || w.waiting y;
      undecided = λ m. not (t && (m == n)) && w.undecided m;
    }

abbrev pub replied : Facts → Bool → ℕ → Facts
replied w t x = record w { acknowledged = λ y. (t && (y == x)) || w.acknowledged y; waiting = λ y. not (t && (y == x)) && w.waiting y }

abbrev pub cuts : Facts → Bool → Place → ℕ → Facts
cuts w t i e =
    record w {
      sent = λ j f. (t && (same j i && (f == e))) || w.sent j f;
      list = λ j f. if t && (same j i && (f == e)) then w.best j else w.list j f;
    }

abbrev pub merges : Phase → Facts → Bool → Place → ℕ → Facts
merges p w t i e =
    record w {
      took = λ j f. (t && (same j i && (f == e))) || w.took j f;
      best = λ j. if t && is_lacking p j then max (w.best j) (w.list i e) else w.best j;
    }

abbrev pub crashes : Facts → Bool → Place → Facts
crashes w t r =
    record w {
      best = λ j. if t && same j r then 0 else w.best j;
      sent = λ j f. not t && w.sent j f;
      took = λ j f. not t && w.took j f;
    }

-- The unsettled one comes back with nothing. Lists are cut anew, and the open operations of the present era are refused.
abbrev pub restarts : Phase → Facts → Bool → Facts
restarts p w t =
    record w {
      best = λ j. if t && is_lacking p j then 0 else w.best j;
      knows = λ j. (t && is_lacking p j) || w.knows j;
      sent = λ j f. not t && w.sent j f;
      took = λ j f. not t && w.took j f;
      waiting = λ y. not (t && (w.write_era y == w.era)) && w.waiting y;
      undecided = λ m. not (t && (w.request_era m == w.era)) && w.undecided m;
    }

abbrev pub replaces : Facts → Bool → Place → Bool → Facts
replaces w t r joins =
    record w {
      era = if t then suc w.era else w.era;
      changed = λ g. if t && (g == suc w.era) then r else w.changed g;
      lingers = λ g. if t && (g == suc w.era) then joins else w.lingers g;
      old = λ g. if t && (g == suc w.era) then w.best r else w.old g;
      knows = λ j. if t then joins && same j r else w.knows j;
      best = λ j. if t && same j r then 0 else w.best j;
      sent = λ j f. not t && w.sent j f;
      took = λ j f. not t && w.took j f;
    }

abbrev pub stops : Facts → Bool → Facts
stops w t = record w { waiting = λ y. not t && w.waiting y; undecided = λ m. not t && w.undecided m; lingers = λ g. not t && w.lingers g }

abbrev pub facts_after : Phase → Facts → Event → Facts
facts_after p w (Request n lag) = requests w n lag
facts_after p w (Get_arrives n i) = record w { answer = says (w.asked n && serves p w (w.request_era n) i) n i (best_of w (w.request_era n) i) w.answer }
facts_after p w (Write n x s v u) = writes w (may_write w n x s v u) n x
facts_after p w (Put_arrives x i) =
    record (holds w (w.put x && goes_by p w (w.write_era x) i) (w.write_era x) i x) { ack = acks (w.put x && goes_by p w (w.write_era x) i) x i w.ack }
facts_after p w (Reply x s) = replied w (may_reply w x s) x
facts_after p w (Close x) = record w { waiting = λ y. not (y == x) && w.waiting y }
facts_after p w (Refuse n) = record w { undecided = λ m. not (m == n) && w.undecided m }
facts_after p w (Accept g i s) = holds w (goes_by p w g i) g i s
facts_after p w (Retire g i) = retires w (goes_by p w g i) g i
facts_after p w (Cut i e) = cuts w (may_cut p w i e) i e
facts_after p w (State_arrives i e) = merges p w (may_come p w i e) i e
facts_after p w (Settle e) = w
facts_after p w (Learn i) = record w { knows = λ j. same j i || w.knows j }
facts_after p w (Drop_out g) = record w { lingers = λ h. not (h == g) && w.lingers h }
facts_after p w (Crash r) = crashes w (is_whole p) r
facts_after p w Restart = restarts p w (may_return p w)
facts_after p w (Replace r joins) = replaces w (is_whole p) r joins
facts_after p w Stop = stops w (is_whole p)

abbrev pub crashed : Phase → Place → Phase
crashed Whole r = Down r
crashed (Down q) r = Down q
crashed (Unsettled q) r = Unsettled q

abbrev pub restarted : Phase → Phase
restarted Whole = Whole
restarted (Down r) = Unsettled r
restarted (Unsettled r) = Unsettled r

abbrev pub replaced : Phase → Place → Phase
replaced Whole r = Unsettled r
replaced (Down q) r = Down q
replaced (Unsettled q) r = Unsettled q

abbrev pub settled : Phase → Facts → ℕ → Phase
settled Whole w e = Whole
settled (Down r) w e = Down r
settled (Unsettled r) w e = if w.knows r && (w.took (next r) e && w.took (last r) e) then Whole else Unsettled r

abbrev pub phase_after : Phase → Facts → Event → Phase
phase_after p w (Settle e) = settled p w e
phase_after p w (Crash r) = crashed p r
phase_after p w Restart = restarted p
phase_after p w (Replace r joins) = replaced p r
phase_after p w _ = p

pub record World : Type 0 where
  pub phase : Phase
  pub facts : Facts

abbrev pub happens : World → Event → World
happens w e = record { phase = phase_after w.phase w.facts e; facts = facts_after w.phase w.facts e }

abbrev pub run : List Event → World → World
run [] w = w
run (e ∷ es) w = run es (happens w e)

-- All three are up and settled, whatever they hold; nothing was sent.
abbrev pub start : (Place → ℕ) → World
start best =
    record {
      phase = Whole;
      facts =
          record {
            best = best;
            outlived = 0;
            era = 0;
            changed = λ g. First;
            lingers = λ g. false;
            old = λ g. 0;
            knows = λ i. true;
            put = λ x. false;
            write_era = λ x. 0;
            ack = λ x i. false;
            waiting = λ x. false;
            acknowledged = λ x. false;
            sent = λ i e. false;
            list = λ i e. 0;
            took = λ i e. false;
            asked = λ n. false;
            request_era = λ n. 0;
            before = λ n x. false;
            undecided = λ n. false;
            answer = λ n i v. false;
          };
    }
