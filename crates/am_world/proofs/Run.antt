-- From single steps to whole runs. No kind of event is named here.
use Rattle.std.proofs.Common.{◌&&◌, ◌≡◌, ◌≢◌, ◌⊎◌, inl, inr, ◌∙◌, ℕ, Bool, true, false, is_some, List, [], ◌∷◌}
use Rattle.std.proofs.Common.{◌++◌, refl, sym, ap, arith, flat_map}
use Rattle.std.proofs.Math.Seq.{drop-append_seam, take-append_seam}
use Rattle.std.proofs.lemmas.List.{append-nil, append_assoc}
use Rattle.std.proofs.lemmas.List.Elements.{Contains-append_left, filter-append}
use Rattle.std.proofs.lemmas.List.Folds.{list_all-append}
use Rattle.am_cluster.specs.Patterns.{patterns_of_request, patterns_open}
use Rattle.am_cluster.proofs.Open.{decided_open}
use Rattle.am_cluster.specs.Courses.{after, after_all, fits, fits_all, told, told_all}
use Rattle.am_cluster.specs.Events.{Event, Output}
use Rattle.am_cluster.specs.Happening.{Happening}
use Rattle.am_cluster.specs.Outputs.{are_owned, front_outputs, front_told, front_told_all, is_front, is_tenant}
use Rattle.am_cluster.specs.Outputs.{outputs_of, owner}
use Rattle.am_cluster.specs.PrivateCluster.{PrivateCluster}
use Rattle.am_cluster.specs.Roster.{AreInstancesUp}
use Rattle.am_cluster.specs.View.{Watch, adds, names_once, view, watch, watch_all}
use Rattle.am_ring.specs.Instances.{all_instances}
use Rattle.am_world.specs.Changes.{AreOpenedClean, roster_then}
use Rattle.am_world.specs.Consistent.{Contents}
use Rattle.am_world.specs.Places.{AreBuilt, KeepRefused}
use Rattle.am_world.specs.Runs.{Headline, Prefixes, Run, patterns_asked}
use Rattle.am_world.specs.Shelves.{NeverCleaner, shelf_at}
use Rattle.am_world.specs.Simulation.{AreAsked, Follows, StandsOver, fault_count, put_out, refused_by, roster_of}
use Rattle.am_world.specs.Steps.{IsAsAlone, IsRefusedAlone, Kept, Later}
use Rattle.am_world.specs.Stopping.{Faulted, Step}
use Rattle.am_world.proofs.Built.{built_among, built_before, builds_more, keep_equal, keep_then, none_refused}
use Rattle.am_world.proofs.Rosters.{IsSound, clean_before, clean_same, sound_same, sound_then}
use Rattle.am_world.proofs.RunLater.{later_after, later_all}
use Rattle.am_world.proofs.RunPatterns.{open_then}
use Rattle.am_world.proofs.AloneTold.{later_itself}

-- ---- happenings one after the other

told_all-append : (p : PrivateCluster) (xs ys : List Happening)
    → told_all p (xs ++ ys) ≡ told_all p xs ++ told_all (after_all p xs) ys
told_all-append p [] ys = refl
told_all-append p (x ∷ xs) ys =
    ap (λ zs. told p x ++ zs) (told_all-append (after p x) xs ys)
    ∙ sym (append_assoc (told p x) (told_all (after p x) xs) (told_all (after_all (after p x) xs) ys))

after_all-append : (p : PrivateCluster) (xs ys : List Happening)
    → after_all p (xs ++ ys) ≡ after_all (after_all p xs) ys
after_all-append p [] ys = refl
after_all-append p (x ∷ xs) ys = after_all-append (after p x) xs ys

-- counts that fit one after the other
both_fit : (a b c : Bool) → (a && b) ≡ true → (b ≡ true → c ≡ true) → (a && c) ≡ true
both_fit true b c h more = more h
both_fit false b c h more = h

fits_all-append : (p : PrivateCluster) (xs ys : List Happening) → fits_all p xs ≡ true
    → fits_all (after_all p xs) ys ≡ true → fits_all p (xs ++ ys) ≡ true
fits_all-append p [] ys fit more = more
fits_all-append p (x ∷ xs) ys fit more =
    both_fit (fits p x) (fits_all (after p x) xs) _ fit (λ rest. fits_all-append (after p x) xs ys rest more)

-- ---- steps one after the other

-- a fault is counted for good
faulted_counts : (c : Contents) (e : Event) (c' : Contents) → Faulted c e c' → fault_count c'.state ≢ 0
faulted_counts c e c' (inl f) none = let counted = f.counted in omega arith
faulted_counts c e c' (inr f) none = let counted = f.counted in omega arith

faults_by : (c : Contents) (e : Event) (c' : Contents) → Kept c e c' ⊎ Faulted c e c' → fault_count c.state ≢ 0
    → fault_count c'.state ≢ 0
faults_by c e c' (inl kept) some = λ none. some (sym kept.faults ∙ none)
faults_by c e c' (inr faulted) some = faulted_counts c e c' faulted

pub step_faults : (c : Contents) (e : Event) (c' : Contents) → Step c e c' → fault_count c.state ≢ 0
    → fault_count c'.state ≢ 0
step_faults c e c' step = faults_by c e c' step.ends

faults_stay : (c : Contents) (es : List Event) (c' : Contents) → Run c es c' → fault_count c.state ≢ 0
    → fault_count c'.state ≢ 0
faults_stay c [] c' run some = λ none. some (sym (ap (λ (x : Contents). fault_count x.state) run) ∙ none)
faults_stay c (e ∷ es) c' (mid, step, run) some = faults_stay mid es c' run (step_faults c e mid step some)

-- a step met no fault where none was counted later on
kept_by : (c : Contents) (e : Event) (mid c' : Contents) → Kept c e mid ⊎ Faulted c e mid
    → (fault_count mid.state ≢ 0 → fault_count c'.state ≢ 0) → fault_count c'.state ≡ 0 → Kept c e mid
kept_by c e mid c' (inl kept) stay none = kept
kept_by c e mid c' (inr faulted) stay none = absurd (stay (faulted_counts c e mid faulted) none)

pub step_kept : (c : Contents) (e : Event) (mid c' : Contents) → Step c e mid
    → (fault_count mid.state ≢ 0 → fault_count c'.state ≢ 0) → fault_count c'.state ≡ 0 → Kept c e mid
step_kept c e mid c' step = kept_by c e mid c' step.ends

-- one event more
pub run_more : (c : Contents) (es : List Event) (mid : Contents) (e : Event) (c' : Contents) → Run c es mid
    → Step mid e c' → Run c (es ++ e ∷ []) c'
run_more c [] mid e c' run step = (c', rw run at step, refl)
run_more c (x ∷ es) mid e c' (next, first, run) step = (next, first, run_more next es mid e c' run step)

-- no pattern that was refused is forgotten
refused_by_end : (c : Contents) (e : Event) (c' : Contents) → Kept c e c' ⊎ Faulted c e c'
    → KeepRefused c.state.instances c'.state.instances
refused_by_end c e c' (inl kept) = λ i. builds_more c.state c'.state e i kept.outs (kept.refused i)
refused_by_end c e c' (inr (inl some)) = some.refused
refused_by_end c e c' (inr (inr nothing)) = keep_equal _ _ nothing.instances

pub step_refused : (c : Contents) (e : Event) (c' : Contents) → Step c e c'
    → KeepRefused c.state.instances c'.state.instances
step_refused c e c' step = refused_by_end c e c' step.ends

run_refused : (c : Contents) (es : List Event) (c' : Contents) → Run c es c'
    → KeepRefused c.state.instances c'.state.instances
run_refused c [] c' run = keep_equal _ _ (ap (λ (x : Contents). x.state.instances) run)
run_refused c (e ∷ es) c' (mid, step, run) =
    keep_then _ _ _ (step_refused c e mid step) (run_refused mid es c' run)

-- no disk returns again what was written, once it did not
run_clean : (c : Contents) (es : List Event) (c' : Contents) → Run c es c' → NeverCleaner c.shelves c'.shelves
run_clean c [] c' run i clean = ap (λ (x : Contents). (shelf_at i x.shelves).is_clean) (sym run) ∙ clean
run_clean c (e ∷ es) c' (mid, step, run) i clean = step.clean i (run_clean mid es c' run i clean)

-- ---- the front

-- what the front says at events without fault, and that all they put out, which is this, is somebody's
pub record Watched (es : List Event) (outs : List Output) (c' : Contents) (v : Watch) : Type 0 where
  pub front : (u : Watch) → Later (watch_all v es) u → front_outputs u outs ≡ front_told_all v es
  pub owned : (u : Watch) → Later (watch_all v es) u → are_owned u outs ≡ true
  pub follows : Follows (watch_all v es) c'.state
  pub asked : AreAsked (watch_all v es) c'.state

pub watched_more : (c : Contents) (e : Event) (mid : Contents) (es : List Event) (outs : List Output) (c' : Contents)
    (v : Watch) (kept : Kept c e mid) → Follows v c.state → AreAsked v c.state → names_once (watch v e) es
    → Watched es outs c' (watch v e) → Watched (e ∷ es) (kept.outs ++ outs) c' v
watched_more c e mid es outs c' v kept follows asked once rest = record {
  front = λ u later.
      filter-append (λ output. is_front (owner u output)) kept.outs outs
      ∙ ap (λ os. os ++ front_outputs u outs)
      (kept.front v follows asked u (later_after (watch v e) _ u (later_all (watch v e) es once) later))
      ∙ ap (λ os. front_told v e ++ os) (rest.front u later);
  owned = λ u later.
      list_all-append (λ output. is_some (owner u output)) kept.outs outs
      ∙ rw (
        kept.owned v follows asked u (later_after (watch v e) _ u (later_all (watch v e) es once) later),
        rest.owned u later,
      ) refl;
  follows = rest.follows;
  asked = rest.asked;
}

pub watched : (c : Contents) (es : List Event) (c' : Contents) (v : Watch) → Run c es c' → fault_count c'.state ≡ 0
    → AreOpenedClean (roster_of c.state) es c'.shelves → Follows v c.state → AreAsked v c.state → names_once v es
    → (outs : List Output) × (put_out c'.state ≡ put_out c.state ++ outs) × Watched es outs c' v
watched c [] c' v run none clean follows asked once = rw run (
  [],
  sym (append-nil (put_out c.state)),
  record { front = λ u later. refl; owned = λ u later. refl; follows = follows; asked = asked },
)
watched c (e ∷ es) c' v (mid, step, run) none clean follows asked once =
    let kept = step_kept c e mid c' step (faults_stay mid es c' run) none in
    let opens = clean_before (roster_of c.state) e mid.shelves c'.shelves (run_clean mid es c' run) clean.0 in
    let later = clean_same es (roster_of mid.state) (roster_then e (roster_of c.state)) c'.shelves kept.roster
    clean.1 in
    let rest = watched mid es c' (watch v e) run none later (kept.follows v follows)
    (kept.asked opens v follows once.0 asked) once.1 in (
      kept.outs ++ rest.0,
      rest.1 ∙ ap (λ os. os ++ rest.0) kept.appended ∙ append_assoc (put_out c.state) kept.outs rest.0,
      watched_more c e mid es rest.0 c' v kept follows asked once.1 rest.2,
    )

-- ---- a tenant

-- what events without fault did for a tenant: of what they put out its own is the private cluster's
pub record Ran (es : List Event) (outs : List Output) (c' : Contents) (t : List ℕ) (v : Watch) (p : PrivateCluster) :
    Type 0 where
  pub told : (u : Watch) → Later (watch_all v es) u → outputs_of t u outs ≡ told_all p (view t v es)
  pub fits : fits_all p (view t v es) ≡ true
  pub stands : StandsOver t c' (after_all p (view t v es))

-- what they need
pub record Given (t : List ℕ) (v : Watch) (p : PrivateCluster) (c : Contents) (es : List Event) (c' : Contents) :
    Type 0 where
  pub follows : Follows v c.state
  pub asked : AreAsked v c.state
  pub once : names_once v es
  pub sound : IsSound (roster_of c.state)
  pub clean : AreOpenedClean (roster_of c.state) es c'.shelves
  pub stands : StandsOver t c p
  pub built : AreBuilt (refused_by c'.state) (patterns_open p ++ patterns_asked (view t v es))

-- no request was refused for a pattern of the tenant's, where none that is open was refused a build
none_refused_alone : (t : List ℕ) (v : Watch) (p : PrivateCluster) (c : Contents) (e : Event) (outs : List Output)
    (c' : Contents) → AreInstancesUp p.roster → AreBuilt (refused_by c'.state) (patterns_open p)
    → IsRefusedAlone t v p c e outs c' → ⊥
none_refused_alone t v p c e outs c' up built alone =
    let i : ℕ = alone.deciding.here.instance in
    let texts : List (List ℕ) = patterns_of_request alone.deciding.operation.request in
    none_refused (refused_by c'.state i) texts
    (built_among (refused_by c'.state) texts (patterns_open p)
    (decided_open p alone.happening alone.deciding up alone.decides) built i)
    alone.refused.own

-- what a tenant gets of the first event
pub first_alone : (t : List ℕ) (v : Watch) (p : PrivateCluster) (c : Contents) (e : Event) (mid : Contents)
    (es : List Event) (c' : Contents) (kept : Kept c e mid) → Given t v p c (e ∷ es) c'
    → NeverCleaner mid.shelves c'.shelves → KeepRefused mid.state.instances c'.state.instances
    → IsAsAlone t v p e kept.outs mid
first_alone t v p c e mid es c' kept given never keep =
    elim (kept.tenants (clean_before (roster_of c.state) e mid.shelves c'.shelves never given.clean.0) t v p
    (record { follows = given.follows; asked = given.asked; stands = given.stands })) [
      | inl alone ↦ alone
      | inr refused ↦ absurd (none_refused_alone t v p c e kept.outs mid up built refused)
    ]
  where
    up : AreInstancesUp p.roster
    up i is = given.sound.up i (given.stands.stands.roster.up i ∙ is)

    built : AreBuilt (refused_by mid.state) (patterns_open p)
    built =
        built_before mid.state.instances c'.state.instances (patterns_open p) keep
        (built_among (refused_by c'.state) (patterns_open p) (patterns_open p ++ patterns_asked (view t v (e ∷ es)))
        (Contains-append_left (patterns_open p) (patterns_asked (view t v (e ∷ es)))) given.built)

-- what the others need
pub rest_given : (t : List ℕ) (v : Watch) (p : PrivateCluster) (c : Contents) (e : Event) (mid : Contents)
    (es : List Event) (c' : Contents) → Given t v p c (e ∷ es) c' → NeverCleaner mid.shelves c'.shelves
    → (kept : Kept c e mid) → IsAsAlone t v p e kept.outs mid
    → Given t (watch v e) (after_all p (adds t v e)) mid es c'
rest_given t v p c e mid es c' given never kept one = record {
  follows = kept.follows v given.follows;
  asked = kept.asked (clean_before (roster_of c.state) e mid.shelves c'.shelves never given.clean.0) v given.follows
      given.once.0 given.asked;
  once = given.once.1;
  sound = sound_same (roster_of mid.state) (roster_then e (roster_of c.state)) kept.roster
      (sound_then e (roster_of c.state) given.sound);
  clean = clean_same es (roster_of mid.state) (roster_then e (roster_of c.state)) c'.shelves kept.roster given.clean.1;
  stands = one.stands;
  built = built_among (refused_by c'.state) _ _ (open_then p (adds t v e) (view t (watch v e) es)) given.built;
}

pub ran_more : (c : Contents) (e : Event) (mid : Contents) (es : List Event) (outs : List Output) (c' : Contents)
    (t : List ℕ) (v : Watch) (p : PrivateCluster) (kept : Kept c e mid) → IsAsAlone t v p e kept.outs mid
    → names_once (watch v e) es → Ran es outs c' t (watch v e) (after_all p (adds t v e))
    → Ran (e ∷ es) (kept.outs ++ outs) c' t v p
ran_more c e mid es outs c' t v p kept one once rest = record {
  told = λ u later.
      filter-append (λ output. is_tenant t (owner u output)) kept.outs outs
      ∙ ap (λ os. os ++ outputs_of t u outs)
      (one.told u (later_after (watch v e) _ u (later_all (watch v e) es once) later))
      ∙ ap (λ os. told_all p (adds t v e) ++ os) (rest.told u later)
      ∙ sym (told_all-append p (adds t v e) (view t (watch v e) es));
  fits = fits_all-append p (adds t v e) (view t (watch v e) es) one.fits rest.fits;
  stands = rw (after_all-append p (adds t v e) (view t (watch v e) es)) rest.stands;
}

pub ran : (c : Contents) (es : List Event) (c' : Contents) (t : List ℕ) (v : Watch) (p : PrivateCluster) → Run c es c'
    → fault_count c'.state ≡ 0 → Given t v p c es c'
    → (outs : List Output) × (put_out c'.state ≡ put_out c.state ++ outs) × Ran es outs c' t v p
ran c [] c' t v p run none given = rw run (
  [],
  sym (append-nil (put_out c.state)),
  record { told = λ u later. refl; fits = refl; stands = given.stands },
)
ran c (e ∷ es) c' t v p (mid, step, run) none given =
    let kept = step_kept c e mid c' step (faults_stay mid es c' run) none in
    let never = run_clean mid es c' run in
    let one = first_alone t v p c e mid es c' kept given never (run_refused mid es c' run) in
    let later = rest_given t v p c e mid es c' given never kept one in
    let rest = ran mid es c' t (watch v e) (after_all p (adds t v e)) run none later in (
      kept.outs ++ rest.0,
      rest.1 ∙ ap (λ os. os ++ rest.0) kept.appended ∙ append_assoc (put_out c.state) kept.outs rest.0,
      ran_more c e mid es rest.0 c' t v p kept one given.once.1 rest.2,
    )

-- a run of steps is the headline's
pub headline : (c : Contents) (es : List Event) (c' : Contents) → IsSound (roster_of c.state) → Run c es c'
    → Headline c es c'
headline c es c' sound run none clean t v p given =
    let here : Later (watch_all v es) (watch_all v es) = later_itself (watch_all v es) in
    let s = watched c es c' v run none clean given.follows given.asked given.once in
    let r = ran c es c' t v p run none (record {
      follows = given.follows;
      asked = given.asked;
      once = given.once;
      sound = sound;
      clean = clean;
      stands = given.stands;
      built = given.built;
    }) in
    record {
      told = rw (r.1, drop-append_seam (put_out c.state) r.0) (r.2.told (watch_all v es) here);
      front = rw (s.1, drop-append_seam (put_out c.state) s.0) (s.2.front (watch_all v es) here);
      owned = rw (s.1, drop-append_seam (put_out c.state) s.0) (s.2.owned (watch_all v es) here);
      stay = rw (r.1, take-append_seam (put_out c.state) r.0) refl;
      fits = r.2.fits;
      follows = s.2.follows;
      asked = s.2.asked;
      stands = r.2.stands;
    }

-- ---- a run up to its first fault

-- what was put out stays
abbrev Adds : Contents → Contents → Type 0
Adds c c' = (outs : List Output) × (put_out c'.state ≡ put_out c.state ++ outs)

end_adds : (c : Contents) (e : Event) (c' : Contents) → Kept c e c' ⊎ Faulted c e c' → Adds c c'
end_adds c e c' (inl kept) = (kept.outs, kept.appended)
end_adds c e c' (inr (inl some)) = (flat_map some.told all_instances, some.appended)
end_adds c e c' (inr (inr nothing)) = ([], nothing.outputs ∙ sym (append-nil (put_out c.state)))

run_adds : (c : Contents) (es : List Event) (c' : Contents) → Run c es c' → Adds c c'
run_adds c [] c' run =
    ([], ap (λ (x : Contents). put_out x.state) run ∙ sym (append-nil (put_out c.state)))
run_adds c (e ∷ es) c' (mid, step, run) =
    let first = end_adds c e mid step.ends in
    let later = run_adds mid es c' run in (
      first.0 ++ later.0,
      later.1 ∙ ap (λ os. os ++ later.0) first.1 ∙ append_assoc (put_out c.state) first.0 later.0,
    )

-- a run that met a fault has a first one
record BreaksAt (c : Contents) (es : List Event) (c' : Contents) : Type 0 where
  before : List Event
  event : Event
  after : List Event
  events : es ≡ before ++ event ∷ after
  mid : Contents
  unbroken : fault_count mid.state ≡ fault_count c.state
  run : Run c before mid
  stopped : Contents
  fault : Faulted mid event stopped
  clean : NeverCleaner mid.shelves stopped.shelves
  rest : Run stopped after c'

abbrev Breaks : Contents → List Event → Contents → Type 0
Breaks c es c' = (fault_count c'.state ≡ fault_count c.state) ⊎ BreaksAt c es c'

breaks_later : (c : Contents) (e : Event) (es : List Event) (mid c' : Contents) → Step c e mid → (kept : Kept c e mid)
    → Breaks mid es c' → Breaks c (e ∷ es) c'
breaks_later c e es mid c' step kept (inl same) = inl (same ∙ kept.faults)
breaks_later c e es mid c' step kept (inr b) = inr (record {
  before = e ∷ b.before;
  event = b.event;
  after = b.after;
  events = ap (λ xs. e ∷ xs) b.events;
  mid = b.mid;
  unbroken = b.unbroken ∙ kept.faults;
  run = (mid, step, b.run);
  stopped = b.stopped;
  fault = b.fault;
  clean = b.clean;
  rest = b.rest;
})

breaks_by : (c : Contents) (e : Event) (es : List Event) (mid c' : Contents) → Step c e mid → Run mid es c'
    → Kept c e mid ⊎ Faulted c e mid → Breaks mid es c' → Breaks c (e ∷ es) c'
breaks_by c e es mid c' step run (inl kept) later = breaks_later c e es mid c' step kept later
breaks_by c e es mid c' step run (inr fault) later = inr (record {
  before = [];
  event = e;
  after = es;
  events = refl;
  mid = c;
  unbroken = refl;
  run = refl;
  stopped = mid;
  fault = fault;
  clean = step.clean;
  rest = run;
})

breaks : (c : Contents) (es : List Event) (c' : Contents) → Run c es c' → Breaks c es c'
breaks c [] c' run = inl (ap (λ (x : Contents). fault_count x.state) run)
breaks c (e ∷ es) c' (mid, step, run) = breaks_by c e es mid c' step run step.ends (breaks mid es c' run)

pub prefixes : (c : Contents) (es : List Event) (c' : Contents) → IsSound (roster_of c.state) → Run c es c'
    → Prefixes c es c'
prefixes c es c' sound run = elim (breaks c es c' run) [
  | inl same ↦ inl same
  | inr b ↦
      let first = end_adds b.mid b.event b.stopped (inr b.fault) in
      let later = run_adds b.stopped b.after c' b.rest in
      inr (record {
        before = b.before;
        event = b.event;
        after = b.after;
        events = b.events;
        mid = b.mid;
        unbroken = b.unbroken;
        run = b.run;
        alone = headline c b.before b.mid sound b.run;
        clean = λ i is. b.clean i (run_clean b.stopped b.after c' b.rest i is);
        stopped = b.stopped;
        fault = b.fault;
        rest = b.rest;
        outs = first.0 ++ later.0;
        appended = later.1 ∙ ap (λ os. os ++ later.0) first.1 ∙ append_assoc (put_out b.mid.state) first.0 later.0;
      })
]
