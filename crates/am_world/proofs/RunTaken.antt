-- Runs whose outputs are taken away after each event.
use Rattle.std.proofs.Common.{◌≡◌, ◌≢◌, ◌∙◌, ℕ, List, [], ◌∷◌, ◌++◌, refl, sym, ap, subst}
use Rattle.am_cluster.specs.Courses.{after_all}
use Rattle.am_cluster.specs.Events.{Event, Output}
use Rattle.am_setup.specs.Setup.{Origin}
use Rattle.am_cluster.specs.PrivateCluster.{PrivateCluster, opened}
use Rattle.am_cluster.specs.Roster.{IsSameRoster}
use Rattle.am_cluster.specs.View.{Watch, adds, first_watch, names_once, view, watch, watch_all}
use Rattle.am_item.specs.declared.item.Item.{Item}
use Rattle.am_world.specs.Changes.{AreOpenedClean, OpensClean, roster_then}
use Rattle.am_world.specs.Consistent.{Contents}
use Rattle.am_world.specs.Opening.{Opens}
use Rattle.am_world.specs.Places.{KeepRefused}
use Rattle.am_world.specs.Runs.{Alone, Forgets, ForgetsOver, patterns_asked}
use Rattle.am_world.specs.Shelves.{NeverCleaner, shelf_at}
use Rattle.am_world.specs.Simulation.{AreAsked, Follows, Stands, StandsOver, fault_count, put_out, refused_by}
use Rattle.am_world.specs.Simulation.{roster_of}
use Rattle.am_world.specs.Steps.{Kept}
use Rattle.am_world.specs.Stopping.{Step}
use Rattle.am_world.specs.declared.state.State.{State}
use Rattle.am_world.proofs.Built.{built_among, keep_equal, keep_then}
use Rattle.am_world.proofs.Run.{Given, Ran, Watched, first_alone, ran_more, rest_given, step_faults, step_kept}
use Rattle.am_world.proofs.Run.{step_refused, watched_more}
use Rattle.am_world.proofs.Rosters.{IsSound, clean_before, clean_same}
use Rattle.am_world.proofs.RunOpened.{asked_alone, sound_opened}
use Rattle.am_world.proofs.AloneTold.{later_itself}

-- ---- what a world put out says nothing of what it reads and has

forgets_roster : (w w' : State) → Forgets w w' → roster_of w' ≡ roster_of w
forgets_roster w w' e = rw (e.instances, e.beside.common) refl

forgets_follows : (v : Watch) (w w' : State) → Forgets w w' → Follows v w → Follows v w'
forgets_follows v w w' e f = record {
  reading = rw e.instances f.reading;
  roster = subst (λ r. IsSameRoster r v.roster) (sym (forgets_roster w w' e)) f.roster;
}

forgets_asked : (v : Watch) (w w' : State) → Forgets w w' → AreAsked v w → AreAsked v w'
forgets_asked v w w' e asked t i = rw e.instances (asked t i)

forgets_stands : (t : List ℕ) (w w' : State) (p : PrivateCluster) → Forgets w w' → Stands t w p → Stands t w' p
forgets_stands t w w' p e s = record {
  tenant = s.tenant;
  replicas_by = s.replicas_by;
  service_key = rw e.beside.common s.service_key;
  clock = e.beside.clock ∙ s.clock;
  limits = rw e.beside.common s.limits;
  roster = subst (λ r. IsSameRoster r p.roster) (sym (forgets_roster w w' e)) s.roster;
  local = rw e.instances s.local;
  posted = rw e.messages s.posted;
  named = s.named;
}

forgets_over : (t : List ℕ) (c c' : Contents) (p : PrivateCluster) → ForgetsOver c c' → StandsOver t c p
    → StandsOver t c' p
forgets_over t c c' p e s = record {
  stands = forgets_stands t c.state c'.state p e.forgets s.stands;
  keeps = rw (e.shelves, e.forgets.instances) s.keeps;
}

forgets_given : (t : List ℕ) (v : Watch) (p : PrivateCluster) (c before : Contents) (es : List Event) (c' : Contents)
    → ForgetsOver c before → Given t v p c es c' → Given t v p before es c'
forgets_given t v p c before es c' e given =
    let roster = sym (forgets_roster c.state before.state e.forgets) in
    record {
      follows = forgets_follows v c.state before.state e.forgets given.follows;
      asked = forgets_asked v c.state before.state e.forgets given.asked;
      once = given.once;
      sound = subst IsSound roster given.sound;
      clean = subst (λ r. AreOpenedClean r es c'.shelves) roster given.clean;
      stands = forgets_over t c before p e given.stands;
      built = given.built;
    }

-- ---- one step for each event

-- each from a world that forgot what it had put out; `outs` is what all steps put out
abbrev pub Steps : Contents → List Event → List Output → Contents → Type 0
Steps c [] outs c' = (c' ≡ c) × (outs ≡ [])
Steps c (e ∷ es) outs c' =
    (before mid : Contents) × (rest : List Output) × ForgetsOver c before × Step before e mid ×
    (outs ≡ put_out mid.state ++ rest) × Steps mid es rest c'

faults_stay : (c : Contents) (es : List Event) (outs : List Output) (c' : Contents) → Steps c es outs c'
    → fault_count c.state ≢ 0 → fault_count c'.state ≢ 0
faults_stay c [] outs c' (same, nothing) some =
    λ none. some (sym (ap (λ (x : Contents). fault_count x.state) same) ∙ none)
faults_stay c (e ∷ es) outs c' (before, mid, rest, e', step, both, steps) some =
    faults_stay mid es rest c' steps (step_faults before e mid step (λ none. some (sym e'.forgets.faults ∙ none)))

steps_refused : (c : Contents) (es : List Event) (outs : List Output) (c' : Contents) → Steps c es outs c'
    → KeepRefused c.state.instances c'.state.instances
steps_refused c [] outs c' (same, nothing) = keep_equal _ _ (ap (λ (x : Contents). x.state.instances) same)
steps_refused c (e ∷ es) outs c' (before, mid, rest, e', step, both, steps) =
    keep_then _ _ _ (keep_equal _ _ e'.forgets.instances)
    (keep_then _ _ _ (step_refused before e mid step) (steps_refused mid es rest c' steps))

steps_clean : (c : Contents) (es : List Event) (outs : List Output) (c' : Contents) → Steps c es outs c'
    → NeverCleaner c.shelves c'.shelves
steps_clean c [] outs c' (same, nothing) i clean =
    ap (λ (x : Contents). (shelf_at i x.shelves).is_clean) (sym same) ∙ clean
steps_clean c (e ∷ es) outs c' (before, mid, rest, e', step, both, steps) i clean =
    sym (ap (λ shelves. (shelf_at i shelves).is_clean) e'.shelves)
    ∙ step.clean i (steps_clean mid es rest c' steps i clean)

-- what a step added is all that was put out then
all_added : (c before mid : Contents) (outs rest all : List Output) → ForgetsOver c before
    → put_out mid.state ≡ put_out before.state ++ outs → all ≡ put_out mid.state ++ rest → all ≡ outs ++ rest
all_added c before mid outs rest all e appended both =
    both ∙ ap (λ os. os ++ rest) (appended ∙ ap (λ os. os ++ outs) e.forgets.outputs)

-- stores that are opened from here on, after the first event
opened_later : (c before : Contents) (e : Event) (mid : Contents) (es : List Event) (c' : Contents)
    → ForgetsOver c before → (kept : Kept before e mid) → AreOpenedClean (roster_of c.state) (e ∷ es) c'.shelves
    → OpensClean (roster_of before.state) e c'.shelves × AreOpenedClean (roster_of mid.state) es c'.shelves
opened_later c before e mid es c' e' kept clean =
    let same = sym (forgets_roster c.state before.state e'.forgets) in
    let here = subst (λ r. AreOpenedClean r (e ∷ es) c'.shelves) same clean in (
      here.0,
      clean_same es (roster_of mid.state) (roster_then e (roster_of before.state)) c'.shelves kept.roster here.1,
    )

watched : (c : Contents) (es : List Event) (outs : List Output) (c' : Contents) (v : Watch) → Steps c es outs c'
    → fault_count c'.state ≡ 0 → AreOpenedClean (roster_of c.state) es c'.shelves → Follows v c.state
    → AreAsked v c.state → names_once v es → Watched es outs c' v
watched c [] outs c' v (same, nothing) none clean follows asked once = rw (same, nothing) (record {
  front = λ u later. refl;
  owned = λ u later. refl;
  follows = follows;
  asked = asked;
})
watched c (e ∷ es) outs c' v (before, mid, rest, e', step, both, steps) none clean follows asked once =
    let kept = step_kept before e mid c' step (faults_stay mid es rest c' steps) none in
    let so = forgets_follows v c.state before.state e'.forgets follows in
    let waits = forgets_asked v c.state before.state e'.forgets asked in
    let opens = opened_later c before e mid es c' e' kept clean in
    let first = clean_before (roster_of before.state) e mid.shelves c'.shelves (steps_clean mid es rest c' steps)
    opens.0 in
    rw (all_added c before mid kept.outs rest outs e' kept.appended both)
    (watched_more before e mid es rest c' v kept so waits once.1
    (watched mid es rest c' (watch v e) steps none opens.1 (kept.follows v so) (kept.asked first v so once.0 waits)
    once.1))

ran : (c : Contents) (es : List Event) (outs : List Output) (c' : Contents) (t : List ℕ) (v : Watch)
    (p : PrivateCluster) → Steps c es outs c' → fault_count c'.state ≡ 0 → Given t v p c es c' → Ran es outs c' t v p
ran c [] outs c' t v p (same, nothing) none given = rw (same, nothing) (record {
  told = λ u later. refl;
  fits = refl;
  stands = given.stands;
})
ran c (e ∷ es) outs c' t v p (before, mid, rest, e', step, both, steps) none given =
    let kept = step_kept before e mid c' step (faults_stay mid es rest c' steps) none in
    let from = forgets_given t v p c before (e ∷ es) c' e' given in
    let never = steps_clean mid es rest c' steps in
    let one = first_alone t v p before e mid es c' kept from never (steps_refused mid es rest c' steps) in
    let later = rest_given t v p before e mid es c' from never kept one in
    rw (all_added c before mid kept.outs rest outs e' kept.appended both)
    (ran_more before e mid es rest c' t v p kept one from.once.1
    (ran mid es rest c' t (watch v e) (after_all p (adds t v e)) steps none later))

-- each tenant is as if alone, where no fault came, no connection's name was used twice, and each store that was opened
-- on the way is in memory or its disk has returned what was written
pub alone : (origin : Origin) (rows : List ℕ → ℕ → List Item) (c : Contents) (es : List Event) (outs : List Output)
    (c' : Contents) → Opens origin rows c → Steps c es outs c' → fault_count c'.state ≡ 0
    → AreOpenedClean (roster_of c.state) es c'.shelves → names_once (first_watch origin) es
    → Alone origin rows es (refused_by c'.state) outs
alone origin rows c es outs c' opens steps none clean once =
    let v : Watch = first_watch origin in
    let here = later_itself (watch_all v es) in
    let s = watched c es outs c' v steps none clean opens.follows opens.asked once in
    record {
      tenants = λ t built.
          (ran c es outs c' t v (opened origin t (rows t)) steps none (record {
            follows = opens.follows;
            asked = opens.asked;
            once = once;
            sound = sound_opened origin rows c opens;
            clean = clean;
            stands = opens.stands t;
            built = built_among (refused_by c'.state) _ _
                (asked_alone origin t (rows t) (patterns_asked (view t v es))) built;
          })).told (watch_all v es) here;
      front = s.front (watch_all v es) here;
      owned = s.owned (watch_all v es) here;
    }
