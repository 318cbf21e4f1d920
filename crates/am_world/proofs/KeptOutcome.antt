-- The outcome of a try keeps the simulation.
use Rattle.std.proofs.Common.{◌≡◌, ◌⊎◌, ◌∙◌, ℕ, ◌&&◌, ◌==◌, inl, inr, Bool, true, false, is_some}
use Rattle.std.proofs.Common.{List, [], Option, Some, refl, sym, ap, subst, if◌then◌else◌}
use Rattle.std.proofs.lemmas.Bool.{and_parts}
use Rattle.am_cluster.specs.Courses.{awaits, course, course_by, handled_by, refusal_of}
use Rattle.am_cluster.specs.Courses.{refused_unless}
use Rattle.am_cluster.specs.Deciding.{deciding_at}
use Rattle.am_cluster.specs.Delivery.{is_awaited, outcome}
use Rattle.am_cluster.specs.Events.{AttemptName, Outcome, Output}
use Rattle.am_cluster.specs.Happening.{Tried}
use Rattle.am_cluster.specs.Here.{Here}
use Rattle.am_cluster.specs.Local.{Local}
use Rattle.am_cluster.specs.Moments.{effective, is_too_late}
use Rattle.am_cluster.specs.Operating.{decision_on}
use Rattle.am_cluster.specs.Outputs.{front_told}
use Rattle.am_cluster.specs.PrivateCluster.{PrivateCluster, react_one, unchanged}
use Rattle.am_cluster.specs.Reactions.{Reaction}
use Rattle.am_cluster.specs.Refused.{Refused, MomentRefused, NotAwaited}
use Rattle.am_cluster.specs.Replying.{KeepsAskers}
use Rattle.am_cluster.specs.View.{Watch, adds, watch}
use Rattle.am_cluster.proofs.Counted.{outcome_counted}
use Rattle.am_cluster.proofs.ReplyPieces.{outcome_over}
use Rattle.am_limit.specs.Books.{limits_of}
use Rattle.am_instance.specs.Instance.{ReadsOn, refused_in}
use Rattle.am_instance.specs.Reacting.{Reacts}
use Rattle.am_instance.specs.declared.instance.Instance.{Instance}
use Rattle.am_world.specs.Consistent.{IsConsistent, around_at}
use Rattle.am_world.specs.Places.{Turns, awaits_at, incarnation_at, instance_at, local_at, up_at}
use Rattle.am_world.specs.Simulation.{Stands}
use Rattle.am_world.specs.Turning.{Does}
use Rattle.am_world.specs.declared.common.Common.{Common}
use Rattle.am_world.specs.declared.state.State.{State}
use Rattle.am_world.proofs.Beside.{Kept}
use Rattle.am_world.proofs.Alone.{Acts, Behaves, Over, acts_of, roster_kept, up_alike}
use Rattle.am_world.proofs.AloneKept.{adds_idle, clock_before, effective_later, follows_on, kept_nothing}
use Rattle.am_world.proofs.AloneOwn.{outcome_own}
use Rattle.am_world.proofs.AlonePlaces.{refused_here, refused_then, up_there}
use Rattle.am_world.proofs.AloneTold.{alone, asked_then, front_silent, told_is_owned}

-- the attempt is awaited in the tenant's cluster where it is in the world
-- who awaits an outcome is up
pub awaits_up : (attempt : AttemptName) (tries : ℕ) (xs : List Instance) → awaits_at attempt tries xs ≡ true
    → up_at attempt.instance xs ≡ true
unfolding awaits_at
awaits_up attempt tries xs is = by_up (up_at attempt.instance xs) _ is
  where
    by_up : (b rest : Bool) → (b && rest) ≡ true → b ≡ true
    by_up true rest both = refl
    by_up false rest never = never

awaits_alike : (w : State) (attempt : AttemptName) (tries : ℕ) (p : PrivateCluster) → Stands attempt.tenant w p
    → awaits_at attempt tries w.instances ≡ awaits p attempt.instance attempt.incarnation attempt.number tries
unfolding awaits_at
awaits_alike w attempt tries p s =
    λ d. s.roster.up attempt.instance d && (s.roster.incarnation attempt.instance d == attempt.incarnation
    && is_awaited attempt.number tries (s.local attempt.instance d))

-- ---- one that is refused

tried_refused : (p : PrivateCluster) (i k number tries moment : ℕ) (status : Option ℕ)
    → (is_too_late moment ≡ true) ⊎ (awaits p i k number tries ≡ false)
    → course p (Tried i k number tries moment status) ≡ unchanged p
unfolding course_by refusal_of
tried_refused p i k number tries moment status (inl late) = rw late refl
tried_refused p i k number tries moment status (inr closed) = by_moment (is_too_late moment)
  where
    by_moment : (b : Bool) → (if is_some (let o : Option Refused =
        if b then Some MomentRefused else refused_unless (awaits p i k number tries) NotAwaited in o)
        then unchanged p
        else handled_by (decision_on p.service_key) p (Tried i k number tries moment status)) ≡ unchanged p
    by_moment true = refl
    by_moment false = rw closed refl

pub kept_unawaited : (w : State) (attempt : AttemptName) (tries moment : ℕ) (status : Option ℕ)
    → (is_too_late moment ≡ true) ⊎ (awaits_at attempt tries w.instances ≡ false)
    → Kept w (Outcome attempt tries moment status) w
unfolding watch adds front_told deciding_at
kept_unawaited w attempt tries moment status why =
    kept_nothing w (Outcome attempt tries moment status) (λ v follows. refl)
    (λ t v p given. adds_idle t attempt.tenant v p (Outcome attempt tries moment status)
    (Tried attempt.instance attempt.incarnation attempt.number tries moment status) refl
    (λ own. tried_refused p attempt.instance attempt.incarnation attempt.number tries moment status
    (closed p (subst (λ s. Stands s w p) own given.stands))) (λ own. tt))
    (λ v follows. refl) refl (λ t limits. refl) (λ i. refl)
  where
    closed : (p : PrivateCluster) → Stands attempt.tenant w p → (is_too_late moment ≡ true)
        ⊎ (awaits p attempt.instance attempt.incarnation attempt.number tries ≡ false)
    closed p s = elim why [
      | inl late ↦ inl late
      | inr none ↦ inr (sym (awaits_alike w attempt tries p s) ∙ none)
    ]

-- ---- one that is taken

tried_taken : (p : PrivateCluster) (i k number tries moment : ℕ) (status : Option ℕ) → is_too_late moment ≡ false
    → awaits p i k number tries ≡ true → p.roster.up i ≡ true
    → course p (Tried i k number tries moment status)
    ≡ react_one (λ here local. outcome here number tries status local) (effective moment p.clock) i p
unfolding course_by refusal_of handled_by
tried_taken p i k number tries moment status allowed awaited up = rw (allowed, awaited, up) refl

outcome_behaves : (number tries : ℕ) (status : Option ℕ) → Behaves (λ here. outcome here number tries status)
outcome_behaves number tries status = record {
  own = λ here. outcome_own here number tries status;
  counted = λ here. outcome_counted here number tries status;
}

-- what an instance does with an outcome
abbrev pub TakesOutcome : AttemptName → (tries moment : ℕ) → (status : Option ℕ) → State → List Output → Instance
    → Instance → Type 0
TakesOutcome attempt tries moment status w told x x' =
    Reacts (around_at (effective moment w.clock) w) attempt.tenant
    (λ here. outcome here attempt.number tries status) x x' [] told

pub kept_outcome : (w w' : State) (attempt : AttemptName) (tries moment : ℕ) (status : Option ℕ)
    → is_too_late moment ≡ false → awaits_at attempt tries w.instances ≡ true → IsConsistent w
    → Does attempt.instance (effective moment w.clock) (TakesOutcome attempt tries moment status w) w w'
    → Turns attempt.instance (λ x x'. ReadsOn x x' × (refused_in x' ≡ refused_in x)) w.instances w'.instances
    → Kept w (Outcome attempt tries moment status) w'
unfolding watch adds front_told awaits_at deciding_at
kept_outcome w w' attempt tries moment status allowed awaited consistent does stays = record {
  follows = λ v follows. follows_on attempt.instance v w w' a.x a.y a.is_at a.is_then turned.0.front a.others
      (roster_kept attempt.instance now attempt.tenant f does.told w w' a) follows;
  asked = λ v follows new asked.
      asked_then attempt.instance now attempt.tenant f does.told w w' a behaves v asked (keeps v);
  outs = does.told;
  appended = does.appended;
  tenants = λ t v p given. inl (alone attempt.instance now attempt.tenant f does.told w w' a behaves v given.asked
      (keeps v) t p (Outcome attempt tries moment status)
      (Tried attempt.instance attempt.incarnation attempt.number tries moment status) v given.stands
      (λ s. refl) refl (taken p) (λ s. tt));
  front = λ v follows asked u later.
      front_silent attempt.instance now attempt.tenant f does.told w w' a behaves v asked (keeps v) u later;
  owned = λ v follows asked u later.
      told_is_owned attempt.instance now attempt.tenant f does.told w w' a behaves v asked (keeps v) u later;
  roster = roster_kept attempt.instance now attempt.tenant f does.told w w' a;
  clock = does.beside.clock;
  limits = λ t. ap (λ (c : Common). limits_of t c.limits) does.beside.common;
  service_key = ap (λ (c : Common). c.service_key) does.beside.common;
  refused = refused_then attempt.instance w.instances w'.instances
      (refused_here attempt.instance w'.instances a.y a.is_then ∙ turned.1
      ∙ sym (refused_here attempt.instance w.instances a.x a.is_at)) a.others;
  faults = does.faults;
}
  where
    now : ℕ
    now = effective moment w.clock

    f : Here → Local → Reaction
    f here = outcome here attempt.number tries status

    parts : (up_at attempt.instance w.instances ≡ true)
        × ((incarnation_at attempt.instance w.instances == attempt.incarnation
        && is_awaited attempt.number tries (local_at attempt.tenant attempt.instance w.instances)) ≡ true)
    parts = and_parts (up_at attempt.instance w.instances) _ awaited

    there : (x : Instance) × (instance_at attempt.instance w.instances ≡ Some x) × (x.up ≡ true)
    there = up_there attempt.instance w.instances parts.0

    a : Acts attempt.instance now attempt.tenant f does.told w w'
    a = acts_of attempt.instance now attempt.tenant f (TakesOutcome attempt tries moment status w) w w' there.0
        consistent.numbered (effective_later moment w.clock) (clock_before w consistent.clock) there.1 there.2 does
        (λ told y is. is) (λ x x' here there. (stays x x' here there).0.goes.up)

    turned : ReadsOn a.x a.y × (refused_in a.y ≡ refused_in a.x)
    turned = stays a.x a.y a.is_at a.is_then

    behaves : Behaves f
    behaves = outcome_behaves attempt.number tries status

    keeps : (v : Watch) (here : Here) → KeepsAskers (Over v attempt.tenant) (f here)
    keeps v here = outcome_over (Over v attempt.tenant) here attempt.number tries status

    taken : (p : PrivateCluster) → Stands attempt.tenant w p
        → course p (Tried attempt.instance attempt.incarnation attempt.number tries moment status)
        ≡ react_one f now attempt.instance p
    taken p s =
        tried_taken p attempt.instance attempt.incarnation attempt.number tries moment status allowed
        (sym (awaits_alike w attempt tries p s) ∙ awaited)
        (up_alike attempt.instance now attempt.tenant f does.told w w' a attempt.tenant p s)
        ∙ ap (λ clock. react_one f (effective moment clock) attempt.instance p) (sym s.clock)
