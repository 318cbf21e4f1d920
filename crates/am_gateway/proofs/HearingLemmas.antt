use Rattle.std.proofs.Common.{◌≡◌, ℕ, Bool, true, false, List, Option, None, Some, Result, Ok, Err, OnErr, OnOk, refl, ap, ◌∙◌}
use Rattle.std.specs.Prelude.{IfOk, IsErr, IsOk, MatchOption, is_err, is_none}
use Rattle.std.proofs.lemmas.Result.{on_err_weaker, on_ok_weaker}
use Rattle.am_event.specs.declared.event.Event.{Event}
use Rattle.am_event.specs.declared.output.Output.{Output}
use Rattle.am_serve.specs.Lanes.{waiting_of}
use Rattle.am_serve.specs.declared.host.Verdict.{Verdict}
use Rattle.am_serve.specs.declared.host.Verdict.TheVariants.{Later, Undecided}
use Rattle.am_world.specs.Consistent.{Contents}
use Rattle.am_world.specs.Runs.{ForgetsOver, Run}
use Rattle.am_world.specs.Simulation.{put_out}
use Rattle.am_world.specs.Stopping.{Step}
use Rattle.am_gateway.specs.Gateway.{GivesReply, Handles, IsVerdictOn, LetsTick, LearnsNext, Operates, RestartsAt, RestartsNext, Settles, SettlesInTime, Sorts, SortsSome, TellsAndForgets, TellsWorld}
use Rattle.am_event.specs.declared.event.Event.TheVariants as event
use Rattle.am_event.specs.declared.refused.Refused.{Refused}
use Rattle.am_world.specs.Refusal.{refusal}
use Rattle.am_gateway.specs.Learning.{behind}
use Rattle.am_gateway.specs.Passing.{asked_in, passes}
use Rattle.am_gateway.specs.Restarting.{counted, fallen}
use Rattle.am_gateway.specs.Sorting.{Keeps, KeepsSome, Queues, QueuesSome}
use Rattle.am_gateway.specs.declared.gateway.Gateway.{Gateway}

-- a step, what its messages came to, and what was taken away then
pub handles : (w mid ended w' : Contents) (e : Event) (moment : ℕ) → Step w e mid
    → Run mid (passes moment (put_out ended.state)) ended → ForgetsOver ended w'
    → Handles w e moment (put_out ended.state) w'
handles w mid ended w' e moment step run taken =
    record { handled = ended; run = (mid, step, run); outputs = refl; taken = taken }

-- both parts of what is sorted
pub sorts : {W X E : Type 0} (result : Result X E) (named : Option ℕ) (outs : List Output) (old new : Gateway W)
    → OnOk result (Queues old.notices.lanes outs new.notices.lanes)
    → OnOk result (Keeps named old.replies.items outs new.replies.items) → OnOk result (Sorts named outs old new)
sorts (Ok value) named outs old new queues keeps = record { queues = queues; keeps = keeps }
sorts (Err error) named outs old new queues keeps = tt

pub sorts_some : {W X E : Type 0} (result : Result X E) (named : Option ℕ) (outs : List Output) (old new : Gateway W)
    → OnErr result (QueuesSome old.notices.lanes outs new.notices.lanes)
    → OnErr result (KeepsSome named old.replies.items outs new.replies.items) → OnErr result (SortsSome named outs old new)
sorts_some (Ok value) named outs old new queues keeps = tt
sorts_some (Err error) named outs old new queues keeps = record { queues = queues; keeps = keeps }

replies_with : {W : Type 0} (contents : W → Contents) (c : ℕ) (e : Event) (reply : Option (List ℕ)) (outs : List Output)
    (old mid : Gateway W) (is_tick_due : Bool) → GivesReply contents c e reply outs old mid
    → GivesReply contents c e reply outs old (record mid { is_tick_due = is_tick_due })
replies_with contents c e reply outs old mid is_tick_due g = record {
  taken = g.taken;
  handles = g.handles;
  reply_is = g.reply_is;
  sorts = record { queues = g.sorts.queues; keeps = g.sorts.keeps };
  under_way = g.under_way;
  vain = g.vain;
  same = record { moment = g.same.moment; ready = g.same.ready };
}

-- whether a tick is due is no part of a reply
pub replies_still : {W : Type 0} (contents : W → Contents) (c : ℕ) (e : Event) (reply : Option (List ℕ))
    (outs : List Output) (old mid new : Gateway W) → new ≡ record mid { is_tick_due = new.is_tick_due }
    → GivesReply contents c e reply outs old mid → GivesReply contents c e reply outs old new
replies_still contents c e reply outs old mid new same g =
    rw same (replies_with contents c e reply outs old mid new.is_tick_due g)

-- a tick is due as it was before the world was told
pub lets_before : {W : Type 0} (old mid new : Gateway W) (reply : List ℕ) → mid.is_tick_due ≡ old.is_tick_due → mid.ready ≡ old.ready →
    LetsTick mid reply new → LetsTick old reply new
lets_before old mid new reply due ready lets = rw (← due, ← ready) lets

waits_before : {W : Type 0} (old mid new : Gateway W) (outs : List Output)
    → ((t : List ℕ) → waiting_of t mid.notices.lanes ≡ waiting_of t old.notices.lanes)
    → mid.replies.items ≡ old.replies.items → Sorts None outs mid new → Sorts None outs old new
waits_before old mid new outs stay same sorts = record {
  queues = λ t. rw (← stay t) (sorts.queues t);
  keeps = rw (← same) sorts.keeps;
}

waits_some_before : {W : Type 0} (old mid new : Gateway W) (outs : List Output)
    → ((t : List ℕ) → waiting_of t mid.notices.lanes ≡ waiting_of t old.notices.lanes)
    → mid.replies.items ≡ old.replies.items → SortsSome None outs mid new → SortsSome None outs old new
waits_some_before old mid new outs stay same sorts = record {
  queues = λ t. ((sorts.queues t).0, (sorts.queues t).1, (sorts.queues t).2, rw (← stay t) (sorts.queues t).3);
  keeps = (sorts.keeps.0, sorts.keeps.1, sorts.keeps.2, rw (← same) sorts.keeps.3);
}

-- what waited before a call ended waits after it
pub tells_before : {W X E : Type 0} (contents : W → Contents) (result : Result X E) (e : Event) (old mid new : Gateway W)
    → mid.world.now ≡ old.world.now → mid.moment ≡ old.moment
    → ((t : List ℕ) → waiting_of t mid.notices.lanes ≡ waiting_of t old.notices.lanes)
    → mid.replies.items ≡ old.replies.items → mid.vain ≡ old.vain → TellsWorld contents result e mid new
    → TellsWorld contents result e old new
tells_before contents result e old mid new world moment stay same vain tells = record {
  outs = tells.outs;
  handles = rw (← world, ← moment) tells.handles;
  sorts = on_ok_weaker result (waits_before old mid new tells.outs stay same) tells.sorts;
  loses = on_err_weaker result (waits_some_before old mid new tells.outs stay same) tells.loses;
  vain = tells.vain ∙ vain;
}

-- the verdict where there is no reply yet, by whether a message was sent
pub unreplied_on : {W : Type 0} (contents : W → Contents) (c : ℕ) (e : Event) (outs : List Output)
    (old mid new : Gateway W) (given : Verdict) (asked : Option (List ℕ)) → asked_in outs ≡ asked
    → GivesReply contents c e None outs old mid → mid.is_tick_due ≡ old.is_tick_due
    → MatchOption asked ((given ≡ Undecided) × (new ≡ mid)) (λ t. (given ≡ Later) × SettlesInTime contents t mid new)
    → IsVerdictOn contents c e old given new
unreplied_on contents c e outs old mid new given None asks gives due is =
    rw is.0 (outs, rw is.1 gives, asks, rw is.1 due)
unreplied_on contents c e outs old mid new given (Some t) asks gives due is =
    rw is.0 (outs, t, mid, gives, asks, due, is.1)

-- no instance is to be restarted
pub restarts_none : {W X E : Type 0} (contents : W → Contents) (result : Result X E) (old new : Gateway W)
    (found : Option ℕ) → found ≡ fallen old.vain.items (contents old.world.now).state → found ≡ None → IsOk result
    → new ≡ old → RestartsNext contents result old new
restarts_none contents result old new found is none ok same = rw (← is, none) (ok, same)

-- this one is
pub restarts_one : {W X E : Type 0} (contents : W → Contents) (result : Result X E) (i : ℕ) (old new : Gateway W)
    (found : Option ℕ) → found ≡ fallen old.vain.items (contents old.world.now).state → found ≡ Some i
    → RestartsAt contents result i old new → RestartsNext contents result old new
restarts_one contents result i old new found is some at = rw (← is, some) at

-- what is counted of a restart, by whether a fault stopped the instance again
pub counted_then : {X E : Type 0} (result : Result X E) (i : ℕ) (new told old : List ℕ) (is_vain is_stopped : Bool)
    → told ≡ old → is_vain ≡ is_stopped → OnOk result (new ≡ counted told is_vain i)
    → OnOk result (new ≡ counted old is_stopped i)
counted_then result i new told old is_vain is_stopped same is noted =
    on_ok_weaker result (λ e. e ∙ ap (λ l. counted l is_vain i) same ∙ ap (λ b. counted old b i) is) noted

-- no instance is behind
pub learns_none : {W X E : Type 0} (contents : W → Contents) (result : Result X E) (old new : Gateway W)
    (found : Option ℕ) → found ≡ behind (contents old.world.now).state → found ≡ None → IsOk result → new ≡ old
    → LearnsNext contents result old new
learns_none contents result old new found is none ok same = rw (← is, none) (ok, same)

-- this one is
pub learns_one : {W X E : Type 0} (contents : W → Contents) (result : Result X E) (i : ℕ) (old new : Gateway W)
    (found : Option ℕ) → found ≡ behind (contents old.world.now).state → found ≡ Some i
    → TellsWorld contents result (event.Learn i) old new → LearnsNext contents result old new
learns_one contents result i old new found is some tells = rw (← is, some) tells

settles_where : {W : Type 0} (contents : W → Contents) (t : List ℕ) (old new : Gateway W) (found : Option ℕ)
    → (is_none found ≡ true → Settles contents t old new) → (is_none found ≡ false → new ≡ old)
    → MatchOption found (Settles contents t old new) (λ i. new ≡ old)
settles_where contents t old new None settles stays = settles refl
settles_where contents t old new (Some i) settles stays = stays refl

-- a tenant is settled where no instance is behind
pub settles_by : {W : Type 0} (contents : W → Contents) (t : List ℕ) (old new : Gateway W) (found : Option ℕ)
    (none : Bool) → found ≡ behind (contents old.world.now).state → none ≡ is_none found
    → (none ≡ true → Settles contents t old new) → (none ≡ false → new ≡ old) → SettlesInTime contents t old new
settles_by contents t old new found none is told settles stays =
    rw (← is) (settles_where contents t old new found (λ e. settles (told ∙ e)) (λ e. stays (told ∙ e)))

-- an event that was refused
pub operates_none : {W E : Type 0} (contents : W → Contents) (result : Result (Option Refused) E) (e : Event)
    (old new : Gateway W) (why : Refused) → refusal (contents old.world.now).state e ≡ Some why
    → result ≡ Ok (Some why) → new ≡ old → Operates contents result e old new
operates_none contents result e old new why refused is same = rw refused (is, same)

-- .. and one that happened
pub operates : {W E : Type 0} (contents : W → Contents) (result : Result (Option Refused) E) (e : Event)
    (old new : Gateway W) → refusal (contents old.world.now).state e ≡ None → IfOk result (λ why. why ≡ None)
    → TellsAndForgets contents result e old new → Operates contents result e old new
operates contents result e old new none is tells = rw none (is, tells)

-- a result is no success and failure at once
pub not_both : {X E : Type 0} (result : Result X E) → IsErr result → IsOk result → ⊥
not_both (Ok value) err ok = cc
not_both (Err error) err ok = cc

-- nothing is asked of a failure
pub only_err : {X E : Type 0} (result : Result X E) (P : Type 0) → IsErr result → OnOk result P
only_err (Ok value) P err = cc
only_err (Err error) P err = tt

-- an event that the world took is refused by nothing
pub unrefused : {X : Type 0} (found : Option Refused) (result : Result X Refused)
    → MatchOption found (IsOk result) (λ why. result ≡ Err why) → IsOk result → found ≡ None
unrefused None result is ok = refl
unrefused (Some why) (Ok value) is ok = cc
unrefused (Some why) (Err error) is ok = cc

-- .. as it is where the call was seen to fail not
pub taken : {X : Type 0} (result : Result X Refused) (found : Option Refused)
    → MatchOption found (IsOk result) (λ why. result ≡ Err why) → (failed : Bool) → failed ≡ is_err result
    → failed ≡ false → found ≡ None
taken (Ok value) found is failed told well = unrefused found (Ok value) is refl
taken (Err error) found is failed told well = cc
