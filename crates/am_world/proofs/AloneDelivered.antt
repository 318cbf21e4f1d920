-- A message that is to reach its receiver, in the tenant's private cluster; and where nothing comes of it.
use Rattle.std.proofs.Common.{◌≡◌, ◌∙◌, inl, ℕ, Bool, true, false}
use Rattle.std.proofs.Common.{Option, None, Some, IfSome, find, option_map, refl, sym, ap, subst}
use Rattle.std.proofs.Common.{if◌then◌else◌}
use Rattle.am_cluster.specs.Patterns.{BuildsAccepted}
use Rattle.am_cluster.specs.Arriving.{arrive}
use Rattle.am_cluster.specs.Courses.{course, course_by, handled_by, posted_in, refusal_of}
use Rattle.am_cluster.specs.Deciding.{Deciding, deciding_at, decision_of}
use Rattle.am_cluster.specs.Events.{Deliver}
use Rattle.am_cluster.specs.Happening.{Delivered, Happening}
use Rattle.am_cluster.specs.Messages.{Message}
use Rattle.am_cluster.specs.Moments.{effective, is_too_late}
use Rattle.am_cluster.specs.Operating.{Decide}
use Rattle.am_cluster.specs.Outputs.{front_told}
use Rattle.am_cluster.specs.PrivateCluster.{PrivateCluster, here_at, react_one, unchanged}
use Rattle.am_cluster.specs.Sent.{Sent, is_lost, is_named, posted, unlost}
use Rattle.am_cluster.specs.View.{adds, watch}
use Rattle.am_messages.specs.Posted.{posted_at}
use Rattle.am_messages.specs.declared.messages.Posted.{Posted}
use Rattle.am_messages.specs.declared.name.MessageName.{MessageName}
use Rattle.am_world.specs.Places.{up_at}
use Rattle.am_world.specs.Posting.{unlost_sent}
use Rattle.am_world.specs.Simulation.{Stands}
use Rattle.am_world.specs.declared.state.State.{State}
use Rattle.am_world.proofs.Beside.{Kept}
use Rattle.am_world.proofs.AloneDecided.{as_deciding, decided_in, deciding_in}
use Rattle.am_world.proofs.AloneKept.{adds_idle, kept_nothing}

-- ---- the message in a tenant's cluster

message_of : (clock : ℕ) (o : Option Sent)
    → option_map (λ (posted : Posted). posted.message) (unlost_sent clock o) ≡ unlost clock o
message_of clock None = refl
message_of clock (Some sent) = by_lost (is_lost clock sent)
  where
    by_lost : (b : Bool)
        → option_map (λ (posted : Posted). posted.message)
        (if b then None else Some (record { message = sent.message; sent_at = sent.moment }))
        ≡ (if b then None else Some sent.message)
    by_lost true = refl
    by_lost false = refl

-- it is there where it is in the world
pub posted_too : (w : State) (name : MessageName) (p : PrivateCluster) → Stands name.tenant w p
    → posted_in p name.from name.incarnation name.to name.count
    ≡ option_map (λ (posted : Posted). posted.message) (posted_at name w.messages)
unfolding posted
posted_too w name p s =
    sym (message_of p.clock (find (is_named name.from name.incarnation name.to name.count) p.sent))
    ∙ ap (option_map (λ (posted : Posted). posted.message))
    (sym (s.posted name.from name.incarnation name.to name.count))

-- ---- where nothing comes of it

-- what happens changes nothing, and decides nothing
record IsIdle (p : PrivateCluster) (h : Happening) : Type 0 where
  course : course p h ≡ unchanged p
  undecided : deciding_at p h ≡ None

module _ (p : PrivateCluster) (from k to count moment : ℕ) where
  idle_late : is_too_late moment ≡ true → IsIdle p (Delivered from k to count moment)
  unfolding course_by refusal_of deciding_at
  idle_late late = record { course = rw late refl; undecided = rw late refl }

  idle_unsent : is_too_late moment ≡ false → posted_in p from k to count ≡ None
      → IsIdle p (Delivered from k to count moment)
  unfolding course_by refusal_of deciding_at
  idle_unsent allowed none = record { course = rw (allowed, none) refl; undecided = rw (allowed, none) refl }

  idle_down : (message : Message) → is_too_late moment ≡ false → posted_in p from k to count ≡ Some message
      → p.roster.up message.to ≡ false → IsIdle p (Delivered from k to count moment)
  unfolding course_by refusal_of handled_by deciding_at
  idle_down message allowed there down = record {
    course = rw (allowed, there, down) refl;
    undecided = rw (allowed, there, down) refl;
  }

  -- one that reaches its receiver
  pub delivered_course : (decide : Decide) (message : Message) → is_too_late moment ≡ false
      → posted_in p from k to count ≡ Some message → p.roster.up message.to ≡ true
      → course_by decide p (Delivered from k to count moment)
      ≡ react_one (λ here. arrive decide here message) (effective moment p.clock) message.to p
  unfolding course_by refusal_of handled_by
  delivered_course decide message allowed there up = rw (allowed, there, up) refl

  pub delivered_decides : (message : Message) → is_too_late moment ≡ false
      → posted_in p from k to count ≡ Some message → p.roster.up message.to ≡ true
      → deciding_at p (Delivered from k to count moment)
      ≡ option_map (as_deciding (here_at p (effective moment p.clock) message.to) (p.at message.to))
      (decided_in (here_at p (effective moment p.clock) message.to) message (p.at message.to))
  unfolding deciding_at
  delivered_decides message allowed there up =
      rw (allowed, there, up) (deciding_in (here_at p (effective moment p.clock) message.to) message (p.at message.to))

kept_idle : (w : State) (name : MessageName) (moment : ℕ)
    → ((p : PrivateCluster) → Stands name.tenant w p
    → IsIdle p (Delivered name.from name.incarnation name.to name.count moment)) → Kept w (Deliver name moment) w
unfolding watch adds front_told
kept_idle w name moment idle =
    kept_nothing w (Deliver name moment) (λ v follows. refl)
    (λ t v p given.
    let its : t ≡ name.tenant → IsIdle p (Delivered name.from name.incarnation name.to name.count moment) =
    λ own. idle p (subst (λ s. Stands s w p) own given.stands) in
    adds_idle t name.tenant v p (Deliver name moment)
    (Delivered name.from name.incarnation name.to name.count moment) refl (λ own. (its own).course)
    (λ own. subst (λ o. IfSome o (λ (d : Deciding).
    BuildsAccepted d.operation.request (decision_of p.service_key d))) (sym (its own).undecided) tt))
    (λ v follows. refl) refl (λ t limits. refl) (λ i. inl refl)

pub kept_late_deliver : (w : State) (name : MessageName) (moment : ℕ) → is_too_late moment ≡ true
    → Kept w (Deliver name moment) w
kept_late_deliver w name moment late =
    kept_idle w name moment (λ p s. idle_late p name.from name.incarnation name.to name.count moment late)

pub kept_unsent : (w : State) (name : MessageName) (moment : ℕ) → is_too_late moment ≡ false
    → posted_at name w.messages ≡ None → Kept w (Deliver name moment) w
kept_unsent w name moment allowed none =
    kept_idle w name moment (λ p s. idle_unsent p name.from name.incarnation name.to name.count moment allowed
    (posted_too w name p s ∙ ap (option_map (λ (posted : Posted). posted.message)) none))

pub kept_down : (w : State) (name : MessageName) (moment : ℕ) (there : Posted) → is_too_late moment ≡ false
    → posted_at name w.messages ≡ Some there → up_at there.message.to w.instances ≡ false
    → Kept w (Deliver name moment) w
kept_down w name moment there allowed found down =
    kept_idle w name moment (λ p s.
    idle_down p name.from name.incarnation name.to name.count moment there.message allowed
    (posted_too w name p s ∙ ap (option_map (λ (posted : Posted). posted.message)) found)
    (sym (s.roster.up there.message.to) ∙ down))
