use Rattle.std.proofs.Common.{refl, sym, ap, ◌∙◌, subst}
use Rattle.am_outlet.specs.declared.outcome.Outcome.TheVariants.{NotOpen, Again, GivenUp}
use Rattle.am_node.specs.Delivery.{outcome}
use Rattle.am_node.specs.Local.{Reaction}
use Rattle.am_node.proofs.Outcomes.{delivered, unsettled}
use Rattle.am_words.specs.Places.{place_of}
use Rattle.am_node.specs.Held.{StopsFor, local_of}
use Rattle.am_context.proofs.Changes.{other, own}
use Rattle.am_notifier.specs.Delivery.{with_outcome}
use Rattle.am_notifier.specs.Notifies.{notifies_of}
use Rattle.am_replica.specs.Holds.{holds_of}
use Rattle.am_node.proofs.Locals.{done, rooms}
use Rattle.am_node.proofs.parts.Parts.outcome.Goals as goal

pub returns-in-NotOpen-clause-does : goal.returns-in-NotOpen-clause-does
unfolding local_of
returns-in-NotOpen-clause-does c =
    let s = c.args.tenant.now in
    let r = c.args.self.now in
    done s (outcome c.args.context.now c.args.number c.args.tries c.args.status) r _
    (ap (λ (x : Reaction). x.local) (unsettled c.args.context.now c.args.number c.args.tries c.args.status (local_of s r) _ (NotOpen) (sym c.in-NotOpen.is ∙ c.in_ok-outcome.ensures.outcome)
    (rooms (holds_of s r.replica) _ (notifies_of s c.outcome.new.self) (with_outcome c.args.number c.args.tries c.args.context.now.moment c.args.status (notifies_of s r.notifier)) (place_of s r.places)
    refl (own s _ _ _ (c.in_ok-outcome.ensures.does s))) (λ l. refl)))
    (λ t apart. rooms (holds_of t r.replica) _ (notifies_of t c.outcome.new.self) (notifies_of t r.notifier) (place_of t r.places) refl
    (other t s _ _ _ apart (c.in_ok-outcome.ensures.does t)))

pub returns-in-NotOpen-clause-said : goal.returns-in-NotOpen-clause-said
unfolding local_of
returns-in-NotOpen-clause-said c =
    ap (λ (x : Reaction). x.said)
    (unsettled c.args.context.now c.args.number c.args.tries c.args.status (local_of c.args.tenant.now c.args.self.now) _ (NotOpen) (sym c.in-NotOpen.is ∙ c.in_ok-outcome.ensures.outcome) refl (λ l. refl))

pub returns-in-NotOpen-clause-fits : goal.returns-in-NotOpen-clause-fits
unfolding local_of
returns-in-NotOpen-clause-fits c =
    ap (λ (x : Reaction). x.fits)
    (sym (unsettled c.args.context.now c.args.number c.args.tries c.args.status (local_of c.args.tenant.now c.args.self.now) _ (NotOpen) (sym c.in-NotOpen.is ∙ c.in_ok-outcome.ensures.outcome) refl (λ l. refl)))

pub returns-in-Again-clause-does : goal.returns-in-Again-clause-does
unfolding local_of
returns-in-Again-clause-does c =
    let s = c.args.tenant.now in
    let r = c.args.self.now in
    done s (outcome c.args.context.now c.args.number c.args.tries c.args.status) r _
    (ap (λ (x : Reaction). x.local) (unsettled c.args.context.now c.args.number c.args.tries c.args.status (local_of s r) _ (Again c.in-Again.field-0) (sym c.in-Again.is ∙ c.in_ok-outcome.ensures.outcome)
    (rooms (holds_of s r.replica) _ (notifies_of s c.outcome.new.self) (with_outcome c.args.number c.args.tries c.args.context.now.moment c.args.status (notifies_of s r.notifier)) (place_of s r.places)
    refl (own s _ _ _ (c.in_ok-outcome.ensures.does s))) (λ l. refl)))
    (λ t apart. rooms (holds_of t r.replica) _ (notifies_of t c.outcome.new.self) (notifies_of t r.notifier) (place_of t r.places) refl
    (other t s _ _ _ apart (c.in_ok-outcome.ensures.does t)))

pub returns-in-Again-clause-said : goal.returns-in-Again-clause-said
unfolding local_of
returns-in-Again-clause-said c =
    ap (λ (x : Reaction). x.said)
    (unsettled c.args.context.now c.args.number c.args.tries c.args.status (local_of c.args.tenant.now c.args.self.now) _ (Again c.in-Again.field-0) (sym c.in-Again.is ∙ c.in_ok-outcome.ensures.outcome) refl (λ l. refl))

pub returns-in-Again-clause-fits : goal.returns-in-Again-clause-fits
unfolding local_of
returns-in-Again-clause-fits c =
    ap (λ (x : Reaction). x.fits)
    (sym (unsettled c.args.context.now c.args.number c.args.tries c.args.status (local_of c.args.tenant.now c.args.self.now) _ (Again c.in-Again.field-0) (sym c.in-Again.is ∙ c.in_ok-outcome.ensures.outcome) refl (λ l. refl)))

pub returns-in-GivenUp-clause-does : goal.returns-in-GivenUp-clause-does
unfolding local_of
returns-in-GivenUp-clause-does c =
    let s = c.args.tenant.now in
    let r = c.args.self.now in
    done s (outcome c.args.context.now c.args.number c.args.tries c.args.status) r _
    (ap (λ (x : Reaction). x.local) (unsettled c.args.context.now c.args.number c.args.tries c.args.status (local_of s r) _ (GivenUp) (sym c.in-GivenUp.is ∙ c.in_ok-outcome.ensures.outcome)
    (rooms (holds_of s r.replica) _ (notifies_of s c.outcome.new.self) (with_outcome c.args.number c.args.tries c.args.context.now.moment c.args.status (notifies_of s r.notifier)) (place_of s r.places)
    refl (own s _ _ _ (c.in_ok-outcome.ensures.does s))) (λ l. refl)))
    (λ t apart. rooms (holds_of t r.replica) _ (notifies_of t c.outcome.new.self) (notifies_of t r.notifier) (place_of t r.places) refl
    (other t s _ _ _ apart (c.in_ok-outcome.ensures.does t)))

pub returns-in-GivenUp-clause-said : goal.returns-in-GivenUp-clause-said
unfolding local_of
returns-in-GivenUp-clause-said c =
    ap (λ (x : Reaction). x.said)
    (unsettled c.args.context.now c.args.number c.args.tries c.args.status (local_of c.args.tenant.now c.args.self.now) _ (GivenUp) (sym c.in-GivenUp.is ∙ c.in_ok-outcome.ensures.outcome) refl (λ l. refl))

pub returns-in-GivenUp-clause-fits : goal.returns-in-GivenUp-clause-fits
unfolding local_of
returns-in-GivenUp-clause-fits c =
    ap (λ (x : Reaction). x.fits)
    (sym (unsettled c.args.context.now c.args.number c.args.tries c.args.status (local_of c.args.tenant.now c.args.self.now) _ (GivenUp) (sym c.in-GivenUp.is ∙ c.in_ok-outcome.ensures.outcome) refl (λ l. refl)))

pub returns-in-Ok-clause-does : goal.returns-in-Ok-clause-does
unfolding local_of
returns-in-Ok-clause-does c =
    let s = c.args.tenant.now in
    let r = c.args.self.now in
    let made = delivered c.args.context.now c.args.number c.args.tries c.args.status (local_of s r) _ c.in-Delivered.notice (sym c.in-Delivered.is ∙ c.in_ok-outcome.ensures.outcome)
    (rooms (holds_of s r.replica) _ (notifies_of s c.outcome.new.self) (with_outcome c.args.number c.args.tries c.args.context.now.moment c.args.status (notifies_of s r.notifier)) (place_of s r.places)
    refl (own s _ _ _ (c.in_ok-outcome.ensures.does s))) in
    done s (outcome c.args.context.now c.args.number c.args.tries c.args.status) r _
    (own s _ _ _ ((rw c.receipt_of.ensures at c.in-Ok.ensures.does) s) ∙ ap (λ (x : Reaction). x.local) made)
    (λ t apart. other t s _ _ _ apart (c.in-Ok.ensures.does t)
    ∙ rooms (holds_of t r.replica) _ (notifies_of t c.outcome.new.self) (notifies_of t r.notifier) (place_of t r.places) refl
    (other t s _ _ _ apart (c.in_ok-outcome.ensures.does t)))

pub returns-in-Ok-clause-said : goal.returns-in-Ok-clause-said
unfolding local_of
returns-in-Ok-clause-said c =
    let s = c.args.tenant.now in
    let r = c.args.self.now in
    (rw c.receipt_of.ensures at c.in-Ok.ensures.said)
    ∙ ap (λ (x : Reaction). x.said) (delivered c.args.context.now c.args.number c.args.tries c.args.status (local_of s r) _ c.in-Delivered.notice (sym c.in-Delivered.is ∙ c.in_ok-outcome.ensures.outcome)
    (rooms (holds_of s r.replica) _ (notifies_of s c.outcome.new.self) (with_outcome c.args.number c.args.tries c.args.context.now.moment c.args.status (notifies_of s r.notifier)) (place_of s r.places)
    refl (own s _ _ _ (c.in_ok-outcome.ensures.does s))))

pub returns-in-Ok-clause-fits : goal.returns-in-Ok-clause-fits
unfolding local_of
returns-in-Ok-clause-fits c =
    let s = c.args.tenant.now in
    let r = c.args.self.now in
    ap (λ (x : Reaction). x.fits) (sym (delivered c.args.context.now c.args.number c.args.tries c.args.status (local_of s r) _ c.in-Delivered.notice (sym c.in-Delivered.is ∙ c.in_ok-outcome.ensures.outcome)
    (rooms (holds_of s r.replica) _ (notifies_of s c.outcome.new.self) (with_outcome c.args.number c.args.tries c.args.context.now.moment c.args.status (notifies_of s r.notifier)) (place_of s r.places)
    refl (own s _ _ _ (c.in_ok-outcome.ensures.does s)))))
    ∙ (rw c.receipt_of.ensures at c.in-Ok.ensures.fits)

pub returns-in-Err-clause-fault : goal.returns-in-Err-clause-fault
unfolding local_of
returns-in-Err-clause-fault c =
    let s = c.args.tenant.now in
    let r = c.args.self.now in
    subst (λ (x : Reaction). StopsFor x c.in-Err.fault)
    (delivered c.args.context.now c.args.number c.args.tries c.args.status (local_of s r) _ c.in-Delivered.notice (sym c.in-Delivered.is ∙ c.in_ok-outcome.ensures.outcome)
    (rooms (holds_of s r.replica) _ (notifies_of s c.outcome.new.self) (with_outcome c.args.number c.args.tries c.args.context.now.moment c.args.status (notifies_of s r.notifier)) (place_of s r.places)
    refl (own s _ _ _ (c.in_ok-outcome.ensures.does s))))
    (rw c.receipt_of.ensures at c.in-Err.ensures.fault)
