-- What is done for one timer.
use Rattle.std.proofs.Common.{◌≡◌, ◌∙◌, ℕ, Bool, true, false, List, Option, Some, None, refl, sym, inl, inr}
use Rattle.std.proofs.Common.{if◌then◌else◌}
use Rattle.am_notifier.specs.Planned.{flush_due, group_in}
use Rattle.am_labels.specs.declared.Label.{Label}
use Rattle.am_outlet.specs.Attempts.{is_due}
use Rattle.am_tenant.specs.Names.{same}
use Rattle.am_tenant.proofs.Same.{same_tells}
use Rattle.am_timer.specs.declared.key.FlushKey.{FlushKey}
use Rattle.am_timer.specs.declared.key.TimerKey.TheVariants.{Operation, Group, Retry, Push}
use Rattle.am_context.specs.declared.context.Context.{Context}
use Rattle.am_node.specs.declared.parts.Parts.{Parts}
use Rattle.am_node.specs.Delivery.{retried}
use Rattle.am_node.specs.Flushing.{flushed}
use Rattle.am_node.specs.Held.{Does, local_of}
use Rattle.am_node.specs.Local.{Local, Reaction, stays}
use Rattle.am_node.specs.Ticking.{handled}

-- what is done of a tenant is told by what it is to the tenant
pub does_as : (tenant : List ℕ) (one other : Local → Reaction) (old new : Parts) → one (local_of tenant old) ≡ other (local_of tenant old) → Does tenant one old new → Does tenant other old new
does_as tenant one other old new is does t = elim (same_tells t tenant) [
  | inl own ↦ does t ∙ rw (own.0, own.1, is) refl
  | inr apart ↦ does t ∙ rw (apart.0) refl
]

pub does_nothing : (tenant : List ℕ) (react : Local → Reaction) (parts : Parts) → react (local_of tenant parts) ≡ stays (local_of tenant parts) → Does tenant react parts parts
does_nothing tenant react parts is = does_as tenant stays react parts parts (sym is) (λ t. kept (same t tenant) (local_of t parts))
  where
    kept : (b : Bool) (l : Local) → l ≡ (if b then l else l)
    kept true l = refl
    kept false l = refl

-- what is due some time, where it is due
pub due_some : (moment : ℕ) (o : Option ℕ) → is_due moment o ≡ true → (d : ℕ) × (o ≡ Some d)
due_some moment None due = cc
due_some moment (Some d) due = (d, refl)

pub flushes : (context : Context) (muted : List (List Label)) (key : FlushKey) (l : Local) → is_due context.moment (flush_due l.plan.paces l.plan.grouped key) ≡ true →
    handled context muted (Group key) l ≡ flushed context muted (group_in key) l
unfolding handled
flushes context muted key l due = rw due refl

pub passes_over : (context : Context) (muted : List (List Label)) (key : FlushKey) (l : Local) → is_due context.moment (flush_due l.plan.paces l.plan.grouped key) ≡ false →
    handled context muted (Group key) l ≡ stays l
unfolding handled
passes_over context muted key l due = rw due refl

pub no_operation : (context : Context) (muted : List (List Label)) (number : ℕ) (l : Local) → handled context muted (Operation number) l ≡ stays l
unfolding handled
no_operation context muted number l = refl

pub no_push : (context : Context) (muted : List (List Label)) (instance : ℕ) (l : Local) → handled context muted (Push instance) l ≡ stays l
unfolding handled
no_push context muted instance l = refl

pub try_fits : (context : Context) (number : ℕ) (l : Local) → (retried context number l).fits ≡ true
unfolding retried
try_fits context number l = refl

pub tries : (context : Context) (muted : List (List Label)) (number : ℕ) (l : Local) → handled context muted (Retry number) l ≡ retried context number l
unfolding handled
tries context muted number l = refl
