-- The flush of a group, step by step.
use Rattle.std.proofs.Common.{◌≡◌, ℕ, Bool, true, false, List, Option, Some, None, refl, sym, ap, ◌∙◌, subst}
use Rattle.am_agenda.specs.Plan.{Plan, flush_due, group_in, with_desk}
use Rattle.am_config.specs.Configuration.{Configuration}
use Rattle.am_context.proofs.Changes.{one_changes, other, own}
use Rattle.am_context.specs.declared.context.Context.{Context}
use Rattle.am_item.specs.declared.entry.EntryKey.{EntryKey}
use Rattle.am_item.specs.declared.item.Item.{Item}
use Rattle.am_labels.specs.declared.Label.{Label}
use Rattle.am_members.specs.declared.group.Group.{Group}
use Rattle.am_members.specs.Grouped.{members}
use Rattle.am_notifier.specs.Delivery.{told}
use Rattle.am_notifier.specs.Flushing.{MayTellAll, alerts_but, begun, flushed, flushed_due, sent_among, without_keys}
use Rattle.am_notifier.specs.Notifies.{Makes, Notifies, notifies_of}
use Rattle.am_notifier.specs.Steps.{Does, Step, each, stays}
use Rattle.am_timer.specs.declared.key.FlushKey.{FlushKey}
use Rattle.am_notifier.specs.declared.notifier.Notifier.{Notifier}
use Rattle.am_outlet.specs.Attempts.{is_due}
use Rattle.am_telling.specs.Tellings.{tellings}
use Rattle.am_telling.specs.declared.telling.Telling.{Telling}
use Rattle.am_notifier.proofs.Untried.{may_be_told}

module _ (context : Context) (c : Configuration) (held : List Item) (muted : List (List Label)) (group : Group) (tenant : List ℕ) (start begins : Notifier) (found : List Telling)
    (are : found ≡ tellings c group (sent_among held) (alerts_but muted held (members group (notifies_of tenant start).plan.grouped.alerts)) context.moment)
    (noted : Makes tenant (begun context.moment c group) start begins) where
  from_begun : notifies_of tenant begins ≡ begun context.moment c group (notifies_of tenant start)
  from_begun = own tenant _ _ _ (noted tenant)

  -- all of it may be told
  pub may_tell : MayTellAll context found (notifies_of tenant begins)
  may_tell =
      subst (λ n. MayTellAll context found n) (sym from_begun)
      (subst (λ ts. MayTellAll context ts (begun context.moment c group (notifies_of tenant start))) (sym are)
      (may_be_told context c group (sent_among held) (alerts_but muted held (members group (notifies_of tenant start).plan.grouped.alerts)) (notifies_of tenant start)))

  -- that is what the flush says
  pub says : each (told context) found (notifies_of tenant begins) ≡ flushed context c held muted group (notifies_of tenant start)
  unfolding flushed
  says =
      ap (λ ts. each (told context) ts (notifies_of tenant begins)) are
      ∙ ap (each (told context) (tellings c group (sent_among held) (alerts_but muted held (members group (notifies_of tenant start).plan.grouped.alerts)) context.moment)) from_begun

  pub flushes : (after : Notifier) → Does tenant (each (told context) found) begins after → Does tenant (flushed context c held muted group) start after
  flushes after does =
      one_changes tenant (λ n. (flushed context c held muted group n).notifies) (λ t. notifies_of t start) (λ t. notifies_of t after)
      (own tenant _ _ _ (does tenant) ∙ ap (λ s. s.notifies) says)
      (λ t apart. other t tenant _ _ _ apart (does t) ∙ other t tenant _ _ _ apart (noted t))

-- ---- whether it is due

-- what is due some time, where it is due
pub due_some : (moment : ℕ) (o : Option ℕ) → is_due moment o ≡ true → (d : ℕ) × (o ≡ Some d)
due_some moment None due = cc
due_some moment (Some d) due = (d, refl)

-- ---- attempts that are dropped

-- a plan without the attempts of these keys, where it is that of the tenant
abbrev pub dropped : Bool → List EntryKey → Plan → Plan
dropped true keys plan = with_desk (without_keys keys plan.desk) plan
dropped false keys plan = plan

-- ---- where its flush is due

module _ (context : Context) (c : Configuration) (held : List Item) (muted : List (List Label)) (key : FlushKey) (n : Notifies) where
  pub flushes_if : is_due context.moment (flush_due n.plan.paces n.plan.grouped key) ≡ true → flushed_due context c held muted key n ≡ flushed context c held muted (group_in key) n
  flushes_if due = rw due refl

  pub passes_over : is_due context.moment (flush_due n.plan.paces n.plan.grouped key) ≡ false → flushed_due context c held muted key n ≡ stays n
  passes_over due = rw due refl

-- what is done of a tenant is told by what it is to the tenant
pub does_as : (tenant : List ℕ) (one another : Notifies → Step) (old new : Notifier) → one (notifies_of tenant old) ≡ another (notifies_of tenant old)
    → Does tenant one old new → Does tenant another old new
does_as tenant one another old new is does =
    one_changes tenant (λ n. (another n).notifies) (λ t. notifies_of t old) (λ t. notifies_of t new)
    (own tenant _ _ _ (does tenant) ∙ ap (λ (s : Step). s.notifies) is) (λ t apart. other t tenant _ _ _ apart (does t))

pub does_nothing : (tenant : List ℕ) (step : Notifies → Step) (notifier : Notifier) → step (notifies_of tenant notifier) ≡ stays (notifies_of tenant notifier) → Does tenant step notifier notifier
does_nothing tenant step notifier is =
    one_changes tenant (λ n. (step n).notifies) (λ t. notifies_of t notifier) (λ t. notifies_of t notifier)
    (sym (ap (λ (s : Step). s.notifies) is)) (λ t apart. refl)
