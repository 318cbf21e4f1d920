-- What a flush says is told one after the other: what is done so far, and what is left to do.
use Rattle.std.proofs.Common.{◌≡◌, ℕ, true, false, ◌&&◌, List, [], ◌∷◌, ◌++◌, refl, sym, ap, ◌∙◌, subst, append_assoc}
use Rattle.std.proofs.Common.{append-nil}
use Rattle.am_context.proofs.Changes.{one_changes, other, own}
use Rattle.am_context.specs.Stopping.{StopsPast}
use Rattle.am_context.specs.declared.context.Context.{Context}
use Rattle.am_item.specs.declared.fault.Fault.{Fault}
use Rattle.am_item.specs.declared.fault.Fault.TheVariants.{OutOfMemory, CountsExhausted, PatternNotBuilt, StoreRefused}
use Rattle.am_notifier.specs.Delivery.{told}
use Rattle.am_notifier.specs.Flushing.{MayTellAll, Says}
use Rattle.am_notifier.specs.Notifies.{Notifies, notifies_of}
use Rattle.am_notifier.specs.Steps.{Does, Step, each}
use Rattle.am_notifier.specs.declared.next.Next.{Next}
use Rattle.am_notifier.specs.declared.notifier.Notifier.{Notifier}
use Rattle.am_telling.specs.declared.telling.Telling.{Telling}
use Rattle.am_tenant.specs.Names.{same}

-- all of these are told to a tenant's webhooks
abbrev pub all_told : Context → List Telling → Notifies → Step
all_told context tellings notifies = each (told context) tellings notifies

-- from one state on some were told, which gave these; with those that are left it comes to what telling all of them
-- makes
pub record IsOnWay (context : Context) (tenant : List ℕ) (start : Notifier) (all : List Telling) (now : Notifier) (left : List Telling) (those : List Next) : Type 0 where
  pub notifies : (all_told context left (notifies_of tenant now)).notifies ≡ (all_told context all (notifies_of tenant start)).notifies
  pub next : those ++ (all_told context left (notifies_of tenant now)).next ≡ (all_told context all (notifies_of tenant start)).next
  pub fits : (all_told context left (notifies_of tenant now)).fits ≡ (all_told context all (notifies_of tenant start)).fits
  pub others : (t : List ℕ) → same t tenant ≡ false → notifies_of t now ≡ notifies_of t start
  pub may : MayTellAll context left (notifies_of tenant now)

-- nothing was told
pub begins : (context : Context) (tenant : List ℕ) (start : Notifier) (all : List Telling) (those : List Next) → MayTellAll context all (notifies_of tenant start)
    → those ≡ [] → IsOnWay context tenant start all start all those
begins context tenant start all those may none = record {
  notifies = refl;
  next = ap (λ xs. xs ++ (all_told context all (notifies_of tenant start)).next) none;
  fits = refl;
  others = λ t apart. refl;
  may = may;
}

-- what was given, and what more is
grown : {X : Type 0} (before more after rest all : List X) → after ≡ before ++ more → before ++ (more ++ rest) ≡ all → after ++ rest ≡ all
grown before more after rest all is on = ap (λ xs. xs ++ rest) is ∙ append_assoc before more rest ∙ on

module _ (context : Context) (tenant : List ℕ) (start : Notifier) (all : List Telling) (now : Notifier) where
  -- one more is told
  pub goes_on : (telling : Telling) (before left : List Telling) (those more : List Next) (after : Notifier) → before ≡ telling ∷ left → IsOnWay context tenant start all now before those
      → Does tenant (told context telling) now after → (told context telling (notifies_of tenant now)).fits ≡ true
      → more ≡ those ++ (told context telling (notifies_of tenant now)).next
      → IsOnWay context tenant start all after left more
  goes_on telling before left those more after first is_on does fits adds =
      let on : IsOnWay context tenant start all now (telling ∷ left) those = subst (λ ts. IsOnWay context tenant start all now ts those) first is_on in
      let one = told context telling (notifies_of tenant now) in
      let moved : notifies_of tenant after ≡ one.notifies = own tenant (one.notifies) (notifies_of tenant now) (notifies_of tenant after) (does tenant) in
      record {
        notifies = ap (λ n. (all_told context left n).notifies) moved ∙ on.notifies;
        next = ap (λ n. more ++ (all_told context left n).next) moved
            ∙ grown those one.next more (all_told context left (one.notifies)).next _ adds on.next;
        fits = ap (λ n. (all_told context left n).fits) moved ∙ ap (λ b. b && (all_told context left (one.notifies)).fits) (sym fits) ∙ on.fits;
        others = λ t apart. other t tenant _ _ _ apart (does t) ∙ on.others t apart;
        may = subst (λ n. MayTellAll context left n) (sym moved) (on.may.1);
      }

  -- none is left
  pub ends : (left : List Telling) (those : List Next) → left ≡ [] → IsOnWay context tenant start all now left those → Does tenant (each (told context) all) start now
  ends left those over is_on =
      let on : IsOnWay context tenant start all now [] those = subst (λ ts. IsOnWay context tenant start all now ts those) over is_on in
      one_changes tenant (λ n. (each (told context) all n).notifies) (λ t. notifies_of t start) (λ t. notifies_of t now) on.notifies on.others

  pub says : (left : List Telling) (those : List Next) → left ≡ [] → IsOnWay context tenant start all now left those → Says those (each (told context) all (notifies_of tenant start))
  says left those over is_on =
      let on : IsOnWay context tenant start all now [] those = subst (λ ts. IsOnWay context tenant start all now ts those) over is_on in
      record {
        next = sym (append-nil those) ∙ on.next;
        fits = sym on.fits;
      }

  -- what stops the next one stops all
  pub stops : (telling : Telling) (before left : List Telling) (those : List Next) (fault : Fault) → before ≡ telling ∷ left → IsOnWay context tenant start all now before those
      → StopsPast (told context telling (notifies_of tenant now)).fits fault → StopsPast (each (told context) all (notifies_of tenant start)).fits fault
  stops telling before left those OutOfMemory first on stop = tt
  stops telling before left those CountsExhausted first is_on stop =
      let on : IsOnWay context tenant start all now (telling ∷ left) those = subst (λ ts. IsOnWay context tenant start all now ts those) first is_on in
      sym on.fits ∙ ap (λ b. b && (all_told context left ((told context telling (notifies_of tenant now)).notifies)).fits) stop
  stops telling before left those PatternNotBuilt first on stop = stop
  stops telling before left those StoreRefused first on stop = stop
