-- What is so of an instance between calls stays so.
use Rattle.std.proofs.Common.{◌≡◌, ℕ, ◌<◌, false, true, List, length, inl, inr, ap, refl, sym, subst, ◌∙◌, if◌then◌else◌}
use Rattle.am_cluster.specs.Here.{is_replica_here}
use Rattle.am_cluster.specs.Local.{Local, blank}
use Rattle.am_cluster.specs.Reactions.{Reaction}
use Rattle.am_context.proofs.Changes.{other}
use Rattle.am_site.specs.Here.{here_of}
use Rattle.am_site.specs.InOrder.{IsInOrder}
use Rattle.am_site.specs.Learning.{IsIdle}
use Rattle.am_site.specs.Locals.{local_of}
use Rattle.am_site.specs.Reacting.{Makes, Moves, Reacts}
use Rattle.am_site.specs.declared.here.Here.{Here as Given}
use Rattle.am_site.specs.declared.said.Said.{Said as Spoken}
use Rattle.am_site.specs.declared.site.Site.{Site}
use Rattle.am_site.proofs.InOrder.{blank_in_order, moves_elsewhere}
pub use Rattle.am_site.proofs.InOrder.{in_order_at}
use Rattle.am_site.proofs.Moving.{moves}
use Rattle.am_tenant.specs.Names.{same}
use Rattle.am_tenant.proofs.Same.{same_tells}
use Rattle.am_transfer.specs.Timers.{AreTimed}
use Rattle.am_instance.specs.Here.{Circumstances, IsGiven, has_stayed_on, here_on, three_on}
use Rattle.am_instance.specs.Instance.{local_in}
use Rattle.am_instance.specs.Tenants.{AreNoted, Notes, is_noted}
use Rattle.am_instance.specs.Whole.{IsWhole}
use Rattle.am_instance.specs.declared.instance.Instance.{Instance}
use Rattle.am_instance.proofs.Elsewhere.{StaysElsewhere, blank_elsewhere}
use Rattle.am_instance.proofs.Noting.{neither_noted}
use Rattle.am_instance.proofs.Reacting.{whose}

-- what a clause says of the tenant itself
pub yours : {A : Type 0} (t s : List ℕ) (x y z : A) → same t s ≡ true → z ≡ (if same t s then x else y) → z ≡ x
yours t s x y z own is = is ∙ rw own refl

-- where nothing is had of any tenant
pub whole_blank : (around : Circumstances) (x : Instance) → x.known < length around.rings → ((t : List ℕ) → local_of t x.site ≡ blank) → AreTimed x.site.settling
    → x.site.operations.incarnation ≡ x.incarnation → IsWhole around x
unfolding here_on local_in
whole_blank around x known lost timed incarnation = record {
  known = known;
  order = λ t. blank_in_order (here_on around x t) x.site (lost t);
  timed = timed;
  incarnation = incarnation;
  noted = λ t _. lost t;
  idle = λ t _. blank_elsewhere (local_in t x) (lost t);
}

-- ---- who is noted

module _ (x x' : Instance) (tenant : List ℕ) (change : Local → Local) (makes : Makes tenant change x.site x'.site) where
  -- of one who isn't the tenant it has what it had
  apart_blank : (t : List ℕ) → same t tenant ≡ false → AreNoted x → is_noted t x.tenants ≡ false → local_in t x' ≡ blank
  unfolding local_in
  apart_blank t apart were out = other t tenant _ _ _ apart (makes t) ∙ were t out

  -- the tenant was noted
  pub noted_too : Notes tenant x.tenants x'.tenants → AreNoted x → AreNoted x'
  noted_too notes were t out =
      let neither = neither_noted tenant x.tenants x'.tenants notes t out in
      apart_blank t neither.0 were neither.1

  -- or nothing becomes of nothing
  pub noted_still : x'.tenants ≡ x.tenants → change blank ≡ blank → AreNoted x → AreNoted x'
  unfolding local_in
  noted_still tenants inert were t out =
      let was : is_noted t x.tenants ≡ false = subst (λ names. is_noted t names ≡ false) tenants out in
      elim (same_tells t tenant) [
        | inl is ↦ yours t tenant _ _ _ is.0 (makes t) ∙ ap change (were t was) ∙ inert
        | inr apart ↦ apart_blank t apart.0 were was
      ]

-- ---- it is the same instance still, which knows the same ring

module _ (around : Circumstances) (x x' : Instance) (number : x'.number ≡ x.number) (incarnation : x'.incarnation ≡ x.incarnation)
    (known : x'.known ≡ x.known) where
  pub here_alike : (t : List ℕ) → here_on around x' t ≡ here_on around x t
  unfolding here_on three_on has_stayed_on
  here_alike t = rw (number, incarnation, known) refl

  -- .. and has the same of all tenants
  pub whole_alike : x'.site ≡ x.site → x'.tenants ≡ x.tenants → IsWhole around x → IsWhole around x'
  unfolding local_in
  whole_alike site tenants whole = record {
    known = subst (λ k. k < length around.rings) (sym known) whole.known;
    order = λ t. subst (λ h. IsInOrder h x'.site) (sym (here_alike t)) (subst (IsInOrder (here_on around x t)) (sym site) (whole.order t));
    timed = subst (λ (s : Site). AreTimed s.settling) (sym site) whole.timed;
    incarnation = ap (λ (s : Site). s.operations.incarnation) site ∙ whole.incarnation ∙ sym incarnation;
    noted = λ t out.
        ap (local_of t) site ∙ whole.noted t (subst (λ names. is_noted t names ≡ false) tenants out);
    idle = λ t none.
        subst (λ s. IsIdle (local_of t s)) (sym site)
        (whole.idle t (subst (λ h. is_replica_here h ≡ false) (here_alike t) none));
  }

  -- .. and something happened to one of them
  module _ (tenant : List ℕ) (given : Given) (is : IsGiven around x tenant given) (react : Local → Reaction) (before after : List Spoken)
      (noted : AreNoted x') (stays : StaysElsewhere (here_of given) react) where
    pub whole_moved : Moves given.tenant.now react x.site x'.site before after → IsInOrder (here_of given) x'.site → IsWhole around x → IsWhole around x'
    unfolding here_on local_in
    whole_moved one order whole = record {
      known = subst (λ k. k < length around.rings) (sym known) whole.known;
      order = λ t. subst (λ h. IsInOrder h x'.site) (sym (here_alike t)) (each t);
      timed = one.keeps.timed whole.timed;
      incarnation = one.keeps.incarnation ∙ whole.incarnation ∙ sym incarnation;
      noted = noted;
      idle = λ t none. elsewhere t (subst (λ h. is_replica_here h ≡ false) (here_alike t) none);
    }
      where
        mine : Moves tenant react x.site x'.site before after
        mine = subst (λ s. Moves s react x.site x'.site before after) (whose around x tenant given is) one

        ordered : IsInOrder (here_on around x tenant) x'.site
        ordered = subst (λ h. IsInOrder h x'.site) is.here order

        each : (t : List ℕ) → IsInOrder (here_on around x t) x'.site
        each t = elim (same_tells t tenant) [
          | inl is ↦ subst (λ s. IsInOrder (here_on around x s) x'.site) (sym is.1) ordered
          | inr apart ↦ moves_elsewhere (here_on around x t) tenant apart.0 x.site x'.site react before after mine (whole.order t)
        ]

        elsewhere : (t : List ℕ) → is_replica_here (here_on around x t) ≡ false → IsIdle (local_of t x'.site)
        elsewhere t none = elim (same_tells t tenant) [
          | inl same ↦
              subst IsIdle (sym (yours t tenant _ _ _ same.0 (mine.local t)))
              (stays
              (subst (λ h. is_replica_here h ≡ false) (ap (here_on around x) same.1 ∙ sym is.here) none)
              (local_of t x.site) (whole.idle t none))
          | inr apart ↦ subst IsIdle (sym (other t tenant _ _ _ apart.0 (mine.local t))) (whole.idle t none)
        ]

    pub whole_reacted : Reacts given.tenant.now react x.site x'.site before after → IsInOrder (here_of given) x'.site → IsWhole around x → IsWhole around x'
    whole_reacted one = whole_moved (moves given.tenant.now react x.site x'.site before after one)

-- who is noted, where something happened to the tenant that it goes by
module _ (around : Circumstances) (x x' : Instance) (tenant : List ℕ) (given : Given) (is : IsGiven around x tenant given) (change : Local → Local)
    (makes : Makes given.tenant.now change x.site x'.site) where
  mine : Makes tenant change x.site x'.site
  mine = subst (λ s. Makes s change x.site x'.site) (whose around x tenant given is) makes

  pub noted_given : Notes tenant x.tenants x'.tenants → AreNoted x → AreNoted x'
  noted_given = noted_too x x' tenant change mine

  pub still_given : x'.tenants ≡ x.tenants → change blank ≡ blank → AreNoted x → AreNoted x'
  still_given = noted_still x x' tenant change mine

-- what it has of the tenant is in order, as it is handed on
pub order_given : (around : Circumstances) (x : Instance) (tenant : List ℕ) (given : Given) → IsGiven around x tenant given → IsWhole around x
    → IsInOrder (here_of given) x.site
order_given around x tenant given is whole = subst (λ h. IsInOrder h x.site) (sym is.here) (whole.order tenant)
