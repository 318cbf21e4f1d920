use Rattle.std.proofs.Common.{◌≡◌, ◌∷◌, ℕ, List, [], map, Result, Ok, Err, IfOk, refl, ap, sym, ◌∙◌, subst}
use Rattle.std.specs.List.Sorted.{IsStrictlySortedBy}
use Rattle.std.specs.Map.{keys_of}
use Rattle.am_labels.specs.declared.Label.{Label}
use Rattle.am_labels.specs.Labels.{labels_cmp}
use Rattle.am_members.specs.declared.known.Known.{Known}
use Rattle.am_members.specs.Grouped.{grouped_of}
use Rattle.am_agenda.specs.Planned.{Plans, plan_of}
use Rattle.am_agenda.proofs.agenda.Agenda.sinces.Goals as goal

abbrev sinces_in : List (List Label × Known) → List (List Label × ℕ)
sinces_in alerts = map (λ a. (a.0, a.1.since)) alerts

same_keys : (alerts : List (List Label × Known)) → keys_of alerts ≡ keys_of (sinces_in alerts)
same_keys [] = refl
same_keys (a ∷ alerts) = ap (λ ks. a.0 ∷ ks) (same_keys alerts)

-- what is listed of a tenant's alerts rises as they do
rise : (t : List ℕ) (plans : Plans) (sinces : List (List Label × ℕ)) → IsStrictlySortedBy labels_cmp (keys_of (plan_of t plans).grouped.alerts)
    → sinces ≡ sinces_in (grouped_of t plans.groups).alerts → IsStrictlySortedBy labels_cmp (keys_of sinces)
unfolding plan_of
rise t plans sinces rising are =
    subst (λ ks. IsStrictlySortedBy labels_cmp ks) (same_keys (grouped_of t plans.groups).alerts ∙ ap (λ xs. keys_of xs) (sym are)) rising

if_ok : {X Y : Type 0} (r : Result X Y) (P Q : X → Type 0) → ((x : X) → P x → Q x) → IfOk r P → IfOk r Q
if_ok (Ok x) P Q then h = then x h
if_ok (Err e) P Q then h = h

pub returns-in-Some-clause-sinces : goal.returns-in-Some-clause-sinces
unfolding plan_of
returns-in-Some-clause-sinces c =
    let t = c.args.tenant.now in
    if_ok c.sinces_of.result _ (λ v. v.items ≡ sinces_in (grouped_of t c.args.self.now.groups).alerts)
    (λ v is. is ∙ ap sinces_in c.in-Some.ensures ∙ ap (λ (p : Plans). sinces_in (grouped_of t p.groups).alerts) c.self.view_is) c.sinces_of.ensures

pub returns-in-Some-clause-rising : goal.returns-in-Some-clause-rising
returns-in-Some-clause-rising c =
    let inside = c.self.inside in
    let plans : Plans = record { paces = inside.paces; groups = inside.groups; desks = inside.attempts } in
    if_ok c.sinces_of.result _ (λ v. IsStrictlySortedBy labels_cmp (keys_of v.items))
    (λ v is. rise c.args.tenant.now plans v.items (c.self.invariant.rising c.args.tenant.now) (is ∙ ap sinces_in c.in-Some.ensures)) c.sinces_of.ensures

pub returns-in-None-clause-sinces : goal.returns-in-None-clause-sinces
unfolding plan_of
returns-in-None-clause-sinces c =
    c.new.ensures.items ∙ ap sinces_in c.in-None.ensures ∙ ap (λ (p : Plans). sinces_in (grouped_of c.args.tenant.now p.groups).alerts) c.self.view_is

pub returns-in-None-clause-rising : goal.returns-in-None-clause-rising
returns-in-None-clause-rising c =
    let inside = c.self.inside in
    let plans : Plans = record { paces = inside.paces; groups = inside.groups; desks = inside.attempts } in
    rise c.args.tenant.now plans c.new.result.items (c.self.invariant.rising c.args.tenant.now) (c.new.ensures.items ∙ ap sinces_in c.in-None.ensures)
