-- A group whose flush is due has members, and its route is one of the configuration in use.
use Rattle.std.proofs.Common.{◌≡◌, ◌∙◌, ℕ, ◌<◌, Bool, true, false, List, [], ◌∷◌, map, length, Option, Some, None}
use Rattle.std.proofs.Common.{refl, sym, ap, subst, if◌then◌else◌}
use Rattle.std.specs.Prelude.{slice_get}
use Rattle.std.specs.Str.{bytes_eq}
use Rattle.std.proofs.lemmas.List.{length-map}
use Rattle.std.proofs.lemmas.Option.{slice_get_within}
use Rattle.am_agenda.specs.Plan.{due_by, due_for, flush_due, group_due, group_in}
use Rattle.am_config.specs.Configuration.{Configuration}
use Rattle.am_config.specs.declared.parts.Route.{Route}
use Rattle.am_labels.specs.declared.Label.{Label}
use Rattle.am_members.specs.Grouped.{Grouped, members}
use Rattle.am_notifier.specs.Following.{paces_at}
use Rattle.am_members.specs.Members.{is_bare, least_of}
use Rattle.am_planning.specs.Planning.{pace_of, paces_of}
use Rattle.am_planning.specs.declared.pace.Pace.{Pace}
use Rattle.am_text.specs.declared.tree.Node.{Node}
use Rattle.am_timer.specs.declared.key.FlushKey.{FlushKey}

some_since : (pace : Pace) (ms : List (List Label × ℕ)) (flush : Option ℕ) (d : ℕ) → due_by pace (least_of ms) flush ≡ Some d → is_bare ms ≡ false
some_since pace [] flush d due = cc
some_since pace (m ∷ ms) flush d due = refl

pub has_members : (paces : List Pace) (grouped : Grouped) (key : FlushKey) (d : ℕ) → flush_due paces grouped key ≡ Some d →
    is_bare (members (group_in key) grouped.alerts) ≡ false
unfolding flush_due
has_members paces grouped key d due = by_pace (slice_get paces key.route) due
  where
    by_receiver : (b : Bool) (pace : Pace) → (if b then group_due pace (group_in key) grouped else None) ≡ Some d → is_bare (members (group_in key) grouped.alerts) ≡ false
    by_receiver true pace is = some_since pace (members (group_in key) grouped.alerts) _ d is
    by_receiver false pace is = cc

    by_pace : (found : Option Pace) → due_for key grouped found ≡ Some d → is_bare (members (group_in key) grouped.alerts) ≡ false
    by_pace None is = cc
    by_pace (Some pace) is = by_receiver (bytes_eq pace.receiver key.receiver) pace is

in_paces : (c : Configuration) (position : ℕ) (key : FlushKey) (pace : Pace) → slice_get (paces_of c position) key.route ≡ Some pace → key.route < length c.routes
unfolding paces_of
in_paces c position key pace is =
    subst (λ n. key.route < n) (length-map c.routes _) (slice_get_within (map (λ (node : Node Route). pace_of c position node.item.settings) c.routes) key.route pace is)

-- .. at any position
at_place : (c : Configuration) (position : Option ℕ) (key : FlushKey) (pace : Pace) → slice_get (paces_at c position) key.route ≡ Some pace → key.route < length c.routes
at_place c None key pace is = cc
at_place c (Some position) key pace is = in_paces c position key pace is

pub has_route : (c : Configuration) (position : Option ℕ) (paces : List Pace) (grouped : Grouped) (key : FlushKey) (d : ℕ) → paces ≡ paces_at c position →
    flush_due paces grouped key ≡ Some d → key.route < length c.routes
unfolding flush_due
has_route c position paces grouped key d by_c due = by_pace (slice_get paces key.route) refl due
  where
    by_pace : (found : Option Pace) → slice_get paces key.route ≡ found → due_for key grouped found ≡ Some d → key.route < length c.routes
    by_pace None is there = cc
    by_pace (Some pace) is there = at_place c position key pace (ap (λ ps. slice_get ps key.route) (sym by_c) ∙ is)
