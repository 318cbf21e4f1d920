use Rattle.std.proofs.Common.{◌≡◌, ◌≤◌, ℕ, Bool, true, false, not, cond, List, length, Option, Some, None, refl, sym, ap, ◌∙◌}
use Rattle.std.specs.Prelude.{slice_get}
use Rattle.std.specs.Str.{bytes_eq}
use Rattle.std.proofs.lemmas.Option.{slice_get_past, slice_get_read}
use Rattle.am_members.specs.Grouped.{grouped_of}
use Rattle.am_timer.specs.declared.key.FlushKey.{FlushKey}
use Rattle.am_planning.specs.declared.pace.Pace.{Pace}
use Rattle.am_agenda.specs.Paces.{paces_of}
use Rattle.am_agenda.specs.Plan.{due_for, flush_due, group_due, group_in}
use Rattle.am_agenda.specs.Planned.{Plans, plan_of}
use Rattle.am_agenda.proofs.agenda.Agenda.flush_due.Goals as goal

-- when a flush is due whose route has this pace, if it has one
due_by_route : (book : Plans) (t : List ℕ) (paces : List Pace) (key : FlushKey) (pace : Option Pace) → paces ≡ paces_of t book.paces → slice_get paces key.route ≡ pace
    → flush_due (plan_of t book).paces (plan_of t book).grouped key ≡ due_for key (grouped_of t book.groups) pace
unfolding flush_due plan_of
due_by_route book t paces key pace are there = ap (λ ps. due_for key (grouped_of t book.groups) (slice_get ps key.route)) (sym are) ∙ ap (due_for key (grouped_of t book.groups)) there

-- .. with that receiver, or with another
here : (same : Bool) (due : Option ℕ) → not same ≡ false → cond same due None ≡ due
here true due is = refl
here false due is = cc

elsewhere : (same : Bool) (due : Option ℕ) → not same ≡ true → cond same due None ≡ None
elsewhere true due is = cc
elsewhere false due is = refl

pub returns-in_err-pace : goal.returns-in_err-pace
returns-in_err-pace c =
    let book = c.args.self.now in
    let t = c.args.tenant.now in
    let key : FlushKey = record { receiver = c.args.receiver.now; labels = c.args.group.now.labels; route = c.args.group.now.route } in
    let past : length c.of.result.now ≤ key.route = c.in_err-pace.ensures.lookup.3 in
    c.from_residual.ensures
    ∙ sym (due_by_route book t c.of.result.now key None (c.of.ensures ∙ ap (λ (p : Plans). paces_of t p.paces) c.self.view_is) (slice_get_past c.of.result.now key.route past))

pub returns-then-ne : goal.returns-then-ne
returns-then-ne c =
    let book = c.args.self.now in
    let t = c.args.tenant.now in
    let key : FlushKey = record { receiver = c.args.receiver.now; labels = c.args.group.now.labels; route = c.args.group.now.route } in
    let pace = c.in_ok-pace.pace.now in
    let there : slice_get c.of.result.now key.route ≡ Some pace = slice_get_read c.of.result.now _ key.route _ refl c.in_ok-pace.ensures.lookup.3.0 c.in_ok-pace.ensures.lookup.1 in
    sym (
    due_by_route book t c.of.result.now key (Some pace) (c.of.ensures ∙ ap (λ (p : Plans). paces_of t p.paces) c.self.view_is) there
    ∙ elsewhere (bytes_eq pace.receiver key.receiver) (group_due pace (group_in key) (grouped_of t book.groups)) (sym c.ne.ensures ∙ c.if-ne.true)
    )

pub returns : goal.returns
returns c =
    let book = c.args.self.now in
    let t = c.args.tenant.now in
    let key : FlushKey = record { receiver = c.args.receiver.now; labels = c.args.group.now.labels; route = c.args.group.now.route } in
    let pace = c.in_ok-pace.pace.now in
    let there : slice_get c.of.result.now key.route ≡ Some pace = slice_get_read c.of.result.now _ key.route _ refl c.in_ok-pace.ensures.lookup.3.0 c.in_ok-pace.ensures.lookup.1 in
    let due = group_due pace (group_in key) (grouped_of t book.groups) in
    c.due.ensures ∙ ap (λ (p : Plans). group_due pace (group_in key) (grouped_of t p.groups)) c.self.view_is
    ∙ sym (
    due_by_route book t c.of.result.now key (Some pace) (c.of.ensures ∙ ap (λ (p : Plans). paces_of t p.paces) c.self.view_is) there
    ∙ here (bytes_eq pace.receiver key.receiver) due (sym c.ne.ensures ∙ c.if-ne.false)
    )
