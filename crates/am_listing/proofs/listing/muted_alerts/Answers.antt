use Rattle.std.proofs.Common.{◌≡◌, List, Bor, ap, length, map, rules, sym, ◌∙◌}
use Rattle.std.proofs.lemmas.List.{length-map}
use Rattle.std.proofs.lemmas.Result.{err_from_is_err_and}
use Rattle.am_labels.specs.declared.Label.{Label}
use Rattle.am_match.specs.Meaning.{all_take}
use Rattle.am_alert.specs.Held.{firing}
use Rattle.am_alert.specs.HeldAlert.{held_alert}
use Rattle.am_alert.specs.declared.held.HeldAlert.{HeldAlert}
use Rattle.am_muting.specs.Muting.{muting_of}
use Rattle.am_listing.proofs.Places.{same_length}
use Rattle.am_listing.proofs.Steps.{passed_are, sets_are}
use Rattle.std.proofs.lemmas.List.Elements.{Contains-append_left, Contains-append_right}
use Rattle.am_muting.proofs.Failures.{adds_among, adds_behind}
use Rattle.am_listing.proofs.listing.muted_alerts.Goals as goal

pub returns-in_err-taken-clause-failure : goal.returns-in_err-taken-clause-failure
returns-in_err-taken-clause-failure c =
    let p = err_from_is_err_and c.from_residual-in_err-taken.result c.from_residual-in_err-taken.ensures.1 in
    rw (p.1, p.2) (rw c.as_slice.ensures at c.in_err-taken.ensures.failure _)

pub returns-in_err-mutes-clause-failure : goal.returns-in_err-mutes-clause-failure
returns-in_err-mutes-clause-failure c =
    let p = err_from_is_err_and c.from_residual-in_err-mutes.result c.from_residual-in_err-mutes.ensures.1 in
    rw (p.1, p.2) (c.in_err-mutes.ensures.failure _)

pub mutes_of-requires : goal.mutes_of-requires
mutes_of-requires c =
    let all : map held_alert c.in_ok-firing.firing.items ≡ firing c.args.moment c.args.held.now = search rules in
    sets_are c.args.moment c.args.held.now c.in_ok-firing.firing.items _ all (rw c.deref.ensures.value at c.in_ok-sets.ensures)

pub chosen_alerts-requires-clause-mutes : goal.chosen_alerts-requires-clause-mutes
chosen_alerts-requires-clause-mutes c =
    ap length c.in_ok-mutes.ensures.muting
    ∙ length-map c.in_ok-sets.sets.items (λ (set' : Bor (List Label)). muting_of c.args.config.now c.args.moment c.args.held.now set'.now)
    ∙ same_length (λ (set' : Bor (List Label)). set'.now) (λ (a : HeldAlert). a.labels.now) c.in_ok-sets.sets.items c.in_ok-firing.firing.items
    (rw c.deref.ensures.value at c.in_ok-sets.ensures)
    ∙ ap length (sym c.deref-3.ensures.value)

pub chosen_alerts-requires-clause-taken : goal.chosen_alerts-requires-clause-taken
chosen_alerts-requires-clause-taken c =
    ap length (c.deref-4.ensures.value ∙ rw (c.as_slice.ensures, c.deref-2.ensures.value) at c.in_ok-taken.ensures.taken)
    ∙ length-map c.in_ok-sets.sets.items (λ (set' : Bor (List Label)). all_take c.args.query.now.matchers set'.now)
    ∙ same_length (λ (set' : Bor (List Label)). set'.now) (λ (a : HeldAlert). a.labels.now) c.in_ok-sets.sets.items c.in_ok-firing.firing.items
    (rw c.deref.ensures.value at c.in_ok-sets.ensures)
    ∙ ap length (sym c.deref-3.ensures.value)

pub returns-clause-passed : goal.returns-clause-passed
returns-clause-passed c =
    let all : map held_alert c.in_ok-firing.firing.items ≡ firing c.args.moment c.args.held.now = search rules in
    passed_are c.args.config.now c.args.query.now c.args.moment c.args.held.now c.in_ok-firing.firing.items c.in_ok-sets.sets.items c.in_ok-taken.taken.items c.in_ok-mutes.mutes c.in_ok-chosen.chosen.items
    all (rw c.deref.ensures.value at c.in_ok-sets.ensures) (rw (c.as_slice.ensures, c.deref-2.ensures.value) at c.in_ok-taken.ensures.taken)
    c.in_ok-mutes.ensures.muting (rw (c.deref-3.ensures.value, c.deref-4.ensures.value) at c.in_ok-chosen.ensures)

pub returns-in_err-taken-clause-adds : goal.returns-in_err-taken-clause-adds
returns-in_err-taken-clause-adds c =
    rw (err_from_is_err_and c.from_residual-in_err-taken.result c.from_residual-in_err-taken.ensures.1).1
    (adds_among _ _ _ _ (λ text there. Contains-append_left _ _ text there) (rw c.as_slice.ensures at c.in_err-taken.ensures.adds))

pub returns-in_err-mutes-clause-adds : goal.returns-in_err-mutes-clause-adds
returns-in_err-mutes-clause-adds c =
    rw (err_from_is_err_and c.from_residual-in_err-mutes.result c.from_residual-in_err-mutes.ensures.1).1
    (adds_behind _ _ _ _ c.in_ok-taken.ensures.asked
    (adds_among _ _ _ _ (λ text there. Contains-append_right _ _ text there) c.in_err-mutes.ensures.adds))
