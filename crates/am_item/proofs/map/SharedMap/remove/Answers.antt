use Rattle.std.proofs.Common.{sym, ap, ◌∙◌, subst}
use Rattle.std.specs.BTreeMap.{is_at}
use Rattle.std.specs.List.Sorted.{IsStrictlySortedBy}
use Rattle.std.specs.Map.{keys_of, remove_entry}
use Rattle.am_item.specs.Places.{IsGap, IsPlace}
use Rattle.am_item.proofs.Found.{removed_gap, removed_place}
use Rattle.am_item.proofs.map.SharedMap.remove.Goals as goal

pub invariant_of-self-in-Ok : goal.invariant_of-self-in-Ok
invariant_of-self-in-Ok g c =
    let cmp = g.K.Ord.cmp in
    let es = c.self.inside.list.value.items in
    let seen = c.as_slice.ensures.value ∙ ap (λ v. v.items) c.as_ref.ensures in
    let place : IsPlace cmp c.args.key.now es c.in-Ok.at = subst (λ l. IsPlace cmp c.args.key.now l c.in-Ok.at) seen c.in-Ok.ensures in (
      subst (λ l. IsStrictlySortedBy cmp (keys_of l)) (sym c.in_ok-remove_at-in-Ok.ensures.ok) (removed_place g.met.K.Ord.total c.args.key.now es c.in-Ok.at place c.self.invariant.0).1,
      c.in_ok-remove_at-in-Ok.ensures.counted,
    )

pub returns-in_ok-remove_at-in-Ok-clause-ordered : goal.returns-in_ok-remove_at-in-Ok-clause-ordered
returns-in_ok-remove_at-in-Ok-clause-ordered g c = (invariant_of-self-in-Ok g c).0

pub returns-in_ok-remove_at-in-Ok-clause-entries : goal.returns-in_ok-remove_at-in-Ok-clause-entries
returns-in_ok-remove_at-in-Ok-clause-entries g c =
    let cmp = g.K.Ord.cmp in
    let es = c.self.inside.list.value.items in
    let seen = c.as_slice.ensures.value ∙ ap (λ v. v.items) c.as_ref.ensures in
    let place : IsPlace cmp c.args.key.now es c.in-Ok.at = subst (λ l. IsPlace cmp c.args.key.now l c.in-Ok.at) seen c.in-Ok.ensures in
    c.in_ok-remove_at-in-Ok.ensures.ok
    ∙ (removed_place g.met.K.Ord.total c.args.key.now es c.in-Ok.at place c.self.invariant.0).0
    ∙ ap (remove_entry (is_at (cmp c.args.key.now))) c.self.view_is

pub returns-in-Err-clause-entries : goal.returns-in-Err-clause-entries
returns-in-Err-clause-entries g c =
    let cmp = g.K.Ord.cmp in
    let es = c.self.inside.list.value.items in
    let seen = c.as_slice.ensures.value ∙ ap (λ v. v.items) c.as_ref.ensures in
    let gap : IsGap cmp c.args.key.now es c.in-Err.field-0 = subst (λ l. IsGap cmp c.args.key.now l c.in-Err.field-0) seen c.in-Err.ensures in
    sym c.self.view_is
    ∙ removed_gap g.met.K.Ord.total c.args.key.now es c.in-Err.field-0 gap
    ∙ ap (remove_entry (is_at (cmp c.args.key.now))) c.self.view_is
