use Rattle.std.proofs.Common.{◌≡◌, cond, List, OnOk, OnErr, Ok, Err, Result, sym, ap, ◌∙◌, subst}
use Rattle.std.specs.BTreeMap.{is_at}
use Rattle.std.specs.List.Sorted.{IsStrictlySortedBy}
use Rattle.std.specs.Map.{keys_of, lookup}
use Rattle.std.specs.Ordering.{is_gt}
use Rattle.std.specs.Prelude.{slice_index_or}
use Rattle.am_item.specs.Newest.{newest}
use Rattle.am_item.specs.Retirement.{held_standing}
use Rattle.std.specs.Cmp.{eq_by_cmp_equiv}
use Rattle.am_item.specs.Stamp.{stamp_cmp}
use Rattle.am_item.specs.Places.{IsGap, IsPlace}
use Rattle.am_item.proofs.Found.{at_place, insert_sorted, none_at_gap, put_gap, put_new, put_older, put_place, put_replaced, put_stays, set_sorted}
use Rattle.am_item.proofs.map.SharedMap.put.Goals as goal

-- what holds of a list before and after an edit holds whether the edit came or not
either_way : {X T E : Type 0} (P : List X → Type 0) (r : Result T E) (now done old : List X) → OnOk r (now ≡ done) → OnErr r (now ≡ old) → P done → P old → P now
either_way P (Ok x) now done old ok err p q = subst P (sym ok) p
either_way P (Err e) now done old ok err p q = subst P (sym err) q

pub invariant_of-self-then-exceeds : goal.invariant_of-self-then-exceeds
invariant_of-self-then-exceeds g c =
    let cmp = g.K.Ord.cmp in
    let es = c.self.inside.list.value.items in
    let seen = c.as_slice.ensures.value ∙ ap (λ v. v.items) c.as_ref.ensures in
    let place : IsPlace cmp c.args.kept.0 es c.in-Ok.at = subst (λ k. IsPlace cmp k es c.in-Ok.at) c.key.ensures (subst (λ l. IsPlace cmp c.key.result.now l c.in-Ok.at) seen c.in-Ok.ensures) in (
      subst (λ l. IsStrictlySortedBy cmp (keys_of l)) (sym c.in_ok-replace_at-in-Ok.ensures.ok)
          (set_sorted g.met.K.Ord.total c.args.kept.0 c.args.kept.1 es c.in-Ok.at place c.self.invariant.0),
      c.in_ok-replace_at-in-Ok.ensures.counted,
    )

pub returns-in_ok-replace_at-in-Ok-clause-newest : goal.returns-in_ok-replace_at-in-Ok-clause-newest
returns-in_ok-replace_at-in-Ok-clause-newest g c = λ q.
    let cmp = g.K.Ord.cmp in
    let es = c.self.inside.list.value.items in
    let seen = c.as_slice.ensures.value ∙ ap (λ v. v.items) c.as_ref.ensures in
    let place : IsPlace cmp c.args.kept.0 es c.in-Ok.at = subst (λ k. IsPlace cmp k es c.in-Ok.at) c.key.ensures (subst (λ l. IsPlace cmp c.key.result.now l c.in-Ok.at) seen c.in-Ok.ensures) in
    ap (lookup (is_at (cmp q))) c.in_ok-replace_at-in-Ok.ensures.ok
    ∙ put_place g.met.K.Ord.total c.args.kept.0 c.args.kept.1 es c.in-Ok.at c.index.result.now place c.self.invariant.0
    (c.index.ensures ∙ ap (λ v. slice_index_or v.items c.in-Ok.at c.index.result.now) c.as_ref-in-Ok.ensures)
    (ap (λ o. is_gt (stamp_cmp c.args.kept.1.stamp o.stamp)) (sym c.value-old.ensures) ∙ ap (λ o. is_gt (stamp_cmp o.stamp c.value-old.result.now.stamp)) (sym c.value.ensures) ∙ sym c.exceeds.ensures ∙ c.if-exceeds.true) q
    ∙ ap (λ l. cond (is_at (cmp c.args.kept.0) q) (newest (lookup (is_at (cmp q)) l) c.args.kept.1) (lookup (is_at (cmp q)) l)) c.self.view_is

pub returns-else-exceeds-clause-newest : goal.returns-else-exceeds-clause-newest
returns-else-exceeds-clause-newest g c = λ q.
    let cmp = g.K.Ord.cmp in
    let es = c.self.inside.list.value.items in
    let seen = c.as_slice.ensures.value ∙ ap (λ v. v.items) c.as_ref.ensures in
    let place : IsPlace cmp c.args.kept.0 es c.in-Ok.at = subst (λ k. IsPlace cmp k es c.in-Ok.at) c.key.ensures (subst (λ l. IsPlace cmp c.key.result.now l c.in-Ok.at) seen c.in-Ok.ensures) in
    ap (lookup (is_at (cmp q))) (sym c.self.view_is)
    ∙ put_older g.met.K.Ord.total c.args.kept.0 c.args.kept.1 es c.in-Ok.at c.index.result.now place c.self.invariant.0
    (c.index.ensures ∙ ap (λ v. slice_index_or v.items c.in-Ok.at c.index.result.now) c.as_ref-in-Ok.ensures)
    (ap (λ o. is_gt (stamp_cmp c.args.kept.1.stamp o.stamp)) (sym c.value-old.ensures) ∙ ap (λ o. is_gt (stamp_cmp o.stamp c.value-old.result.now.stamp)) (sym c.value.ensures) ∙ sym c.exceeds.ensures ∙ c.if-exceeds.false) q
    ∙ ap (λ l. cond (is_at (cmp c.args.kept.0) q) (newest (lookup (is_at (cmp q)) l) c.args.kept.1) (lookup (is_at (cmp q)) l)) c.self.view_is

pub returns-in_ok-replace_at-in-Ok-clause-ordered : goal.returns-in_ok-replace_at-in-Ok-clause-ordered
returns-in_ok-replace_at-in-Ok-clause-ordered g c = (invariant_of-self-then-exceeds g c).0

pub invariant_of-self-in-Err : goal.invariant_of-self-in-Err
invariant_of-self-in-Err g c =
    let cmp = g.K.Ord.cmp in
    let es = c.self.inside.list.value.items in
    let seen = c.as_slice.ensures.value ∙ ap (λ v. v.items) c.as_ref.ensures in
    let gap : IsGap cmp c.args.kept.0 es c.in-Err.at = subst (λ k. IsGap cmp k es c.in-Err.at) c.key.ensures (subst (λ l. IsGap cmp c.key.result.now l c.in-Err.at) seen c.in-Err.ensures) in (
      subst (λ l. IsStrictlySortedBy cmp (keys_of l)) (sym c.in_ok-insert_at-in-Err.ensures.ok)
          (insert_sorted g.met.K.Ord.total c.args.kept.0 c.args.kept.1 es c.in-Err.at gap c.self.invariant.0),
      c.in_ok-insert_at-in-Err.ensures.counted,
    )

pub returns-in_ok-insert_at-in-Err-clause-ordered : goal.returns-in_ok-insert_at-in-Err-clause-ordered
returns-in_ok-insert_at-in-Err-clause-ordered g c = (invariant_of-self-in-Err g c).0

pub returns-in_ok-insert_at-in-Err-clause-newest : goal.returns-in_ok-insert_at-in-Err-clause-newest
returns-in_ok-insert_at-in-Err-clause-newest g c = λ q.
    let cmp = g.K.Ord.cmp in
    let es = c.self.inside.list.value.items in
    let seen = c.as_slice.ensures.value ∙ ap (λ v. v.items) c.as_ref.ensures in
    let gap : IsGap cmp c.args.kept.0 es c.in-Err.at = subst (λ k. IsGap cmp k es c.in-Err.at) c.key.ensures (subst (λ l. IsGap cmp c.key.result.now l c.in-Err.at) seen c.in-Err.ensures) in
    ap (lookup (is_at (cmp q))) c.in_ok-insert_at-in-Err.ensures.ok
    ∙ put_gap g.met.K.Ord.total c.args.kept.0 c.args.kept.1 es c.in-Err.at gap q
    ∙ ap (λ l. cond (is_at (cmp c.args.kept.0) q) (newest (lookup (is_at (cmp q)) l) c.args.kept.1) (lookup (is_at (cmp q)) l)) c.self.view_is

pub returns-in_ok-insert_at-in-Err-clause-put : goal.returns-in_ok-insert_at-in-Err-clause-put
returns-in_ok-insert_at-in-Err-clause-put g c =
    let cmp = g.K.Ord.cmp in
    let total = g.met.K.Ord.total in
    let key = c.args.kept.0 in
    let es = c.self.inside.list.value.items in
    let seen = c.as_slice.ensures.value ∙ ap (λ v. v.items) c.as_ref.ensures in
    let gap : IsGap cmp key es c.in-Err.at = subst (λ k. IsGap cmp k es c.in-Err.at) c.key.ensures (subst (λ l. IsGap cmp c.key.result.now l c.in-Err.at) seen c.in-Err.ensures) in
    put_new g.V.Retiring.retires (lookup (is_at (cmp key)) c.args.self.now) c.args.kept.1.stamp
    (ap (lookup (is_at (cmp key))) (sym c.self.view_is) ∙ none_at_gap total key es c.in-Err.at gap key ((eq_by_cmp_equiv total).refl key))

pub returns-in_ok-replace_at-in-Ok-clause-put : goal.returns-in_ok-replace_at-in-Ok-clause-put
returns-in_ok-replace_at-in-Ok-clause-put g c =
    let cmp = g.K.Ord.cmp in
    let total = g.met.K.Ord.total in
    let key = c.args.kept.0 in
    let es = c.self.inside.list.value.items in
    let seen = c.as_slice.ensures.value ∙ ap (λ v. v.items) c.as_ref.ensures in
    let place : IsPlace cmp key es c.in-Ok.at = subst (λ k. IsPlace cmp k es c.in-Ok.at) c.key.ensures (subst (λ l. IsPlace cmp c.key.result.now l c.in-Ok.at) seen c.in-Ok.ensures) in
    put_replaced g.V.Retiring.retires (lookup (is_at (cmp key)) c.args.self.now) c.index.result.now.1 c.standing-standing.result c.args.kept.1.stamp
    (ap (lookup (is_at (cmp key))) (sym c.self.view_is)
    ∙ at_place total key es c.in-Ok.at c.index.result.now place c.self.invariant.0
    (c.index.ensures ∙ ap (λ v. slice_index_or v.items c.in-Ok.at c.index.result.now) c.as_ref-in-Ok.ensures) key ((eq_by_cmp_equiv total).refl key))
    (c.standing-standing.ensures ∙ ap (held_standing g.V.Retiring.retires) c.value-old.ensures)
    (ap (λ o. is_gt (stamp_cmp c.args.kept.1.stamp o.stamp)) (sym c.value-old.ensures) ∙ ap (λ o. is_gt (stamp_cmp o.stamp c.value-old.result.now.stamp)) (sym c.value.ensures) ∙ sym c.exceeds.ensures ∙ c.if-exceeds.true)

pub returns-else-exceeds-clause-put : goal.returns-else-exceeds-clause-put
returns-else-exceeds-clause-put g c =
    let cmp = g.K.Ord.cmp in
    let total = g.met.K.Ord.total in
    let key = c.args.kept.0 in
    let es = c.self.inside.list.value.items in
    let seen = c.as_slice.ensures.value ∙ ap (λ v. v.items) c.as_ref.ensures in
    let place : IsPlace cmp key es c.in-Ok.at = subst (λ k. IsPlace cmp k es c.in-Ok.at) c.key.ensures (subst (λ l. IsPlace cmp c.key.result.now l c.in-Ok.at) seen c.in-Ok.ensures) in
    put_stays g.V.Retiring.retires (lookup (is_at (cmp key)) c.args.self.now) c.index.result.now.1 c.args.kept.1.stamp
    (ap (lookup (is_at (cmp key))) (sym c.self.view_is)
    ∙ at_place total key es c.in-Ok.at c.index.result.now place c.self.invariant.0
    (c.index.ensures ∙ ap (λ v. slice_index_or v.items c.in-Ok.at c.index.result.now) c.as_ref-in-Ok.ensures) key ((eq_by_cmp_equiv total).refl key))
    (ap (λ o. is_gt (stamp_cmp c.args.kept.1.stamp o.stamp)) (sym c.value-old.ensures) ∙ ap (λ o. is_gt (stamp_cmp o.stamp c.value-old.result.now.stamp)) (sym c.value.ensures) ∙ sym c.exceeds.ensures ∙ c.if-exceeds.false)
