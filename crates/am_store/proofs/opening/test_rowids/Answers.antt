use Rattle.std.proofs.Common.{◌≡◌, ◌-◌, ap, rules, subst, sym, ◌∙◌}
use Rattle.std.specs.Cmp.{int_cmp_is}
use Rattle.std.proofs.lemmas.Cmp.{int_ranked}
use Rattle.std.specs.Int.Signed.{◌<ℤ◌}
use Rattle.std.specs.declared.cmp.Ordering.TheVariants.{Less}
use Rattle.sqlite.specs.declared.types.Value.TheVariants.{Int}
use Rattle.sqlite.specs.Order.{column}
use Rattle.am_store.specs.Apart.{HasId}
use Rattle.am_store.proofs.Calls.{if_ok}
use Rattle.am_store.proofs.Given.{int_given}
use Rattle.am_store.proofs.Readings.{read_ok}
use Rattle.am_store.proofs.Rising.{rise_all, rise_more, rises_at}
use Rattle.am_store.proofs.opening.test_rowids.Goals as goal

pub loop-at-preserved : goal.loop-at-preserved
loop-at-preserved c =
    let one = c.index-rows-at.result in
    let two = c.index-rows-at-in-loop-at.result in
    let last = read_ok (λ n. column one 0 ≡ Int n) c.get.result c.or_foreign.result c.in_ok-last.last c.or_foreign.ensures.value c.in_ok-last.was (if_ok _ (λ n. column one 0 ≡ Int n) c.get.result (λ n h. h.1) c.get.ensures.ok) in
    let next = read_ok (λ n. column two 0 ≡ Int n) c.get-in-loop-at.result c.or_foreign-in-loop-at.result c.in_ok-next.next c.or_foreign-in-loop-at.ensures.value c.in_ok-next.was (if_ok _ (λ n. column two 0 ≡ Int n) c.get-in-loop-at.result (λ n h. h.1) c.get-in-loop-at.ensures.ok) in
    let below : c.in_ok-last.last <ℤ c.in_ok-next.next = search rules in
    rise_more c.args.rows.now c.loop-at.at c.in_ok-last.last c.in_ok-next.next one two (search rules) c.loop-at.invariant
    (ap (λ r. column r 0) (sym c.index-rows-at.is) ∙ last) (ap (λ r. column r 0) (sym c.index-rows-at-in-loop-at.is) ∙ next) (search rules) (sym (int_cmp_is c.in_ok-last.last c.in_ok-next.next Less below))

pub returns-clause-ok : goal.returns-clause-ok
returns-clause-ok c = rise_all c.args.rows.now c.loop-at.at (search rules) c.loop-at.invariant

pub returns-in_err-last-clause-given : goal.returns-in_err-last-clause-given
returns-in_err-last-clause-given c ids rising =
    let row = c.index-rows-at.result in
    let id : HasId row = subst HasId (sym c.index-rows-at.is) (ids (c.loop-at.at - 1) row (search rules)) in
    let given = c.in_err-last.ensures.given (int_given row 0 c.get.result id.0 c.get.ensures.named c.get.ensures.kind id.1) in
    search rules

pub returns-in_err-next-clause-given : goal.returns-in_err-next-clause-given
returns-in_err-next-clause-given c ids rising =
    let row = c.index-rows-at-in-loop-at.result in
    let id : HasId row = subst HasId (sym c.index-rows-at-in-loop-at.is) (ids c.loop-at.at row (search rules)) in
    let given = c.in_err-next.ensures.given (int_given row 0 c.get-in-loop-at.result id.0 c.get-in-loop-at.ensures.named c.get-in-loop-at.ensures.kind id.1) in
    search rules

pub returns-then-next-last-clause-given : goal.returns-then-next-last-clause-given
returns-then-next-last-clause-given c ids rising =
    let one = c.index-rows-at.result in
    let two = c.index-rows-at-in-loop-at.result in
    let last = read_ok (λ n. column one 0 ≡ Int n) c.get.result c.or_foreign.result c.in_ok-last.last c.or_foreign.ensures.value c.in_ok-last.was (if_ok _ (λ n. column one 0 ≡ Int n) c.get.result (λ n h. h.1) c.get.ensures.ok) in
    let next = read_ok (λ n. column two 0 ≡ Int n) c.get-in-loop-at.result c.or_foreign-in-loop-at.result c.in_ok-next.next c.or_foreign-in-loop-at.ensures.value c.in_ok-next.was (if_ok _ (λ n. column two 0 ≡ Int n) c.get-in-loop-at.result (λ n h. h.1) c.get-in-loop-at.ensures.ok) in
    let above : c.in_ok-last.last <ℤ c.in_ok-next.next =
    int_ranked c.in_ok-last.last c.in_ok-next.next Less
    (rises_at c.args.rows.now c.loop-at.at c.in_ok-last.last c.in_ok-next.next one two (search rules) (search rules) rising
    (ap (λ r. column r 0) (sym c.index-rows-at.is) ∙ last) (ap (λ r. column r 0) (sym c.index-rows-at-in-loop-at.is) ∙ next)) in
    absurd (search rules)
