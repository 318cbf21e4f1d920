use Rattle.std.proofs.Common.{◌≡◌, ◌∙◌, add-one, ◌<◌, ◌≤◌, ap, deque_items, deque_len, false, get_or, length, refl, rules, sym, true, arith}
use Rattle.std.proofs.lemmas.Grind.{common_steps}
use Rattle.am_report.specs.Mail.{goes, without_first}
use Rattle.am_report.proofs.MailLemmas.{first_gone, none_at_all, none_before, none_more, on_some}
use Rattle.am_report.proofs.mail.Mail.drop_first.Goals as goal

pub loop-place-init : goal.loop-place-init
loop-place-init c = (refl, none_before (goes c.args.way.now) c.self.inside.letters.items)

pub index-requires : goal.index-requires
index-requires c = rw c.loop-place.invariant.0 (rw (← c.len-place-end.ensures) c.loop-place-test.true)

pub returns-then-goes : goal.returns-then-goes
returns-then-goes c =
    let known = c.loop-place.invariant in
    let items = c.self.inside.letters.items in
    let place = c.loop-place.place in
    let size : deque_len c.self.inside.letters ≡ length items = omega (arith, c.self.inside.letters) in
    let short : place < deque_len c.self.inside.letters = rw (← c.len-place-end.ensures) c.loop-place-test.true in
    let below : place < length items = rw (← size) short in
    let so : goes c.args.way.now c.index.result.now ≡ true = sym c.if-goes.ensures in
    on_some c.remove.result (c.remove.ensures.variant.1 (rw known.0 short)) (rw add-one (rw known.0 at c.remove.ensures.items))
    ∙ sym (first_gone (goes c.args.way.now) place items c.index.result.now below (rw known.0 at c.index.ensures) so known.1)
    ∙ ap (without_first (goes c.args.way.now)) c.self.view_is

pub loop-place-preserved : goal.loop-place-preserved
loop-place-preserved c =
    let known = c.loop-place.invariant in
    let items = c.self.inside.letters.items in
    let place = c.loop-place.place in
    let size : deque_len c.self.inside.letters ≡ length items = search rules in
    let below : place < length items = rw (← size, ← c.len-place-end.ensures) c.loop-place-test.true in
    let isnt : goes c.args.way.now c.index.result.now ≡ false = sym c.if-goes.ensures in (
      known.0,
      none_more (goes c.args.way.now) place items c.index.result.now below (rw known.0 at c.index.ensures) isnt known.1,
    )

pub returns : goal.returns
returns c =
    let known = c.loop-place.invariant in
    let items = c.self.inside.letters.items in
    let size : deque_len c.self.inside.letters ≡ length items = grind (arith, common_steps) in
    let over : length items ≤ c.loop-place.place = rw (← size, ← c.len-place-end.ensures) c.loop-place-test.false in
    ap deque_items known.0 ∙ sym (none_at_all (goes c.args.way.now) c.loop-place.place items over known.1)
    ∙ ap (without_first (goes c.args.way.now)) c.self.view_is
