use Rattle.std.proofs.Common.{◌≡◌, inl, inr, refl, rules, true, ◌∙◌}
use Rattle.std.proofs.lemmas.Result.{IfErr-weaker, on_ok_weaker}
use Rattle.sqlite.proofs.InsideLemmas.{keeps_then}
use Rattle.sqlite.specs.Held.{state}
use Rattle.sqlite.specs.State.{HasCleanDisk}
use Rattle.am_store.specs.Failing.{is_reached}
use Rattle.am_store.specs.Rows.{IsStore}
use Rattle.am_store.specs.Stored.{SilenceWords, stamped, words_of}
use Rattle.am_store.proofs.Calls.{clean_before}
use Rattle.am_store.proofs.Failing.{excused_after}
use Rattle.am_store.proofs.Gone.{silence_gone}
use Rattle.am_store.proofs.Puts.{Clears, clears, excused_cleared, ready_still, silence_stamped}
use Rattle.am_store.proofs.Reached.{silence_reached}
use Rattle.am_store.proofs.Stores.{silence_stores, stays}
use Rattle.am_store.proofs.silence.put.Given.{Over}
use Rattle.am_store.proofs.silence.put.Goals as goal
use Rattle.am_store.proofs.silence.put.Goals.{After-put_in, Then-branch}

-- where the stamp is reached, nothing changes
silence_stays : (g : Over) (c : goal.Then-branch g) → HasCleanDisk (state g.S.Store c.stamps.new.tx.conn.now) → IsStore (state g.S.Store c.args.tx.now.conn.now).now
    → (is_reached c.args.tenant.now (stamped c.args.stamp.now (SilenceWords (words_of c.args.id.now c.args.silence.now))) (state g.S.Store c.args.tx.now.conn.now).now ≡ true) × ((state g.S.Store c.stamps.new.tx.conn.now).now ≡ (state g.S.Store c.args.tx.now.conn.now).now)
silence_stays g c clean store =
    let got = c.in_ok-rows.ensures.ok clean store in
    (silence_reached _ store _ _ c.in_ok-rows.rows.items _ _ c.deref.ensures.value c.in_ok-is_reached.ensures.reached _ c.text_of-text.ensures.back (rw c.text_of-text.ensures.text at got.1) ∙ c.if-branch.true, got.0.0.now_is)

-- otherwise what is under the key is taken out
silence_cleared : (g : Over) (c : goal.After-put_in g) → HasCleanDisk (state g.S.Store c.put_in.new.tx.conn.now) → IsStore (state g.S.Store c.args.tx.now.conn.now).now
    → Clears c.args.tenant.now (stamped c.args.stamp.now (SilenceWords (words_of c.args.id.now c.args.silence.now))) (state g.S.Store c.args.tx.now.conn.now) (state g.S.Store c.take_out.new.tx.conn.now)
silence_cleared g c clean store =
    let old = state g.S.Store c.args.tx.now.conn.now in
    let read = state g.S.Store c.stamps.new.tx.conn.now in
    let mid = state g.S.Store c.take_out.new.tx.conn.now in
    let clean_mid = clean_before mid _ _ c.put_in.ensures.survives clean in
    let got = c.in_ok-rows.ensures.ok (clean_before read mid _ c.take_out.ensures.survives clean_mid) store in
    let unreached = silence_reached _ store _ _ c.in_ok-rows.rows.items _ _ c.deref.ensures.value c.in_ok-is_reached.ensures.reached _ c.text_of-text.ensures.back (rw c.text_of-text.ensures.text at got.1) ∙ c.if-branch.false in
    clears clean_mid c.stamps.ensures.survives c.take_out.ensures.survives store got.0 unreached
    (rw c.text_of-text.ensures.text at (c.in_ok-take_out.ensures.ok clean_mid)) (λ out. (silence_gone old.now mid.now c.args.tenant.now _ c.text_of-text.ensures.back store out).store)
    (c.in_ok-take_out.ensures.inside clean_mid) (c.in_ok-take_out.ensures.sound clean_mid)

pub returns-then-branch-clause-ok : goal.returns-then-branch-clause-ok
returns-then-branch-clause-ok g c clean store =
    let there = silence_stays g (goal.at.returns-then-branch-clause-ok g c).Then-branch clean store in
    stays _ _ _ _ store there.1 there.0

pub returns-clause-ok : goal.returns-clause-ok
returns-clause-ok g c clean store =
    let room = (silence_cleared g (goal.at.returns-clause-ok g c).After-put_in clean store).room in
    on_ok_weaker c.put_in.result (λ put. silence_stores _ _ _ _ _ _ store c.put_in.ensures.name c.put_in.ensures.stamp c.put_in.ensures.valid room.out put room.exceeds) (c.put_in.ensures.ok clean room.out.schema)

pub returns-then-branch-clause-inside : goal.returns-then-branch-clause-inside
returns-then-branch-clause-inside g c clean store = λ was. (c.in_ok-rows.ensures.ok clean store).0.0.mode ∙ was

pub returns-clause-inside : goal.returns-clause-inside
returns-clause-inside g c clean store =
    let out = silence_cleared g (goal.at.returns-clause-inside g c).After-put_in clean store in
    on_ok_weaker c.put_in.result (λ go was. go (out.inside was)) (c.put_in.ensures.inside clean)

pub returns-in_err-take_out-clause-kept : goal.returns-in_err-take_out-clause-kept
returns-in_err-take_out-clause-kept g c clean store =
    let old = state g.S.Store c.args.tx.now.conn.now in
    let read = state g.S.Store c.stamps.new.tx.conn.now in
    let mid = state g.S.Store c.take_out.new.tx.conn.now in
    let clean_read = clean_before read mid _ c.take_out.ensures.survives clean in
    keeps_then old read mid (c.stamps.ensures.kept clean_read store) (c.take_out.ensures.kept clean)

pub returns-then-branch-clause-puts : goal.returns-then-branch-clause-puts
returns-then-branch-clause-puts g c clean store = (_, inl (silence_stays g (goal.at.returns-then-branch-clause-puts g c).Then-branch clean store), refl)

pub returns-then-branch-clause-sound : goal.returns-then-branch-clause-sound
returns-then-branch-clause-sound g c clean ready =
    (ready_still _ (state g.S.Store c.stamps.new.tx.conn.now) (c.in_ok-rows.ensures.ok clean ready.store).0 ready).sound

pub returns-clause-puts : goal.returns-clause-puts
returns-clause-puts g c clean store =
    let room = (silence_cleared g (goal.at.returns-clause-puts g c).After-put_in clean store).room in
    on_ok_weaker c.put_in.result (λ put. (_, inr (_, room, put), refl)) (c.put_in.ensures.ok clean room.out.schema)

pub returns-clause-sound : goal.returns-clause-sound
returns-clause-sound g c clean ready =
    let out = silence_cleared g (goal.at.returns-clause-sound g c).After-put_in clean ready.store in
    c.put_in.ensures.sound clean (out.ready ready)

pub returns-clause-fails : goal.returns-clause-fails
returns-clause-fails g c clean ready =
    let out = silence_cleared g (goal.at.returns-clause-fails g c).After-put_in clean ready.store in
    IfErr-weaker c.put_in.result _ _ (excused_cleared out c.put_in.ensures.survives) (c.put_in.ensures.fails clean (out.ready ready))

pub returns-in_err-rows-clause-fails : goal.returns-in_err-rows-clause-fails
returns-in_err-rows-clause-fails g c clean ready =
    let excused = c.in_err-rows.ensures.fails clean ready.store in
    search rules

pub returns-in_err-is_reached-clause-fails : goal.returns-in_err-is_reached-clause-fails
returns-in_err-is_reached-clause-fails g c clean ready =
    let old = state g.S.Store c.args.tx.now.conn.now in
    let got = c.in_ok-rows.ensures.ok clean ready.store in
    let given = c.in_err-is_reached.ensures.given (rw c.deref.ensures.value (silence_stamped old.now ready.store c.args.tenant.now c.in_ok-rows.rows.items _ got.1)) in
    search rules

pub returns-in_err-take_out-clause-fails : goal.returns-in_err-take_out-clause-fails
returns-in_err-take_out-clause-fails g c clean ready =
    let old = state g.S.Store c.args.tx.now.conn.now in
    let read = state g.S.Store c.stamps.new.tx.conn.now in
    let mid = state g.S.Store c.take_out.new.tx.conn.now in
    let clean_read = clean_before read mid _ c.take_out.ensures.survives clean in
    let ready_read = ready_still old read (c.in_ok-rows.ensures.ok clean_read ready.store).0 ready in
    let excused = excused_after old read mid _ _ clean_read c.stamps.ensures.survives c.take_out.ensures.survives _ (c.in_err-take_out.ensures.fails clean ready_read) in
    search rules

pub returns-clause-kept : goal.returns-clause-kept
returns-clause-kept g c clean store =
    let old = state g.S.Store c.args.tx.now.conn.now in
    let read = state g.S.Store c.stamps.new.tx.conn.now in
    let mid = state g.S.Store c.take_out.new.tx.conn.now in
    let new = state g.S.Store c.put_in.new.tx.conn.now in
    let clean_mid = clean_before mid new _ c.put_in.ensures.survives clean in
    let clean_read = clean_before read mid _ c.take_out.ensures.survives clean_mid in
    keeps_then old mid new (keeps_then old read mid (c.stamps.ensures.kept clean_read store) (c.take_out.ensures.kept clean_mid)) (c.put_in.ensures.kept clean)
