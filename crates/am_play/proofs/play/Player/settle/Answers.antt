use Rattle.std.proofs.Common.{◌≡◌, [], ◌++◌, drop, arith, append_assoc, append-nil, length-drop, refl}
use Rattle.std.proofs.lemmas.List.{nil_from_length}
use Rattle.am_play.proofs.PlayingLemmas.{grows_nothing, grows_more, settles_more}
use Rattle.am_play.proofs.play.Player.settle.Goals as goal

pub loop-awaited-init : goal.loop-awaited-init
loop-awaited-init g c = record { done = []; grows = grows_nothing _; settles = λ p rest settles. settles }

pub loop-awaited-preserved : goal.loop-awaited-preserved
loop-awaited-preserved g c =
    let known = c.loop-awaited.invariant in
    let brought = c.in_ok-bring.ensures in
    record {
      done = known.done ++ brought.0;
      grows = grows_more _ _ _ known.done brought.0 known.grows brought.1;
      settles = λ p rest later. rw (append_assoc known.done brought.0 rest)
          (known.settles p (brought.0 ++ rest)
          (settles_more g.W.AnyWorld.contents g.L.Link.answers c.loop-awaited.self c.bring.new.self p
          c.args.tries.now c.loop-awaited.awaited-index c.awaited-item.result c.tell-status.result brought.0 rest
          c.loop-awaited-test.true c.awaited-item.is
          (rw c.as_slice.ensures at c.tell-status.ensures)
          (rw c.outcome-event.ensures at brought.2) later));
    }

pub returns : goal.returns
returns g c =
    let known = c.loop-awaited.invariant in
    let none : drop c.loop-awaited.awaited-index c.args.tries.now ≡ [] =
    nil_from_length _ (omega (arith, length-drop c.loop-awaited.awaited-index c.args.tries.now)) in (
      known.done,
      known.grows,
      rw append-nil at (known.settles c.loop-awaited.self [] (rw none (refl, refl))),
    )
