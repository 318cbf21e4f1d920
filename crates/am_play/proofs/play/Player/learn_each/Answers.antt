use Rattle.std.proofs.Common.{◌≡◌, [], ◌++◌, drop, arith, append_assoc, append-nil, length-drop, refl}
use Rattle.std.proofs.lemmas.List.{nil_from_length}
use Rattle.am_play.proofs.ChangingLemmas.{each_more}
use Rattle.am_play.proofs.PlayingLemmas.{grows_more, grows_nothing}
use Rattle.am_play.proofs.play.Player.learn_each.Goals as goal

pub loop-number-init : goal.loop-number-init
loop-number-init g c = record { done = []; grows = grows_nothing _; learns = λ p rest learns. learns }

pub loop-number-preserved : goal.loop-number-preserved
loop-number-preserved g c =
    let known = c.loop-number.invariant in
    let learned = c.in_ok-learn_if_behind.ensures in
    record {
      done = known.done ++ learned.0;
      grows = grows_more _ _ _ known.done learned.0 known.grows learned.1;
      learns = λ p rest later. rw (append_assoc known.done learned.0 rest)
          (known.learns p (learned.0 ++ rest)
          (each_more g.W.AnyWorld.contents c.loop-number.self c.learn_if_behind.new.self p c.args.numbers.now
          c.loop-number.number-index learned.0 rest c.loop-number-test.true learned.2 later));
    }

pub returns : goal.returns
returns g c =
    let known = c.loop-number.invariant in
    let none : drop c.loop-number.number-index c.args.numbers.now ≡ [] =
    nil_from_length _ (omega (arith, length-drop c.loop-number.number-index c.args.numbers.now)) in (
      known.done,
      known.grows,
      rw append-nil at (known.learns c.loop-number.self [] (rw none (refl, refl))),
    )
