use Rattle.std.proofs.Common.{◌∙◌, ◌+◌, ◌++◌, ◌∷◌, [], ap, arith, inl, inr, length-append, refl, sym}
use Rattle.am_play.proofs.ChangingLemmas.{all_rounds-push, rounds_more}
use Rattle.am_play.proofs.PlayingLemmas.{grows_more, grows_nothing}
use Rattle.am_play.specs.Playing.{in_all_rounds}
use Rattle.am_play.proofs.play.Player.learn_all.Goals as goal

pub loop-init : goal.loop-init
loop-init g c = record { rounds = []; grows = grows_nothing _; learns = refl; count = refl }

pub loop-preserved : goal.loop-preserved
loop-preserved g c =
    let known = c.loop.invariant in
    let learned = c.in_ok-learn_each.ensures in
    record {
      rounds = known.rounds ++ learned.0 ∷ [];
      grows = rw (all_rounds-push known.rounds learned.0)
          (grows_more _ _ _ (in_all_rounds known.rounds) learned.0 known.grows learned.1);
      learns = rounds_more g.W.AnyWorld.contents known.rounds c.args.self.now c.loop.self c.learn_each.new.self
          learned.0 known.learns learned.2;
      count = length-append known.rounds (learned.0 ∷ []) ∙ ap (λ n. n + 1) known.count;
    }

pub returns-then-not-is_any_behind : goal.returns-then-not-is_any_behind
returns-then-not-is_any_behind g c =
    let known = c.loop.invariant in (
      in_all_rounds known.rounds,
      known.grows,
      record {
        rounds = known.rounds;
        learns = known.learns;
        traced = refl;
        bound = rw known.count (omega (arith, c.loop-test.true));
        over = inl (sym c.if-not-is_any_behind.ensures);
      },
    )

pub returns-after-loop : goal.returns-after-loop
returns-after-loop g c =
    let known = c.loop.invariant in (
      in_all_rounds known.rounds,
      known.grows,
      record {
        rounds = known.rounds;
        learns = known.learns;
        traced = refl;
        bound = rw known.count (omega (arith, c.loop.auto.counter-end));
        over = inr (rw known.count (omega (arith, c.loop-test.false, c.loop.auto.counter-end)));
      },
    )
