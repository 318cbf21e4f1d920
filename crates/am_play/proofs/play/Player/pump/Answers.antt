use Rattle.std.proofs.Common.{◌≡◌, ◌∙◌, ◌+◌, ◌++◌, ◌∷◌, ◌≤◌, [], ap, arith, length, inl, inr, length-append, refl, sym}
use Rattle.std.proofs.lemmas.Result.{on_ok_weaker}
use Rattle.am_report.specs.Mail.{kept_of}
use Rattle.am_play.proofs.MailLemmas.{hands_more, kept_done, kept_more, pumped}
use Rattle.am_play.proofs.PlayingLemmas.{grows_more, grows_nothing}
use Rattle.am_play.proofs.play.Player.pump.Goals as goal
use Rattle.am_play.proofs.play.Player.pump.Goals.{then-not-branch+in_ok-push, else-not-branch}
use Rattle.am_play.proofs.play.Player.pump.Goals.{else-loop-test, then-loop-test+in_default}

pub loop-init : goal.loop-init
loop-init g c = record {
  done = [];
  grows = grows_nothing _;
  handed = [];
  hands = (refl, refl);
  count = refl;
  kept = c.new-kept.ensures;
}

pub loop-preserved : goal.loop-preserved
loop-preserved g c =
    let known = c.loop.invariant in
    let over = c.in_ok-hand_over.ensures in
    let letter = c.in-Some.letter in
    let is_done = c.in_ok-hand_over.field-0 in
    let waits : c.loop.self.mail ≡ letter ∷ c.take_first.new.self = rw c.in-Some.is at c.take_first.ensures.first in
    record {
      done = known.done ++ over.0;
      grows = grows_more _ _ _ known.done over.0 known.grows over.1;
      handed = known.handed ++ (letter, is_done) ∷ [];
      hands = hands_more g.W.AnyWorld.contents g.L.Link.carries known.handed c.args.self.now c.loop.self
          c.hand_over.new.self known.done over.0 letter is_done c.take_first.new.self known.hands waits over.2;
      count = length-append known.handed ((letter, is_done) ∷ []) ∙ ap (λ n. n + 1) known.count;
      kept = elim c.if-not-branch.branch [
        | then-not-branch+in_ok-push w ↦ w.kept-is ∙ w.in_ok-push.ensures
            ∙ ap (λ letters. letters ++ letter ∷ []) known.kept ∙ sym (kept_more known.handed letter)
            ∙ ap (λ b. kept_of (known.handed ++ (letter, b) ∷ [])) (sym w.if-not-branch.true)
        | else-not-branch w ↦ w.kept-is ∙ known.kept ∙ sym (kept_done known.handed letter)
            ∙ ap (λ b. kept_of (known.handed ++ (letter, b) ∷ [])) (sym w.if-not-branch.false)
      ];
    }

pub returns : goal.returns
returns g c =
    let known = c.loop.invariant in
    let at_most : c.loop.counter ≤ 1000000 = c.loop.auto.counter-end in
    let bound : length known.handed ≤ 1000000 = rw known.count at_most in
    on_ok_weaker c.put_first.result
    (λ kept. elim c.loop-test.branch [
      | else-loop-test w ↦ (
        known.done,
        known.grows,
        pumped g.W.AnyWorld.contents g.L.Link.carries known.handed c.args.self.now c.loop.self c.loop-test.self
            known.done c.loop.kept c.put_first.new.self known.hands bound
            (inr (omega (arith, known.count, w.loop-test.false, at_most))) known.kept w.self-is kept,
      )
      | then-loop-test+in_default w ↦
          let waits : c.loop.self.mail ≡ w.take_first.new.self = rw w.in_default.is at w.take_first.ensures.first in
          let none : c.loop.self.mail ≡ [] = rw w.in_default.is at w.take_first.ensures.none in (
            known.done,
            known.grows,
            pumped g.W.AnyWorld.contents g.L.Link.carries known.handed c.args.self.now c.loop.self c.loop-test.self
                known.done c.loop.kept c.put_first.new.self known.hands bound (inl none) known.kept
                (w.self-is ∙ ap (λ letters. record c.loop.self { mail = letters }) (sym waits)) kept,
          )
    ])
    c.put_first.ensures
