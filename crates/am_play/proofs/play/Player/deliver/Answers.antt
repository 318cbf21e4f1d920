use Rattle.std.proofs.Common.{◌∙◌, ap, sym}
use Rattle.am_play.proofs.PlayingLemmas.{either_first, either_second}
use Rattle.am_play.proofs.play.Player.deliver.Goals as goal
use Rattle.am_play.proofs.play.Player.deliver.Goals.{then-branch, else-branch}

pub returns : goal.returns
returns g c =
    let happened = c.in_ok-happen.ensures.happens in
    let taken = c.in_ok-happen.ensures.taken in (
      happened.0,
      happened.1,
      (
        c.happen.new.self,
        happened.2,
        elim c.if-branch.branch [
          | then-branch w ↦ either_first _ _ _ (sym taken ∙ w.if-branch.true)
              (w.self-is ∙ ap (λ letters. record c.happen.new.self { mail = letters }) w.forget.ensures)
          | else-branch w ↦ either_second _ _ _ (sym taken ∙ w.if-branch.false) w.self-is
        ],
      ),
    )
