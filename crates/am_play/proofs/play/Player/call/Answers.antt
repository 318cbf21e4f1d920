use Rattle.std.proofs.Common.{[], ◌++◌, refl, sym, ◌∙◌, append-nil}
use Rattle.am_play.proofs.PlayingLemmas.{grows_more, either_first, either_second}
use Rattle.am_play.proofs.play.Player.call.Goals as goal

pub returns-in_ok-give : goal.returns-in_ok-give
returns-in_ok-give g c =
    let first = c.in_ok-open.ensures.happens in
    let rest = c.in_ok-give.ensures in (
      first.0 ++ rest.0,
      grows_more _ _ _ first.0 rest.0 first.1 rest.1,
      (
        c.open.new.self,
        first.0,
        rest.0,
        first.2,
        refl,
        either_first _ _ _ (sym c.in_ok-open.ensures.taken ∙ c.if-branch.true) rest.2,
      ),
    )

pub returns-else-branch : goal.returns-else-branch
returns-else-branch g c =
    let first = c.in_ok-open.ensures.happens in (
      first.0,
      first.1,
      (
        c.open.new.self,
        first.0,
        [],
        first.2,
        sym (append-nil first.0),
        either_second _ _ _ (sym c.in_ok-open.ensures.taken ∙ c.if-branch.false) (refl, refl),
      ),
    )
