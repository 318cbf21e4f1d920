use Rattle.std.proofs.Common.{sym}
use Rattle.std.proofs.lemmas.Result.{on_ok_weaker}
use Rattle.am_play.proofs.ChangingLemmas.{behind_learns, others_stay}
use Rattle.am_play.proofs.play.Player.learn_if_behind.Goals as goal

pub returns-then-not-is_behind : goal.returns-then-not-is_behind
returns-then-not-is_behind g c =
    others_stay g.W.AnyWorld.contents c.args.self.now c.args.instance c.args.report.now (sym c.if-not-is_behind.ensures)

pub returns : goal.returns
returns g c =
    on_ok_weaker c.bring.result
    (behind_learns g.W.AnyWorld.contents c.args.self.now c.bring.new.self c.args.instance c.args.report.now
    c.bring.new.report (sym c.if-not-is_behind.ensures))
    c.bring.ensures
