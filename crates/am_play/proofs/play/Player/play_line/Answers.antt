use Rattle.std.proofs.Common.{◌≡◌, ◌∙◌, [], ◌++◌, ap, refl}
use Rattle.std.specs.Global.{Vec}
use Rattle.am_play.proofs.PlayingLemmas.{printed_more}
use Rattle.am_play.specs.Trace.{outputs, printed}
use Rattle.am_report.specs.Tries.{tries_in}
use Rattle.am_report.specs.declared.report.Try.{Try}
use Rattle.am_play.proofs.play.Player.play_line.Goals as goal

pub returns : goal.returns
returns g c =
    let obeyed = c.in_ok-obey.ensures in
    let settled = c.in_ok-settle.ensures in
    let tries : c.as_slice.result.now ≡ tries_in (outputs obeyed.0) =
    c.as_slice.ensures.value ∙ ap (λ (tries : Vec Try). tries.items) c.replace-tries.ensures.value ∙ obeyed.1.tries
    ∙ ap (λ tries. tries ++ tries_in (outputs obeyed.0)) c.new-report.ensures.tries in (
      obeyed.0 ++ settled.0,
      printed_more [] _ _ obeyed.0 settled.0
          (obeyed.1.text ∙ ap (λ s. s ++ printed obeyed.0) c.new-report.ensures.text) settled.1.text,
      (c.obey.new.self, obeyed.0, settled.0, obeyed.2, refl, rw tries at settled.2),
    )
