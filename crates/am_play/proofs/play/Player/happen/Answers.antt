use Rattle.std.proofs.Common.{◌≡◌, ◌++◌, None, Some, refl, sym, ap, ◌∙◌, append-nil}
use Rattle.std.specs.Global.{Vec}
use Rattle.am_world.specs.Refusal.{refusal}
use Rattle.am_world.specs.Runs.{ForgetsOver}
use Rattle.am_report.specs.Mail.{letters_in}
use Rattle.am_report.specs.Output.{refusal_line}
use Rattle.am_report.specs.declared.report.Try.{Try}
use Rattle.am_play.proofs.PlayingLemmas.{reports_event, refusal_same, taken_none, refused_some}
use Rattle.am_play.proofs.play.Player.happen.Goals as goal

pub returns-in-Ok-clause-taken : goal.returns-in-Ok-clause-taken
returns-in-Ok-clause-taken g c =
    let taken : refusal (g.W.AnyWorld.contents c.args.self.now.world).state c.args.event.now ≡ None =
    sym (refusal_same _ _ c.args.event.now c.clear_outputs.ensures.forgets)
    ∙ taken_none _ _ _ c.in-Ok.is c.step-taken.ensures.refused in
    rw taken refl

pub returns-in-Ok-clause-happens : goal.returns-in-Ok-clause-happens
returns-in-Ok-clause-happens g c =
    let forgets : ForgetsOver (g.W.AnyWorld.contents c.args.self.now.world)
    (g.W.AnyWorld.contents c.clear_outputs.new.self) =
    record { forgets = c.clear_outputs.ensures.forgets; shelves = c.clear_outputs.ensures.shelves } in
    let taken : refusal (g.W.AnyWorld.contents c.clear_outputs.new.self).state c.args.event.now ≡ None =
    taken_none _ _ _ c.in-Ok.is c.step-taken.ensures.refused in
    reports_event g.W.AnyWorld.contents c.args.self.now c.args.event.now _ c.clear_outputs.new.self None
    c.args.report.now c.push_outputs.new.report forgets c.step-taken.ensures.step taken (λ h. absurd (cc))
    refl refl refl (c.in_ok-post.ensures ∙ ap (λ os. c.args.self.now.mail ++ letters_in os) c.outputs.ensures)
    (c.in_ok-push_outputs.ensures.text ∙ sym (append-nil _)) c.in_ok-push_outputs.ensures.tries

pub returns-in_ok-push_refusal-in-Err-clause-taken :
    goal.returns-in_ok-push_refusal-in-Err-clause-taken
returns-in_ok-push_refusal-in-Err-clause-taken g c =
    let refused : refusal (g.W.AnyWorld.contents c.args.self.now.world).state c.args.event.now ≡ Some c.in-Err.refused =
    sym (refusal_same _ _ c.args.event.now c.clear_outputs.ensures.forgets)
    ∙ refused_some _ _ _ c.in-Err.is c.step-taken.ensures.refused in
    rw refused refl

pub returns-in_ok-push_refusal-in-Err-clause-happens :
    goal.returns-in_ok-push_refusal-in-Err-clause-happens
returns-in_ok-push_refusal-in-Err-clause-happens g c =
    let forgets : ForgetsOver (g.W.AnyWorld.contents c.args.self.now.world)
    (g.W.AnyWorld.contents c.clear_outputs.new.self) =
    record { forgets = c.clear_outputs.ensures.forgets; shelves = c.clear_outputs.ensures.shelves } in
    let refused : refusal (g.W.AnyWorld.contents c.clear_outputs.new.self).state c.args.event.now
    ≡ Some c.in-Err.refused =
    refused_some _ _ _ c.in-Err.is c.step-taken.ensures.refused in
    reports_event g.W.AnyWorld.contents c.args.self.now c.args.event.now _ c.clear_outputs.new.self
    (Some c.in-Err.refused) c.args.report.now c.push_refusal.new.self forgets c.step-taken.ensures.step refused
    (λ h. c.in-Err.ensures.err) refl refl refl
    (c.in_ok-post.ensures ∙ ap (λ os. c.args.self.now.mail ++ letters_in os) c.outputs.ensures)
    (c.in_ok-push_refusal-in-Err.ensures.text
    ∙ ap (λ s. s ++ refusal_line (Some c.in-Err.refused)) c.in_ok-push_outputs.ensures.text)
    (ap (λ (tries : Vec Try). tries.items) c.in_ok-push_refusal-in-Err.ensures.tries
    ∙ c.in_ok-push_outputs.ensures.tries)
