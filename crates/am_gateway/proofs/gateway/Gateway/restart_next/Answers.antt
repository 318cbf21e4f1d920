use Rattle.std.proofs.Common.{◌∙◌, Ok, ap, refl}
use Rattle.std.specs.Option.{is_some}
use Rattle.std.specs.declared.alloc.AllocError.{AllocError}
use Rattle.std.proofs.lemmas.Result.{on_err_weaker}
use Rattle.am_gateway.specs.Restarting.{fallen}
use Rattle.am_gateway.proofs.HearingLemmas.{counted_then, not_both, only_err, restarts_none, restarts_one}
use Rattle.am_gateway.proofs.SortingLemmas.{on_err}
use Rattle.am_gateway.proofs.gateway.Gateway.restart_next.Goals as goal

pub returns-in_default-clause-restarts : goal.returns-in_default-clause-restarts
returns-in_default-clause-restarts g c =
    let contents = g.W.AnyWorld.contents in
    restarts_none {X = Unit {0}} {E = AllocError} contents (Ok tt) c.args.self.now _ c.fallen.result
    (c.fallen.ensures ∙ ap (λ v. fallen v (contents c.args.self.now.world.now).state) c.deref.ensures.value)
    c.in_default.is refl refl

pub returns-in_err-tell-clause-restarts : goal.returns-in_err-tell-clause-restarts
returns-in_err-tell-clause-restarts g c =
    let contents = g.W.AnyWorld.contents in
    restarts_one {X = Unit {0}} {E = AllocError} contents c.from_residual.result c.in-Some.instance c.args.self.now
    c.tell.new.self c.fallen.result
    (c.fallen.ensures ∙ ap (λ v. fallen v (contents c.args.self.now.world.now).state) c.deref.ensures.value)
    c.in-Some.is (record {
      told = c.tell.result;
      mid = c.tell.new.self;
      tells = c.tell.ensures.told;
      goes_on = λ ok. absurd (not_both c.from_residual.result c.from_residual.ensures.0 ok);
      counted = only_err c.from_residual.result _ c.from_residual.ensures.0;
      uncounted = on_err c.from_residual.result (ap (λ v. v.items) c.tell.ensures.told.vain);
      rest = refl;
    })

pub returns-clause-restarts : goal.returns-clause-restarts
returns-clause-restarts g c =
    let contents = g.W.AnyWorld.contents in
    restarts_one {X = Unit {0}} {E = AllocError} contents c.note.result c.in-Some.instance c.args.self.now _ c.fallen.result
    (c.fallen.ensures ∙ ap (λ v. fallen v (contents c.args.self.now.world.now).state) c.deref.ensures.value)
    c.in-Some.is (record {
      told = c.tell.result;
      mid = c.tell.new.self;
      tells = c.tell.ensures.told;
      goes_on = λ ok. rw c.in_ok-tell.was refl;
      counted = counted_then c.note.result c.in-Some.instance _ _ _ _ _ (ap (λ v. v.items) c.tell.ensures.told.vain)
          (c.is_some-is_vain.ensures ∙ ap is_some c.cause.ensures) c.note.ensures.counted;
      uncounted = on_err_weaker c.note.result (λ e. e ∙ ap (λ v. v.items) c.tell.ensures.told.vain) c.note.ensures.err;
      rest = refl;
    })
