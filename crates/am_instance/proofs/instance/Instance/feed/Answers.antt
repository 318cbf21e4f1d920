use Rattle.std.proofs.Common.{◌∙◌, ◌++◌, ◌∷◌, [], ap, refl}
use Rattle.std.proofs.lemmas.Result.{IfErr-weaker, on_ok_weaker}
use Rattle.am_cluster.specs.Events.{Reply}
use Rattle.am_instance.specs.Here.{circumstances, has_stayed_on, here_on, three_on}
use Rattle.am_instance.specs.Instance.{local_in}
use Rattle.am_instance.proofs.Brought.{brings_ready, brings_refused, brings_waits}
use Rattle.am_instance.proofs.Whole.{whole_alike}
use Rattle.am_instance.proofs.instance.Instance.feed.Goals as goal

pub returns-in-Waits-clause-brings : goal.returns-in-Waits-clause-brings
unfolding local_in
returns-in-Waits-clause-brings c before here =
    rw (← c.in_ok-feed.ensures.verdict before here, c.in-Waits.is) (brings_waits c.args.piece.now.connection (circumstances c.args.occasion.now) _ _ (λ t. refl) _)

pub returns-in_ok-push-in-Refused-clause-brings : goal.returns-in_ok-push-in-Refused-clause-brings
unfolding local_in
returns-in_ok-push-in-Refused-clause-brings c before here =
    rw (← c.in_ok-feed.ensures.verdict before here, c.in-Refused.is) (brings_refused c.args.piece.now.connection (circumstances c.args.occasion.now) _ _ (λ t. refl) _ c.in-Refused.reason _
    (c.in_ok-push-in-Refused.ensures.items ∙ ap (λ bytes. c.args.outputs.now.items ++ Reply c.args.piece.now.connection bytes ∷ []) c.in_ok-bytes-in-Refused.ensures))

pub returns-in_ok-push-in-Ready-clause-brings : goal.returns-in_ok-push-in-Ready-clause-brings
unfolding local_in
returns-in_ok-push-in-Ready-clause-brings c before here =
    rw (← c.in_ok-feed.ensures.verdict before here, c.in-Ready.is) (brings_ready c.args.piece.now.connection (circumstances c.args.occasion.now) _ _ (λ t. refl) _ _
    (c.in_ok-push-in-Ready.ensures.items ∙ ap (λ bytes. c.args.outputs.now.items ++ Reply c.args.piece.now.connection bytes ∷ []) c.in_ok-bytes-in-Ready.ensures))

pub returns-in-Request-clause-brings : goal.returns-in-Request-clause-brings
unfolding local_in here_on three_on has_stayed_on
returns-in-Request-clause-brings c = on_ok_weaker c.ask.result (λ b before here.
    rw (← c.in_ok-feed.ensures.verdict before here, c.in-Request.is)
    (record { local = b.local; outputs = b.outputs; fits = b.fits }))
    c.ask.ensures.reacts

pub returns-in-Request-clause-cause : goal.returns-in-Request-clause-cause
unfolding here_on three_on has_stayed_on
returns-in-Request-clause-cause c = IfErr-weaker c.ask.result _ _ (λ fault cause before here.
    rw (← c.in_ok-feed.ensures.verdict before here, c.in-Request.is) cause) c.ask.ensures.cause

pub ask-requires : goal.ask-requires
ask-requires c = record { whole = whole_alike (circumstances c.args.occasion.now) c.args.self.now _ refl refl refl refl refl c.requires.whole }

pub returns-in-Waits-clause-whole : goal.returns-in-Waits-clause-whole
returns-in-Waits-clause-whole c = whole_alike (circumstances c.args.occasion.now) c.args.self.now _ refl refl refl refl refl c.requires.whole

pub returns-in_ok-push-in-Refused-clause-whole : goal.returns-in_ok-push-in-Refused-clause-whole
returns-in_ok-push-in-Refused-clause-whole c = whole_alike (circumstances c.args.occasion.now) c.args.self.now _ refl refl refl refl refl c.requires.whole

pub returns-in_ok-push-in-Ready-clause-whole : goal.returns-in_ok-push-in-Ready-clause-whole
returns-in_ok-push-in-Ready-clause-whole c = whole_alike (circumstances c.args.occasion.now) c.args.self.now _ refl refl refl refl refl c.requires.whole
