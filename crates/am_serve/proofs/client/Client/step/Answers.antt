use Rattle.std.proofs.Common.{ap, refl, subst, sym}
use Rattle.am_serve.specs.Clients.{IsAwaiting, acts_at}
use Rattle.am_serve.specs.declared.socket.Moved.TheVariants.{Blocked}
use Rattle.am_serve.proofs.Stages.{awaiting_told}
use Rattle.am_serve.proofs.Steps.{alone, none, stood}
use Rattle.am_serve.proofs.client.Client.step.Goals as goal

pub returns-then-is_told-clause-turned : goal.returns-then-is_told-clause-turned
returns-then-is_told-clause-turned g c = alone g.S.Socket.does g.H.Host.takes c.args.most c.args.now _ _ _ _ _ refl (c.end.ensures.works c.args.most)

pub returns-in-Awaiting-clause-turned : goal.returns-in-Awaiting-clause-turned
returns-in-Awaiting-clause-turned g c =
    let is = c.in-Awaiting.is in
    alone g.S.Socket.does g.H.Host.takes c.args.most c.args.now _ _ _ _ _ refl
    (none g.S.Socket.does c.args.most c.args.now _ _ _ refl (ap (λ stage. acts_at stage Blocked) is) (λ h. absurd (cc))
    (stood _ _ _ refl refl refl (λ h. h) refl (λ h. h) (λ h. h) (λ h. h) (λ _. refl) refl refl) refl
    (λ h. h, awaiting_told c.args.self.now.stage (subst IsAwaiting (sym is) tt), refl))

pub returns-in-Telling-clause-turned : goal.returns-in-Telling-clause-turned
returns-in-Telling-clause-turned g c = alone g.S.Socket.does g.H.Host.takes c.args.most c.args.now _ _ _ _ _ refl (c.tell.ensures.works c.args.most)

pub returns-in-Draining-clause-turned : goal.returns-in-Draining-clause-turned
returns-in-Draining-clause-turned g c = alone g.S.Socket.does g.H.Host.takes c.args.most c.args.now _ _ _ _ _ refl (c.drain.ensures.works c.args.most)
