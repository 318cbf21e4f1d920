use Rattle.std.proofs.Common.{[], Some, refl, subst}
use Rattle.am_serve.specs.Acts.{Ask}
use Rattle.am_serve.proofs.ActLists.{goes}
use Rattle.am_serve.proofs.Calling.{asked_failing, asked_waiting, call_one, call_stood}
use Rattle.am_serve.proofs.call.Call.connect.Goals as goal

pub returns-in-Ok-true : goal.returns-in-Ok-true
returns-in-Ok-true g c =
    call_one g.S.Socket.does _ _ _ _ [] (subst (λ stands. g.S.Socket.does c.args.self.now.socket (Ask (Some stands)) c.is_connected.new.self) c.in-Ok-true.field-0-test c.in-Ok-true.ensures.asks) (goes _ refl)
    (call_stood _ _ _ refl refl refl refl (c.requires, refl) refl refl) (refl, λ h. h)

pub returns-in-Ok-false : goal.returns-in-Ok-false
returns-in-Ok-false g c =
    asked_waiting g.S.Socket.does _ _ (subst (λ stands. g.S.Socket.does c.args.self.now.socket (Ask (Some stands)) c.is_connected.new.self) c.in-Ok-false.field-0-test c.in-Ok-false.ensures.asks) c.requires refl refl refl refl

pub returns-in-Err : goal.returns-in-Err
returns-in-Err g c = asked_failing g.S.Socket.does _ _ c.in-Err.ensures.asks c.requires refl refl refl refl
