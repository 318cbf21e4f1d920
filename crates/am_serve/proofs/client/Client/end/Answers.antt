use Rattle.std.proofs.Common.{[], append-nil, refl, subst, sym}
use Rattle.std.proofs.lemmas.Bool.{false≢true}
use Rattle.am_serve.specs.Clients.{IsSuccess}
use Rattle.am_serve.proofs.ActLists.{stops}
use Rattle.am_serve.proofs.Stages.{awaiting_told, nothing_left, told_asks, told_drains}
use Rattle.am_serve.proofs.Steps.{none, one, stood}
use Rattle.am_serve.proofs.client.Client.end.Goals as goal

pub returns-then-is_success-clause-works : goal.returns-then-is_success-clause-works
returns-then-is_success-clause-works g c most =
    none g.S.Socket.does most c.args.now _ _ _ refl refl (λ h. absurd (cc)) (stood _ _ _ refl refl refl (λ h. h) refl (λ h. h) (λ h. h) (λ h. h) (λ _. refl) refl refl) refl (c.requires, subst IsSuccess (sym (append-nil _)) (c.is_success.ensures.0 c.if-is_success.true), refl)

pub returns-clause-works : goal.returns-clause-works
returns-clause-works g c most =
    one g.S.Socket.does most c.args.now _ _ [] _ _ c.finish.ensures.finishes (stops _ _ refl)
    (stood _ _ _ refl refl (sym (nothing_left c.args.self.now.stage c.requires)) (λ h. absurd h) refl (λ h. tt) (λ h. absurd (told_asks c.args.self.now.stage c.requires h)) (λ h. absurd (awaiting_told c.args.self.now.stage h c.requires)) (λ not. absurd (not tt)) refl refl) refl
    (told_drains c.args.self.now.stage c.requires, tt, λ h. false≢true (c.if-is_success.ensures.1 (subst IsSuccess (append-nil _) h)), refl)
