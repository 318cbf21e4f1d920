use Rattle.std.proofs.Common.{[], refl, sym, ap, ◌∙◌, append-nil}
use Rattle.am_serve.specs.Clients.{unsaid, whole_reply}
use Rattle.am_serve.specs.declared.socket.Moved.TheVariants.{Bytes}
use Rattle.am_serve.proofs.ActLists.{goes, some_byte, stops}
use Rattle.am_serve.proofs.Stages.{awaiting_tells, telling_asks, telling_drains, telling_told}
use Rattle.am_serve.proofs.Steps.{one, one_moved, stood, told}
use Rattle.am_serve.proofs.client.Client.tell.Goals as goal

pub returns-in-Bytes-clause-works : goal.returns-in-Bytes-clause-works
returns-in-Bytes-clause-works g c most =
    one_moved g.S.Socket.does most c.args.now _ _ [] _ _ c.in-Bytes.ensures.writes (some_byte _ _ (λ none. c.in-Bytes.ensures.some (ap Bytes none)) c.in-Bytes.ensures.sends.0) (goes _ refl)
    (told _ _ _ c.in-Bytes.field-0 _ (ap unsaid c.in-Telling.is) refl (append-nil _) c.in-Bytes.ensures.sends.1 (λ h. absurd h) refl (telling_asks c.args.self.now.stage c.requires.telling) (λ h. awaiting_tells c.args.self.now.stage h c.requires.telling) (λ h. absurd (telling_drains c.args.self.now.stage c.requires.telling h)) (λ _. c.in-Bytes.ensures.bytes ∙ sym (ap whole_reply c.in-Telling.is)) refl refl)
    refl (λ h. absurd h, refl)

pub returns-in-Blocked-clause-works : goal.returns-in-Blocked-clause-works
returns-in-Blocked-clause-works g c most =
    let same = c.in-Blocked.ensures.sends.1 ∙ sym (ap unsaid c.in-Telling.is) in
    one g.S.Socket.does most c.args.now _ _ [] _ _ c.in-Blocked.ensures.writes (stops _ _ refl)
    (stood _ _ _ refl refl same (λ h. absurd h) refl (λ h. absurd (telling_drains c.args.self.now.stage c.requires.telling h)) (λ h. absurd (telling_asks c.args.self.now.stage c.requires.telling h)) (λ h. absurd (awaiting_tells c.args.self.now.stage h c.requires.telling)) (λ _. c.in-Blocked.ensures.bytes ∙ sym (ap whole_reply c.in-Telling.is)) refl refl)
    refl (λ h. absurd h, λ all. c.requires.untold (telling_told c.args.self.now.stage c.requires.telling (sym same ∙ all)), refl)

pub returns-in-Interrupted-clause-works : goal.returns-in-Interrupted-clause-works
returns-in-Interrupted-clause-works g c most =
    one g.S.Socket.does most c.args.now _ _ [] _ _ c.in-Interrupted.ensures.writes (goes _ refl)
    (stood _ _ _ refl refl (c.in-Interrupted.ensures.sends.1 ∙ sym (ap unsaid c.in-Telling.is)) (λ h. absurd h) refl (λ h. absurd (telling_drains c.args.self.now.stage c.requires.telling h)) (λ h. absurd (telling_asks c.args.self.now.stage c.requires.telling h)) (λ h. absurd (awaiting_tells c.args.self.now.stage h c.requires.telling)) (λ _. c.in-Interrupted.ensures.bytes ∙ sym (ap whole_reply c.in-Telling.is)) refl refl)
    refl (λ h. absurd h, refl)

pub returns-in-Broken-clause-works : goal.returns-in-Broken-clause-works
returns-in-Broken-clause-works g c most =
    let same = c.in-Broken.ensures.sends.1 ∙ sym (ap unsaid c.in-Telling.is) in
    one g.S.Socket.does most c.args.now _ _ [] _ _ c.in-Broken.ensures.writes (stops _ _ refl)
    (stood _ _ _ refl refl same (λ h. absurd h) refl (λ h. absurd (telling_drains c.args.self.now.stage c.requires.telling h)) (λ h. absurd (telling_asks c.args.self.now.stage c.requires.telling h)) (λ h. absurd (awaiting_tells c.args.self.now.stage h c.requires.telling)) (λ _. c.in-Broken.ensures.bytes ∙ sym (ap whole_reply c.in-Telling.is)) refl refl)
    refl (λ h. absurd h, λ all. c.requires.untold (telling_told c.args.self.now.stage c.requires.telling (sym same ∙ all)), λ h. absurd h, refl)
