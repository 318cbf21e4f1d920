use Rattle.std.proofs.Common.{[], refl, ap}
use Rattle.am_serve.specs.declared.socket.Moved.TheVariants.{Bytes}
use Rattle.am_serve.proofs.ActLists.{goes, some_byte}
use Rattle.am_serve.proofs.Stages.{draining_reads, draining_told}
use Rattle.am_serve.proofs.Steps.{one, one_moved, read_last, stood, threw}
use Rattle.am_serve.proofs.client.Client.drain.Goals as goal

pub returns-in-Bytes-clause-works : goal.returns-in-Bytes-clause-works
returns-in-Bytes-clause-works g c most =
    one_moved g.S.Socket.does most c.args.now _ _ [] _ _ c.in-Bytes.ensures.reads (some_byte _ _ (λ none. c.in-Bytes.ensures.some (ap Bytes none)) c.in-Bytes.ensures.fits) (goes _ refl)
    (threw _ _ _ refl c.requires refl refl refl refl) refl (λ h. h, refl)

pub returns-in-Blocked-clause-works : goal.returns-in-Blocked-clause-works
returns-in-Blocked-clause-works g c most =
    one g.S.Socket.does most c.args.now _ _ [] _ _ c.in-Blocked.ensures.reads (read_last _ _ (draining_reads c.args.self.now.stage c.requires))
    (stood _ _ _ refl refl refl (λ h. h) refl (λ h. h) (λ h. h) (λ h. h) (λ _. refl) refl refl) refl (λ h. h, draining_told c.args.self.now.stage c.requires, refl)

pub returns-in-Interrupted-clause-works : goal.returns-in-Interrupted-clause-works
returns-in-Interrupted-clause-works g c most =
    one g.S.Socket.does most c.args.now _ _ [] _ _ c.in-Interrupted.ensures.reads (goes _ refl) (stood _ _ _ refl refl refl (λ h. h) refl (λ h. h) (λ h. h) (λ h. h) (λ _. refl) refl refl) refl (λ h. h, refl)

pub returns-in-Broken-clause-works : goal.returns-in-Broken-clause-works
returns-in-Broken-clause-works g c most =
    one g.S.Socket.does most c.args.now _ _ [] _ _ c.in-Broken.ensures.reads (read_last _ _ (draining_reads c.args.self.now.stage c.requires))
    (stood _ _ _ refl refl refl (λ h. h) refl (λ h. h) (λ h. h) (λ h. h) (λ _. refl) refl refl) refl (c.requires, c.requires, refl)
