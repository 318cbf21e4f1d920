use Rattle.std.proofs.Common.{refl, ap, arith}
use Rattle.am_serve.specs.declared.socket.Moved.TheVariants.{Bytes}
use Rattle.am_serve.proofs.ActLists.{goes, some_byte}
use Rattle.am_serve.proofs.Stages.{asking_drains, asking_reads, asking_told, awaiting_asks}
use Rattle.am_serve.proofs.Steps.{alone, handed, none, one, read_last, stood}
use Rattle.am_serve.proofs.client.Client.ask.Goals as goal

pub returns-then-most-self-lt-PIECE_BYTES-clause-turned : goal.returns-then-most-self-lt-PIECE_BYTES-clause-turned
returns-then-most-self-lt-PIECE_BYTES-clause-turned g c =
    alone g.S.Socket.does g.H.Host.takes c.args.most c.args.now _ _ _ _ _ refl
    (none g.S.Socket.does c.args.most c.args.now _ _ _ refl refl (λ h. absurd (cc)) (stood _ _ _ refl refl refl (λ h. h) refl (λ h. h) (λ h. h) (λ h. h) (λ _. refl) refl refl) refl (c.requires.asking, omega arith, refl))

pub returns-in-Bytes-clause-turned : goal.returns-in-Bytes-clause-turned
returns-in-Bytes-clause-turned g c =
    handed g.S.Socket.does g.H.Host.takes c.args.most c.args.now _ _ _ _ _ _ _ _ c.requires.asking refl (some_byte _ _ (λ none. c.in-Bytes.ensures.some (ap Bytes none)) c.in-Bytes.ensures.fits) c.in-Bytes.ensures.reads refl c.hand_on.ensures.taken

pub returns-in-Blocked-clause-turned : goal.returns-in-Blocked-clause-turned
returns-in-Blocked-clause-turned g c =
    alone g.S.Socket.does g.H.Host.takes c.args.most c.args.now _ _ _ _ _ refl
    (one g.S.Socket.does c.args.most c.args.now _ _ _ _ _ c.in-Blocked.ensures.reads (read_last _ _ (asking_reads c.args.self.now.stage c.requires.asking))
    (stood _ _ _ refl refl refl (λ h. h) refl (λ h. h) (λ h. h) (λ h. h) (λ _. refl) refl refl) refl (λ h. h, asking_told c.args.self.now.stage c.requires.asking, refl))

pub returns-in-Interrupted-clause-turned : goal.returns-in-Interrupted-clause-turned
returns-in-Interrupted-clause-turned g c =
    alone g.S.Socket.does g.H.Host.takes c.args.most c.args.now _ _ _ _ _ refl
    (one g.S.Socket.does c.args.most c.args.now _ _ _ _ _ c.in-Interrupted.ensures.reads (goes _ refl)
    (stood _ _ _ refl refl refl (λ h. h) refl (λ h. h) (λ h. h) (λ h. h) (λ _. refl) refl refl) refl (λ h. h, refl))

pub returns-in-Broken-clause-turned : goal.returns-in-Broken-clause-turned
returns-in-Broken-clause-turned g c =
    alone g.S.Socket.does g.H.Host.takes c.args.most c.args.now _ _ _ _ _ refl
    (one g.S.Socket.does c.args.most c.args.now _ _ _ _ _ c.in-Broken.ensures.reads (read_last _ _ (asking_reads c.args.self.now.stage c.requires.asking))
    (stood _ _ _ refl refl refl (λ h. h) refl (λ h. h) (λ h. h) (λ h. h) (λ _. refl) refl refl) refl (λ h. asking_drains c.args.self.now.stage c.requires.asking h, asking_told c.args.self.now.stage c.requires.asking, λ h. awaiting_asks c.args.self.now.stage h c.requires.asking, refl))
