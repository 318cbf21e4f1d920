use Rattle.std.proofs.Common.{[], ◌++◌, ◌∙◌, take, refl, sym, ap, inl}
use Rattle.am_serve.specs.Calls.{line_of, unasked}
use Rattle.am_serve.proofs.ActLists.{goes, stops}
use Rattle.am_serve.proofs.Calling.{call_heard, call_one, call_stood, fails_as, as_short, waits_as}
use Rattle.am_serve.proofs.call.Call.hear.Goals as goal

pub returns-in-Bytes : goal.returns-in-Bytes
returns-in-Bytes g c =
    call_heard g.S.Socket.does _ _ _ _ c.in-Bytes.ensures.reads refl (ap unasked c.in-Awaiting.is) refl
    (c.gather.ensures.line ∙ ap (λ l. take 13 (l ++ take c.in-Bytes.count c.read.new.buffer)) (sym (ap line_of c.in-Awaiting.is)))
    (c.requires.connected, refl) refl refl refl c.gather.ensures.ends

pub returns-in-Blocked : goal.returns-in-Blocked
returns-in-Blocked g c =
    call_one g.S.Socket.does _ _ _ _ _ c.in-Blocked.ensures.reads (stops _ _ refl)
    (call_stood _ _ _ refl refl (sym (ap unasked c.in-Awaiting.is)) (sym (ap line_of c.in-Awaiting.is)) (c.requires.connected, refl) refl refl) (waits_as _ [] c.requires.connected, as_short _ _ (sym (ap line_of c.in-Awaiting.is)))

pub returns-in-Interrupted : goal.returns-in-Interrupted
returns-in-Interrupted g c =
    call_one g.S.Socket.does _ _ _ _ [] c.in-Interrupted.ensures.reads (goes _ refl)
    (call_stood _ _ _ refl refl (sym (ap unasked c.in-Awaiting.is)) (sym (ap line_of c.in-Awaiting.is)) (c.requires.connected, refl) refl refl) (refl, as_short _ _ (sym (ap line_of c.in-Awaiting.is)))

pub returns-in-Broken : goal.returns-in-Broken
returns-in-Broken g c =
    call_one g.S.Socket.does _ _ _ _ _ c.in-Broken.ensures.reads (stops _ _ refl)
    (call_stood _ _ _ refl refl (sym (ap unasked c.in-Awaiting.is)) (sym (ap line_of c.in-Awaiting.is)) (c.requires.connected, refl) refl refl) (inl (fails_as _ [] c.requires.connected))
