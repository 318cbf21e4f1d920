use Rattle.std.proofs.Common.{true, [], ◌∷◌, refl, sym, ap, ◌∙◌, inl, append-nil}
use Rattle.am_serve.specs.Calls.{failing_act, line_of, unasked, waiting_act}
use Rattle.am_serve.proofs.ActLists.{goes, stops}
use Rattle.am_serve.proofs.Calling.{call_one, call_stood, call_wrote, failing_write, fails_as, as_short, waiting_write, waits_as}
use Rattle.am_serve.proofs.call.Call.ask.Goals as goal

pub returns-in-Bytes : goal.returns-in-Bytes
returns-in-Bytes g c =
    call_one g.S.Socket.does _ _ _ _ [] c.in-Bytes.ensures.writes (goes _ refl)
    (call_wrote _ _ _ c.in-Bytes.field-0 _ (ap unasked c.in-Asking.is) refl (append-nil _) c.in-Bytes.ensures.sends.1 (sym (ap line_of c.in-Asking.is)) (c.requires.connected, refl) refl refl) (refl, as_short _ _ (sym (ap line_of c.in-Asking.is)))

pub returns-in-Blocked : goal.returns-in-Blocked
returns-in-Blocked g c =
    let same = c.in-Blocked.ensures.sends.1 ∙ sym (ap unasked c.in-Asking.is) in
    let last = ap (λ l. waiting_act true l ∷ []) same ∙ ap (λ a. a ∷ []) (waiting_write _ c.requires.left) in
    call_one g.S.Socket.does _ _ _ _ _ c.in-Blocked.ensures.writes (stops _ _ last)
    (call_stood _ _ _ refl refl same (sym (ap line_of c.in-Asking.is)) (c.requires.connected, refl) refl refl) (waits_as _ _ c.requires.connected, as_short _ _ (sym (ap line_of c.in-Asking.is)))

pub returns-in-Interrupted : goal.returns-in-Interrupted
returns-in-Interrupted g c =
    call_one g.S.Socket.does _ _ _ _ [] c.in-Interrupted.ensures.writes (goes _ refl)
    (call_stood _ _ _ refl refl (c.in-Interrupted.ensures.sends.1 ∙ sym (ap unasked c.in-Asking.is)) (sym (ap line_of c.in-Asking.is)) (c.requires.connected, refl) refl refl) (refl, as_short _ _ (sym (ap line_of c.in-Asking.is)))

pub returns-in-Broken : goal.returns-in-Broken
returns-in-Broken g c =
    let same = c.in-Broken.ensures.sends.1 ∙ sym (ap unasked c.in-Asking.is) in
    let last = ap (λ l. failing_act true l ∷ []) same ∙ ap (λ a. a ∷ []) (failing_write _ c.requires.left) in
    call_one g.S.Socket.does _ _ _ _ _ c.in-Broken.ensures.writes (stops _ _ last)
    (call_stood _ _ _ refl refl same (sym (ap line_of c.in-Asking.is)) (c.requires.connected, refl) refl refl) (inl (fails_as _ _ c.requires.connected))
