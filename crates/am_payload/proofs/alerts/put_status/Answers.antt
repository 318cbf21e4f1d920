use Rattle.std.proofs.lemmas.Result.{on_ok_weaker}
use Rattle.am_json.proofs.Chain.{after}
use Rattle.am_payload.proofs.alerts.put_status.Goals as goal

pub returns : goal.returns
returns c =
    on_ok_weaker c.end_object.result (λ e.
    after c.args.text.now _ _ c.in_ok-key.ensures (
    after c.key.new.self _ _ c.in_ok-begin_object.ensures (
    after c.begin_object.new.self _ _ c.in_ok-prints_member.ensures (
    after c.prints_member.new.text _ _ c.in_ok-ids_member.ensures (
    after c.ids_member.new.text _ _ c.in_ok-key-2.ensures (
    after c.key-2.new.self _ _ (rw c.alert_state.ensures at c.in_ok-string.ensures) e)))))) c.end_object.ensures
