use Rattle.std.proofs.lemmas.Result.{on_ok_weaker}
use Rattle.am_json.proofs.Chain.{after}
use Rattle.am_payload.specs.Webhook.{webhook_data}
use Rattle.am_payload.proofs.webhook.put_body.Goals as goal

pub returns : goal.returns
unfolding webhook_data
returns c =
    on_ok_weaker c.end_object.result (λ e.
    after c.args.text.now _ _ c.in_ok-begin_object.ensures (
    after c.begin_object.new.self _ _ c.in_ok-key-2.ensures (
    after c.key.new.self _ _ (rw c.as_slice-alerts.ensures at c.in_ok-put_all_told.ensures) (
    after c.put_all_told.new.text _ _ (rw (c.deref.ensures.value, c.in_ok-common.ensures.annotations, c.as_slice-alerts.ensures) at c.in_ok-pairs_member.ensures) (
    after c.pairs_member.new.text _ _ (rw (c.deref-2.ensures.value, c.in_ok-common.ensures.labels, c.as_slice-alerts.ensures) at c.in_ok-pairs_member-2.ensures) (
    after c.pairs_member-2.new.text _ _ c.in_ok-string_member.ensures (
    after c.string_member.new.text _ _ (rw c.in_ok-key.ensures at c.in_ok-text_member.ensures) (
    after c.text_member.new.self _ _ c.in_ok-labels_member.ensures (
    after c.labels_member.new.self _ _ c.in_ok-text_member-2.ensures (
    after c.text_member-2.new.self _ _ (rw (c.status_name.ensures, c.some_fires.ensures, c.as_slice-alerts.ensures) at c.in_ok-string_member-2.ensures) (
    after c.string_member-2.new.text _ _ c.in_ok-key-3.ensures (
    after c.key-2.new.self _ _ c.in_ok-number.ensures (
    after c.number.new.self _ _ c.in_ok-string_member-3.ensures e))))))))))))) c.end_object.ensures
