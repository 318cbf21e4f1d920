use Rattle.std.proofs.lemmas.Result.{on_ok_weaker}
use Rattle.am_json.proofs.Chain.{after}
use Rattle.am_payload.specs.Webhook.{told_data}
use Rattle.am_payload.proofs.webhook.put_told.Goals as goal

pub returns : goal.returns
unfolding told_data
returns c =
    on_ok_weaker c.end_object.result (λ e.
    after c.args.text.now _ _ c.in_ok-begin_object.ensures (
    after c.begin_object.new.self _ _ c.in_ok-annotations_member.ensures (
    after c.annotations_member.new.self _ _ c.in_ok-end_member.ensures (
    after c.end_member.new.text _ _ c.in_ok-fingerprint_member.ensures (
    after c.fingerprint_member.new.self _ _ c.in_ok-text_member.ensures (
    after c.text_member.new.self _ _ c.in_ok-labels_member.ensures (
    after c.labels_member.new.self _ _ c.in_ok-moment_member.ensures (
    after c.moment_member.new.self _ _ (rw c.status_name.ensures at c.in_ok-string_member.ensures) e)))))))) c.end_object.ensures
