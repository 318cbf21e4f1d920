use Rattle.std.proofs.lemmas.Result.{on_ok_weaker}
use Rattle.am_json.proofs.Chain.{after}
use Rattle.am_payload.specs.Groups.{group_data}
use Rattle.am_payload.proofs.groups.put_group.Goals as goal

pub returns : goal.returns
unfolding group_data
returns c =
    on_ok_weaker c.end_object.result (λ e.
    after c.args.text.now _ _ c.in_ok-begin_object.ensures (
    after c.begin_object.new.self _ _ c.in_ok-key.ensures (
    after c.key.new.self _ _ c.in_ok-put_members.ensures (
    after c.put_members.new.text _ _ c.in_ok-labels_member.ensures (
    after c.labels_member.new.self _ _ c.in_ok-key-2.ensures (
    after c.key-2.new.self _ _ c.in_ok-put_receiver.ensures e)))))) c.end_object.ensures
