use Rattle.std.proofs.lemmas.Result.{on_ok_weaker}
use Rattle.am_json.proofs.Chain.{after}
use Rattle.am_payload.proofs.silences.status_member.Goals as goal

pub returns : goal.returns
returns c =
    on_ok_weaker c.end_object.result (λ e.
    after c.args.text.now _ _ c.in_ok-key.ensures (
    after c.key.new.self _ _ c.in_ok-begin_object.ensures (
    after c.begin_object.new.self _ _ (rw c.at-state.ensures at rw c.state_name.ensures at c.in_ok-string_member.ensures) e))) c.end_object.ensures
