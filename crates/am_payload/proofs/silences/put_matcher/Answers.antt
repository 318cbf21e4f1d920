use Rattle.std.proofs.lemmas.Result.{on_ok_weaker}
use Rattle.am_json.proofs.Chain.{after}
use Rattle.am_payload.proofs.silences.put_matcher.Goals as goal

pub returns : goal.returns
returns c =
    on_ok_weaker c.end_object.result (λ e.
    after c.args.text.now _ _ c.in_ok-begin_object.ensures (
    after c.begin_object.new.self _ _ (rw (c.takes_equal.ensures, c.operator-operator.ensures) at c.in_ok-flag_member.ensures) (
    after c.flag_member.new.text _ _ (rw (c.is_on_pattern.ensures, c.operator-operator.ensures) at c.in_ok-flag_member-2.ensures) (
    after c.flag_member-2.new.text _ _ (rw c.name.ensures.name at c.in_ok-string_member.ensures) (
    after c.string_member.new.text _ _ (rw c.value.ensures.value at c.in_ok-string_member-2.ensures) e))))) c.end_object.ensures
