use Rattle.std.proofs.lemmas.Result.{on_ok_weaker}
use Rattle.am_json.proofs.Chain.{after}
use Rattle.am_log.proofs.object.put_entry.Goals as goal

pub returns : goal.returns
returns c =
    on_ok_weaker c.put_members.result (λ e.
    after c.args.text.now _ _ c.in_ok-begin_object.ensures (
    after c.begin_object.new.self _ _ c.in_ok-moment_member.ensures (
    after c.moment_member.new.self _ _ (rw c.level_of.ensures at c.in_ok-word_member.ensures) (
    after c.word_member.new.text _ _ (rw c.event_of.ensures at c.in_ok-word_member-2.ensures) e)))) c.put_members.ensures
