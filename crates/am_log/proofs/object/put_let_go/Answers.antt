use Rattle.std.proofs.lemmas.Result.{on_ok_weaker}
use Rattle.am_json.proofs.Chain.{after}
use Rattle.am_log.proofs.object.put_let_go.Goals as goal

pub returns : goal.returns
returns c =
    on_ok_weaker c.end_with_number.result (λ e.
    after c.args.text.now _ _ (rw c.reason_word.ensures at c.in_ok-word_member.ensures) e) c.end_with_number.ensures
