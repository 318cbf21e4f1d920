use Rattle.std.proofs.lemmas.Result.{on_ok_weaker}
use Rattle.am_json.proofs.Chain.{after}
use Rattle.am_log.proofs.object.end_with_word.Goals as goal

pub returns : goal.returns
returns c =
    on_ok_weaker c.end_object.result (λ e. after c.args.text.now _ _ c.in_ok-word_member.ensures e) c.end_object.ensures
