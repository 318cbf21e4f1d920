use Rattle.std.proofs.Common.{◌≡◌, ◌∙◌}
use Rattle.am_world.proofs.PostingLemmas.{lost_after, posts_spare}
use Rattle.am_world.proofs.posting.send_out.Goals as goal

pub returns-clause-lost : goal.returns-clause-lost
returns-clause-lost c =
    let told = c.args.told.items in
    let old = c.args.messages.now in
    let again : c.as_slice-in-Err.result.now ≡ told =
    c.as_slice-in-Err.ensures.value ∙ c.in-Err.ensures.other_items in
    lost_after told old c.post.new.messages c.lose_all.new.messages
    (posts_spare c.args.moment told old c.post.new.messages (rw c.as_slice.ensures.value at c.in_ok-post.ensures.posts))
    (rw again at c.lose_all.ensures.lost)
