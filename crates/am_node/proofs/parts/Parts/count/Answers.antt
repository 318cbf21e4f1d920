use Rattle.std.proofs.Common.{unwrap_or}
use Rattle.std.proofs.lemmas.Result.{on_ok_weaker}
use Rattle.am_context.proofs.Changes.{one_changes, other, own}
use Rattle.am_replica.specs.Holds.{counted as counted_there, holds_of}
use Rattle.am_words.specs.Places.{place_of}
use Rattle.am_node.specs.Accepting.{counted}
use Rattle.am_node.specs.Held.{local_of}
use Rattle.am_node.proofs.Accepted.{parts_counted, parts_stay}
use Rattle.am_node.proofs.parts.Parts.count.Goals as goal

pub count-requires : goal.count-requires
unfolding local_of
count-requires c = c.requires

pub returns : goal.returns
unfolding local_of
returns c =
    let s = c.args.tenant.now in
    let r = c.args.self.now in
    on_ok_weaker c.keep_place.result
    (λ placed. one_changes s (counted c.args.more c.args.drawn) (λ t. local_of t r) _
    (parts_counted c.args.more c.args.drawn (local_of s r) (holds_of s c.count.new.self) (place_of s c.keep_place.new.places)
    (own s (counted_there c.args.more (holds_of s r.replica)) (holds_of s r.replica) _ (c.in_ok-count.ensures s))
    (own s (unwrap_or c.args.drawn (place_of s r.places)) (place_of s r.places) _ (placed s)))
    (λ t apart. parts_stay (local_of t r) (holds_of t c.count.new.self) (place_of t c.keep_place.new.places)
    (other t s (counted_there c.args.more (holds_of t r.replica)) (holds_of t r.replica) _ apart (c.in_ok-count.ensures t))
    (other t s (unwrap_or c.args.drawn (place_of t r.places)) (place_of t r.places) _ apart (placed t))))
    c.keep_place.ensures
