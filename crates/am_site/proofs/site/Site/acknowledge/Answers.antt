use Rattle.std.proofs.Common.{◌∙◌, ◌++◌, map, ap, sym, refl}
use Rattle.std.proofs.lemmas.Result.{on_ok_weaker}
use Rattle.am_cluster.specs.Operating.{acked}
use Rattle.am_context.proofs.Changes.{one_changes, other, own}
use Rattle.am_item.specs.Counts.{count_of}
use Rattle.am_node.specs.Held.{local_of as local_in_node}
use Rattle.am_quorum.proofs.Seen.{target_here}
use Rattle.am_quorum.specs.Dockets.{docket_of, with_operations}
use Rattle.am_quorum.specs.Operations.{acked_by, ready_by}
use Rattle.am_transfer.specs.Tenants.{settling_of}
use Rattle.am_site.specs.Locals.{from_rooms, local_of}
use Rattle.am_site.specs.Reacting.{replied, said_in}
use Rattle.am_site.proofs.Acks.{acked_fits, acked_local, acked_said}
use Rattle.am_site.specs.Here.{here_of}
use Rattle.am_site.proofs.Quiet.{acked_quiet, quiet_in_order}
use Rattle.am_site.proofs.Sound.{acked_sound}
use Rattle.am_site.proofs.site.Site.acknowledge.Goals as goal

pub returns-clause-reacts : goal.returns-clause-reacts
unfolding local_of
returns-clause-reacts c =
    let s = c.args.here.now.tenant.now in
    let r = c.args.self.now in
    let target = c.args.target in
    let node = local_in_node s r.node in
    let d = docket_of s r.operations in
    let n = count_of s r.sent in
    let g = settling_of s r.settling.progress in
    let here = target_here r.operations.incarnation target d.operations (sym c.requires) in
    on_ok_weaker c.push_reply.result
    (λ puts. record {
      local = one_changes s (λ l. (acked target.number target.epoch c.args.from l).local) (λ t. local_of t r) _
          (ap (λ docket. from_rooms node docket n g) (own s _ _ _ (c.ack-ready.ensures.each s))
          ∙ ap (λ found. from_rooms node (with_operations (acked_by c.args.from found) d) n g) here
          ∙ sym (acked_local node d n g c.args.from target.number target.epoch))
          (λ t apart. ap (λ docket. from_rooms (local_in_node t r.node) docket (count_of t r.sent) (settling_of t r.settling.progress)) (other t s _ _ _ apart (c.ack-ready.ensures.each t)));
      said = puts ∙ ap (λ ready. map said_in c.args.outbox.now.items ++ replied ready) (c.ack-ready.ensures.ready ∙ ap (ready_by c.args.from) here)
          ∙ ap (λ said. map said_in c.args.outbox.now.items ++ said) (sym (acked_said node d n g c.args.from target.number target.epoch));
      fits = acked_fits node d n g c.args.from target.number target.epoch;
      keeps = record { incarnation = c.ack-ready.ensures.incarnation; positions = λ t. refl; asked = λ t. refl; timed = λ timed. timed };
    })
    c.push_reply.ensures

pub returns-clause-order : goal.returns-clause-order
returns-clause-order c order =
    let here = here_of c.args.here.now in
    let target = c.args.target in
    on_ok_weaker c.push_reply.result
    (λ reacts. quiet_in_order here (acked target.number target.epoch c.args.from) c.args.self.now _ c.args.outbox.now.items c.push_reply.new.outbox.items
    (acked_quiet here target.number target.epoch c.args.from) (acked_sound here target.number target.epoch c.args.from) reacts order)
    (returns-clause-reacts c)
