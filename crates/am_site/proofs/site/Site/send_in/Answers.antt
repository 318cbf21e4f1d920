use Rattle.std.proofs.Common.{◌+◌, ◌++◌, ◌∷◌, [], ◌&&◌, ◌∙◌, length, map, nat_le, not, ap, arith, sym, refl}
use Rattle.std.specs.Option.{is_some}
use Rattle.std.proofs.lemmas.List.{map-append}
use Rattle.am_cluster.specs.Reactions.{Sends}
use Rattle.am_cluster.specs.Sending.{message_to, send_in}
use Rattle.am_context.proofs.Changes.{one_changes, other, own}
use Rattle.am_context.proofs.Counting.{fits, passes}
use Rattle.am_item.specs.Counts.{count_of}
use Rattle.am_node.specs.Held.{local_of as local_in_node}
use Rattle.am_quorum.specs.Dockets.{docket_of}
use Rattle.am_wire.specs.Messages.{spelling}
use Rattle.am_site.specs.Here.{here_of}
use Rattle.am_transfer.specs.Tenants.{settling_of}
use Rattle.am_site.specs.Locals.{from_rooms, local_of}
use Rattle.am_site.specs.Reacting.{said_in}
use Rattle.am_site.proofs.Lengths.{long, short}
use Rattle.am_site.proofs.Reacting.{and_false}
use Rattle.am_site.proofs.site.Site.send_in.Goals as goal

pub returns-clause-reacts : goal.returns-clause-reacts
unfolding local_of send_in
returns-clause-reacts c =
    let s = c.args.here.now.tenant.now in
    let r = c.args.self.now in
    let here = here_of c.args.here.now in
    let used = count_of s r.sent in
    record {
      local = one_changes s (λ l. (send_in c.args.epoch here c.args.to c.args.body l).local) (λ t. local_of t r) _
          (ap (λ n. from_rooms (local_in_node s r.node) (docket_of s r.operations) n (settling_of s r.settling.progress)) (own s _ _ _ (c.in_ok-set.ensures.counted s) ∙ ap (λ n. n + 1) c.used-used.ensures))
          (λ t apart. ap (λ n. from_rooms (local_in_node t r.node) (docket_of t r.operations) n (settling_of t r.settling.progress)) (other t s _ _ _ apart (c.in_ok-set.ensures.counted t)));
      said = ap (map said_in) c.in_ok-push.ensures.items ∙ map-append said_in c.args.outbox.now.items _
          ∙ ap (λ n. map said_in c.args.outbox.now.items ++ Sends (message_to here c.args.epoch c.args.to (n + 1) c.args.body) ∷ []) c.used-used.ensures;
      fits = ap (λ b. b && nat_le (length (spelling (message_to here c.args.epoch c.args.to (used + 1) c.args.body))) 4294967295)
          (fits used (λ le. omega (arith, c.if-used-ge-GREATEST_COUNT.false, c.used-used.ensures, le)))
          ∙ ap (λ n. nat_le (length (spelling (message_to here c.args.epoch c.args.to (n + 1) c.args.body))) 4294967295) (sym c.used-used.ensures)
          ∙ short _ (ap is_some (sym c.spelled_len.ensures) ∙ c.is_none.ensures ∙ ap not c.if-is_none.false);
      keeps = record { incarnation = refl; positions = λ t. refl; asked = λ t. refl; timed = λ timed. timed };
    }

pub returns-then-used-ge-GREATEST_COUNT-clause-fault : goal.returns-then-used-ge-GREATEST_COUNT-clause-fault
unfolding local_of send_in
returns-then-used-ge-GREATEST_COUNT-clause-fault c =
    let s = c.args.here.now.tenant.now in
    let used = count_of s c.args.self.now.sent in
    ap (λ b. b && nat_le (length (spelling (message_to (here_of c.args.here.now) c.args.epoch c.args.to (used + 1) c.args.body))) 4294967295)
    (passes used (omega (arith, c.if-used-ge-GREATEST_COUNT.true, c.used-used.ensures)))

pub returns-then-is_none-clause-fault : goal.returns-then-is_none-clause-fault
unfolding local_of send_in
returns-then-is_none-clause-fault c =
    let s = c.args.here.now.tenant.now in
    let used = count_of s c.args.self.now.sent in
    ap (λ b. nat_le (used + 1) 4611686018427387904 && b)
    (ap (λ n. nat_le (length (spelling (message_to (here_of c.args.here.now) c.args.epoch c.args.to (n + 1) c.args.body))) 4294967295) (sym c.used-used.ensures)
    ∙ long _ (ap is_some (sym c.spelled_len.ensures) ∙ c.is_none.ensures ∙ ap not c.if-is_none.true))
    ∙ and_false (nat_le (used + 1) 4611686018427387904)
