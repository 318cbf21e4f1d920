use Rattle.std.proofs.lemmas.Result.{IfErr-weaker, err_from_is_err_and, on_ok_weaker}
use Rattle.am_cluster.specs.Transfers.{send_got}
use Rattle.am_site.specs.Here.{here_of}
use Rattle.am_site.proofs.Put.{never_sending}
use Rattle.am_site.proofs.Settled.{with_room}
use Rattle.am_site.proofs.Taken.{kept_behind, state_stops, state_taken, stops_taking, stops_too_many}
use Rattle.am_site.proofs.site.Site.take_state.Goals as goal

pub returns-in_err-count-clause-fault : goal.returns-in_err-count-clause-fault
returns-in_err-count-clause-fault g c =
    let piece = c.args.piece.now in
    let p = err_from_is_err_and c.from_residual-in_err-count.result c.from_residual-in_err-count.ensures.1 in
    rw (p.1, p.2, c.in_err-count.ensures.past.0)
    (rw c.in_ok-items.ensures at
    (stops_too_many c.args.cache.now.refused c.args.here.now piece.from piece.place piece.is_last c.in_ok-items.items.items c.args.self.now
    (rw c.as_slice.ensures.value at c.in_err-count.ensures.past.1)))

pub returns-clause-reacts : goal.returns-clause-reacts
returns-clause-reacts g c =
    let s = c.args.here.now.tenant.now in
    let here = here_of c.args.here.now in
    let piece = c.args.piece.now in
    let items = c.in_ok-items.items.items in
    on_ok_weaker c.send_got.result
    (λ sent. rw c.in_ok-items.ensures at
    (state_taken s here piece.from piece.place piece.is_last items c.args.self.now c.accept.new.self c.in_ok-accept.ensures.makes c.in_ok-accept.ensures.kept
    (rw c.as_slice.ensures.value at c.in_ok-count.ensures.fits)
    c.state.new.self c.in_ok-behind.behind
    (kept_behind s here piece.from piece.place piece.is_last items c.args.self.now c.accept.new.self c.in_ok-accept.ensures.makes c.in_ok-behind.behind
    (rw (c.in_ok-count.ensures.count, c.as_slice.ensures.value) at c.in_ok-behind.ensures.place))
    (rw (c.as_slice-others.ensures.value, c.in_ok-others.ensures, c.in_ok-count.ensures.count, c.as_slice.ensures.value) at c.in_ok-behind.ensures.each)
    c.in_ok-behind.ensures.timed c.send_got.new.self c.args.outbox.now.items c.send_got.new.outbox.items sent))
    c.send_got.ensures.reacts

pub returns-clause-fault : goal.returns-clause-fault
returns-clause-fault g c =
    let s = c.args.here.now.tenant.now in
    let here = here_of c.args.here.now in
    let piece = c.args.piece.now in
    let items = c.in_ok-items.items.items in
    IfErr-weaker c.send_got.result _ _
    (λ fault stops. stops_taking c.accept.new.cache.refused c.args.here.now piece.from piece.place piece.is_last piece.items.now c.args.self.now fault
    (rw c.in_ok-items.ensures at
    (state_stops s here piece.from piece.place piece.is_last items c.args.self.now c.accept.new.self c.in_ok-accept.ensures.makes c.in_ok-accept.ensures.kept
    (rw c.as_slice.ensures.value at c.in_ok-count.ensures.fits)
    c.state.new.self c.in_ok-behind.behind
    (kept_behind s here piece.from piece.place piece.is_last items c.args.self.now c.accept.new.self c.in_ok-accept.ensures.makes c.in_ok-behind.behind
    (rw (c.in_ok-count.ensures.count, c.as_slice.ensures.value) at c.in_ok-behind.ensures.place))
    (rw (c.as_slice-others.ensures.value, c.in_ok-others.ensures, c.in_ok-count.ensures.count, c.as_slice.ensures.value) at c.in_ok-behind.ensures.each)
    c.in_ok-behind.ensures.timed c.args.outbox.now.items fault stops)))
    c.send_got.ensures.fault

pub returns-clause-left : goal.returns-clause-left
returns-clause-left g c clean stored =
    let s = c.args.here.now.tenant.now in
    record {
      rows = rw c.in_ok-items.ensures at (c.accept.ensures.left clean stored).rows;
      cause = λ refused. absurd (never_sending c.send_got.result s (send_got (here_of c.args.here.now) c.args.piece.now.from c.in_ok-behind.behind)
          (with_room c.accept.new.self c.state.new.self) c.send_got.ensures.fault refused);
    }
