use Rattle.std.proofs.Common.{[]}
use Rattle.am_cluster.specs.Transfers.{take_got}
use Rattle.am_site.specs.Here.{here_of}
use Rattle.am_site.specs.Locals.{local_of}
use Rattle.am_site.proofs.Taken.{got_taken}
use Rattle.am_site.proofs.Quiet.{quiet_in_order, take_got_quiet}
use Rattle.am_site.proofs.SoundSettling.{take_got_sound}
use Rattle.am_site.proofs.Reacting.{quiet}
use Rattle.am_site.proofs.site.Site.take_got.Goals as goal

pub returns-clause-does : goal.returns-clause-does
unfolding local_of
returns-clause-does c =
    let given = c.args.here.now in
    got_taken given.tenant.now (here_of given) c.args.from c.args.place c.args.self.now c.got.new.self c.requires
    (rw c.present-present.ensures at c.in_ok-got.ensures.each) c.in_ok-got.ensures.timed

pub returns-clause-order : goal.returns-clause-order
returns-clause-order c order =
    let here = here_of c.args.here.now in
    quiet_in_order here (take_got here c.args.from c.args.place) c.args.self.now _ [] [] (take_got_quiet here c.args.from c.args.place) (take_got_sound here c.args.from c.args.place)
    (quiet here.tenant (take_got here c.args.from c.args.place) c.args.self.now _ [] (returns-clause-does c)) order
