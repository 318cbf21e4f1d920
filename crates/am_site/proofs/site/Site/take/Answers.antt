use Rattle.std.proofs.lemmas.Result.{on_ok_weaker}
use Rattle.am_site.proofs.Brought.{puts_bring, states_bring}
use Rattle.am_site.proofs.Came.{takes_put, takes_state}
use Rattle.am_site.proofs.site.Site.take.Goals as goal

pub returns-in-Put-clause-takes : goal.returns-in-Put-clause-takes
returns-in-Put-clause-takes g c =
    on_ok_weaker c.arrive_put.result
    (takes_put c.args.here.now c.args.cache.now.refused c.arrive_put.new.cache.refused c.args.message c.args.self.now c.arrive_put.new.self c.args.outbox.now.items c.arrive_put.new.outbox.items
    c.in-Put.operation c.in-Put.items c.in-Put.is)
    c.arrive_put.ensures.moves

pub returns-in-State-clause-takes : goal.returns-in-State-clause-takes
returns-in-State-clause-takes g c =
    on_ok_weaker c.arrive_state.result
    (takes_state c.args.here.now c.args.cache.now.refused c.arrive_state.new.cache.refused c.args.message c.args.self.now c.arrive_state.new.self c.args.outbox.now.items c.arrive_state.new.outbox.items
    c.in-State.incarnation c.in-State.place c.in-State.is_last c.in-State.items c.in-State.is)
    c.arrive_state.ensures.moves

pub returns-in-Put-clause-untouched : goal.returns-in-Put-clause-untouched
returns-in-Put-clause-untouched g c none = absurd (puts_bring c.args.message.body c.in-Put.operation c.in-Put.items c.in-Put.is none)

pub returns-in-State-clause-untouched : goal.returns-in-State-clause-untouched
returns-in-State-clause-untouched g c none =
    absurd (states_bring c.args.message.body c.in-State.incarnation c.in-State.place c.in-State.is_last c.in-State.items c.in-State.is none)
