use Rattle.am_site.proofs.site.Site.put_to_others.Goals as goal

pub returns-clause-reacts : goal.returns-clause-reacts
returns-clause-reacts c = rw (c.as_slice.ensures.value, c.in_ok-others.ensures, c.in_ok-from_vec.ensures, c.in_ok-push.ensures.items, c.new-items.ensures.items) at c.send_all.ensures.reacts

pub returns-clause-fault : goal.returns-clause-fault
returns-clause-fault c = rw (c.as_slice.ensures.value, c.in_ok-others.ensures, c.in_ok-from_vec.ensures, c.in_ok-push.ensures.items, c.new-items.ensures.items) at c.send_all.ensures.fault
