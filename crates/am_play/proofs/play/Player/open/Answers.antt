use Rattle.am_play.proofs.play.Player.open.Goals as goal

pub returns-clause-taken : goal.returns-clause-taken
returns-clause-taken g c = rw c.instance_of.ensures at c.happen.ensures.taken

pub returns-clause-happens : goal.returns-clause-happens
returns-clause-happens g c = rw c.instance_of.ensures at c.happen.ensures.happens
