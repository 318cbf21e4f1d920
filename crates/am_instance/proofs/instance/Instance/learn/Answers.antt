use Rattle.std.proofs.Common.{◌≡◌, ◌∙◌, ◌+◌, ◌-◌, ℕ, List, ap, arith, refl, sym}
use Rattle.std.proofs.lemmas.Result.{IfErr-weaker, on_ok_weaker}
use Rattle.am_ring.specs.Replicas.{replicas}
use Rattle.am_instance.specs.Here.{circumstances, three_on}
use Rattle.am_instance.specs.Instance.{local_in}
use Rattle.am_instance.specs.Shelves.{shelf_of}
use Rattle.am_instance.proofs.Learns.{learns_all, left_learned, may_turn, stops_learning}
use Rattle.am_instance.proofs.Rings.{ring_there}
use Rattle.am_instance.proofs.instance.Instance.learn.Goals as goal

pub turn_all-requires-clause-may : goal.turn_all-requires-clause-may
unfolding three_on
turn_all-requires-clause-may g c =
    may_turn (circumstances c.args.occasion.now) c.args.self.now _
    (λ t. ap (replicas t) (ring_there c.args.occasion.now.rings.now c.args.self.now.known c.index-occasion-self.result
    c.requires.whole.known c.index-occasion-self.is)) c.requires.next c.requires.whole

pub turn_all-requires-clause-backed : goal.turn_all-requires-clause-backed
unfolding local_in
turn_all-requires-clause-backed g c = record { opens = c.requires.backed.opens; stores = c.requires.backed.stores }

pub returns-clause-reacts : goal.returns-clause-reacts
unfolding three_on
returns-clause-reacts g c =
    on_ok_weaker c.turn_all.result
    (learns_all (circumstances c.args.occasion.now) c.args.self.now _
    (λ t. ap (replicas t) (ring_there c.args.occasion.now.rings.now c.args.self.now.known c.index-occasion-self.result
    c.requires.whole.known c.index-occasion-self.is)) _ _ _)
    c.turn_all.ensures.reacts

pub returns-clause-cause : goal.returns-clause-cause
unfolding three_on
returns-clause-cause g c =
    IfErr-weaker c.turn_all.result _ _
    (stops_learning (circumstances c.args.occasion.now) c.args.self.now _
    (λ t. ap (replicas t) (ring_there c.args.occasion.now.rings.now c.args.self.now.known c.index-occasion-self.result
    c.requires.whole.known c.index-occasion-self.is)) _)
    c.turn_all.ensures.cause

-- ---- its store

pub returns-clause-left : goal.returns-clause-left
unfolding three_on
returns-clause-left g c clean =
    left_learned (circumstances c.args.occasion.now) c.args.self.now _
    (λ t. ap (replicas t) (ring_there c.args.occasion.now.rings.now c.args.self.now.known c.index-occasion-self.result
    c.requires.whole.known c.index-occasion-self.is)) _ (shelf_of g.R.Rows c.args.store.now)
    (shelf_of g.R.Rows c.turn_all.new.store) (c.turn_all.ensures.left clean)
