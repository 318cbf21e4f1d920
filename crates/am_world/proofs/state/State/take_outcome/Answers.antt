use Rattle.std.proofs.Common.{◌≡◌, ◌∙◌, [], ap, refl, subst, sym}
use Rattle.std.proofs.lemmas.Result.{err_from_is_err_and}
use Rattle.am_cluster.proofs.Counted.{AreCounted, outcome_counted}
use Rattle.am_cluster.specs.Delivery.{outcome}
use Rattle.am_cluster.specs.Here.{Here}
use Rattle.am_cluster.specs.Local.{Local}
use Rattle.am_cluster.specs.Reactions.{Reaction}
use Rattle.am_instance.specs.Here.{Circumstances, circumstances}
use Rattle.am_instance.specs.Reacting.{Reacts}
use Rattle.am_world.specs.Consistent.{around, around_at}
use Rattle.am_world.specs.Places.{Turns}
use Rattle.am_world.proofs.AloneOwn.{SaysOwn, outcome_own}
use Rattle.am_world.proofs.FreshPast.{going_on, lost_none_reacts, past_reacts, reached_reacts}
use Rattle.am_world.proofs.Placed.{also_there, consistent_but, consistent_but_all, consistent_still}
use Rattle.am_world.proofs.Turned.{member_on, quiet_up, same_node, whole_at}
use Rattle.am_world.proofs.state.State.take_outcome.Goals as goal

pub take_outcome-requires : goal.take_outcome-requires
take_outcome-requires c x found =
    whole_at (around_at c.args.self.now.clock c.args.self.now) (circumstances c.occasion-occasion.result) x
    (ap (λ (a : Circumstances). a.rings) c.occasion-occasion.ensures)
    (ap (λ (a : Circumstances). a.first) c.occasion-occasion.ensures)
    (c.requires.consistent.whole c.args.instance x found)

pub returns-in_err-take_outcome-clause-but : goal.returns-in_err-take_outcome-clause-but
returns-in_err-take_outcome-clause-but c =
    let w = c.args.self.now in
    let i = c.args.instance in
    consistent_but i w _ c.requires.consistent c.take_outcome.ensures.at
    (record { clock = refl; common = refl }) c.requires.consistent.filed
    (λ x x' was is. same_node x x' (c.take_outcome.ensures.stays x x' was is).0.goes)
    (λ name. refl)

pub returns-in_err-send_out-clause-fails : goal.returns-in_err-send_out-clause-fails
returns-in_err-send_out-clause-fails c =
    let w = c.args.self.now in
    let i = c.args.instance in
    let number = c.args.attempt.now.number in
    let t = c.args.attempt.now.tenant in
    let told = c.take_outcome.new.outputs.items in
    let ys = c.take_outcome.new.self in
    let f : Here → Local → Reaction = λ here. outcome here number c.args.ended.tries c.args.ended.status in
    let goes = going_on i w.instances ys c.requires.consistent.numbered c.requires.exists
    (λ x x' was is. (c.take_outcome.ensures.stays x x' was is).0.goes) c.take_outcome.ensures.at in
    let around_it = circumstances c.occasion-occasion.result in
    let reacts : Turns i (λ x x'. Reacts around_it t f x x' [] told) w.instances ys =
    λ x x' was is. rw c.new-told.ensures.items at (c.in_ok-take_outcome.ensures.reacts x x' was is) in
    let counted : (here : Here) → AreCounted here (f here) =
    λ here. outcome_counted here number c.args.ended.tries c.args.ended.status in
    let own : (here : Here) → SaysOwn here (f here) =
    λ here. outcome_own here number c.args.ended.tries c.args.ended.status in
    let p =
    err_from_is_err_and c.from_residual-in_err-send_out.result c.from_residual-in_err-send_out.ensures.1 in
    rw p.1 (record {
      posted =
          lost_none_reacts i around_it t f told w.instances ys counted own goes reacts w.messages _
          c.requires.consistent.past c.requires.up c.in_err-send_out.ensures.lost;
      silent = c.in_err-send_out.ensures.silent;
      stays = λ y y' was is. same_node y y' (c.take_outcome.ensures.stays y y' was is).0.goes;
      others = c.take_outcome.ensures.at;
      beside = record { clock = refl; common = refl };
      faults = refl;
    })

pub returns-in_err-send_out-clause-but : goal.returns-in_err-send_out-clause-but
returns-in_err-send_out-clause-but c =
    let w = c.args.self.now in
    let i = c.args.instance in
    let number = c.args.attempt.now.number in
    let t = c.args.attempt.now.tenant in
    let told = c.take_outcome.new.outputs.items in
    let ys = c.take_outcome.new.self in
    let f : Here → Local → Reaction = λ here. outcome here number c.args.ended.tries c.args.ended.status in
    let goes = going_on i w.instances ys c.requires.consistent.numbered c.requires.exists
    (λ x x' was is. (c.take_outcome.ensures.stays x x' was is).0.goes) c.take_outcome.ensures.at in
    let around_it = circumstances c.occasion-occasion.result in
    let reacts : Turns i (λ x x'. Reacts around_it t f x x' [] told) w.instances ys =
    λ x x' was is. rw c.new-told.ensures.items at (c.in_ok-take_outcome.ensures.reacts x x' was is) in
    let counted : (here : Here) → AreCounted here (f here) =
    λ here. outcome_counted here number c.args.ended.tries c.args.ended.status in
    let own : (here : Here) → SaysOwn here (f here) =
    λ here. outcome_own here number c.args.ended.tries c.args.ended.status in
    consistent_but i w _ c.requires.consistent c.take_outcome.ensures.at
    (record { clock = refl; common = refl }) (c.send_out.ensures.filed c.requires.consistent.filed)
    (λ x x' was is. same_node x x' (c.take_outcome.ensures.stays x x' was is).0.goes)
    (lost_none_reacts i around_it t f told w.instances ys counted own goes reacts w.messages _
    c.requires.consistent.past c.requires.up c.in_err-send_out.ensures.lost)

pub returns-clause-does : goal.returns-clause-does
returns-clause-does c = record {
  told = c.take_outcome.new.outputs.items;
  turns = λ x x' was is.
      let same : circumstances c.occasion-occasion.result ≡ around_at c.args.moment c.args.self.now =
      c.occasion-occasion.ensures
      ∙ ap (around c.args.moment c.args.self.now.common) c.incarnations-incarnations.ensures in
      subst (λ a. Reacts a c.args.attempt.now.tenant
      (λ here. outcome here c.args.attempt.now.number c.args.ended.tries c.args.ended.status) x x' []
      c.take_outcome.new.outputs.items) same
      (rw c.new-told.ensures.items at (c.in_ok-take_outcome.ensures.reacts x x' was is));
  posts = c.in_ok-send_out.ensures.posts;
  appended = c.in_ok-send_out.ensures.appended;
  stays = λ x x' was is. same_node x x' (c.take_outcome.ensures.stays x x' was is).0.goes;
  others = c.take_outcome.ensures.at;
  beside = record { clock = refl; common = refl };
  faults = refl;
}

pub returns-clause-consistent : goal.returns-clause-consistent
returns-clause-consistent c =
    let w = c.args.self.now in
    let i = c.args.instance in
    let number = c.args.attempt.now.number in
    let t = c.args.attempt.now.tenant in
    let told = c.take_outcome.new.outputs.items in
    let ys = c.take_outcome.new.self in
    let f : Here → Local → Reaction = λ here. outcome here number c.args.ended.tries c.args.ended.status in
    let goes = going_on i w.instances ys c.requires.consistent.numbered c.requires.exists
    (λ x x' was is. (c.take_outcome.ensures.stays x x' was is).0.goes) c.take_outcome.ensures.at in
    let around_it = circumstances c.occasion-occasion.result in
    let reacts : Turns i (λ x x'. Reacts around_it t f x x' [] told) w.instances ys =
    λ x x' was is. rw c.new-told.ensures.items at (c.in_ok-take_outcome.ensures.reacts x x' was is) in
    let counted : (here : Here) → AreCounted here (f here) =
    λ here. outcome_counted here number c.args.ended.tries c.args.ended.status in
    let own : (here : Here) → SaysOwn here (f here) =
    λ here. outcome_own here number c.args.ended.tries c.args.ended.status in
    consistent_still i w _ c.requires.consistent c.take_outcome.ensures.at
    (record { clock = refl; common = refl }) (c.send_out.ensures.filed c.requires.consistent.filed)
    (λ x' is.
    whole_at around_it _ x'
    (sym (ap (λ (a : Circumstances). a.rings) c.occasion-occasion.ensures))
    (sym (ap (λ (a : Circumstances). a.first) c.occasion-occasion.ensures))
    (c.in_ok-take_outcome.ensures.whole x' is))
    (λ x' is.
    let x = also_there i ys w.instances c.take_outcome.ensures.at.numbered c.requires.consistent.numbered x' is in
    quiet_up x' ((c.take_outcome.ensures.stays x.0 x' x.1 is).0.goes.up ∙ c.requires.up x.0 x.1))
    (λ x x' was is. let on = (c.take_outcome.ensures.stays x x' was is).0.goes in member_on x x' on.up on.number)
    (past_reacts i around_it t f told w.instances ys counted own goes reacts w.messages _
    c.requires.consistent.past c.args.moment c.in_ok-send_out.ensures.posts)
    (reached_reacts i around_it t f told w.instances ys counted own goes reacts w.messages _
    c.requires.consistent.past c.requires.consistent.fresh c.args.moment c.in_ok-send_out.ensures.posts)

pub returns-clause-but : goal.returns-clause-but
returns-clause-but c = consistent_but_all c.args.instance _ (returns-clause-consistent c)
