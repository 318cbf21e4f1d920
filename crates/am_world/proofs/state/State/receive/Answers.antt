use Rattle.std.proofs.Common.{◌≡◌, ◌∙◌, [], None, ap, refl, subst, sym}
use Rattle.std.proofs.lemmas.Result.{err_from_is_err_and}
use Rattle.am_instance.proofs.Leaves.{left_ending, memory_unrefused}
use Rattle.am_instance.specs.Here.{Circumstances, circumstances}
use Rattle.am_instance.specs.Receiving.{Receives}
use Rattle.am_instance.specs.Shelves.{shelf_of}
use Rattle.am_world.specs.Consistent.{around, around_at}
use Rattle.am_world.specs.Places.{Turns}
use Rattle.am_world.proofs.FreshPast.{going_on, lost_none_receives, past_receives, reached_receives}
use Rattle.am_world.proofs.Placed.{also_there, consistent_but, consistent_but_all, consistent_still, left_of}
use Rattle.am_world.proofs.Turned.{member_on, quiet_up, same_node, whole_at}
use Rattle.am_world.proofs.state.State.receive.Goals as goal

pub receive-requires-clause-whole : goal.receive-requires-clause-whole
receive-requires-clause-whole g c x found =
    whole_at (around_at c.args.self.now.clock c.args.self.now) (circumstances c.occasion-occasion.result) x
    (ap (λ (a : Circumstances). a.rings) c.occasion-occasion.ensures)
    (ap (λ (a : Circumstances). a.first) c.occasion-occasion.ensures)
    (c.requires.consistent.whole c.args.receiver x found)

pub returns-in_err-receive-clause-consistent : goal.returns-in_err-receive-clause-consistent
returns-in_err-receive-clause-consistent g c =
    let w = c.args.self.now in
    let i = c.args.receiver in
    let p = err_from_is_err_and c.from_residual.result c.from_residual.ensures.1 in
    rw p.1 (
      tt,
      consistent_but i w _ c.requires.consistent c.receive.ensures.at
          (record { clock = refl; common = refl }) c.requires.consistent.filed
          (λ x x' was is. same_node x x' (c.receive.ensures.stays x x' was is).goes)
          (λ name. refl),
    )

pub returns-in_err-send_out-clause-fails : goal.returns-in_err-send_out-clause-fails
returns-in_err-send_out-clause-fails g c =
    let w = c.args.self.now in
    let i = c.args.receiver in
    let told = c.receive.new.outputs.items in
    let ys = c.receive.new.self in
    let goes = going_on i w.instances ys c.requires.consistent.numbered c.requires.exists
    (λ x x' was is. (c.receive.ensures.stays x x' was is).goes) c.receive.ensures.at in
    let around_it = circumstances c.occasion-occasion.result in
    let receives : Turns i (λ x x'. Receives around_it c.args.message x x' [] told) w.instances ys =
    λ x x' was is. rw c.new-told.ensures.items at (c.in_ok-receive.ensures.receives x x' was is) in
    let p =
    err_from_is_err_and c.from_residual-in_err-send_out.result c.from_residual-in_err-send_out.ensures.1 in
    rw p.1 (record {
      posted =
          lost_none_receives i around_it c.args.message told w.instances ys goes receives w.messages _
          c.requires.consistent.past c.requires.up c.in_err-send_out.ensures.lost;
      silent = c.in_err-send_out.ensures.silent;
      stays = λ y y' was is. same_node y y' (c.receive.ensures.stays y y' was is).goes;
      others = c.receive.ensures.at;
      beside = record { clock = refl; common = refl };
      faults = refl;
    })

pub returns-in_err-send_out-clause-consistent : goal.returns-in_err-send_out-clause-consistent
returns-in_err-send_out-clause-consistent g c =
    let w = c.args.self.now in
    let i = c.args.receiver in
    let told = c.receive.new.outputs.items in
    let ys = c.receive.new.self in
    let goes = going_on i w.instances ys c.requires.consistent.numbered c.requires.exists
    (λ x x' was is. (c.receive.ensures.stays x x' was is).goes) c.receive.ensures.at in
    let around_it = circumstances c.occasion-occasion.result in
    let receives : Turns i (λ x x'. Receives around_it c.args.message x x' [] told) w.instances ys =
    λ x x' was is. rw c.new-told.ensures.items at (c.in_ok-receive.ensures.receives x x' was is) in
    let p = err_from_is_err_and c.from_residual-in_err-send_out.result c.from_residual-in_err-send_out.ensures.1 in
    rw p.1 (
      tt,
      consistent_but i w _ c.requires.consistent c.receive.ensures.at
          (record { clock = refl; common = refl }) (c.send_out.ensures.filed c.requires.consistent.filed)
          (λ x x' was is. same_node x x' (c.receive.ensures.stays x x' was is).goes)
          (lost_none_receives i around_it c.args.message told w.instances ys goes receives w.messages _
          c.requires.consistent.past c.requires.up c.in_err-send_out.ensures.lost),
    )

pub returns-clause-does : goal.returns-clause-does
returns-clause-does g c = record {
  told = c.receive.new.outputs.items;
  turns = λ x x' was is.
      let same : circumstances c.occasion-occasion.result ≡ around_at c.args.moment c.args.self.now =
      c.occasion-occasion.ensures
      ∙ ap (around c.args.moment c.args.self.now.common) c.incarnations-incarnations.ensures in
      subst (λ a. Receives a c.args.message x x' [] c.receive.new.outputs.items) same
      (rw c.new-told.ensures.items at (c.in_ok-receive.ensures.receives x x' was is));
  posts = c.in_ok-send_out.ensures.posts;
  appended = c.in_ok-send_out.ensures.appended;
  stays = λ x x' was is. same_node x x' (c.receive.ensures.stays x x' was is).goes;
  others = c.receive.ensures.at;
  beside = record { clock = refl; common = refl };
  faults = refl;
}

pub returns-clause-consistent : goal.returns-clause-consistent
returns-clause-consistent g c =
    let w = c.args.self.now in
    let i = c.args.receiver in
    let told = c.receive.new.outputs.items in
    let ys = c.receive.new.self in
    let goes = going_on i w.instances ys c.requires.consistent.numbered c.requires.exists
    (λ x x' was is. (c.receive.ensures.stays x x' was is).goes) c.receive.ensures.at in
    let around_it = circumstances c.occasion-occasion.result in
    let receives : Turns i (λ x x'. Receives around_it c.args.message x x' [] told) w.instances ys =
    λ x x' was is. rw c.new-told.ensures.items at (c.in_ok-receive.ensures.receives x x' was is) in
    let kept = consistent_still i w _ c.requires.consistent c.receive.ensures.at
    (record { clock = refl; common = refl }) (c.send_out.ensures.filed c.requires.consistent.filed)
    (λ x' is.
    whole_at around_it _ x'
    (sym (ap (λ (a : Circumstances). a.rings) c.occasion-occasion.ensures))
    (sym (ap (λ (a : Circumstances). a.first) c.occasion-occasion.ensures))
    (c.in_ok-receive.ensures.whole x' is))
    (λ x' is.
    let x = also_there i ys w.instances c.receive.ensures.at.numbered c.requires.consistent.numbered x' is in
    quiet_up x' ((c.receive.ensures.stays x.0 x' x.1 is).goes.up ∙ c.requires.up x.0 x.1))
    (λ x x' was is. let on = (c.receive.ensures.stays x x' was is).goes in member_on x x' on.up on.number)
    (past_receives i around_it c.args.message told w.instances ys goes receives w.messages _
    c.requires.consistent.past c.args.moment c.in_ok-send_out.ensures.posts)
    (reached_receives i around_it c.args.message told w.instances ys goes receives w.messages _
    c.requires.consistent.past c.requires.consistent.fresh c.args.moment c.in_ok-send_out.ensures.posts) in
    (kept, consistent_but_all i _ kept)

pub returns-in_err-receive-clause-fails : goal.returns-in_err-receive-clause-fails
returns-in_err-receive-clause-fails g c =
    let p = err_from_is_err_and c.from_residual.result c.from_residual.ensures.1 in
    rw p.1 (record {
      posted = λ name. refl;
      silent = refl;
      stays = λ x x' was is. same_node x x' (c.receive.ensures.stays x x' was is).goes;
      others = c.receive.ensures.at;
      beside = record { clock = refl; common = refl };
      faults = refl;
    })

-- ---- what is left in the store

pub returns-clause-left : goal.returns-clause-left
returns-clause-left g c x found =
    let same : circumstances c.occasion-occasion.result ≡ around_at c.args.moment c.args.self.now =
    c.occasion-occasion.ensures
    ∙ ap (around c.args.moment c.args.self.now.common) c.incarnations-incarnations.ensures in
    left_of g.R.Rows.rejects c.args.self.now c.args.receiver _ _ x c.args.message _
    (shelf_of g.R.Rows c.args.store.now) (shelf_of g.R.Rows c.receive.new.store) same found
    (c.in_ok-receive.ensures.left x found)

pub returns-in_err-receive-clause-left : goal.returns-in_err-receive-clause-left
returns-in_err-receive-clause-left g c x found =
    let same : circumstances c.occasion-occasion.result ≡ around_at c.args.moment c.args.self.now =
    c.occasion-occasion.ensures
    ∙ ap (around c.args.moment c.args.self.now.common) c.incarnations-incarnations.ensures in
    let p = err_from_is_err_and c.from_residual.result c.from_residual.ensures.1 in
    rw (p.1, p.2) (left_of g.R.Rows.rejects c.args.self.now c.args.receiver _ _ x c.args.message _
    (shelf_of g.R.Rows c.args.store.now) (shelf_of g.R.Rows c.receive.new.store) same found
    (c.in_err-receive.ensures.left x found))

pub returns-in_err-send_out-clause-left : goal.returns-in_err-send_out-clause-left
returns-in_err-send_out-clause-left g c x found clean =
    let same : circumstances c.occasion-occasion.result ≡ around_at c.args.moment c.args.self.now =
    c.occasion-occasion.ensures
    ∙ ap (around c.args.moment c.args.self.now.common) c.incarnations-incarnations.ensures in
    let p =
    err_from_is_err_and c.from_residual-in_err-send_out.result c.from_residual-in_err-send_out.ensures.1 in
    rw (p.1, p.2) (left_ending _ _ _ None _ _ _
    (left_of g.R.Rows.rejects c.args.self.now c.args.receiver _ _ x c.args.message _
    (shelf_of g.R.Rows c.args.store.now) (shelf_of g.R.Rows c.receive.new.store) same found
    (c.in_ok-receive.ensures.left x found) clean) _ memory_unrefused)
