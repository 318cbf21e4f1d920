use Rattle.std.proofs.Common.{◌≡◌, suc, ◌∷◌, ◌++◌, drop, refl, sym, subst, take}
use Rattle.std.proofs.Math.Seq.{split_at}
use Rattle.std.proofs.lemmas.List.{take_all, take_more}
use Rattle.am_world.specs.Posting.{SparesOthers}
use Rattle.am_world.proofs.PostingLemmas.{first_spared, posts_more, posts_same, posts_spare}
use Rattle.am_world.proofs.posting.post_each.Goals as goal

pub loop-output-init : goal.loop-output-init
loop-output-init c = record { posts = λ name. refl; filed = λ filed. filed }

pub loop-output-preserved : goal.loop-output-preserved
loop-output-preserved c =
    let i = c.loop-output.output-index in
    let x = c.output-item.result in
    rw (take_more c.args.told.now i x c.loop-output-test.true, ← c.output-item.is)
    (record {
      posts =
          posts_more c.args.moment (take i c.args.told.now) x c.args.messages.now c.loop-output.messages
          c.post_one.new.messages c.loop-output.invariant.posts c.in_ok-post_one.ensures.posted;
      filed = λ filed. c.post_one.ensures.filed (c.loop-output.invariant.filed filed);
    })

pub returns-clause-posts : goal.returns-clause-posts
returns-clause-posts c =
    rw (take_all c.loop-output.output-index c.args.told.now c.loop-output-test.false) at c.loop-output.invariant.posts

pub returns-clause-spared : goal.returns-clause-spared
returns-clause-spared c =
    posts_spare c.args.moment c.args.told.now c.args.messages.now c.loop-output.messages
    (rw (take_all c.loop-output.output-index c.args.told.now c.loop-output-test.false) at c.loop-output.invariant.posts)

pub returns-in_err-post_one-clause-spared : goal.returns-in_err-post_one-clause-spared
returns-in_err-post_one-clause-spared c =
    let i = c.loop-output.output-index in
    let xs = take i c.args.told.now in
    let x = c.output-item.result in
    let old = c.args.messages.now in
    let new = c.post_one.new.messages in
    let whole : c.args.told.now ≡ xs ++ x ∷ drop (suc i) c.args.told.now =
    rw (← c.output-item.is) at (split_at c.args.told.now i x c.loop-output-test.true) in
    let posts =
    posts_same c.args.moment xs old c.loop-output.messages new c.loop-output.invariant.posts
    c.in_err-post_one.ensures.err in
    subst (λ told. SparesOthers told old new) (sym whole)
    (first_spared xs (x ∷ drop (suc i) c.args.told.now) old new (posts_spare c.args.moment xs old new posts))
