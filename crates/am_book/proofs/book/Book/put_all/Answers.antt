use Rattle.std.proofs.Common.{ap, cond, length, sym, ◌+◌, ◌++◌, ◌∷◌, [], ◌≡◌, ◌∙◌}
use Rattle.std.proofs.lemmas.List.{length-append, map-id}
use Rattle.std.proofs.lemmas.Iterator.Adapters.{YieldsList-from_vec}
use Rattle.std.proofs.lemmas.Iterator.Consumers.{YieldsList-so_far, YieldsList-turn}
use Rattle.am_tenant.specs.Names.{same}
use Rattle.am_tenant.proofs.Same.{same-refl}
use Rattle.am_item.specs.Best.{all_joined}
use Rattle.am_item.proofs.Joining.{joined_step}
use Rattle.am_book.specs.Book.{are_new, is_new, items_of}
use Rattle.am_book.proofs.Lists.{at_error}
use Rattle.am_book.proofs.Newcomers.{new_more}
use Rattle.am_book.proofs.book.Book.put_all.Goals as goal

pub loop-item-preserved : goal.loop-item-preserved
loop-item-preserved c =
    let s = c.args.tenant.now in
    let ys = c.loop-item.yielded in
    let item = c.in-Some.item in
    let was = items_of s c.args.self.now in
    let held : items_of s c.loop-item.self ≡ all_joined was ys = c.loop-item.invariant.joined s ∙ ap (λ b. cond b (all_joined was ys) was) (same-refl s) in
    record {
      joined = λ t.
          joined_step (same t s) (items_of t c.args.self.now) (items_of t c.loop-item.self) _ ys item (c.loop-item.invariant.joined t) (c.in_ok-is_new.ensures.joined t);
      new =
          c.push_reserved.ensures.items ∙ ap (λ bs. bs ++ c.in_ok-is_new.is_new ∷ []) c.loop-item.invariant.new
          ∙ ap (λ b. are_new was ys ++ b ∷ []) (c.in_ok-is_new.ensures.new ∙ ap (λ xs. is_new xs item) held)
          ∙ new_more was ys item;
      counted = c.push_reserved.ensures.len ∙ ap (λ n. n + 1) c.loop-item.invariant.counted ∙ sym (length-append ys (item ∷ []));
      room = rw c.push_reserved.ensures.capacity c.loop-item.invariant.room;
    }

pub returns-in_err-is_new-clause-own : goal.returns-in_err-is_new-clause-own
returns-in_err-is_new-clause-own c =
    let t = c.args.tenant.now in
    let items = c.args.items.items in
    let ys = c.loop-item.yielded in
    let was = items_of t c.args.self.now in
    let gives = c.into_iter-item-iterator.ensures.into_iter_gives in
    let all = YieldsList-from_vec {s = c.into_iter-item-iterator.result} items gives.0 (gives.1 ∙ c.args.items.ok.0) in
    let turn =
    YieldsList-turn all ys c.loop-item.item-iterator c.loop-item.yielded_by c.next.result c.next.new.self c.in-Some.item c.in-Some.is c.next.ensures.steps in
    let some = sym (map-id ys) ∙ YieldsList-so_far all ys c.loop-item.item-iterator c.loop-item.yielded_by in
    at_error c.from_residual-in_err-is_new.result
    (record {
      count = length ys;
      fewer = turn.0;
      joined =
          c.in_err-is_new.ensures.err t ∙ c.loop-item.invariant.joined t ∙ ap (λ b. cond b (all_joined was ys) was) (same-refl t)
          ∙ ap (all_joined was) some;
    })
