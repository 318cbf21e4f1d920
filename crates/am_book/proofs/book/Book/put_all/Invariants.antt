use Rattle.std.proofs.Common.{ℕ, List, ◌≡◌, ◌≤◌, if◌then◌else◌, length}
use Rattle.std.specs.Vec.{vec_capacity, vec_len}
use Rattle.am_tenant.specs.Names.{same}
use Rattle.am_item.specs.Best.{all_joined}
use Rattle.am_book.specs.Book.{are_new, items_of}
use Rattle.am_book.proofs.book.Book.put_all.Given as goal

abbrev pub invariant-loop-item : goal.invariant-loop-item
invariant-loop-item l = record {
  joined : (t : List ℕ) → items_of t l.self ≡ (if same t l.fn.tenant then all_joined (items_of t l.fn.self) l.yielded else items_of t l.fn.self);
  new : l.answers.items ≡ are_new (items_of l.fn.tenant l.fn.self) l.yielded;
  counted : vec_len l.answers ≡ length l.yielded;
  room : length l.fn.items.items ≤ vec_capacity l.answers;
}
