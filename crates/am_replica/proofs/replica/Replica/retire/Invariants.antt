use Rattle.std.proofs.Common.{◌≡◌, ◌<◌, ◌||◌, ℕ, Bool, true, List, length}
use Rattle.std.specs.List.{list_any}
use Rattle.am_book.specs.Book.{items_of}
use Rattle.am_book.specs.Retired.{is_key_retired}
use Rattle.am_context.specs.Gone.{is_gone}
use Rattle.am_item.specs.Key.{Key}
use Rattle.am_item.specs.declared.fault.Fault.TheVariants.{StoreRefused}
use Rattle.am_item.specs.declared.item.Item.{Item}
use Rattle.am_rows.specs.Rows.{stored_in, without_silences}
use Rattle.am_replica.specs.Holds.{holds_of}
use Rattle.am_replica.specs.Retiring.{StopsRetiring, retired}
use Rattle.am_replica.proofs.replica.Replica.retire.Given as goal

abbrev pub invariant-loop-silences : goal.invariant-loop-silences
invariant-loop-silences g l = record {
  left : (t : List ℕ) → retired l.moment (holds_of t l.self) ≡ retired l.moment (holds_of t l.fn.self);
  gone : (t : List ℕ) (key : Key) → (is_gone t key l.gone.items || is_key_retired l.moment (items_of t l.self.holdings) key) ≡ is_key_retired l.moment (items_of t l.fn.self.holdings) key;
  within : (test : Item → Bool) (t : List ℕ) → list_any test (items_of t l.self.holdings) ≡ true → list_any test (items_of t l.fn.self.holdings) ≡ true;
  goes : (t : List ℕ) → without_silences l.silences.items t (stored_in (items_of t l.fn.self.holdings)) ≡ stored_in (items_of t l.self.holdings);
  some : 0 < length l.silences.items → StopsRetiring l.moment (λ t. items_of t l.fn.self.holdings) StoreRefused;
}

abbrev pub decreases-loop-silences : goal.decreases-loop-silences
decreases-loop-silences g l = length l.self.holdings
