use Rattle.std.proofs.Common.{rules, ◌≡◌, ◌<◌, ◌||◌, nat_lt, [], List, length, arith, refl, ap, sym, subst, ◌∙◌}
use Rattle.std.proofs.lemmas.Bool.Decides.{nat_tests}
use Rattle.std.proofs.lemmas.Result.{err_from_is_err_and}
use Rattle.am_book.specs.Book.{items_of}
use Rattle.am_book.specs.Retired.{is_key_retired}
use Rattle.am_context.specs.Gone.{is_gone}
use Rattle.am_item.specs.Counts.{count_of}
use Rattle.am_rows.specs.Rows.{stored_in, without_silences}
use Rattle.am_rows.proofs.Dropping.{none_gone}
use Rattle.am_replica.specs.Holds.{holds_of}
use Rattle.am_replica.specs.Retiring.{items_left}
use Rattle.am_replica.proofs.Leaving.{all_gone, gone_more, none_leaves, still_left}
use Rattle.am_replica.proofs.Parts.{both}
use Rattle.am_replica.proofs.Rows.{any_left, goes_on, never_configuration, retires_more, stops_dropping}
use Rattle.am_replica.proofs.replica.Replica.retire.Goals as goal

pub loop-silences-init : goal.loop-silences-init
unfolding holds_of
loop-silences-init g c =
    let empty : c.new-silences.result.items ≡ [] = search rules in
    record {
      left = λ t. refl;
      gone = λ t key. ap (λ gone. is_gone t key gone || is_key_retired c.args.moment (items_of t c.args.self.now.holdings) key) c.new-gone.ensures.items;
      within = λ test t some. some;
      goes = λ t. ap (λ ss. without_silences ss t (stored_in (items_of t c.args.self.now.holdings))) empty ∙ none_gone t (stored_in (items_of t c.args.self.now.holdings));
      some = λ some. absurd (let none = subst (λ ss. 0 < length ss) empty some in omega (arith, none));
    }

pub loop-silences-preserved : goal.loop-silences-preserved
unfolding holds_of
loop-silences-preserved g c = record {
  left = λ t.
      both _ _ (count_of t c.loop-silences.self.counts) _
      (still_left c.args.moment _ _ (λ u. items_of u c.loop-silences.self.holdings) _ (rw c.in-Some.is at c.in_ok-first.ensures.retired) (rw c.in-Some.is at c.in_ok-first.ensures.others) t) refl
      ∙ c.loop-silences.invariant.left t;
  gone = λ t key.
      ap (λ gone. is_gone t key gone || is_key_retired c.args.moment (items_of t c.pop_retired.new.self) key) c.in_ok-push.ensures.items
      ∙ gone_more c.args.moment _ _ (λ u. items_of u c.loop-silences.self.holdings) _ (rw c.in-Some.is at c.in_ok-first.ensures.retired) (rw c.in-Some.is at c.in_ok-first.ensures.others) t key c.loop-silences.gone.items _ (c.loop-silences.invariant.gone t key);
  within = λ test t some.
      c.loop-silences.invariant.within test t
      (any_left test _ _ (items_of t c.loop-silences.self.holdings) _ ((rw c.in-Some.is at c.in_ok-first.ensures.others) t) some);
  goes = λ t.
      ap (λ ss. without_silences ss t (stored_in (items_of t c.args.self.now.holdings))) c.in_ok-note_silence.ensures
      ∙ goes_on _ _ c.loop-silences.silences.items t (stored_in (items_of t c.args.self.now.holdings)) (items_of t c.loop-silences.self.holdings) _
      (never_configuration c.args.moment _ _ (rw c.in-Some.is at c.in_ok-first.ensures.retired)) ((rw c.in-Some.is at c.in_ok-first.ensures.others) t) (c.loop-silences.invariant.goes t);
  some = λ some.
      retires_more c.args.moment _ _ c.loop-silences.silences.items _ (λ t. items_of t c.args.self.now.holdings) _ c.loop-silences.invariant.some
      (λ test. c.loop-silences.invariant.within test _) (rw c.in-Some.is at c.in_ok-first.ensures.retired) c.in_ok-note_silence.ensures some;
}

pub returns-clause-holds : goal.returns-clause-holds
unfolding holds_of
returns-clause-holds g c = λ t.
    let r = c.loop-silences.self in
    both _ (items_left c.args.moment (items_of t r.holdings)) _ (count_of t r.counts)
    ((rw c.in_default.is at c.in_ok-first.ensures.stays) t ∙ sym (none_leaves c.args.moment (items_of t r.holdings) ((rw c.in_default.is at c.in_ok-first.ensures.none) t))) refl
    ∙ c.loop-silences.invariant.left t

pub returns-clause-gone : goal.returns-clause-gone
unfolding holds_of
returns-clause-gone g c = λ t key.
    all_gone c.args.moment (items_of t c.loop-silences.self.holdings) key (is_gone t key c.loop-silences.gone.items) _ ((rw c.in_default.is at c.in_ok-first.ensures.none) t) (c.loop-silences.invariant.gone t key)

pub returns-clause-stores : goal.returns-clause-stores
unfolding holds_of
returns-clause-stores g c = λ clean stored t.
    (rw c.deref.ensures.value at (c.in_ok-drop_rows.ensures.dropped clean)) t ∙ ap (without_silences c.loop-silences.silences.items t) (stored t) ∙ c.loop-silences.invariant.goes t ∙ sym (ap stored_in ((rw c.in_default.is at c.in_ok-first.ensures.stays) t))

pub returns-in_err-drop_rows-clause-fault : goal.returns-in_err-drop_rows-clause-fault
unfolding holds_of
returns-in_err-drop_rows-clause-fault g c =
    let p = err_from_is_err_and c.from_residual-in_err-drop_rows.result c.from_residual-in_err-drop_rows.ensures.1 in
    rw (p.1, p.2)
    (stops_dropping c.args.moment (λ t. items_of t c.args.self.now.holdings) (nat_lt 0 (length c.loop-silences.silences.items)) _
    (λ some. c.loop-silences.invariant.some (grind (arith, nat_tests)))
    (rw c.deref.ensures.value at c.in_err-drop_rows.ensures.fault))
