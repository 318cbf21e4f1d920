-- What taking out and putting in makes of the list of timers, and that the two maps go together afterwards.
use Rattle.std.proofs.Common.{◌≡◌, ℕ, Bool, Equal, true, false, ◌&&◌, ◌||◌, not, cond, List, Option, Some, None, refl, sym, ap, ◌∙◌, subst}
use Rattle.std.specs.BTreeSet.{insert_key}
use Rattle.std.specs.List.{filter}
use Rattle.std.specs.List.Sorted.{IsStrictlySortedBy}
use Rattle.std.specs.Option.{is_some}
use Rattle.std.specs.Ordering.{is_eq}
use Rattle.std.proofs.lemmas.Bool.{and_parts, false≢true}
use Rattle.std.proofs.lemmas.List.Kept.{IsStrictlySortedBy-filter}
use Rattle.std.proofs.lemmas.Map.Views.{any-filter_same}
use Rattle.am_labels.proofs.Ordered.{eq_from_elements, list_any-insert_key, sorted_inserted}
use Rattle.am_timer.specs.Timer.{Name, Timer, name_cmp, timer_cmp}
use Rattle.am_timer.specs.Queue.{is_named, with_timer, without}
use Rattle.am_timer.specs.Tied.{IsTied, due_in, has_timer, timer_at}
use Rattle.am_timer.proofs.Orders.{name_ties, names_exact, same_name, same_timer, timer_itself, timers_exact, timers_total}

-- lists in order that have the same timers are equal
pub same_timers : (xs ys : List Timer) → IsStrictlySortedBy timer_cmp xs → IsStrictlySortedBy timer_cmp ys → ((q : Timer) → has_timer xs q ≡ has_timer ys q) → xs ≡ ys
same_timers = eq_from_elements timer_cmp timers_total timers_exact

-- what a filter leaves
pub has-filter : (p : Timer → Bool) (xs : List Timer) (q : Timer) → has_timer (filter p xs) q ≡ (p q && has_timer xs q)
has-filter p xs q = any-filter_same (λ x. is_eq (timer_cmp q x)) p (p q) (λ x h. ap p (sym (same_timer q x h))) xs

-- one more
pub has-insert : (xs : List Timer) (x q : Timer) → has_timer (insert_key timer_cmp xs x) q ≡ (is_eq (timer_cmp q x) || has_timer xs q)
has-insert xs x q = list_any-insert_key timer_cmp timers_total timers_exact (λ y. is_eq (timer_cmp q y)) xs x

pub rising-filter : (p : Timer → Bool) (xs : List Timer) → IsStrictlySortedBy timer_cmp xs → IsStrictlySortedBy timer_cmp (filter p xs)
rising-filter = IsStrictlySortedBy-filter timer_cmp

pub rising-insert : (xs : List Timer) (x : Timer) → IsStrictlySortedBy timer_cmp xs → IsStrictlySortedBy timer_cmp (insert_key timer_cmp xs x)
rising-insert = sorted_inserted timer_cmp timers_total timers_exact

-- ---- taking out

-- where nothing is told of a name there is no timer of it
pub none_of_name : (xs : List Timer) (dues : List (Name × ℕ)) (name : Name) → IsTied xs dues → due_in dues name ≡ None → xs ≡ without name xs
none_of_name xs dues name tied none =
    same_timers xs (without name xs) tied.rising (rising-filter (λ x. not (is_named name x)) xs tied.rising)
    (λ q. sym (has-filter (λ x. not (is_named name x)) xs q ∙ stays q))
  where
    clash : (q : Timer) → is_named name q ≡ true → has_timer xs q ≡ true → false ≡ true
    clash q named here = ap is_some (sym none ∙ ap (due_in dues) (same_name name q.name named) ∙ tied.told q here)

    stays : (q : Timer) → (not (is_named name q) && has_timer xs q) ≡ has_timer xs q
    stays q = elim (is_named name q) as (λ b. is_named name q ≡ b → (not b && has_timer xs q) ≡ has_timer xs q) [
      | true ↦ λ named. elim (has_timer xs q) as (λ b. has_timer xs q ≡ b → false ≡ b) [ true ↦ λ here. clash q named here | false ↦ λ here. refl ] refl
      | false ↦ λ named. refl
    ] refl

-- what is left once the timer of a name went, whose due was told, is what is without the name
pub gone_of_name : (xs ys : List Timer) (dues : List (Name × ℕ)) (name own : Name) (due : ℕ) → IsTied xs dues → name_cmp name own ≡ Equal → due_in dues name ≡ Some due → IsStrictlySortedBy timer_cmp ys
    → ((q : Timer) → has_timer ys q ≡ cond (is_eq (timer_cmp (timer_at due own) q)) false (has_timer xs q)) → ys ≡ without name xs
gone_of_name xs ys dues name own due tied is told rising left =
    same_timers ys (without name xs) rising (rising-filter (λ x. not (is_named name x)) xs tied.rising)
    (λ q. left q ∙ agree q ∙ sym (has-filter (λ x. not (is_named name x)) xs q))
  where
    -- the timer that went is the one of the name
    is_it : (q : Timer) → has_timer xs q ≡ true → is_named name q ≡ true → is_eq (timer_cmp (timer_at due own) q) ≡ true
    is_it q here named =
        let same : name ≡ q.name = same_name name q.name named in
        let at : Some due ≡ Some q.due = sym told ∙ ap (due_in dues) same ∙ tied.told q here in
        let due_is : due ≡ q.due = cc in
        let own_is : own ≡ q.name = sym (names_exact name own is) ∙ same in
        ap (λ (d : ℕ). is_eq (timer_cmp (timer_at d own) q)) due_is ∙ ap (λ (n : Name). is_eq (timer_cmp (timer_at q.due n) q)) own_is ∙ timer_itself q

    -- no other has the name
    is_named_too : (q : Timer) → is_eq (timer_cmp (timer_at due own) q) ≡ true → is_named name q ≡ true
    is_named_too q same = ap (λ (n : Name). is_eq (name_cmp name n)) (sym (ap (λ (y : Timer). y.name) (same_timer (timer_at due own) q same))) ∙ ap is_eq is

    by_three : (a b h : Bool) → (a ≡ true → b ≡ true) → (h ≡ true → b ≡ true → a ≡ true) → cond a false h ≡ (not b && h)
    by_three true true h f g = refl
    by_three true false h f g = absurd (false≢true (f refl))
    by_three false true true f g = absurd (false≢true (g refl refl))
    by_three false true false f g = refl
    by_three false false h f g = refl

    agree : (q : Timer) → cond (is_eq (timer_cmp (timer_at due own) q)) false (has_timer xs q) ≡ (not (is_named name q) && has_timer xs q)
    agree q = by_three (is_eq (timer_cmp (timer_at due own) q)) (is_named name q) (has_timer xs q) (is_named_too q) (is_it q)

-- ---- the maps go together

-- a timer that is left once that of a name went was there, and has another name
left_over : (name : Name) (old : List Timer) (q : Timer) → has_timer (without name old) q ≡ true → (is_named name q ≡ false) × (has_timer old q ≡ true)
left_over name old q h =
    let parts = and_parts (not (is_named name q)) (has_timer old q) (sym (has-filter (λ x. not (is_named name x)) old q) ∙ h) in
    (turned (is_named name q) parts.0, parts.1)
  where
    turned : (b : Bool) → not b ≡ true → b ≡ false
    turned true h = sym h
    turned false h = refl

-- what is told of a name that nothing is told of any more is told of another, as before
told_of_other : (b : Bool) (was : Option ℕ) (due : ℕ) → cond b None was ≡ Some due → (b ≡ false) × (was ≡ Some due)
told_of_other true was due h = absurd (cc)
told_of_other false was due h = (refl, h)

-- the timer of a name went from both
pub tied_gone : (xs ys : List Timer) (dues after : List (Name × ℕ)) (name : Name) → ys ≡ without name xs → IsTied xs dues → ((n : Name) → due_in after n ≡ cond (is_eq (name_cmp name n)) None (due_in dues n)) → IsTied ys after
tied_gone xs ys dues after name is tied updates =
    subst (λ (zs : List Timer). IsTied zs after) (sym is) (record {
      rising = rising-filter (λ x. not (is_named name x)) xs tied.rising;
      told = λ q h.
          let parts = left_over name xs q h in
          updates q.name ∙ ap (λ b. cond b None (due_in dues q.name)) parts.0 ∙ tied.told q parts.1;
      there = λ n due h.
          let parts = told_of_other (is_eq (name_cmp name n)) (due_in dues n) due (sym (updates n) ∙ h) in
          has-filter (λ x. not (is_named name x)) xs (timer_at due n) ∙ ap (λ b. not b && has_timer xs (timer_at due n)) parts.0 ∙ tied.there n due parts.1;
    })

-- a timer came into both, where its name had none
pub tied_with : (xs old : List Timer) (dues after : List (Name × ℕ)) (x : Timer) → xs ≡ without x.name old → IsTied xs dues
    → ((n : Name) → due_in after n ≡ cond (is_eq (name_cmp x.name n)) (Some x.due) (due_in dues n)) → IsTied (insert_key timer_cmp xs x) after
tied_with xs old dues after x is tied updates = record {
  rising = rising-insert xs x tied.rising;
  told = λ q h. by_either q (is_eq (timer_cmp q x)) refl (sym (has-insert xs x q) ∙ h);
  there = λ n due h. has-insert xs x (timer_at due n) ∙ either_there n due (is_eq (name_cmp x.name n)) refl (sym (updates n) ∙ h);
}
  where
    by_either : (q : Timer) (b : Bool) → is_eq (timer_cmp q x) ≡ b → (b || has_timer xs q) ≡ true → due_in after q.name ≡ Some q.due
    by_either q true e h =
        let at : due_in after x.name ≡ Some x.due = updates x.name ∙ ap (λ o. cond (is_eq o) (Some x.due) (due_in dues x.name)) (name_ties x.name) in
        subst (λ (y : Timer). due_in after y.name ≡ Some y.due) (sym (same_timer q x e)) at
    by_either q false e h =
        let parts = left_over x.name old q (ap (λ ys. has_timer ys q) (sym is) ∙ h) in
        updates q.name ∙ ap (λ b. cond b (Some x.due) (due_in dues q.name)) parts.0 ∙ tied.told q h

    either_there : (n : Name) (due : ℕ) (b : Bool) → is_eq (name_cmp x.name n) ≡ b → cond b (Some x.due) (due_in dues n) ≡ Some due → (is_eq (timer_cmp (timer_at due n) x) || has_timer xs (timer_at due n)) ≡ true
    either_there n due true e h =
        let due_is : x.due ≡ due = cc in
        let it_is : is_eq (timer_cmp (timer_at due n) x) ≡ true =
        ap (λ (d : ℕ). is_eq (timer_cmp (timer_at d n) x)) (sym due_is) ∙ ap (λ (m : Name). is_eq (timer_cmp (timer_at x.due m) x)) (sym (same_name x.name n e)) ∙ timer_itself x in
        ap (λ b. b || has_timer xs (timer_at due n)) it_is
    either_there n due false e h = either (is_eq (timer_cmp (timer_at due n) x)) (tied.there n due h)
      where
        either : (b : Bool) → has_timer xs (timer_at due n) ≡ true → (b || has_timer xs (timer_at due n)) ≡ true
        either true t = refl
        either false t = t

-- what was told of a name that has no timer is told no more
pub tied_back : (xs old : List Timer) (dues told after : List (Name × ℕ)) (name : Name) (w : Option ℕ) → xs ≡ without name old → IsTied xs dues
    → ((n : Name) → due_in told n ≡ cond (is_eq (name_cmp name n)) w (due_in dues n)) → ((n : Name) → due_in after n ≡ cond (is_eq (name_cmp name n)) None (due_in told n)) → IsTied xs after
tied_back xs old dues told after name w is tied came went = record {
  rising = tied.rising;
  told = λ q h.
      let parts = left_over name old q (ap (λ ys. has_timer ys q) (sym is) ∙ h) in
      as_before q.name ∙ ap (λ b. cond b None (due_in dues q.name)) parts.0 ∙ tied.told q h;
  there = λ n due h. tied.there n due (told_of_other (is_eq (name_cmp name n)) (due_in dues n) due (sym (as_before n) ∙ h)).1;
}
  where
    twice : (b : Bool) (was : Option ℕ) → cond b None (cond b w was) ≡ cond b None was
    twice true was = refl
    twice false was = refl

    as_before : (n : Name) → due_in after n ≡ cond (is_eq (name_cmp name n)) None (due_in dues n)
    as_before n = went n ∙ ap (cond (is_eq (name_cmp name n)) None) (came n) ∙ twice (is_eq (name_cmp name n)) (due_in dues n)

-- a timer that is there is set already
pub set_already : (xs : List Timer) (dues : List (Name × ℕ)) (x : Timer) → IsTied xs dues → due_in dues x.name ≡ Some x.due → with_timer x xs ≡ xs
set_already xs dues x tied told =
    same_timers (with_timer x xs) xs (rising-insert (without x.name xs) x (rising-filter (λ y. not (is_named x.name y)) xs tied.rising)) tied.rising
    (λ q.
    has-insert (without x.name xs) x q ∙ ap (λ b. is_eq (timer_cmp q x) || b) (has-filter (λ y. not (is_named x.name y)) xs q)
    ∙ agree (is_eq (timer_cmp q x)) (is_named x.name q) (has_timer xs q) (here q) (is_it q))
  where
    here : (q : Timer) → is_eq (timer_cmp q x) ≡ true → has_timer xs q ≡ true
    here q same = ap (has_timer xs) (same_timer q x same) ∙ tied.there x.name x.due told

    -- no other has the name
    is_it : (q : Timer) → has_timer xs q ≡ true → is_named x.name q ≡ true → is_eq (timer_cmp q x) ≡ true
    is_it q there named =
        let same : x.name ≡ q.name = same_name x.name q.name named in
        let at : Some x.due ≡ Some q.due = sym told ∙ ap (due_in dues) same ∙ tied.told q there in
        let due_is : x.due ≡ q.due = cc in
        ap (λ (d : ℕ). is_eq (timer_cmp q (timer_at d x.name))) due_is ∙ ap (λ (n : Name). is_eq (timer_cmp q (timer_at q.due n))) same ∙ timer_itself q

    agree : (a n h : Bool) → (a ≡ true → h ≡ true) → (h ≡ true → n ≡ true → a ≡ true) → (a || (not n && h)) ≡ h
    agree true n true f g = refl
    agree true n false f g = absurd (false≢true (f refl))
    agree false true true f g = absurd (false≢true (g refl refl))
    agree false true false f g = refl
    agree false false h f g = refl
